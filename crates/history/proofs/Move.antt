-- A producer goes on to another row: of its clauses it keeps those that the new row asks for.
use Prim.Native.Nat.{ℕ}
use mathlib.Core.Path.{◌≡◌}
use mathlib.Core.Bool.{Bool, true, false, ◌&&◌}
use mathlib.Core.List.{List}
use lib.Dec.{T}
use Rattle.counts.specs.declared.commit.Commit.{Commit}
use Rattle.steps.specs.declared.producer.Producer.{Producer}
use Rattle.steps.specs.Step.{row_of}
use Rattle.history.specs.Log.{Piece, Work}
use Rattle.history.proofs.Invariant.{Says, says, says_of, job_at, Raising, Setting, PInv}
use Rattle.history.proofs.View.{Mark}

abbrev imp : Bool → Bool → Bool
imp true b = b
imp false b = true

use_imp : (a b : Bool) → T (imp a b) → T a → T b
use_imp true b t u = t
use_imp false b t u = absurd u

both : (a b : Bool) → T (a && b) → T a × T b
both true b t = (tt, t)
both false b t = absurd t

-- y asks for nothing that x does not have, but for what is new
unfoldable pub calm : Says → Says → Bool
calm y x =
    imp y.busy x.busy
    && (imp y.looked x.looked
    && (imp y.judged x.judged
    && (imp y.padded x.padded
    && (imp y.headed x.headed && (imp y.slotted x.slotted && (imp y.first x.first && imp y.shut x.shut))))))

-- each part of it
record Calm (y x : Says) : Type 0 where
  pub busy : T y.busy → T x.busy
  pub looked : T y.looked → T x.looked
  pub judged : T y.judged → T x.judged
  pub padded : T y.padded → T x.padded
  pub headed : T y.headed → T x.headed
  pub slotted : T y.slotted → T x.slotted
  pub first : T y.first → T x.first
  pub shut : T y.shut → T x.shut

is_calm : (y x : Says) → T (calm y x) → Calm y x
unfolding calm
is_calm y x t =
    let t1 = both (imp y.busy x.busy) _ t in
    let t2 = both (imp y.looked x.looked) _ t1.1 in
    let t3 = both (imp y.judged x.judged) _ t2.1 in
    let t4 = both (imp y.padded x.padded) _ t3.1 in
    let t5 = both (imp y.headed x.headed) _ t4.1 in
    let t6 = both (imp y.slotted x.slotted) _ t5.1 in
    let t7 = both (imp y.first x.first) (imp y.shut x.shut) t6.1 in
    record {
      busy = use_imp y.busy x.busy t1.0;
      looked = use_imp y.looked x.looked t2.0;
      judged = use_imp y.judged x.judged t3.0;
      padded = use_imp y.padded x.padded t4.0;
      headed = use_imp y.headed x.headed t5.0;
      slotted = use_imp y.slotted x.slotted t6.0;
      first = use_imp y.first x.first t7.0;
      shut = use_imp y.shut x.shut t7.1;
    }

-- another phase, v and s; and the true v and s
abbrev pub moved : (phase : ℕ) (v s : Commit) → Producer → Producer
moved ph v s q = record { phase = ph; z = q.z; w = q.w; full = q.full; done = q.done; v = v; s = s }

abbrev pub marked : (v s : ℕ) → Mark → Mark
marked v s t = record { saw = t.saw; v = v; s = s; bytes = t.bytes }

pub move : (S N p : ℕ) (q : Producer) (k : Work) (t : Mark) (W lo : ℕ) (C Q : List ℕ) (l : List Piece) (ph : ℕ) (v s : Commit) (X Y : ℕ) →
    T (calm (says (row_of ph)) (says_of q)) →
    (T (says (row_of ph)).raising → Raising S N (moved ph v s q) k (marked X Y t) (job_at S N (moved ph v s q) t) C) →
    (T (says (row_of ph)).setting → Setting (moved ph v s q) (marked X Y t) (job_at S N (moved ph v s q) t) Q) →
    (T (says (row_of ph)).whole → q.done ≡ q.z) →
    PInv S N p q k t W lo C Q l → PInv S N p (moved ph v s q) k (marked X Y t) W lo C Q l
move S N p q k t W lo C Q l ph v s X Y u a b c I =
    let K : Calm (says (row_of ph)) (says_of q) = is_calm _ _ u in
    record {
      sized = λ x ev. let h = I.sized (K.busy x) ev in record { fits = h.fits; long = h.long };
      begun = λ x. I.begun (K.busy x);
      looks = λ x. let h = I.looks (K.looked x) in record { w_is = h.w_is; after = h.after; before = h.before };
      roomy = λ x. I.roomy (K.judged x);
      shuts = λ x. let h = I.shuts (K.shut x) in record { past = h.past; closes = h.closes };
      pads = λ x. let h = I.pads (K.padded x) in record { inlog = h.inlog; entry = h.entry };
      heads = λ x ev. let h = I.heads (K.headed x) ev in record { enters = h.enters; inlog = h.inlog; entry = h.entry };
      slots = λ x ev. let h = I.slots (K.slotted x) ev in record { inlog = h.inlog; entry = h.entry; part = h.part };
      raises = a;
      sets = b;
      none = λ x. I.none (K.first x);
      all = c;
    }
