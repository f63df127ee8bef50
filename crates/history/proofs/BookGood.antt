-- Positions and book together: a step keeps both.
use Prim.Native.Nat.{ℕ, ◌+◌, ◌/◌, ◌<◌}
use mathlib.Core.Path.{◌≡◌, sym, ap, subst, ◌∙◌}
use mathlib.Core.Logic.{◌≢◌}
use mathlib.Core.Bool.{true}
use mathlib.Core.List.{List}
use native.Mathlib.Omega.{arith}
use lib.Dec.{T}
use lib.ListN.{length}
use lib.Seq.{set-get_or, get_or-set_same}
use Rattle.steps.specs.declared.producer.Producer.{Producer}
use Rattle.steps.specs.Fits.{fits_of}
use Rattle.steps.specs.Producer.{nobody}
use Rattle.steps.specs.Step.{swapping, row_of}
use Rattle.ring.specs.declared.state.Ring.{Ring}
use Rattle.ring.specs.Calls.{stepped as afterStep}
use Rattle.ring.specs.State.{at}
use Rattle.history.specs.Log.{Work, Log, slot_piece, work_at, event_at, bytes_of}
use Rattle.history.specs.History.{note_row}
use Rattle.history.specs.Premise.{half}
use Rattle.history.proofs.Book.{Book}
use Rattle.history.proofs.BookRows.{step_book}
use Rattle.history.proofs.Coords.{part_in, off_in}
use Rattle.history.proofs.Invariant.{says_of, fit_in, SlotHeld, PInv, Core}
use Rattle.history.proofs.Jobs.{one_keeps}
use Rattle.history.proofs.Good.{Good}
use Rattle.history.proofs.Rows.{step_good}
use Rattle.history.proofs.View.{Mark, Truth, View, view_of, mark, no_mark, with_mark}

-- ---- the true bytes of a producer's record are those of its event

module _ (r : Ring) (l : Log) (t : Truth) (p : ℕ) (lt : p < r.producers) (I : Core (view_of r l t)) (B : Book r l) where
  abbrev pub q : Producer
  q = at r p

  abbrev pub k : Work
  k = work_at l p

  abbrev pub old : Mark
  old = mark (view_of r l t) p

  abbrev pub bytes : List ℕ
  bytes = bytes_of (event_at l k.event)

  abbrev pub told : Truth
  told = with_mark p (record { saw = old.saw; v = old.v; s = old.s; bytes = bytes }) t

  mine : PInv r.size r.parts p q k old l.write t.lo t.C t.Q l.pieces
  mine = I.prod p lt

  -- those of its slot
  held : SlotHeld r.size p q k old l.pieces → old.bytes ≡ bytes
  held H =
      let S = B.entries.slots k.slot H.inlog (ap (λ x. x.whose) H.entry) in
      sym (ap (λ x. x.bytes) H.entry) ∙ S.bytes ∙ ap (λ i. bytes_of (event_at l i)) (ap (λ x. x.event) H.entry)

  own : PInv r.size r.parts p q k (record { saw = old.saw; v = old.v; s = old.s; bytes = bytes }) l.write t.lo t.C t.Q l.pieces
  own =
      record {
        sized = λ u ev. record { fits = (mine.sized u ev).fits; long = (B.entries.begun p lt ev u).long };
        begun = mine.begun;
        looks = λ u. let L = mine.looks u in record { w_is = L.w_is; after = L.after; before = L.before };
        roomy = mine.roomy;
        shuts = λ u. let H = mine.shuts u in record { past = H.past; closes = H.closes };
        pads = λ u. let H = mine.pads u in record { inlog = H.inlog; entry = H.entry };
        heads = λ u ev. let H = mine.heads u ev in record { enters = H.enters; inlog = H.inlog; entry = H.entry };
        slots = λ u ev.
            let H = mine.slots u ev in
            record { inlog = H.inlog; entry = H.entry ∙ ap (slot_piece p (part_in (fit_in r.size q old) r.size old.saw) (off_in (fit_in r.size q old) r.size old.saw) k.event) (held H); part = H.part };
        raises = λ u. let H = mine.raises u in record { v_is = H.v_is; v_le = H.v_le; v_low = H.v_low };
        sets = λ u. let H = mine.sets u in record { s_is = H.s_is; s_le = H.s_le; s_lt = H.s_lt; s_near = H.s_near };
        none = mine.none;
        all = mine.all;
      }

  long : p < length t.marks
  long = omega (arith, I.lens.marks, I.shape.producers_high)

  pub true_core : Core (view_of r l told)
  true_core =
      subst (λ qs. Core (stepped_to qs)) (set-get_or r.producer p nobody)
      (one_keeps (view_of r l t) p q (record { saw = old.saw; v = old.v; s = old.s; bytes = bytes }) lt I own)
    where
      stepped_to : List Producer → View
      stepped_to qs =
          record { S = r.size; N = r.parts; P = r.producers; write = r.write.0; read = r.read.0; commit = r.commit; seq = r.seq; producer = qs; hold = r.holding; start = l.start; W = l.write; rk = l.start / r.size + l.back; pieces = l.pieces; works = l.works; truth = told }

  pub true_bytes : bytes ≡ (mark (view_of r l told) p).bytes
  true_bytes = ap (λ x. x.bytes) (sym (get_or-set_same t.marks p _ no_mark long))

-- ---- a step

-- positions and book
pub record Whole (r : Ring) (l : Log) : Type 0 where
  pub good : Good r l
  pub book : Book r l

pub step_whole : (r : Ring) (l : Log) (p : ℕ) → p < r.producers → fits_of (at r p) r.size ≡ true →
    ((o : ℕ) → o < r.producers → T (says_of (at r o)).busy → l.write < (work_at l o).began + half) →
    ((o : ℕ) → o < r.producers → o ≢ p → row_of (at r o).phase ≡ swapping → (note_row (row_of (at r p).phase) r p l).write < (work_at l o).began + half) →
    Whole r l → Whole (afterStep r p) (note_row (row_of (at r p).phase) r p l)
step_whole r l p lt fits soon near W =
    let t = W.good.truth in
    let I = W.good.core in
    let G = step_good r l (told r l t p lt I W.book) p lt fits soon (true_core r l t p lt I W.book) W.good.keep (λ ev. true_bytes r l t p lt I W.book) in
    record { good = G; book = step_book (record { truth = t; core = I; keep = W.good.keep; book = W.book; lt = lt; fits = fits }) (G.core.rem.write, near) }
