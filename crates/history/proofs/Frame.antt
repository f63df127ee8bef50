-- What a step leaves alone.
use Prim.Native.Nat.{ℕ, ◌%◌, ◌≤◌, ◌<◌}
use mathlib.Core.Path.{◌≡◌, refl, sym, ap, subst, ◌∙◌}
use mathlib.Core.Logic.{◌≢◌}
use mathlib.Core.Bool.{Bool, true, false}
use mathlib.Core.List.{List, ◌++◌}
use native.Mathlib.Nat.{le_refl, le_trans}
use native.Mathlib.Decide.{dec_lt}
use native.Mathlib.Omega.{arith}
use lib.Dec.{T}
use lib.ListN.{length, get_or, set, length-append, length-set, get_or-append}
use lib.Seq.{get_or-set_same, get_or-set_other, set_out}
use Rattle.counts.specs.declared.commit.Commit.{Commit}
use Rattle.counts.specs.Commit.{commit}
use Rattle.counts.specs.Wrap.{word}
use Rattle.steps.specs.declared.producer.Producer.{Producer}
use Rattle.steps.specs.Producer.{nobody}
use Rattle.steps.specs.Step.{idle, row_of}
use Rattle.history.specs.Log.{Piece, Work, no_piece, no_work}
use Rattle.history.proofs.Sums.{each_of}
use Rattle.history.proofs.View.{Mark, no_mark}
use Rattle.history.proofs.Coords.{part_in, is_entering}
use Rattle.history.proofs.Invariant.{Says, bits, says, says_of, Event, fit_in, May, Sized, Looked, Remains, Lens, PInv}

-- ---- the open pieces of producer p

-- the piece at j, if it is open and p's, is still there
abbrev pub KeepsAt : (p : ℕ) (l k : List Piece) (j : ℕ) → Type 0
KeepsAt p l k j = j < length l → (get_or l j no_piece).producer ≡ p → (get_or l j no_piece).committed ≡ false → (j < length k) × (get_or k j no_piece ≡ get_or l j no_piece)

pub keeps_same : (p : ℕ) (l : List Piece) (j : ℕ) → KeepsAt p l l j
keeps_same p l j h w d = (h, refl)

pub keeps_append : (p : ℕ) (l k : List Piece) (j : ℕ) → KeepsAt p l (l ++ k) j
keeps_append p l k j h w d = (omega (arith, length-append l k), get_or-append l k no_piece j h)

pub keeps_other : (p : ℕ) (l : List Piece) (i : ℕ) (x : Piece) (j : ℕ) → j ≢ i → KeepsAt p l (set l i x) j
keeps_other p l i x j ne h u d = (rw length-set h, get_or-set_other l i j x no_piece ne)

-- another producer's piece was exchanged
pub keeps_not_mine : (p q : ℕ) (l : List Piece) (i : ℕ) (x : Piece) → q ≢ p → (get_or l i no_piece).producer ≡ p → (j : ℕ) → KeepsAt q l (set l i x) j
keeps_not_mine p q l i x ne w j h u d =
    (rw length-set h, get_or-set_other l i j x no_piece (λ e. ne (sym u ∙ ap (λ y. (get_or l y no_piece).producer) e ∙ w)))

-- the places of what a producer holds
pub data Mine (q : Producer) (k : Work) (j : ℕ) : Type 0 where
  my_pad : T (says_of q).padded → j ≡ k.padding → Mine q k j
  my_head : T (says_of q).headed → Event q → j ≡ k.heading → Mine q k j
  my_slot : T (says_of q).slotted → Event q → j ≡ k.slot → Mine q k j

-- ---- the clauses of a producer that did not step

pub frame : (S N p : ℕ) (q : Producer) (k : Work) (t : Mark) (W lo W' lo' : ℕ) (C Q C' Q' : List ℕ) (l l' : List Piece) →
    W ≤ W' → lo ≤ lo' → ((i : ℕ) → get_or C i 0 ≤ get_or C' i 0) → ((i : ℕ) → get_or Q i 0 ≤ get_or Q' i 0) → ((j : ℕ) → Mine q k j → KeepsAt p l l' j) →
    PInv S N p q k t W lo C Q l → PInv S N p q k t W' lo' C' Q' l'
frame S N p q k t W lo W' lo' C Q C' Q' l l' a b c d e I =
    record {
      sized = I.sized;
      begun = λ u. omega (arith, I.begun u);
      looks = λ u. record { w_is = (I.looks u).w_is; after = (I.looks u).after; before = omega (arith, (I.looks u).before) };
      roomy = λ u ev f x. omega (arith, I.roomy u ev f x);
      shuts = I.shuts;
      pads = λ u.
          let h = I.pads u in
          let n = e k.padding (my_pad u refl) h.inlog (ap (λ x. x.producer) h.entry) (ap (λ x. x.committed) h.entry) in
          record { inlog = n.0; entry = n.1 ∙ h.entry };
      heads = λ u ev.
          let h = I.heads u ev in
          let n = e k.heading (my_head u ev refl) h.inlog (ap (λ x. x.producer) h.entry) (ap (λ x. x.committed) h.entry) in
          record { enters = h.enters; inlog = n.0; entry = rw n.1 h.entry };
      slots = λ u ev.
          let h = I.slots u ev in
          let n = e k.slot (my_slot u ev refl) h.inlog (ap (λ x. x.producer) h.entry) (ap (λ x. x.committed) h.entry) in
          record { inlog = n.0; entry = n.1 ∙ h.entry; part = h.part };
      raises = λ u. let h = I.raises u in record { v_is = h.v_is; v_le = le_trans h.v_le (c _); v_low = h.v_low };
      sets = λ u. let h = I.sets u in record { s_is = h.s_is; s_le = le_trans h.s_le (d _); s_lt = h.s_lt; s_near = h.s_near };
      none = I.none;
      all = I.all;
    }

-- ---- every producer, after a step of p

module _ (P : ℕ) (producer : List Producer) (works : List Work) (marks : List Mark) (p : ℕ) (Z : ℕ → Producer → Work → Mark → Type 0)
    (a : p < length producer) where
  -- its record, its work and its mark are exchanged
  pub each_three : (q : Producer) (k : Work) (t : Mark) → p < length works → p < length marks → Z p q k t →
      ((o : ℕ) → o < P → o ≢ p → Z o (get_or producer o nobody) (get_or works o no_work) (get_or marks o no_mark)) →
      (o : ℕ) → o < P → Z o (get_or (set producer p q) o nobody) (get_or (set works p k) o no_work) (get_or (set marks p t) o no_mark)
  each_three q k t b c own other =
      each_of p (λ o. o < P → Z o (get_or (set producer p q) o nobody) (get_or (set works p k) o no_work) (get_or (set marks p t) o no_mark))
      (λ h. rw (get_or-set_same producer p q nobody a, get_or-set_same works p k no_work b, get_or-set_same marks p t no_mark c) own)
      (λ o ne h. rw (get_or-set_other producer p o q nobody ne, get_or-set_other works p o k no_work ne, get_or-set_other marks p o t no_mark ne) (other o h ne))

  -- its record
  pub each_one : (q : Producer) → Z p q (get_or works p no_work) (get_or marks p no_mark) →
      ((o : ℕ) → o < P → o ≢ p → Z o (get_or producer o nobody) (get_or works o no_work) (get_or marks o no_mark)) →
      (o : ℕ) → o < P → Z o (get_or (set producer p q) o nobody) (get_or works o no_work) (get_or marks o no_mark)
  each_one q own other =
      each_of p (λ o. o < P → Z o (get_or (set producer p q) o nobody) (get_or works o no_work) (get_or marks o no_mark))
      (λ h. rw (get_or-set_same producer p q nobody a) own)
      (λ o ne h. rw (get_or-set_other producer p o q nobody ne) (other o h ne))

-- ---- no list changes its length

module _ {producers : List Producer} {ks : List Work} {ts : List Mark} {commits seqs : List Commit} {Cs Qs : List ℕ}
    (L : Lens producers ks ts commits seqs Cs Qs) where
  pub set_record : (p : ℕ) (q : Producer) → Lens (set producers p q) ks ts commits seqs Cs Qs
  set_record p q = record { producer = rw length-set L.producer; works = L.works; marks = L.marks; commit = L.commit; seq = L.seq; C = L.C; Q = L.Q }

  pub set_work : (p : ℕ) (k : Work) → Lens producers (set ks p k) ts commits seqs Cs Qs
  set_work p k = record { producer = L.producer; works = rw length-set L.works; marks = L.marks; commit = L.commit; seq = L.seq; C = L.C; Q = L.Q }

  pub set_mark : (p : ℕ) (t : Mark) → Lens producers ks (set ts p t) commits seqs Cs Qs
  set_mark p t = record { producer = L.producer; works = L.works; marks = rw length-set L.marks; commit = L.commit; seq = L.seq; C = L.C; Q = L.Q }

  pub set_count : (i : ℕ) (x : Commit) (X : ℕ) → Lens producers ks ts (set commits i x) seqs (set Cs i X) Qs
  set_count i x X =
      record { producer = L.producer; works = L.works; marks = L.marks; commit = rw length-set L.commit; seq = L.seq; C = rw length-set L.C; Q = L.Q }

  pub set_seq : (i : ℕ) (x : Commit) (X : ℕ) → Lens producers ks ts commits (set seqs i x) Cs (set Qs i X)
  set_seq i x X =
      record { producer = L.producer; works = L.works; marks = L.marks; commit = L.commit; seq = rw length-set L.seq; C = L.C; Q = rw length-set L.Q }

-- ---- a producer that holds nothing reserved, and raises no seq

abbrev bare : (busy looked judged first : Bool) → Says
bare b l j f = bits b l j false false false false false f false false

-- what is left to say of it
pub bare_keeps : (S N p : ℕ) (q : Producer) (k : Work) (t : Mark) (W lo : ℕ) (C Q : List ℕ) (pieces : List Piece) (b l j f : Bool) → says_of q ≡ bare b l j f →
    (T b → (Event q → Sized S q t) × (k.began ≤ W)) → (T l → Looked q k t W) →
    (T j → Event q → q.full ≡ false → is_entering (fit_in S q t) ≡ true → May N lo (part_in (fit_in S q t) S t.saw)) →
    (T f → q.done ≡ 0) → PInv S N p q k t W lo C Q pieces
bare_keeps S N p q k t W lo C Q pieces b l j f e busy looks roomy none =
    record {
      sized = λ u. (busy (is (λ x. x.busy) u)).0;
      begun = λ u. (busy (is (λ x. x.busy) u)).1;
      looks = λ u. looks (is (λ x. x.looked) u);
      roomy = λ u. roomy (is (λ x. x.judged) u);
      shuts = λ u. absurd (is (λ x. x.shut) u);
      pads = λ u. absurd (is (λ x. x.padded) u);
      heads = λ u. absurd (is (λ x. x.headed) u);
      slots = λ u. absurd (is (λ x. x.slotted) u);
      raises = λ u. absurd (is (λ x. x.raising) u);
      sets = λ u. absurd (is (λ x. x.setting) u);
      none = λ u. none (is (λ x. x.first) u);
      all = λ u. absurd (is (λ x. x.whole) u);
    }
  where
    is : (bit : Says → Bool) → T (bit (says_of q)) → T (bit (bare b l j f))
    is bit u = subst (λ x. T (bit x)) e u

-- .. and of an idle one nothing
pub idle_keeps : (S N p : ℕ) (q : Producer) (k : Work) (t : Mark) (W lo : ℕ) (C Q : List ℕ) (pieces : List Piece) → row_of q.phase ≡ idle →
    PInv S N p q k t W lo C Q pieces
unfolding says
idle_keeps S N p q k t W lo C Q pieces e =
    bare_keeps S N p q k t W lo C Q pieces false false false false (ap says e) (λ u. absurd u) (λ u. absurd u) (λ u. absurd u) (λ u. absurd u)

-- ---- a list of counts in which one was raised

pub raised : (l : List ℕ) (i v : ℕ) → get_or l i 0 ≤ v → (j : ℕ) → get_or l j 0 ≤ get_or (set l i v) j 0
raised l i v h = each_of i (λ j. get_or l j 0 ≤ get_or (set l i v) j 0) (go (dec_lt i (length l))) (λ j ne. rw (get_or-set_other l i j v 0 ne) (le_refl _))
  where
    go : Dec (i < length l) → get_or l i 0 ≤ get_or (set l i v) i 0
    go (yes k) = rw (get_or-set_same l i v 0 k) h
    go (no k) = rw (set_out l i v (omega arith)) (le_refl _)

-- one count and its remainder are changed together
pub remains_set : (l : List Commit) (L : List ℕ) (i : ℕ) (x : Commit) (X : ℕ) → length l ≡ length L → x.0 ≡ X % word → Remains l L → Remains (set l i x) (set L i X)
remains_set l L i x X len e h =
    each_of i (λ j. (get_or (set l i x) j (commit 0)).0 ≡ get_or (set L i X) j 0 % word) (go (dec_lt i (length l)))
    (λ j ne. rw (get_or-set_other l i j x (commit 0) ne, get_or-set_other L i j X 0 ne) (h j))
  where
    go : Dec (i < length l) → (get_or (set l i x) i (commit 0)).0 ≡ get_or (set L i X) i 0 % word
    go (yes k) = rw (get_or-set_same l i x (commit 0) k, get_or-set_same L i X 0 (omega arith)) e
    go (no k) = rw (set_out l i x (omega arith), set_out L i X (omega arith)) (h i)
