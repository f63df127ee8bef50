-- The adds: what is committed stands whole.
use Prim.Native.Nat.{ℕ, ◌≤◌, ◌<◌}
use mathlib.Core.Path.{◌≡◌, refl, sym, ap, subst, ◌∙◌}
use mathlib.Core.Logic.{◌≢◌}
use mathlib.Core.List.{List}
use native.Mathlib.Omega.{arith}
use lib.Dec.{T}
use lib.ListN.{set}
use lib.Seq.{get_or-set_other}
use Rattle.layout.specs.Sizes.{header}
use Rattle.steps.specs.Producer.{to_phase}
use Rattle.steps.specs.Step.{Whose, padding, heading, slot, add, committing, row_of}
use Rattle.history.specs.Log.{Piece, no_piece, done}
use Rattle.history.proofs.Bytes.{Last, PBytes, Bytes}
use Rattle.history.proofs.BytesRows.{BytesOf, NoAdd, is_add, no_add, add_bytes}
use Rattle.history.proofs.Geometry.{header_short}
use Rattle.history.proofs.Invariant.{says, says_of, Event, PadHeld, HeadHeld, SlotHeld, Own, Core}
use Rattle.history.proofs.Memory.{Stands}
use Rattle.history.proofs.View.{View, at, work, mark, piece}

apart : (x a b : Whose) → x ≡ a → x ≡ b → (a ≡ b → ⊥) → ⊥
apart x a b e f n = n (sym e ∙ f)

pad_slot : padding ≡ slot → ⊥
pad_slot c = let z : ◌≡◌ {A = ℕ} 0 1 = cc in omega arith

pad_head : padding ≡ heading → ⊥
pad_head c = let z : ◌≡◌ {A = ℕ} 0 1 = cc in omega arith

head_slot : heading ≡ slot → ⊥
head_slot c = let z : ◌≡◌ {A = ℕ} 0 1 = cc in omega arith

-- a header never ends its part
head_inside : (S : ℕ) (x : Piece) → 64 ≤ S → x.offset ≡ 0 → x.size ≡ header → Last S x → ⊥
head_inside S x s o z l = omega (arith, header_short S s)

module _ (v : View) (I : Core v) (mem desks : List ℕ) (b : ℕ → List ℕ) (x : BytesOf v mem desks b) (p : ℕ) (lt : p < v.P) where
  mine : Own v p (at v p) (work v p) (mark v p)
  mine = I.prod p lt

  wrote : PBytes v.S v.N p (at v p) (work v p) v.pieces mem desks (b p)
  wrote = x.prod p lt

  -- p after its piece at j was committed
  own : (j ph : ℕ) → NoAdd (row_of ph) → (T (says (row_of ph)).slotted → T (says_of (at v p)).slotted) → (T (says (row_of ph)).busy → T (says_of (at v p)).busy) →
      (T (says (row_of ph)).slotted → Event (at v p) → (work v p).slot ≢ j) →
      PBytes v.S v.N p (to_phase ph (at v p)) (work v p) (set v.pieces j (done (piece v j))) mem desks (b p)
  own j ph none s u other =
      record {
        closed = λ e. absurd (none.pad e);
        opened = λ e. absurd (none.head e);
        written = λ y ev. rw (get_or-set_other v.pieces j (work v p).slot (done (piece v j)) no_piece (other y ev)) (wrote.written (s y) ev);
        ended = λ e. absurd (none.rec e);
        desk = λ y. wrote.desk (u y);
      }

  pub pad_add_bytes : row_of (at v p).phase ≡ committing padding add →
      Bytes v.S v.N v.P (set v.producer p (to_phase 6 (at v p))) v.works (set v.pieces (work v p).padding (done (piece v (work v p).padding))) v.truth.lo mem desks b
  unfolding says row_of is_add
  pad_add_bytes e =
      add_bytes v I p (work v p).padding (to_phase 6 (at v p)) mem desks b lt H.inlog (ap (λ y. y.producer) H.entry)
      (record { slots = λ c. absurd (apart _ padding slot is c pad_slot); heads = λ c. absurd (apart _ padding heading is c pad_head); used = λ l. wrote.closed e })
      (own (work v p).padding 6 (no_add (row_of 6) refl) (λ u. rw e tt) (λ u. rw e tt)
      (λ u ev c. pad_slot (sym is ∙ ap (λ y. (piece v y).whose) (sym c) ∙ ap (λ y. y.whose) (mine.slots (rw e tt) ev).entry)))
      x
    where
      H : PadHeld v.S p (work v p) (mark v p) v.pieces
      H = mine.pads (rw e tt)

      is : (piece v (work v p).padding).whose ≡ padding
      is = ap (λ y. y.whose) H.entry

  pub head_add_bytes : row_of (at v p).phase ≡ committing heading add → Event (at v p) →
      Bytes v.S v.N v.P (set v.producer p (to_phase 11 (at v p))) v.works (set v.pieces (work v p).heading (done (piece v (work v p).heading))) v.truth.lo mem desks b
  unfolding says row_of is_add
  head_add_bytes e ev =
      add_bytes v I p (work v p).heading (to_phase 11 (at v p)) mem desks b lt H.inlog (ap (λ y. y.producer) H.entry)
      (record {
        slots = λ c. absurd (apart _ heading slot is c head_slot);
        heads = λ c. wrote.opened e ev;
        used = λ l. absurd (head_inside v.S (piece v (work v p).heading) I.shape.size_low (ap (λ y. y.offset) H.entry) (ap (λ y. y.size) H.entry) l);
      })
      (own (work v p).heading 11 (no_add (row_of 11) refl) (λ u. rw e tt) (λ u. rw e tt)
      (λ u ev c. head_slot (sym is ∙ ap (λ y. (piece v y).whose) (sym c) ∙ ap (λ y. y.whose) (mine.slots (rw e tt) ev).entry)))
      x
    where
      H : HeadHeld v.S p (at v p) (work v p) (mark v p) v.pieces
      H = mine.heads (rw e tt) ev

      is : (piece v (work v p).heading).whose ≡ heading
      is = ap (λ y. y.whose) H.entry

  pub slot_add_bytes : row_of (at v p).phase ≡ committing slot add → Event (at v p) →
      Bytes v.S v.N v.P (set v.producer p (to_phase 17 (at v p))) v.works (set v.pieces (work v p).slot (done (piece v (work v p).slot))) v.truth.lo mem desks b
  unfolding says row_of is_add
  slot_add_bytes e ev =
      add_bytes v I p (work v p).slot (to_phase 17 (at v p)) mem desks b lt H.inlog (ap (λ y. y.producer) H.entry)
      (record {
        slots = λ c. subst (λ n. Stands v.S v.N mem (piece v (work v p).slot).part (piece v (work v p).slot).offset (piece v (work v p).slot).bytes n) size_is (wrote.written (rw e tt) ev);
        heads = λ c. absurd (apart _ slot heading is c (λ d. head_slot (sym d)));
        used = λ l. wrote.ended e ev l;
      })
      (own (work v p).slot 17 (no_add (row_of 17) refl) (λ u. absurd u) (λ u. rw e tt) (λ u. absurd u))
      x
    where
      H : SlotHeld v.S p (at v p) (work v p) (mark v p) v.pieces
      H = mine.slots (rw e tt) ev

      is : (piece v (work v p).slot).whose ≡ slot
      is = ap (λ y. y.whose) H.entry

      size_is : (at v p).done ≡ (piece v (work v p).slot).size
      size_is = mine.all (rw e tt) ∙ (mine.sized (rw e tt) ev).long ∙ sym (ap (λ y. y.size) H.entry)
