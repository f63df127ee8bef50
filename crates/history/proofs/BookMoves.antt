-- A step that settles nothing: the producer goes on, and the book with it.
use Prim.Native.Nat.{ℕ, ◌<◌}
use mathlib.Core.Path.{◌≡◌, refl, sym, ap, subst, ◌∙◌}
use mathlib.Core.Logic.{◌≢◌}
use mathlib.Core.Bool.{Bool, true, false, not, false≢true}
use mathlib.Core.List.{List}
use native.Mathlib.Omega.{arith}
use lib.Dec.{T, leb}
use lib.ListN.{length, set}
use lib.Seq.{set-get_or}
use borrow.Author.Tests.{eq-eqb}
use Rattle.counts.specs.declared.commit.Commit.{Commit}
use Rattle.counts.specs.Tests.{and_right}
use Rattle.steps.specs.declared.producer.Producer.{Producer}
use Rattle.steps.specs.Fits.{size_fits, phase_fits, fits_of}
use Rattle.steps.specs.Producer.{flushing}
use Rattle.steps.specs.Step.{padding, heading, slot, add, look, see, set as setting, Row, idle, reading, judging, swapping, closing as shutting, opening, writing, ending, committing, nothing, row_of, moved as still, take_add}
use Rattle.ring.specs.declared.state.Ring.{Ring}
use Rattle.ring.specs.State.{at, shared_at, stored_of}
use Rattle.history.specs.Log.{Event, Piece, Work, Log, no_work, work_at, piece_at, with_pieces, noted}
use Rattle.history.proofs.Book.{owning, Owns, Owner, Entries, Book}
use Rattle.history.proofs.BookFrame.{Stays, stays}
use Rattle.history.proofs.BookSteps.{quiet}
use Rattle.history.proofs.Invariant.{says, PInv, Core, KeepOf}
use Rattle.history.proofs.View.{Truth, view_of, mark}
use Rattle.history.proofs.BookNotes.{stays_set, reach_set}

-- ---- rows that settle nothing

abbrev pub is_swap : Row → Bool
is_swap idle = false
is_swap reading = false
is_swap judging = false
is_swap swapping = true
is_swap shutting = false
is_swap opening = false
is_swap writing = false
is_swap ending = false
is_swap (committing whose stage) = false
is_swap nothing = false

-- from row x to row y an event's standing is as it was, and nothing is judged
abbrev pub Calmly : Row → Row → Type 0
Calmly x y = (owning y ≡ owning x) × ((says y).slotted ≡ (says x).slotted) × (is_swap y ≡ false)

-- ---- one step of producer p

-- what is known when it is accepted
pub record Stepping (r : Ring) (l : Log) (p : ℕ) : Type 0 where
  pub truth : Truth
  pub core : Core (view_of r l truth)
  pub keep : KeepOf (view_of r l truth)
  pub book : Book r l
  pub lt : p < r.producers
  pub fits : fits_of (at r p) r.size ≡ true

module _ {r : Ring} {l : Log} {p : ℕ} (A : Stepping r l p) where
  abbrev q : Producer
  q = at r p

  abbrev k : Work
  k = work_at l p

  pub lq : p < length r.producer
  lq = omega (arith, A.core.lens.producer, A.core.shape.producers_high)

  pub lk : p < length l.works
  lk = omega (arith, A.core.lens.works, A.core.shape.producers_high)

  pub mine : PInv r.size r.parts p q k (mark (view_of r l A.truth) p) l.write A.truth.lo A.truth.C A.truth.Q l.pieces
  mine = A.core.prod p A.lt

  pub owner : Owns q → Owner p q k r.write.0 l.events
  owner o = A.book.entries.prod p A.lt o

  -- what refusal 18 has looked at
  pub row_fits : (x : Row) → row_of q.phase ≡ x → phase_fits x q r.size ≡ true
  unfolding fits_of
  row_fits x e = subst (λ y. phase_fits y q r.size ≡ true) e (and_right (leb q.done q.z) _ (and_right (size_fits q r.size) _ A.fits))

  pub not_zero : not (flushing q) ≡ true → q.z ≡ 0 → ⊥
  not_zero u z = false≢true (sym (ap not (eq-eqb q.z 0 z)) ∙ u)

  -- what steps is busy
  busy_row : (x : Row) → phase_fits x q r.size ≡ true → T (says x).busy
  unfolding phase_fits says
  busy_row idle f = absurd (false≢true f)
  busy_row reading f = tt
  busy_row judging f = tt
  busy_row swapping f = tt
  busy_row shutting f = tt
  busy_row opening f = tt
  busy_row writing f = tt
  busy_row ending f = tt
  busy_row (committing padding add) f = tt
  busy_row (committing padding look) f = tt
  busy_row (committing padding see) f = tt
  busy_row (committing padding setting) f = tt
  busy_row (committing heading add) f = tt
  busy_row (committing heading look) f = tt
  busy_row (committing heading see) f = tt
  busy_row (committing heading setting) f = tt
  busy_row (committing slot add) f = tt
  busy_row (committing slot look) f = tt
  busy_row (committing slot see) f = tt
  busy_row (committing slot setting) f = tt
  busy_row nothing f = tt

  -- its works stay
  pub same_works : (P write : ℕ) (qs : List Producer) (es : List Event) (ps : List Piece) → Entries P write qs (set l.works p k) es ps → Entries P write qs l.works es ps
  same_works P write qs es ps = subst (λ ks. Entries P write qs ks es ps) (set-get_or l.works p no_work)

  module _ (x : Row) (here : row_of q.phase ≡ x) where
    pub owns_is : (q.z ≡ 0 → ⊥) → T (owning x) → Owns q
    owns_is ev u = (ev, subst (λ y. T (owning y)) (sym here) u)

    -- p goes on
    pub goes : (q' : Producer) (k' : Work) (ps' : List Piece) (write' : ℕ) → q'.z ≡ q.z → ((q.z ≡ 0 → ⊥) → Calmly x (row_of q'.phase)) → k'.event ≡ k.event →
        ((q.z ≡ 0 → ⊥) → k'.slot ≡ k.slot) → Stays l.pieces ps' →
        ((o : ℕ) → o < r.producers → o ≢ p → row_of (at r o).phase ≡ swapping → write' ≡ (at r o).w.0 → r.write.0 ≡ (at r o).w.0) →
        Entries r.producers write' (set r.producer p q') (set l.works p k') l.events ps'
    goes q' k' ps' write' z calm ev sl st fresh =
        quiet r.producers r.write.0 r.producer l.works l.events l.pieces A.book.entries p A.lt lq lk q' k' ps' write'
        (λ o. let n : q'.z ≡ 0 → ⊥ = λ y. o.0 (sym z ∙ y) in (n, subst T (sym ((calm o.0).0 ∙ ap owning (sym here))) o.1))
        (λ o.
        let n : q.z ≡ 0 → ⊥ = λ y. o.0 (z ∙ y) in
        let c = calm n in (
          (n, subst T (c.0 ∙ ap owning (sym here)) o.1),
          z,
          λ y. false≢true (sym c.2 ∙ ap is_swap y),
          λ u. subst T (c.1 ∙ ap (λ y. (says y).slotted) (sym here)) u,
        ))
        (λ o. ev)
        (λ n u.
        let b = A.book.entries.begun p A.lt (λ y. n (z ∙ y)) (subst (λ y. T (says y).busy) (sym here) (busy_row x (row_fits x here))) in
        record { there = rw ev b.there; long = rw ev (z ∙ b.long) })
        (λ u. (
          (λ y. u.0 (sym z ∙ y), subst T (sym ((calm u.0).1 ∙ ap (λ y. (says y).slotted) (sym here))) u.1),
          sl u.0,
        )) st fresh

    -- with the log as it is
    pub on : (q' : Producer) → q'.z ≡ q.z → ((q.z ≡ 0 → ⊥) → Calmly x (row_of q'.phase)) →
        Entries r.producers r.write.0 (set r.producer p q') l.works l.events l.pieces
    on q' z calm = same_works _ _ _ _ _ (goes q' k l.pieces r.write.0 z calm refl (λ n. refl) (stays l.pieces) (λ o h ne s w. w))

    -- the ring after a row that leaves counts, write count and log
    pub kept : (i : ℕ) (q' : Producer) → q'.z ≡ q.z → ((q.z ≡ 0 → ⊥) → Calmly x (row_of q'.phase)) → Book (stored_of r p i (still q' (shared_at r i))) l
    kept i q' z calm = record { tally = A.book.tally; reach = A.book.reach; entries = on q' z calm }

    -- a piece that is no slot is noted
    pub notes : (i j n : ℕ) (b : Bool) (q' : Producer) (c : Commit) → j < length l.pieces → ((piece_at l j).whose ≡ slot → ⊥) → q'.z ≡ q.z → ((q.z ≡ 0 → ⊥) → Calmly x (row_of q'.phase)) →
        Book (stored_of r p i (take_add (record { q = q'; commit = c; written = r.written }) (shared_at r i))) (with_pieces (set l.pieces j (noted n b (piece_at l j))) l)
    notes i j n b q' c h no_slot z calm =
        record {
          tally = A.book.tally;
          reach = reach_set r.size l.start l.write l.pieces j _ h refl A.book.reach;
          entries = same_works _ _ _ _ _ (goes q' k _ r.write.0 z calm refl (λ n. refl) (stays_set l.pieces j _ h no_slot no_slot) (λ o h ne s w. w));
        }
