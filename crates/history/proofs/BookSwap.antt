-- The rows judge and swap: an event is judged, lost, or takes its slot; a flush takes its padding.
use Prim.Native.Nat.{ℕ, zero, suc, ◌+◌, ◌*◌, ◌%◌, ◌<◌}
use mathlib.Core.Path.{◌≡◌, refl, sym, ap, subst, subst₂, ◌∙◌}
use mathlib.Core.Logic.{◌≢◌}
use mathlib.Core.Bool.{Bool, true, false, cond, ◌&&◌, not, false≢true}
use mathlib.Core.List.{List, ◌++◌}
use native.Mathlib.Nat.{mod-lt}
use native.Mathlib.Decide.{ℕ_discrete}
use native.Mathlib.Omega.{arith}
use lib.Dec.{T, eqb}
use lib.ListN.{length}
use borrow.Author.Tests.{eq-eqb, ne_eqb}
use Rattle.counts.specs.declared.position.Position.{Position}
use Rattle.counts.specs.Place.{Fit, closing, fit_of, full_of}
use Rattle.counts.specs.PlaceLaws.{fit_is}
use Rattle.counts.specs.Wrap.{word, add32}
use Rattle.steps.specs.declared.producer.Producer.{Producer}
use Rattle.steps.specs.declared.rows.Swapped.{Swapped}
use Rattle.steps.specs.Fits.{phase_fits}
use Rattle.steps.specs.Producer.{flushing, to_phase, with_full, place_at}
use Rattle.steps.specs.Rows.{judge_row, after_swap, swapped, swap_row}
use Rattle.steps.specs.RowsLaws.{swap_failed, swap_flush, swap_full, swap_room}
use Rattle.steps.specs.Step.{judging, swapping, row_of, moved as still, take_swap}
use Rattle.ring.specs.declared.state.Ring.{Ring}
use Rattle.ring.specs.State.{at, shared_at, stored_of}
use Rattle.history.specs.Lists.{sum_by}
use Rattle.history.specs.Log.{lost, is_open, Note, Event, Piece, Work, Log, bytes_of, event_at, work_at, judged, settled, pieces, pad, placing, sizes, all_occupied, too_short, note_judge, note_fate, note_reserved, note_slot, note_pad}
use Rattle.history.specs.History.{note_swap}
use Rattle.history.specs.Premise.{half}
use Rattle.history.proofs.Book.{owning, Owns, Takes, Own, Owner, Book}
use Rattle.history.proofs.BookReach.{reach_slot, reach_pad, judge_true}
use Rattle.history.proofs.BookSteps.{exchange, reserve}
use Rattle.history.proofs.Geometry.{mod_close, s_pos, off_wrap}
use Rattle.history.proofs.Reserve.{pieces_size}
use Rattle.history.proofs.Invariant.{says, Looked, Sized}
use Rattle.history.proofs.View.{view_of, mark}
use Rattle.history.proofs.BookNotes.{isopen_written, isopen_lost, lost_written, pad_slot, stays_one, Taken, taken, tally_set}
use Rattle.history.proofs.BookMoves.{Stepping, is_swap, lq, lk, mine, owner, row_fits, not_zero, same_works, owns_is, goes, on}

module _ {r : Ring} {l : Log} {p : ℕ} (A : Stepping r l p) where
  abbrev q : Producer
  q = at r p

  abbrev k : Work
  k = work_at l p

  abbrev e : Event
  e = event_at l k.event

  -- ---- judge

  abbrev fresh_note : Note
  fresh_note = record { occupied = all_occupied l r.parts; short = too_short l (length (bytes_of e)) r.size }

  pub judging_book : row_of q.phase ≡ judging → (i : ℕ) → Book (stored_of r p i (still (judge_row q r.read r.size r.parts) (shared_at r i))) (note_judge p r.size r.parts l)
  unfolding judge_row note_judge owning says row_of phase_fits
  judging_book here i =
      record {
        tally = tally_set _ _ _ _ _ l.events k.event (judged fresh_note e) W.there W.own.fate (rw W.own.fate (omega (arith, A.book.tally.writes_is))) (rw W.own.fate (omega (arith, A.book.tally.losses_is))) A.book.tally;
        reach = A.book.reach;
        entries = same_works A _ _ _ _ _
            (exchange r.producers r.write.0 r.producer l.works l.events l.pieces A.book.entries p A.lt (lq A) (lk A) q' k (judged fresh_note e) o (λ u. subst (λ y. T (says y).slotted) here u.1) refl refl refl
            (λ u. own) (λ f. (ev, tt)) (λ f. absurd (false≢true (sym f ∙ ap is_open W.own.fate))) (λ f. isopen_written (sym W.own.fate ∙ f)));
      }
    where
      ev : q.z ≡ 0 → ⊥
      ev = not_zero A (row_fits A judging here)

      o : Owns q
      o = owns_is A judging here ev tt

      W : Owner p q k r.write.0 l.events
      W = owner A o

      q' : Producer
      q' = to_phase 3 (with_full (full_of (place_at q r.size) r.read r.size r.parts) q)

      own : Own p q' r.write.0 (judged fresh_note e)
      own =
          record {
            fate = W.own.fate;
            who = W.own.who;
            long = W.own.long;
            told = λ s same.
                judge_true A.core.shape q l r.read A.truth.lo (sym same ∙ A.core.rem.write) (A.core.rem.read ∙ ap (λ x. x * r.size % word) (sym A.keep.here)) A.keep.here A.core.span.low A.core.span.high A.book.reach
                ∙ ap (λ z. all_occupied l r.parts && too_short l z r.size) W.own.long;
            room = λ u. absurd u;
          }

  -- ---- swap

  -- what the premise says after the call: the new write count's remainder, and when the others that are in swap began
  abbrev pub After : (write' W' : ℕ) → Type 0
  After write' W' = (write' ≡ W' % word) × ((o : ℕ) → o < r.producers → o ≢ p → row_of (at r o).phase ≡ swapping → W' < (work_at l o).began + half)

  -- no other has looked at a write count that is new
  unseen : (write' W' : ℕ) → l.write < W' → After write' W' → (o : ℕ) → o < r.producers → o ≢ p → row_of (at r o).phase ≡ swapping → write' ≡ (at r o).w.0 → ⊥
  unfolding says
  unseen write' W' up after o h ne s same =
      let L = looks in
      let a = after.1 o h ne s in
      let c = mod_close (mark (view_of r l A.truth) o).saw W' (omega arith) (omega arith) (sym L.w_is ∙ sym same ∙ after.0) in
      omega (arith, L.before)
    where
      looks : Looked (at r o) (work_at l o) (mark (view_of r l A.truth) o) l.write
      looks = (A.core.prod o h).looks (rw s tt)

  module _ (here : row_of q.phase ≡ swapping) (i : ℕ) where
    free : Takes q → ⊥
    unfolding says
    free u = subst (λ y. T (says y).slotted) here u.1

    -- another write count: back to read
    failed : Book (stored_of r p i (take_swap (swapped (to_phase 1 q) r.write r.lost) (shared_at r i))) l
    unfolding owning says row_of
    failed = record { tally = A.book.tally; reach = A.book.reach; entries = on A swapping here (to_phase 1 q) refl (λ ev. (refl, refl, refl)) }

    -- a flush closes the newest part
    closes : (x : Position) → q.z ≡ 0 → 0 < l.write % r.size → After x.0 (note_pad p r.size l).write →
        Book (stored_of r p i (take_swap (swapped (to_phase 4 q) x r.lost) (shared_at r i))) (note_pad p r.size l)
    unfolding note_pad note_reserved placing sum_by
    closes x z past after =
        record {
          tally = A.book.tally;
          reach = reach_pad r.size (s_pos A.core.shape) l.start l.write l.pieces p past A.book.reach;
          entries = goes A swapping here (to_phase 4 q) (placing closing (length l.pieces) k) (l.pieces ++ pad p l.write r.size) x.0 refl (λ ev. absurd (ev z)) refl (λ ev. absurd (ev z))
              (stays_one l.pieces _ pad_slot) (λ o h ne s same. absurd (unseen x.0 _ (omega (arith, mod-lt l.write (s_pos A.core.shape))) after o h ne s same));
        }

    module _ (ev : q.z ≡ 0 → ⊥) (same : r.write.0 ≡ q.w.0) where
      o : Owns q
      unfolding owning
      o = owns_is A swapping here ev tt

      W : Owner p q k r.write.0 l.events
      W = owner A o

      -- full: a loss
      gone : q.full ≡ true → Book (stored_of r p i (take_swap (swapped (to_phase 0 q) r.write (add32 r.lost 1)) (shared_at r i))) (note_fate p lost l)
      unfolding note_fate owning says row_of add32
      gone full =
          record {
            tally = tally_set _ _ _ _ _ l.events k.event (settled lost e) W.there W.own.fate (omega (arith, A.book.tally.writes_is)) refl A.book.tally;
            reach = A.book.reach;
            entries = same_works A _ _ _ _ _
                (exchange r.producers r.write.0 r.producer l.works l.events l.pieces A.book.entries p A.lt (lq A) (lk A) (to_phase 0 q) k (settled lost e) o free refl refl refl
                (λ u. absurd u.1) (λ f. absurd (isopen_lost (sym f))) (λ f. sym full ∙ W.own.told here same) lost_written);
          }

      abbrev b : List ℕ
      b = bytes_of e

      abbrev fit : Fit
      fit = fit_of (l.write % r.size) (length b) r.size

      abbrev new : List Piece
      new = pieces fit p l.write r.size k.event b

      -- it goes on at close, open or write
      lands : (closes enters : Bool) → T (owning (row_of (cond closes 4 (cond enters 9 14)))) × T (says (row_of (cond closes 4 (cond enters 9 14)))).slotted
          × (is_swap (row_of (cond closes 4 (cond enters 9 14))) ≡ false)
      unfolding owning says row_of
      lands true c = (tt, tt, refl)
      lands false true = (tt, tt, refl)
      lands false false = (tt, tt, refl)

      -- an event with room takes its slot
      takes : (x : Position) → q.full ≡ false → After x.0 (note_slot p r.size l).write →
          Book (stored_of r p i (take_swap (swapped (to_phase (after_swap (place_at q r.size)) q) x r.lost) (shared_at r i))) (note_slot p r.size l)
      unfolding note_slot note_reserved says
      takes x full after =
          record {
            tally = A.book.tally;
            reach = reach_slot r.size (s_pos A.core.shape) l.start l.write l.pieces p k.event b fit (fit_is _ _ _) (omega (arith, sized.fits, W.own.long)) some A.book.reach;
            entries = reserve r.producers r.write.0 r.producer l.works l.events l.pieces A.book.entries p A.lt (lq A) (lk A) q' _ new x.0 o free (ev, L.0) (ev, L.1) refl
                (λ y. false≢true (sym L.2 ∙ ap is_swap y)) N.same (sym (W.own.told here same) ∙ full)
                (λ o h ne s y. absurd (unseen x.0 _ up after o h ne s y))
                N.n N.place N.there N.alone N.is N.of N.bytes_is N.who N.notyet;
          }
        where
          q' : Producer
          q' = to_phase (after_swap (place_at q r.size)) q

          L : T (owning (row_of q'.phase)) × T (says (row_of q'.phase)).slotted × (is_swap (row_of q'.phase) ≡ false)
          L = lands (place_at q r.size).closes (place_at q r.size).enters

          N : Taken p k.event b new (length l.pieces) k (placing fit (length l.pieces) k)
          N = taken fit p l.write r.size k.event b (length l.pieces) k

          sized : Sized r.size q (mark (view_of r l A.truth) p)
          sized = (mine A).sized (rw here tt) ev

          some : 0 < length b
          some = omega (arith, ev, W.own.long)

          up : l.write < l.write + sizes new
          up = omega (arith, some, pieces_size r.size (s_pos A.core.shape) p k.event b fit l.write)

    -- a flush in swap has something to close
    past_of : q.z ≡ 0 → r.write.0 ≡ q.w.0 → 0 < l.write % r.size
    unfolding phase_fits
    past_of z same =
        let u : not (eqb (q.w.0 % r.size) 0) ≡ true = rw (eq-eqb q.z 0 z) at (row_fits A swapping here) in
        let o : q.w.0 % r.size ≡ l.write % r.size = ap (λ x. x % r.size) (sym same ∙ A.core.rem.write) ∙ off_wrap A.core.shape l.write in
        go (l.write % r.size) (rw o at u)
      where
        go : (n : ℕ) → not (eqb n 0) ≡ true → 0 < n
        go zero u = absurd (false≢true u)
        go (suc n) u = omega arith

    abbrev Swaps : Swapped → Log → Type 0
    Swaps y m = After y.write.0 m.write → Book (stored_of r p i (take_swap y (shared_at r i))) m

    -- the row as a whole
    pub swapping_book : After (swap_row q r.write r.lost r.size).write.0 (note_swap (eqb r.write.0 q.w.0) (flushing q) q.full p r.size l).write →
        Book (stored_of r p i (take_swap (swap_row q r.write r.lost r.size) (shared_at r i))) (note_swap (eqb r.write.0 q.w.0) (flushing q) q.full p r.size l)
    swapping_book = go (ℕ_discrete r.write.0 q.w.0) (ℕ_discrete q.z 0) q.full refl
      where
        as_noted : (m : Log) → note_swap (eqb r.write.0 q.w.0) (flushing q) q.full p r.size l ≡ m → (y : Swapped) → swap_row q r.write r.lost r.size ≡ y → Swaps y m →
            Swaps (swap_row q r.write r.lost r.size) (note_swap (eqb r.write.0 q.w.0) (flushing q) q.full p r.size l)
        as_noted m a y b g = subst₂ Swaps (sym b) (sym a) g

        go : Dec (r.write.0 ≡ q.w.0) → Dec (q.z ≡ 0) → (full : Bool) → q.full ≡ full →
            Swaps (swap_row q r.write r.lost r.size) (note_swap (eqb r.write.0 q.w.0) (flushing q) q.full p r.size l)
        go (no n) z full f = as_noted l (rw (ne_eqb r.write.0 q.w.0 n)) _ (swap_failed q r.write r.lost r.size n) (λ a. failed)
        go (yes s) (yes z) full f =
            as_noted (note_pad p r.size l) (rw (eq-eqb r.write.0 q.w.0 s, eq-eqb q.z 0 z)) _ (swap_flush q r.write r.lost r.size s z) (λ a. closes _ z (past_of z s) a)
        go (yes s) (no n) true f =
            as_noted (note_fate p lost l) (rw (eq-eqb r.write.0 q.w.0 s, ne_eqb q.z 0 n, f)) _ (swap_full q r.write r.lost r.size s n f) (λ a. gone n s f)
        go (yes s) (no n) false f =
            as_noted (note_slot p r.size l) (rw (eq-eqb r.write.0 q.w.0 s, ne_eqb q.z 0 n, f)) _ (swap_room q r.write r.lost r.size s n f) (λ a. takes n s _ f a)
