-- Every row of the step table keeps the book.
use Prim.Native.Nat.{ℕ, ◌<◌}
use mathlib.Core.Path.{◌≡◌, refl, sym, ap, ◌∙◌}
use mathlib.Core.Bool.{Bool, true, false, cond, not, false≢true}
use native.Mathlib.Decide.{dec_lt, ℕ_discrete}
use native.Mathlib.Omega.{arith}
use lib.ListN.{get_or}
use borrow.Author.Tests.{ne_eqb}
use Rattle.counts.specs.declared.commit.Commit.{Commit}
use Rattle.counts.specs.Commit.{commit, round_of, raises_of}
use Rattle.counts.specs.Position.{offset_of}
use Rattle.counts.specs.Tests.{and_left}
use Rattle.counts.specs.Wrap.{add32}
use Rattle.steps.specs.declared.producer.Producer.{Producer}
use Rattle.steps.specs.Fits.{phase_fits}
use Rattle.steps.specs.Producer.{flushing, to_phase, with_done, with_v, place_at}
use Rattle.steps.specs.Rows.{read_row, look_row, see_row, set_row, chunk_of, write_row, add_row}
use Rattle.steps.specs.RowsLaws.{read_event, read_idle, read_flush, set_stored, set_other, write_on, write_last}
use Rattle.steps.specs.Step.{Whose, padding, heading, slot, Stage, add, look, see, set as setting, Row, idle, reading, judging, swapping, closing as shutting, opening, writing, ending, committing, nothing, row_of, after_of, moved as still, take_set, moved_by, commit_by, step_by, part_at}
use Rattle.ring.specs.declared.state.Ring.{Ring}
use Rattle.ring.specs.Calls.{stepped as afterStep}
use Rattle.ring.specs.State.{at, shared_at, stored_of}
use Rattle.history.specs.Log.{written, Event, Work, Log, event_at, work_at, piece_at, settled, done, note_fate, note_open, note_add}
use Rattle.history.specs.History.{note_commit, note_row}
use Rattle.history.proofs.Book.{owning, Owns, Owner, Book}
use Rattle.history.proofs.BookSteps.{finish}
use Rattle.history.proofs.Invariant.{says, SlotHeld}
use Rattle.history.proofs.View.{view_of, mark}
use Rattle.history.proofs.BookNotes.{pad_slot, head_slot, reach_set, tally_set}
use Rattle.history.proofs.BookMoves.{Stepping, is_swap, Calmly, lq, lk, mine, owner, row_fits, not_zero, same_works, owns_is, on, kept, notes}
use Rattle.history.proofs.BookSwap.{After, judging_book, swapping_book}

module _ {r : Ring} {l : Log} {p : ℕ} (A : Stepping r l p) where
  abbrev q : Producer
  q = at r p

  abbrev k : Work
  k = work_at l p

  abbrev e : Event
  e = event_at l k.event

  -- ---- read

  reading_book : row_of q.phase ≡ reading → (i : ℕ) → Book (stored_of r p i (still (read_row q r.write r.size) (shared_at r i))) l
  unfolding owning says row_of
  reading_book here i = go (ℕ_discrete q.z 0) (ℕ_discrete (offset_of r.write r.size) 0)
    where
      go : Dec (q.z ≡ 0) → Dec (offset_of r.write r.size ≡ 0) → Book (stored_of r p i (still (read_row q r.write r.size) (shared_at r i))) l
      go (no n) o = rw (read_event q r.write r.size n) (kept A reading here i _ refl (λ ev. (refl, refl, refl)))
      go (yes z) (yes o) = rw (read_idle q r.write r.size z o) (kept A reading here i _ refl (λ ev. absurd (ev z)))
      go (yes z) (no o) = rw (read_flush q r.write r.size z o) (kept A reading here i _ refl (λ ev. absurd (ev z)))

  -- ---- close, open, write, end

  opening_book : row_of q.phase ≡ opening → (i : ℕ) → Book (stored_of r p i (still (to_phase 10 q) (shared_at r i))) (note_open p l)
  unfolding note_open owning says row_of phase_fits
  opening_book here i =
      let ev = not_zero A (and_left (not (flushing q)) _ (row_fits A opening here)) in
      let H = (mine A).heads (rw here tt) ev in
      notes A opening here i k.heading _ (piece_at l k.heading).committed (to_phase 10 q) (get_or r.commit i (commit 0)) H.inlog (λ s. head_slot (sym (ap (λ y. y.whose) H.entry) ∙ s)) refl (λ n. (refl, refl, refl))

  writing_book : row_of q.phase ≡ writing → (i : ℕ) → Book (stored_of r p i (still (write_row q r.size) (shared_at r i))) l
  unfolding owning says row_of
  writing_book here i = go (dec_lt (add32 q.done (chunk_of q)) q.z)
    where
      last : (b : Bool) (d : ℕ) → Book (stored_of r p i (still (to_phase (cond b 15 16) (with_done d q)) (shared_at r i))) l
      last true d = kept A writing here i _ refl (λ ev. (refl, refl, refl))
      last false d = kept A writing here i _ refl (λ ev. (refl, refl, refl))

      go : Dec (add32 q.done (chunk_of q) < q.z) → Book (stored_of r p i (still (write_row q r.size) (shared_at r i))) l
      go (yes h) = rw (write_on q r.size h) (kept A writing here i _ refl (λ ev. (ap owning here, ap (λ y. (says y).slotted) here, ap is_swap here)))
      go (no h) = rw (write_last q r.size (omega arith)) (last (place_at q r.size).ends _)

  -- ---- a commit

  -- look, see and set, with phase go or fin next
  module _ (x : Row) (here : row_of q.phase ≡ x) (i go fin : ℕ) (calm-go : (q.z ≡ 0 → ⊥) → Calmly x (row_of go)) (calm-fin : (q.z ≡ 0 → ⊥) → Calmly x (row_of fin)) where
    looking_book : (c : Commit) → Book (stored_of r p i (still (look_row go fin q c r.size) (shared_at r i))) l
    unfolding look_row
    looking_book c = by (round_of c r.size)
      where
        by : (b : Bool) → Book (stored_of r p i (still (cond b (to_phase go (with_v c q)) (to_phase fin q)) (shared_at r i))) l
        by true = kept A x here i _ refl calm-go
        by false = kept A x here i _ refl calm-fin

    seen : (s : Commit) → ((see_row go fin q s).z ≡ q.z) × ((q.z ≡ 0 → ⊥) → Calmly x (row_of (see_row go fin q s).phase))
    unfolding see_row
    seen s = (refl, by (raises_of q.v s))
      where
        by : (b : Bool) → (q.z ≡ 0 → ⊥) → Calmly x (row_of (cond b go fin))
        by true ev = calm-go ev
        by false ev = calm-fin ev

    seeing_book : (s : Commit) → Book (stored_of r p i (still (see_row go fin q s) (shared_at r i))) l
    seeing_book s = kept A x here i _ (seen s).0 (seen s).1

    setting_book : (s : Commit) → Book (stored_of r p i (take_set (set_row go fin q s) (shared_at r i))) l
    setting_book s = by (ℕ_discrete s.0 q.s.0)
      where
        by : Dec (s.0 ≡ q.s.0) → Book (stored_of r p i (take_set (set_row go fin q s) (shared_at r i))) l
        by (yes e) = rw (set_stored go fin q s e) (record { tally = A.book.tally; reach = A.book.reach; entries = on A x here (to_phase fin q) refl calm-fin })
        by (no n) = rw (set_other go fin q s n) (record { tally = A.book.tally; reach = A.book.reach; entries = on A x here (see_row go fin q s) (seen s).0 (seen s).1 })

  -- the add of the padding and of the header
  add_padding : row_of q.phase ≡ committing padding add → (i : ℕ) → Book (stored_of r p i (commit_by padding add q (shared_at r i) r.size)) (note_add padding p l)
  unfolding commit_by add_row note_add owning says row_of
  add_padding here i =
      let H = (mine A).pads (rw here tt) in
      notes A (committing padding add) here i k.padding (piece_at l k.padding).lost true (to_phase 6 q) _ H.inlog (λ s. pad_slot (sym (ap (λ y. y.whose) H.entry) ∙ s)) refl (λ n. (refl, refl, refl))

  add_heading : row_of q.phase ≡ committing heading add → (i : ℕ) → Book (stored_of r p i (commit_by heading add q (shared_at r i) r.size)) (note_add heading p l)
  unfolding commit_by add_row note_add owning says row_of phase_fits
  add_heading here i =
      let ev = not_zero A (and_left (not (flushing q)) _ (row_fits A (committing heading add) here)) in
      let H = (mine A).heads (rw here tt) ev in
      notes A (committing heading add) here i k.heading (piece_at l k.heading).lost true (to_phase 11 q) _ H.inlog (λ s. head_slot (sym (ap (λ y. y.whose) H.entry) ∙ s)) refl (λ n. (refl, refl, refl))

  -- the slot's own: the event is written
  add_slot : row_of q.phase ≡ committing slot add → (i : ℕ) → Book (stored_of r p i (commit_by slot add q (shared_at r i) r.size)) (note_add slot p l)
  unfolding commit_by add_row note_add note_fate owning says row_of phase_fits add32
  add_slot here i =
      record {
        tally = tally_set _ _ _ _ _ l.events k.event (settled written e) W.there W.own.fate refl (omega (arith, A.book.tally.losses_is)) A.book.tally;
        reach = reach_set r.size l.start l.write l.pieces k.slot _ H.inlog refl A.book.reach;
        entries = same_works A _ _ _ _ _
            (finish r.producers r.write.0 r.producer l.works l.events l.pieces A.book.entries p A.lt (lq A) (lk A) (to_phase 17 q) (settled written e) (done (piece_at l k.slot))
            o (ev, rw here tt) (λ u. u.1) refl refl refl refl H.inlog is of is of refl refl refl k refl);
      }
    where
      ev : q.z ≡ 0 → ⊥
      ev = not_zero A (row_fits A (committing slot add) here)

      o : Owns q
      o = owns_is A (committing slot add) here ev tt

      W : Owner p q k r.write.0 l.events
      W = owner A o

      H : SlotHeld r.size p q k (mark (view_of r l A.truth) p) l.pieces
      H = (mine A).slots (rw here tt) ev

      is : (piece_at l k.slot).whose ≡ slot
      is = ap (λ y. y.whose) H.entry

      of : (piece_at l k.slot).event ≡ k.event
      of = ap (λ y. y.event) H.entry

  -- an event opens when its padding is committed
  pad_next : (q.z ≡ 0 → ⊥) → after_of padding q ≡ 9
  pad_next ev = rw (ne_eqb q.z 0 ev)

  commit_book : (whose : Whose) (stage : Stage) → row_of q.phase ≡ committing whose stage → (i : ℕ) → Book (stored_of r p i (commit_by whose stage q (shared_at r i) r.size)) (note_commit whose stage p l)
  unfolding commit_by owning says row_of
  commit_book padding add here i = add_padding here i
  commit_book padding look here i = looking_book (committing padding look) here i 7 (after_of padding q) (λ ev. (refl, refl, refl)) (λ ev. rw (pad_next ev) (refl, refl, refl)) _
  commit_book padding see here i = seeing_book (committing padding see) here i 8 (after_of padding q) (λ ev. (refl, refl, refl)) (λ ev. rw (pad_next ev) (refl, refl, refl)) _
  commit_book padding setting here i = setting_book (committing padding setting) here i 8 (after_of padding q) (λ ev. (refl, refl, refl)) (λ ev. rw (pad_next ev) (refl, refl, refl)) _
  commit_book heading add here i = add_heading here i
  commit_book heading look here i = looking_book (committing heading look) here i 12 14 (λ ev. (refl, refl, refl)) (λ ev. (refl, refl, refl)) _
  commit_book heading see here i = seeing_book (committing heading see) here i 13 14 (λ ev. (refl, refl, refl)) (λ ev. (refl, refl, refl)) _
  commit_book heading setting here i = setting_book (committing heading setting) here i 13 14 (λ ev. (refl, refl, refl)) (λ ev. (refl, refl, refl)) _
  commit_book slot add here i = add_slot here i
  commit_book slot look here i = looking_book (committing slot look) here i 18 0 (λ ev. (refl, refl, refl)) (λ ev. (refl, refl, refl)) _
  commit_book slot see here i = seeing_book (committing slot see) here i 19 0 (λ ev. (refl, refl, refl)) (λ ev. (refl, refl, refl)) _
  commit_book slot setting here i = setting_book (committing slot setting) here i 19 0 (λ ev. (refl, refl, refl)) (λ ev. (refl, refl, refl)) _

  -- ---- every row

  row_book : (x : Row) → row_of q.phase ≡ x → (i : ℕ) → After A (stored_of r p i (moved_by x q (shared_at r i) r.size r.parts)).write.0 (note_row x r p l).write →
      Book (stored_of r p i (moved_by x q (shared_at r i) r.size r.parts)) (note_row x r p l)
  unfolding moved_by note_row owning says row_of phase_fits
  row_book idle here i after = absurd (false≢true (row_fits A idle here))
  row_book reading here i after = reading_book here i
  row_book judging here i after = judging_book A here i
  row_book swapping here i after = swapping_book A here i after
  row_book shutting here i after = kept A shutting here i (to_phase 5 q) refl (λ ev. (refl, refl, refl))
  row_book opening here i after = opening_book here i
  row_book writing here i after = writing_book here i
  row_book ending here i after = kept A ending here i (to_phase 16 q) refl (λ ev. (refl, refl, refl))
  row_book (committing whose stage) here i after = commit_book whose stage here i
  row_book nothing here i after = absurd (false≢true (row_fits A nothing here))

  pub step_book : After A (afterStep r p).write.0 (note_row (row_of q.phase) r p l).write → Book (afterStep r p) (note_row (row_of q.phase) r p l)
  unfolding afterStep step_by part_at
  step_book after = row_book (row_of q.phase) refl _ after
