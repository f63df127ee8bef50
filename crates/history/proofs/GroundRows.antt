-- Every row of the step table keeps the invariant of ring memory.
use Prim.Native.Nat.{ℕ, zero, suc, ◌+◌, ◌*◌, ◌/◌, ◌%◌, ◌≤◌, ◌<◌}
use mathlib.Core.Path.{◌≡◌, refl, sym, ap, ap₂, subst, subst₂, ◌∙◌}
use mathlib.Core.Logic.{◌⊎◌, inl, inr, ⊎_elim}
use mathlib.Core.Bool.{Bool, true, false, cond, not, false≢true}
use mathlib.Core.List.{List}
use native.Mathlib.Nat.{le_refl}
use native.Mathlib.Decide.{dec_lt, ℕ_discrete}
use native.Mathlib.Omega.{arith}
use lib.Dec.{T, eqb}
use lib.ListN.{length, get_or, set}
use borrow.Author.Tests.{eqb-true, eq-eqb, ne_eqb}
use Rattle.counts.specs.declared.commit.Commit.{Commit}
use Rattle.counts.specs.Commit.{round_of, raises_of}
use Rattle.counts.specs.Place.{Fit, closing}
use Rattle.counts.specs.Position.{offset_of}
use Rattle.counts.specs.Tests.{and_left, and_right}
use Rattle.counts.specs.Wrap.{word, add32}
use Rattle.steps.specs.declared.producer.Producer.{Producer}
use Rattle.steps.specs.declared.rows.Swapped.{Swapped}
use Rattle.steps.specs.declared.step.Shared.{Shared}
use Rattle.steps.specs.Bytes.{bytes_by}
use Rattle.steps.specs.Fits.{phase_fits, fits_of}
use Rattle.steps.specs.Producer.{nobody, flushing, to_phase, with_done, with_s, place_at}
use Rattle.steps.specs.Rows.{read_row, judge_row, add_row, after_swap, swap_row, look_row, see_row, set_row, chunk_of, write_row}
use Rattle.steps.specs.RowsLaws.{read_event, read_idle, read_flush, swap_failed, swap_flush, swap_full, swap_room, look_round, look_done, set_stored, set_other, write_on, write_last}
use Rattle.steps.specs.Step.{Whose, padding, heading, slot, Stage, add, look, see, set as setting, Row, idle, reading, judging, swapping, closing as shutting, opening, writing, ending, committing, nothing, row_of, phase_of, after_of, commit_by, moved_by}
use Rattle.ring.specs.declared.state.Ring.{Ring}
use Rattle.ring.specs.State.{shared_at}
use Rattle.history.specs.Log.{Event as Offer, written, lost, Piece, Work, Log, work_at, placing, pad, note_judge, note_fate, note_reserved, note_slot, note_pad, note_open, note_add, with_pieces, opened, piece_at, is_lost}
use Rattle.history.specs.Lists.{many}
use Rattle.history.specs.History.{note_swap, note_row}
use Rattle.history.proofs.Bytes.{Last, Bytes}
use Rattle.history.proofs.BytesAdds.{pad_add_bytes, head_add_bytes, slot_add_bytes}
use Rattle.history.proofs.BytesRows.{BytesOf, is_add, no_add, move_bytes, step-bytes, reserve_bytes}
use Rattle.history.proofs.BytesWrites.{none_stand, close_bytes, open_bytes, slot_bytes, end_bytes}
use Rattle.history.proofs.Coords.{part_in, off_in, Spot, spot, fit_true, slot_fits}
use Rattle.history.proofs.Geometry.{s_pos, at_mod}
use Rattle.history.proofs.Invariant.{says, says_of, slotted_busy, Event, fit_in, Own, Core, KeepOf}
use Rattle.history.proofs.Places.{close_writes, open_writes, write_writes, end_writes}
use Rattle.history.proofs.Reserve.{Open, pieces_open}
use Rattle.history.proofs.Fitting.{fits_phase, fits_done, not_zero, open_event, chunk_end, chunk_sum, pad_next}
use Rattle.history.proofs.View.{Truth, View, view_of, at, work, mark, piece}
use Rattle.history.proofs.Ground.{records, Ground, same_records, on_view, judge_records, fate_records, reserved_records}

look_not_add : look ≡ add → ⊥
look_not_add c = let z : ◌≡◌ {A = ℕ} 0 1 = cc in omega arith

see_not_add : see ≡ add → ⊥
see_not_add c = let z : ◌≡◌ {A = ℕ} 0 1 = cc in omega arith

set_not_add : setting ≡ add → ⊥
set_not_add c = let z : ◌≡◌ {A = ℕ} 0 1 = cc in omega arith

-- ---- one step of producer p

module _ (r : Ring) (l : Log) (t : Truth) (p : ℕ) (lt : p < r.producers) (fits : fits_of (get_or r.producer p nobody) r.size ≡ true)
    (I : Core (view_of r l t)) (K : KeepOf (view_of r l t)) (mem desks : List ℕ) (G : Ground r l mem desks) where
  abbrev w : View
  w = view_of r l t

  abbrev q : Producer
  q = at w p

  abbrev rk : ℕ
  rk = l.start / r.size + l.back

  mine : Own w p q (work w p) (mark w p)
  mine = I.prod p lt

  x : BytesOf w mem desks (records l)
  x = on_view r l t mem desks K G

  -- what a row leaves: p's next record, the log's works and pieces, and memory
  abbrev After : Producer → Log → (mem : List ℕ) → Type 0
  After q' l' mem' = Bytes r.size r.parts r.producers (set r.producer p q') l'.works l'.pieces rk mem' desks (records l')

  -- from the window's start to the read count
  at_read : {producer : List Producer} {works : List Work} {ps : List Piece} {mem' : List ℕ} → Bytes r.size r.parts r.producers producer works ps t.lo mem' desks (records l) →
      Bytes r.size r.parts r.producers producer works ps rk mem' desks (records l)
  at_read y = rw (← K.here) y

  -- p goes on, and no byte is written
  moves : (q' : Producer) → is_add (row_of q'.phase) ≡ false → q'.z ≡ q.z → q'.done ≡ q.done → (T (says_of q').slotted → T (says_of q).slotted) →
      (T (says_of q').busy → T (says_of q).busy) → After q' l mem
  moves q' none z d s b =
      at_read (step-bytes w p q' mem desks (records l) lt I.lens.producer I.shape.producers_high
      (move_bytes r.size r.parts p q q' (work w p) l.pieces mem desks (records l p) (no_add _ none) z d s b (x.prod p lt)) x)

  -- .. from row x to the row of phase ph
  moves_to : (y : Row) → row_of q.phase ≡ y → (ph : ℕ) (q' : Producer) → q'.phase ≡ ph → q'.z ≡ q.z → q'.done ≡ q.done → is_add (row_of ph) ≡ false →
      (T (says (row_of ph)).slotted → T (says y).slotted) → (T (says (row_of ph)).busy → T (says y).busy) → After q' l mem
  moves_to y e ph q' is z d none s b =
      moves q' (ap (λ n. is_add (row_of n)) is ∙ none) z d
      (λ u. subst (λ n. T (says n).slotted) (sym e) (s (subst (λ n. T (says (row_of n)).slotted) is u)))
      (λ u. subst (λ n. T (says n).busy) (sym e) (b (subst (λ n. T (says (row_of n)).busy) is u)))

  -- ---- read and judge

  read_ground : row_of q.phase ≡ reading → After (read_row q r.write r.size) l mem
  unfolding says row_of is_add
  read_ground e = go (ℕ_discrete q.z 0) (ℕ_discrete (offset_of r.write r.size) 0)
    where
      go : Dec (q.z ≡ 0) → Dec (offset_of r.write r.size ≡ 0) → After (read_row q r.write r.size) l mem
      go (no n) o = rw (read_event q r.write r.size n) (moves_to reading e 2 _ refl refl refl refl (λ u. absurd u) (λ u. tt))
      go (yes z) (yes o) = rw (read_idle q r.write r.size z o) (moves_to reading e 0 _ refl refl refl refl (λ u. absurd u) (λ u. absurd u))
      go (yes z) (no o) = rw (read_flush q r.write r.size z o) (moves_to reading e 3 _ refl refl refl refl (λ u. absurd u) (λ u. tt))

  judge_ground : row_of q.phase ≡ judging → After (judge_row q r.read r.size r.parts) (note_judge p r.size r.parts l) mem
  unfolding says row_of is_add judge_row note_judge
  judge_ground e =
      same_records (records l) (records (note_judge p r.size r.parts l)) (λ o h. judge_records p r.size r.parts l o)
      (moves_to judging e 3 _ refl refl refl refl (λ u. absurd u) (λ u. tt))

  -- ---- look, see and set

  -- the phase after one of them
  commit_moves : (whose : Whose) (stage : Stage) → row_of q.phase ≡ committing whose stage → (stage ≡ add → ⊥) → (q' : Producer) → q'.z ≡ q.z → q'.done ≡ q.done →
      (q'.phase ≡ phase_of whose see) ⊎ ((q'.phase ≡ phase_of whose setting) ⊎ (q'.phase ≡ after_of whose q)) → After q' l mem
  unfolding says row_of is_add
  commit_moves padding stage e n q' z d c =
      ⊎_elim (λ is. moves_to (committing padding stage) e 7 q' is z d refl (λ u. pad_slotted stage) (λ u. slotted_busy (committing padding stage) (pad_slotted stage)))
      (⊎_elim (λ is. moves_to (committing padding stage) e 8 q' is z d refl (λ u. pad_slotted stage) (λ u. slotted_busy (committing padding stage) (pad_slotted stage)))
      (λ is. ⊎_elim (λ a. moves_to (committing padding stage) e 0 q' (is ∙ a) z d refl (λ u. absurd u) (λ u. absurd u))
      (λ a. moves_to (committing padding stage) e 9 q' (is ∙ a) z d refl (λ u. pad_slotted stage) (λ u. slotted_busy (committing padding stage) (pad_slotted stage))) (pad_next q.z))) c
    where
      pad_slotted : (s : Stage) → T (says (committing padding s)).slotted
      pad_slotted add = tt
      pad_slotted look = tt
      pad_slotted see = tt
      pad_slotted setting = tt
  commit_moves heading stage e n q' z d c =
      ⊎_elim (λ is. moves_to (committing heading stage) e 12 q' is z d refl (λ u. head_slotted stage) (λ u. slotted_busy (committing heading stage) (head_slotted stage)))
      (⊎_elim (λ is. moves_to (committing heading stage) e 13 q' is z d refl (λ u. head_slotted stage) (λ u. slotted_busy (committing heading stage) (head_slotted stage)))
      (λ is. moves_to (committing heading stage) e 14 q' is z d refl (λ u. head_slotted stage) (λ u. slotted_busy (committing heading stage) (head_slotted stage)))) c
    where
      head_slotted : (s : Stage) → T (says (committing heading s)).slotted
      head_slotted add = tt
      head_slotted look = tt
      head_slotted see = tt
      head_slotted setting = tt
  commit_moves slot stage e n q' z d c =
      ⊎_elim (λ is. moves_to (committing slot stage) e 18 q' is z d refl (λ u. absurd u) (λ u. slot_busy stage))
      (⊎_elim (λ is. moves_to (committing slot stage) e 19 q' is z d refl (λ u. absurd u) (λ u. slot_busy stage))
      (λ is. moves_to (committing slot stage) e 0 q' is z d refl (λ u. absurd u) (λ u. absurd u))) c
    where
      slot_busy : (s : Stage) → T (says (committing slot s)).busy
      slot_busy add = tt
      slot_busy look = tt
      slot_busy see = tt
      slot_busy setting = tt

  -- a seq that is seen
  see_ground : (whose : Whose) (stage : Stage) → row_of q.phase ≡ committing whose stage → (stage ≡ add → ⊥) → (s : Commit) → After (see_row (phase_of whose setting) (after_of whose q) q s) l mem
  unfolding see_row
  see_ground whose stage e n s = go (raises_of q.v s)
    where
      go : (b : Bool) → After (to_phase (cond b (phase_of whose setting) (after_of whose q)) (with_s s q)) l mem
      go true = commit_moves whose stage e n _ refl refl (inr (inl refl))
      go false = commit_moves whose stage e n _ refl refl (inr (inr refl))

  rest_ground : (whose : Whose) (stage : Stage) → row_of q.phase ≡ committing whose stage → (stage ≡ add → ⊥) → (sh : Shared) → After (commit_by whose stage q sh r.size).q l mem
  unfolding commit_by
  rest_ground whose add e n sh = absurd (n refl)
  rest_ground whose look e n sh = go (round_of sh.commit r.size) refl
    where
      go : (b : Bool) → round_of sh.commit r.size ≡ b → After (look_row (phase_of whose see) (after_of whose q) q sh.commit r.size) l mem
      go true t = rw (look_round (phase_of whose see) (after_of whose q) q sh.commit r.size t) (commit_moves whose look e n _ refl refl (inl refl))
      go false t = rw (look_done (phase_of whose see) (after_of whose q) q sh.commit r.size t) (commit_moves whose look e n _ refl refl (inr (inr refl)))
  rest_ground whose see e n sh = see_ground whose see e n sh.seq
  rest_ground whose setting e n sh = go (ℕ_discrete sh.seq.0 q.s.0)
    where
      go : Dec (sh.seq.0 ≡ q.s.0) → After (set_row (phase_of whose setting) (after_of whose q) q sh.seq).q l mem
      go (yes same) = rw (set_stored (phase_of whose setting) (after_of whose q) q sh.seq same) (commit_moves whose setting e n _ refl refl (inr (inr refl)))
      go (no m) = rw (set_other (phase_of whose setting) (after_of whose q) q sh.seq m) (see_ground whose setting e n sh.seq)

  -- ---- the adds

  head_event : row_of q.phase ≡ committing heading add → Event q
  unfolding phase_fits
  head_event e = not_zero q.z (and_left (not (flushing q)) _ (fits_phase q r.size (committing heading add) fits e))

  slot_event : row_of q.phase ≡ committing slot add → Event q
  unfolding phase_fits
  slot_event e = not_zero q.z (fits_phase q r.size (committing slot add) fits e)

  add_ground : (whose : Whose) → row_of q.phase ≡ committing whose add → (sh : Shared) → After (commit_by whose add q sh r.size).q (note_add whose p l) mem
  unfolding commit_by add_row note_add note_fate
  add_ground padding e sh = at_read (pad_add_bytes w I mem desks (records l) x p lt e)
  add_ground heading e sh = at_read (head_add_bytes w I mem desks (records l) x p lt e (head_event e))
  add_ground slot e sh =
      same_records (records l) (records (note_add slot p l)) (λ o h. fate_records p written l o) (at_read (slot_add_bytes w I mem desks (records l) x p lt e (slot_event e)))

  -- ---- swap

  reserve_ground : (q' : Producer) (fit : Fit) (ps : List Piece) → Open r.size l.write ps → is_add (row_of q'.phase) ≡ false → q'.z ≡ q.z → q'.done ≡ q.done → q.done ≡ 0 →
      (T (says_of q').busy → T (says_of q).busy) → After q' (note_reserved p fit ps l) mem
  unfolding note_reserved
  reserve_ground q' fit ps isopen none z d nil busy =
      same_records (records l) (records (note_reserved p fit ps l)) (λ o h. reserved_records p fit ps l o)
      (at_read (reserve_bytes w I p q' (placing fit (length l.pieces) (work_at l p)) ps l.write mem desks (records l) lt isopen
      (record {
        closed = λ e. absurd ((no_add _ none).pad e);
        opened = λ e. absurd ((no_add _ none).head e);
        written = λ u ev. none_stand r.size r.parts mem _ _ _ _ (d ∙ nil);
        ended = λ e. absurd ((no_add _ none).rec e);
        desk = λ u ev i h. (x.prod p lt).desk (busy u) (λ f. ev (z ∙ f)) i (rw (← z) h);
      }) x))

  pad_open : Open r.size l.write (pad p l.write r.size)
  pad_open zero h = (refl, le_refl _)
  pad_open (suc i) h = absurd (omega arith)

  not_add : (closes enters : Bool) → is_add (row_of (cond closes 4 (cond enters 9 14))) ≡ false
  unfolding is_add row_of
  not_add true b = refl
  not_add false true = refl
  not_add false false = refl

  lost_ground : row_of q.phase ≡ swapping → After (to_phase 0 q) (note_fate p lost l) mem
  unfolding says row_of is_add note_fate
  lost_ground e =
      same_records (records l) (records (note_fate p lost l)) (λ o h. fate_records p lost l o) (moves_to swapping e 0 _ refl refl refl refl (λ u. absurd u) (λ u. absurd u))

  swap_ground : row_of q.phase ≡ swapping → After (swap_row q r.write r.lost r.size).q (note_swap (eqb r.write.0 q.w.0) (flushing q) q.full p r.size l) mem
  unfolding says row_of is_add note_pad note_slot
  swap_ground e = go (ℕ_discrete r.write.0 q.w.0) (ℕ_discrete q.z 0) q.full refl
    where
      noted : (l' : Log) → note_swap (eqb r.write.0 q.w.0) (flushing q) q.full p r.size l ≡ l' →
          (y : Swapped) → swap_row q r.write r.lost r.size ≡ y → After y.q l' mem →
          After (swap_row q r.write r.lost r.size).q (note_swap (eqb r.write.0 q.w.0) (flushing q) q.full p r.size l) mem
      noted l' e y f g = subst₂ (λ (y : Swapped) (m : Log). After y.q m mem) (sym f) (sym e) g

      none : q.done ≡ 0
      none = mine.none (rw e tt)

      go : Dec (r.write.0 ≡ q.w.0) → Dec (q.z ≡ 0) → (full : Bool) → q.full ≡ full →
          After (swap_row q r.write r.lost r.size).q (note_swap (eqb r.write.0 q.w.0) (flushing q) q.full p r.size l) mem
      go (no n) z full f =
          noted l (rw (ne_eqb r.write.0 q.w.0 n)) _ (swap_failed q r.write r.lost r.size n) (moves_to swapping e 1 _ refl refl refl refl (λ u. absurd u) (λ u. tt))
      go (yes s) (yes z) full f =
          noted (note_pad p r.size l) (rw (eq-eqb r.write.0 q.w.0 s, eq-eqb q.z 0 z)) _ (swap_flush q r.write r.lost r.size s z)
          (reserve_ground (to_phase 4 q) closing (pad p l.write r.size) pad_open refl refl refl none (λ u. rw e tt))
      go (yes s) (no n) true f =
          noted (note_fate p lost l) (rw (eq-eqb r.write.0 q.w.0 s, ne_eqb q.z 0 n, f)) _ (swap_full q r.write r.lost r.size s n f) (lost_ground e)
      go (yes s) (no n) false f =
          noted (note_slot p r.size l) (rw (eq-eqb r.write.0 q.w.0 s, ne_eqb q.z 0 n, f)) _ (swap_room q r.write r.lost r.size s n f)
          (reserve_ground (to_phase (after_swap (place_at q r.size)) q) _ _
          (pieces_open r.size (s_pos I.shape) p (work_at l p).event _ _ l.write) (not_add (place_at q r.size).closes (place_at q r.size).enters) refl refl none (λ u. rw e tt))

  -- ---- close, open, write and end

  close_ground : row_of q.phase ≡ shutting → After (to_phase 5 q) l (bytes_by shutting q p r.lost r.size r.parts mem desks)
  close_ground e = rw (close_writes w I mem desks x.mem_long p lt r.lost e) (at_read (close_bytes w I mem desks (records l) x p lt e))

  module _ (y : Row) (e : row_of q.phase ≡ y) (ev : Event q) where
    open_ground : y ≡ opening → (n : ℕ) → r.lost ≡ n % word → After (to_phase 10 q) (with_pieces (set l.pieces (work_at l p).heading (opened n (piece_at l (work_at l p).heading))) l)
        (bytes_by opening q p r.lost r.size r.parts mem desks)
    unfolding says
    open_ground is n c =
        let o = e ∙ is in
        rw (open_writes w I mem desks x.mem_long p lt r.lost ev (rw o tt) (rw o tt) (rw o tt) (rw o tt) n c) (at_read (open_bytes w I mem desks (records l) x p lt o ev n))

    end_ground : y ≡ ending → Last r.size (piece w (work w p).slot) → After (to_phase 16 q) l (bytes_by ending q p r.lost r.size r.parts mem desks)
    unfolding says
    end_ground is last =
        let o = e ∙ is in
        rw (end_writes w I mem desks x.mem_long p lt r.lost ev (rw o tt) (rw o tt) (rw o tt)) (at_read (end_bytes w I mem desks (records l) x p lt o ev last))

    write_ground : y ≡ writing → records l p ≡ (mark w p).bytes → (ph : ℕ) → q.done + chunk_of q ≤ q.z → (row_of ph ≡ committing padding add → ⊥) → (row_of ph ≡ committing heading add → ⊥) →
        (row_of ph ≡ committing slot add → Last r.size (piece w (work w p).slot) → ⊥) →
        After (to_phase ph (with_done (q.done + chunk_of q) q)) l (bytes_by writing q p r.lost r.size r.parts mem desks)
    unfolding says
    write_ground is same ph room a b c =
        let o = e ∙ is in
        rw (write_writes w I mem desks x.mem_long p lt r.lost ev (rw o tt) (rw o tt) (rw o tt) room x.desks_long)
        (at_read (slot_bytes w I mem desks (records l) x p lt o ev (chunk_of q) room same ph a b c))

  -- the slot ends its part exactly if the end step is due
  module _ (ev : Event q) (u : T (says_of q).slotted) (look : T (says_of q).looked) (busy : T (says_of q).busy) where
    here : Spot I.shape q (mark w p).saw (mine.looks look).w_is (fit_in r.size q (mark w p)) (place_at q r.size)
    here = spot I.shape q (mark w p).saw (mine.looks look).w_is

    abbrev k : ℕ
    k = part_in (fit_in r.size q (mark w p)) r.size (mark w p).saw

    abbrev o : ℕ
    o = off_in (fit_in r.size q (mark w p)) r.size (mark w p).saw

    end_at : (piece w (work w p).slot).offset + (piece w (work w p).slot).size ≡ o + q.z
    end_at =
        let H = mine.slots u ev in
        ap₂ (λ a n. a + n) (ap (λ y. y.offset) H.entry) (ap (λ y. y.size) H.entry ∙ sym (mine.sized busy ev).long)

    last_due : Last r.size (piece w (work w p).slot) → (place_at q r.size).ends ≡ true
    last_due last =
        here.ends
        ∙ eq-eqb _ 0 (ap (λ y. y % r.size) (omega (arith, end_at)) ∙ at_mod r.size (suc k) 0 (s_pos I.shape))

    due_last : (place_at q r.size).ends ≡ true → Last r.size (piece w (work w p).slot)
    due_last e = end_at ∙ go (dec_lt (o + q.z) r.size)
      where
        inside : o + q.z ≤ r.size
        inside = slot_fits r.size (s_pos I.shape) _ (mark w p).saw q.z (fit_true I.shape q (mark w p).saw (mine.looks look).w_is) (mine.sized busy ev).fits

        round : (k * r.size + o + q.z) % r.size ≡ 0
        round = eqb-true _ 0 (sym here.ends ∙ e)

        go : Dec (o + q.z < r.size) → o + q.z ≡ r.size
        go (yes h) =
            let z : o + q.z ≡ 0 = sym (at_mod r.size k (o + q.z) h) ∙ ap (λ y. y % r.size) (omega arith) ∙ round in
            absurd (ev (omega arith))
        go (no h) = omega (arith, inside)

  writing_ground : row_of q.phase ≡ writing → (Event q → records l p ≡ (mark w p).bytes) → After (write_row q r.size) l (bytes_by writing q p r.lost r.size r.parts mem desks)
  unfolding says row_of is_add phase_fits
  writing_ground e same = go (dec_lt (add32 q.done (chunk_of q)) q.z)
    where
      ev : Event q
      ev = not_zero q.z (fits_phase q r.size writing fits e)

      small : q.z < word
      small = omega (arith, (mine.sized (rw e tt) ev).fits, I.shape.size_high)

      most : add32 q.done (chunk_of q) ≤ q.z
      most = chunk_end q (fits_done q r.size fits) small

      sum : add32 q.done (chunk_of q) ≡ q.done + chunk_of q
      sum = chunk_sum q (fits_done q r.size fits) small

      to : (ph : ℕ) → is_add (row_of ph) ≡ false → After (to_phase ph (with_done (add32 q.done (chunk_of q)) q)) l (bytes_by writing q p r.lost r.size r.parts mem desks)
      to ph none =
          rw sum (write_ground writing e ev refl (same ev) ph (omega (arith, most, sum)) (no_add (row_of ph) none).pad (no_add (row_of ph) none).head (λ y l. (no_add (row_of ph) none).rec y))

      last : (b : Bool) → (place_at q r.size).ends ≡ b → After (to_phase (cond b 15 16) (with_done (add32 q.done (chunk_of q)) q)) l (bytes_by writing q p r.lost r.size r.parts mem desks)
      last true f = to 15 refl
      last false f =
          rw sum (write_ground writing e ev refl (same ev) 16 (omega (arith, most, sum)) (λ y. not_pad y) (λ y. not_head y)
          (λ y l. false≢true (sym f ∙ last_due ev (rw e tt) (rw e tt) (rw e tt) l)))
        where
          not_pad : committing slot add ≡ committing padding add → ⊥
          not_pad c = let z : ◌≡◌ {A = ℕ} 0 1 = cc in omega arith

          not_head : committing slot add ≡ committing heading add → ⊥
          not_head c = let z : ◌≡◌ {A = ℕ} 0 1 = cc in omega arith

      go : Dec (add32 q.done (chunk_of q) < q.z) → After (write_row q r.size) l (bytes_by writing q p r.lost r.size r.parts mem desks)
      go (yes h) = rw (write_on q r.size h) (to q.phase (ap is_add e))
      go (no h) = rw (write_last q r.size (omega arith)) (last (place_at q r.size).ends refl)

  ending_ground : row_of q.phase ≡ ending → After (to_phase 16 q) l (bytes_by ending q p r.lost r.size r.parts mem desks)
  unfolding says phase_fits
  ending_ground e =
      let f = fits_phase q r.size ending fits e in
      let ev : Event q = not_zero q.z (and_left (not (flushing q)) _ f) in
      end_ground ending e ev refl (due_last ev (rw e tt) (rw e tt) (rw e tt) (and_right (not (flushing q)) _ f))

  -- ---- every row

  pub row_ground : (y : Row) → row_of q.phase ≡ y → (Event q → records l p ≡ (mark w p).bytes) → r.lost ≡ many (λ (e : Offer). is_lost e.fate) l.events % word → (i : ℕ) →
      After (moved_by y q (shared_at r i) r.size r.parts).q (note_row y r p l) (bytes_by y q p r.lost r.size r.parts mem desks)
  unfolding moved_by note_row bytes_by note_open phase_fits
  row_ground idle e b c i = absurd (false≢true (fits_phase q r.size idle fits e))
  row_ground reading e b c i = read_ground e
  row_ground judging e b c i = judge_ground e
  row_ground swapping e b c i = swap_ground e
  row_ground shutting e b c i = close_ground e
  row_ground opening e b c i = open_ground opening e (open_event q r.size (fits_phase q r.size opening fits e)) refl _ c
  row_ground writing e b c i = writing_ground e b
  row_ground ending e b c i = ending_ground e
  row_ground (committing whose add) e b c i = add_ground whose e (shared_at r i)
  row_ground (committing whose look) e b c i = rest_ground whose look e (λ x. look_not_add x) (shared_at r i)
  row_ground (committing whose see) e b c i = rest_ground whose see e (λ x. see_not_add x) (shared_at r i)
  row_ground (committing whose setting) e b c i = rest_ground whose setting e (λ x. set_not_add x) (shared_at r i)
  row_ground nothing e b c i = absurd (false≢true (fits_phase q r.size nothing fits e))
