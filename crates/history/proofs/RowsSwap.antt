-- The swap.
use Prim.Native.Nat.{ℕ, ◌+◌, ◌-◌, ◌/◌, ◌%◌, ◌<◌}
use mathlib.Core.Path.{◌≡◌, refl, sym, ap, ap₂, subst, subst₂, ◌∙◌}
use mathlib.Core.Bool.{Bool, true, false, cond}
use mathlib.Core.List.{List}
use native.Mathlib.Decide.{ℕ_discrete}
use native.Mathlib.Omega.{arith}
use lib.Dec.{T, eqb}
use lib.ListN.{length, get_or, set}
use borrow.Author.Tests.{eq-eqb, ne_eqb}
use Rattle.counts.specs.declared.position.Position.{Position}
use Rattle.counts.specs.Place.{Fit, entering, inside, closing, fit_of}
use Rattle.counts.specs.Position.{offset_of, next_of}
use Rattle.counts.specs.Wrap.{word}
use Rattle.steps.specs.declared.producer.Producer.{Producer}
use Rattle.steps.specs.declared.rows.Swapped.{Swapped}
use Rattle.steps.specs.Fits.{fits_of}
use Rattle.steps.specs.Producer.{nobody, flushing, to_phase, place_at}
use Rattle.steps.specs.Rows.{after_swap, swapped, swap_row}
use Rattle.steps.specs.RowsLaws.{swap_failed, swap_flush, swap_full, swap_room}
use Rattle.steps.specs.Step.{swapping, row_of, take_swap}
use Rattle.ring.specs.declared.state.Ring.{Ring}
use Rattle.ring.specs.State.{shared_at, stored_of}
use Rattle.history.specs.Lists.{sum_by}
use Rattle.history.specs.Log.{Fate, Log, work_at, event_at, bytes_of, lost as gone-lost, pieces, pad, sizes, note_fate, note_reserved, note_slot, note_pad}
use Rattle.history.specs.History.{note_swap}
use Rattle.history.proofs.Coords.{part_in, skip, is_entering, is_closing, Spot, spot, next_is, off_is}
use Rattle.history.proofs.Geometry.{s_pos}
use Rattle.history.proofs.Invariant.{says, Event, Looked, Sized, Own, Core, KeepOf, Soon}
use Rattle.history.proofs.Jobs.{off_keeps}
use Rattle.history.proofs.Move.{calm}
use Rattle.history.proofs.Reserve.{pieces_size}
use Rattle.history.proofs.Swap.{landing, saw_all, slot_keeps, pad_keeps}
use Rattle.history.proofs.View.{Truth, View, view_of, at, work, mark, with_mark}
use Rattle.history.proofs.Fitting.{fits_phase, flush_past}
use Rattle.history.proofs.Good.{Good, commit_back, seq_back, stored_view}

-- the padding's size
pad_size : (p W S : ℕ) → sizes (pad p W S) ≡ S - W % S
unfolding sum_by
pad_size p W S = omega arith

module _ (r : Ring) (l : Log) (t : Truth) (p : ℕ) (lt : p < r.producers) (fits : fits_of (get_or r.producer p nobody) r.size ≡ true)
    (soon : Soon (view_of r l t)) (I : Core (view_of r l t)) (K : KeepOf (view_of r l t)) where
  abbrev w : View
  w = view_of r l t

  abbrev q : Producer
  q = at w p

  mine : Own w p q (work w p) (mark w p)
  mine = I.prod p lt

  -- ---- swap

  -- the ring after it
  abbrev swapped_view : Producer → Position → Log → Truth → View
  swapped_view q' x l' t' =
      record { S = r.size; N = r.parts; P = r.producers; write = x.0; read = r.read.0; commit = r.commit; seq = r.seq; producer = set r.producer p q'; hold = r.holding; start = l'.start; W = l'.write; rk = l'.start / r.size + l'.back; pieces = l'.pieces; works = l'.works; truth = t' }

  swap_view : (k : ℕ) (q' : Producer) (x : Position) (lost : ℕ) (l' : Log) (t' : Truth) → view_of (stored_of r p k (take_swap (swapped q' x lost) (shared_at r k))) l' t' ≡ swapped_view q' x l' t'
  swap_view k q' x lost l' t' =
      stored_view r p k (take_swap (swapped q' x lost) (shared_at r k)) r.commit r.seq (commit_back r k) (seq_back r k) l' t'

  -- its answer, case by case
  pub swap_good : (k : ℕ) (q' : Producer) (x : Position) (lost : ℕ) (l' : Log) (t' : Truth) → KeepOf (swapped_view q' x l' t') → Core (swapped_view q' x l' t') →
      Good (stored_of r p k (take_swap (swapped q' x lost) (shared_at r k))) l'
  swap_good k q' x lost l' t' keep core =
      record { truth = t'; core = subst Core (sym (swap_view k q' x lost l' t')) core; keep = keep }

  -- the phase after a slot is reserved
  after_is : (f : Fit) (closes enters : Bool) → closes ≡ is_closing f → enters ≡ is_entering f → ◌≡◌ {A = ℕ} (cond closes 4 (cond enters 9 14)) (landing f)
  unfolding landing
  after_is entering c d ec ed = rw (ec, ed)
  after_is inside c d ec ed = rw (ec, ed)
  after_is closing c d ec ed = rw ec

  -- the slot that the log notes, by the record's size
  slot_log : (bytes : List ℕ) (z : ℕ) → bytes_of (event_at l (work_at l p).event) ≡ bytes → z ≡ length bytes →
      note_slot p r.size l
      ≡ note_reserved p (fit_of (l.write % r.size) z r.size) (pieces (fit_of (l.write % r.size) z r.size) p l.write r.size (work_at l p).event bytes) l
  unfolding note_slot
  slot_log bytes z e f =
      ap₂ (λ (b : List ℕ) (n : ℕ). note_reserved p (fit_of (l.write % r.size) n r.size) (pieces (fit_of (l.write % r.size) n r.size) p l.write r.size (work_at l p).event b) l)
      e (ap length e ∙ sym f)

  module _ (e : row_of q.phase ≡ swapping) (k : ℕ) where
    seen : Looked q (work w p) (mark w p) w.W
    unfolding says
    seen = mine.looks (rw e tt)

    -- another write count: back to read
    failed : Good (stored_of r p k (take_swap (swapped (to_phase 1 q) r.write r.lost) (shared_at r k))) l
    unfolding says row_of calm
    failed =
        swap_good k (to_phase 1 q) r.write r.lost l t K
        (off_keeps w p 1 lt (subst (λ y. T (calm (says (row_of 1)) (says y))) (sym e) tt) (λ u. u) (λ u. u) (λ u. absurd u) I)

    -- full: a loss
    gone : (lost : ℕ) (f : Fate) → Good (stored_of r p k (take_swap (swapped (to_phase 0 q) r.write lost) (shared_at r k))) (note_fate p f l)
    unfolding says row_of calm note_fate
    gone lost f =
        swap_good k (to_phase 0 q) r.write lost (note_fate p f l) t K
        (off_keeps w p 0 lt (subst (λ y. T (calm (says (row_of 0)) (says y))) (sym e) tt) (λ u. u) (λ u. u) (λ u. absurd u) I)

    module _ (same : r.write.0 ≡ q.w.0) where
      saw : (mark w p).saw ≡ l.write
      saw = saw_all w p lt e soon I same

      abbrev now_seen : Truth
      now_seen = with_mark p (record { saw = l.write; v = (mark w p).v; s = (mark w p).s; bytes = (mark w p).bytes }) t

      -- a flush closes the newest part
      closes : q.z ≡ 0 → Good (stored_of r p k (take_swap (swapped (to_phase 4 q) (next_of q.w r.size) r.lost) (shared_at r k))) (note_pad p r.size l)
      unfolding note_pad note_reserved
      closes fl =
          swap_good k (to_phase 4 q) (next_of q.w r.size) r.lost (note_pad p r.size l) now_seen K
          (rw total (pad_keeps w p lt e soon I same fl past (next_of q.w r.size).0
          (next_is I.shape q (mark w p).saw seen.w_is ∙ ap (λ x. (x + (r.size - x % r.size)) % word) saw)))
        where
          total : l.write + sizes (pad p l.write r.size) ≡ l.write + (r.size - l.write % r.size)
          total = ap (λ x. l.write + x) (pad_size p l.write r.size)

          past : 0 < l.write % r.size
          past =
              let o : offset_of q.w r.size ≡ l.write % r.size = off_is I.shape q (mark w p).saw seen.w_is ∙ ap (λ x. x % r.size) saw in
              omega (arith, o, flush_past q r.size fl (fits_phase q r.size swapping fits e))

      -- an event with room takes its slot
      takes : Event q → q.full ≡ false → bytes_of (event_at l (work_at l p).event) ≡ (mark w p).bytes →
          Good (stored_of r p k (take_swap (swapped (to_phase (after_swap (place_at q r.size)) q) (place_at q r.size).e r.lost) (shared_at r k))) (note_slot p r.size l)
      unfolding note_reserved says
      takes ev free b =
          rw (after_is fit _ _ S.closes S.enters, slot_log (mark w p).bytes q.z b sized.long)
          (swap_good k (to_phase (landing fit) q) (place_at q r.size).e r.lost _ now_seen K
          (rw total (slot_keeps w p lt e soon I same ev room' (place_at q r.size).e.0 S.e)))
        where
          fit : Fit
          fit = fit_of (l.write % r.size) q.z r.size

          S : Spot I.shape q l.write (seen.w_is ∙ ap (λ x. x % word) saw) fit (place_at q r.size)
          S = spot I.shape q l.write (seen.w_is ∙ ap (λ x. x % word) saw)

          sized : Sized r.size q (mark w p)
          sized = mine.sized (rw e tt) ev

          room' : is_entering fit ≡ true → part_in fit r.size l.write < t.lo + r.parts
          room' = subst (λ x. is_entering (fit_of (x % r.size) q.z r.size) ≡ true → part_in (fit_of (x % r.size) q.z r.size) r.size x < t.lo + r.parts) saw (mine.roomy (rw e tt) ev free)

          total : l.write + sizes (pieces fit p l.write r.size (work_at l p).event (mark w p).bytes) ≡ l.write + (skip fit r.size (l.write % r.size) + length (mark w p).bytes)
          total = ap (λ x. l.write + x) (pieces_size r.size (s_pos I.shape) p (work_at l p).event (mark w p).bytes fit l.write)

    -- the row as a whole
    pub swapping_good : (Event q → bytes_of (event_at l (work_at l p).event) ≡ (mark w p).bytes) →
        Good (stored_of r p k (take_swap (swap_row q r.write r.lost r.size) (shared_at r k)))
        (note_swap (eqb r.write.0 q.w.0) (flushing q) q.full p r.size l)
    swapping_good b = go (ℕ_discrete r.write.0 q.w.0) (ℕ_discrete q.z 0) q.full refl
      where
        noted : (l' : Log) → note_swap (eqb r.write.0 q.w.0) (flushing q) q.full p r.size l ≡ l' →
            (x : Swapped) → swap_row q r.write r.lost r.size ≡ x → Good (stored_of r p k (take_swap x (shared_at r k))) l' →
            Good (stored_of r p k (take_swap (swap_row q r.write r.lost r.size) (shared_at r k)))
            (note_swap (eqb r.write.0 q.w.0) (flushing q) q.full p r.size l)
        noted l' e x f g = subst₂ (λ y m. Good (stored_of r p k (take_swap y (shared_at r k))) m) (sym f) (sym e) g

        go : Dec (r.write.0 ≡ q.w.0) → Dec (q.z ≡ 0) → (full : Bool) → q.full ≡ full →
            Good (stored_of r p k (take_swap (swap_row q r.write r.lost r.size) (shared_at r k)))
            (note_swap (eqb r.write.0 q.w.0) (flushing q) q.full p r.size l)
        go (no n) z full f = noted l (rw (ne_eqb r.write.0 q.w.0 n)) _ (swap_failed q r.write r.lost r.size n) failed
        go (yes s) (yes z) full f =
            noted (note_pad p r.size l) (rw (eq-eqb r.write.0 q.w.0 s, eq-eqb q.z 0 z)) _ (swap_flush q r.write r.lost r.size s z) (closes s z)
        go (yes s) (no n) true f =
            noted (note_fate p gone-lost l) (rw (eq-eqb r.write.0 q.w.0 s, ne_eqb q.z 0 n, f)) _ (swap_full q r.write r.lost r.size s n f) (gone _ gone-lost)
        go (yes s) (no n) false f =
            noted (note_slot p r.size l) (rw (eq-eqb r.write.0 q.w.0 s, ne_eqb q.z 0 n, f)) _ (swap_room q r.write r.lost r.size s n f) (takes s n f (b n))
