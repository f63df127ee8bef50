-- No call touches, in the log or in memory, a part that is committed whole.
use Prim.Native.Nat.{ℕ, zero, suc, ◌+◌, ◌*◌, ◌%◌, ◌≤◌, ◌<◌}
use mathlib.Core.Path.{◌≡◌, refl, sym, ap, ◌∙◌}
use mathlib.Core.Logic.{◌≢◌}
use mathlib.Core.Bool.{Bool, true, false, not, false≢true}
use mathlib.Core.List.{List}
use native.Mathlib.Nat.{le_refl, mul-le-mul_right}
use native.Mathlib.Omega.{arith}
use lib.Dec.{eqb}
use lib.ListN.{length, get_or, drop, length-drop}
use lib.Seq.{length-take-le}
use Rattle.counts.specs.Tests.{and_left}
use Rattle.counts.specs.Wrap.{word}
use Rattle.layout.specs.Header.{mark_of}
use Rattle.steps.specs.declared.producer.Producer.{Producer}
use Rattle.steps.specs.Bytes.{put, bytes_by}
use Rattle.steps.specs.Fits.{phase_fits, fits_of}
use Rattle.steps.specs.Producer.{nobody, flushing}
use Rattle.steps.specs.Rows.{chunk_of}
use Rattle.steps.specs.Step.{Whose, padding, heading, slot, add, look, see, set as setting, Row, idle, reading, judging, swapping, closing as shutting, opening, writing, ending, committing, nothing, row_of}
use Rattle.ring.specs.declared.state.Ring.{Ring}
use Rattle.history.specs.Log.{Log, work_at, event_at, bytes_of, pad, note_judge, note_fate, note_reserved, note_slot, note_pad, note_open, note_add}
use Rattle.history.specs.History.{note_swap, note_row}
use Rattle.history.proofs.Add.{open_low, open_high}
use Rattle.history.proofs.Chain.{chain_fine}
use Rattle.history.proofs.Geometry.{s_pos}
use Rattle.history.proofs.Invariant.{says, Event, Own, Core}
use Rattle.history.proofs.Memory.{Stands, write_length, write_keeps}
use Rattle.history.proofs.Places.{close_writes, open_writes, write_writes, end_writes}
use Rattle.history.proofs.Reserve.{Open, pieces_open}
use Rattle.history.proofs.Fitting.{fits_phase, fits_done, not_zero, open_event, chunk_end, chunk_sum}
use Rattle.history.proofs.Settled.{Same, same_none, same_append, same_noted}
use Rattle.history.proofs.View.{Truth, View, view_of, at, work, mark, piece}

-- part k is committed whole
pub record Closed (v : View) (k : ℕ) : Type 0 where
  pub past : k * v.S + v.S ≤ v.W
  pub all : (j : ℕ) → j < length v.pieces → (piece v j).part ≡ k → (piece v j).committed ≡ true

module _ (r : Ring) (l : Log) (t : Truth) (p : ℕ) (lt : p < r.producers) (fits : fits_of (get_or r.producer p nobody) r.size ≡ true)
    (I : Core (view_of r l t)) (k : ℕ) (C : Closed (view_of r l t) k) where
  abbrev w : View
  w = view_of r l t

  abbrev q : Producer
  q = at w p

  mine : Own w p q (work w p) (mark w p)
  mine = I.prod p lt

  -- an open piece is not the part's
  elsewhere : (j : ℕ) → j < length l.pieces → (piece w j).committed ≡ false → (piece w j).part ≢ k
  elsewhere j h o e = false≢true (sym o ∙ C.all j h e)

  one_pad : Open r.size l.write (pad p l.write r.size)
  one_pad zero h = (refl, le_refl _)
  one_pad (suc i) h = absurd (omega arith)

  swap_same : (stores flushes full : Bool) → Same k l.pieces (note_swap stores flushes full p r.size l).pieces
  unfolding note_pad note_fate note_slot note_reserved
  swap_same true true full = same_append r.size l.write k l.pieces _ (s_pos I.shape) C.past one_pad
  swap_same true false true = same_none k l.pieces
  swap_same true false false =
      same_append r.size l.write k l.pieces _ (s_pos I.shape) C.past
      (pieces_open r.size (s_pos I.shape) p (work_at l p).event (bytes_of (event_at l (work_at l p).event)) _ l.write)
  swap_same false flushes full = same_none k l.pieces

  add_same : (whose : Whose) → row_of q.phase ≡ committing whose add → Same k l.pieces (note_add whose p l).pieces
  unfolding note_add note_fate says phase_fits
  add_same padding e = let H = mine.pads (rw e tt) in same_noted k l.pieces (work w p).padding _ true H.inlog (elsewhere _ H.inlog (ap (λ y. y.committed) H.entry))
  add_same heading e =
      let ev : Event q = not_zero q.z (and_left (not (flushing q)) _ (fits_phase q r.size (committing heading add) fits e)) in
      let H = mine.heads (rw e tt) ev in
      same_noted k l.pieces (work w p).heading _ true H.inlog (elsewhere _ H.inlog (ap (λ y. y.committed) H.entry))
  add_same slot e =
      let ev : Event q = not_zero q.z (fits_phase q r.size (committing slot add) fits e) in
      let H = mine.slots (rw e tt) ev in
      same_noted k l.pieces (work w p).slot _ true H.inlog (elsewhere _ H.inlog (ap (λ y. y.committed) H.entry))

  pub row_same : (x : Row) → row_of q.phase ≡ x → Same k l.pieces (note_row x r p l).pieces
  unfolding note_row note_judge note_open says
  row_same idle e = same_none k l.pieces
  row_same reading e = same_none k l.pieces
  row_same judging e = same_none k l.pieces
  row_same swapping e = swap_same (eqb r.write.0 q.w.0) (flushing q) q.full
  row_same shutting e = same_none k l.pieces
  row_same opening e =
      let H = mine.heads (rw e tt) (open_event q r.size (fits_phase q r.size opening fits e)) in
      same_noted k l.pieces (work w p).heading _ _ H.inlog (elsewhere _ H.inlog (ap (λ y. y.committed) H.entry))
  row_same writing e = same_none k l.pieces
  row_same ending e = same_none k l.pieces
  row_same (committing whose add) e = add_same whose e
  row_same (committing whose look) e = same_none k l.pieces
  row_same (committing whose see) e = same_none k l.pieces
  row_same (committing whose setting) e = same_none k l.pieces
  row_same nothing e = same_none k l.pieces

  -- ---- memory

  module _ (mem desks : List ℕ) (long : length mem ≡ r.size * r.parts) (desks_long : length desks ≡ r.producers * r.size) (low : t.lo ≤ k) (high : k < t.lo + r.parts) (bs : List ℕ)
      (st : Stands r.size r.parts mem k 0 bs r.size) where
    -- a write into an open piece
    stays : (j : ℕ) → j < length l.pieces → (piece w j).committed ≡ false → (mem₀ : List ℕ) → length mem₀ ≡ r.size * r.parts → Stands r.size r.parts mem₀ k 0 bs r.size →
        (o n : ℕ) (vs : List ℕ) → o + n ≤ r.size → length vs ≡ n → Stands r.size r.parts (put mem₀ ((piece w j).part % r.parts * r.size + o) n vs) k 0 bs r.size
    stays j h isopen mem₀ long₀ st₀ o n vs f v =
        write_keeps I.shape mem₀ long₀ (piece w j).part o n f vs v t.lo k 0 r.size bs (open_low w I j h isopen) (open_high w I j h isopen) low high (omega arith)
        (λ e. absurd (elsewhere j h isopen (sym e))) st₀

    pub row_stays : (x : Row) → row_of q.phase ≡ x → (n : ℕ) → r.lost ≡ n % word → Stands r.size r.parts (bytes_by x q p r.lost r.size r.parts mem desks) k 0 bs r.size
    unfolding bytes_by says phase_fits
    row_stays idle e n c = st
    row_stays reading e n c = st
    row_stays judging e n c = st
    row_stays swapping e n c = st
    row_stays shutting e n c =
        let H = mine.pads (rw e tt) in
        rw (close_writes w I mem desks long p lt r.lost e)
        (stays (work w p).padding H.inlog (ap (λ y. y.committed) H.entry) mem long st 6 2 _ (omega (arith, I.shape.size_low)) refl)
    row_stays opening e n c =
        let ev = open_event q r.size (fits_phase q r.size opening fits e) in
        let H = mine.heads (rw e tt) ev in
        let o = ap (λ y. y.committed) H.entry in
        rw (open_writes w I mem desks long p lt r.lost ev (rw e tt) (rw e tt) (rw e tt) (rw e tt) n c)
        (stays (work w p).heading H.inlog o _ (write_length I.shape mem long (piece w (work w p).heading).part 0 6 (omega (arith, I.shape.size_low)) mark_of refl)
        (stays (work w p).heading H.inlog o mem long st 0 6 mark_of (omega (arith, I.shape.size_low)) refl) 8 8 _ (omega (arith, I.shape.size_low)) refl)
    row_stays writing e n c =
        let ev : Event q = not_zero q.z (fits_phase q r.size writing fits e) in
        let H = mine.slots (rw e tt) ev in
        let sized = mine.sized (rw e tt) ev in
        let small : q.z < word = omega (arith, sized.fits, I.shape.size_high) in
        let room : q.done + chunk_of q ≤ q.z = omega (arith, chunk_end q (fits_done q r.size fits) small, chunk_sum q (fits_done q r.size fits) small) in
        let size_is : (piece w (work w p).slot).size ≡ q.z = ap (λ y. y.size) H.entry ∙ sym sized.long in
        rw (write_writes w I mem desks long p lt r.lost ev (rw e tt) (rw e tt) (rw e tt) room desks_long)
        (stays (work w p).slot H.inlog (ap (λ y. y.committed) H.entry) mem long st ((piece w (work w p).slot).offset + q.done) (chunk_of q) _
        (omega (arith, (chain_fine r.size l.start l.pieces l.write (work w p).slot I.chain H.inlog).inside, size_is, room))
        (length-take-le (chunk_of q) (drop (p * r.size + q.done) desks) (rw (length-drop (p * r.size + q.done) desks) (omega (arith, desks_long, mul-le-mul_right r.size lt, sized.fits, room)))))
    row_stays ending e n c =
        let ev : Event q = not_zero q.z (and_left (not (flushing q)) _ (fits_phase q r.size ending fits e)) in
        let H = mine.slots (rw e tt) ev in
        rw (end_writes w I mem desks long p lt r.lost ev (rw e tt) (rw e tt) (rw e tt))
        (stays (work w p).slot H.inlog (ap (λ y. y.committed) H.entry) mem long st 6 2 _ (omega (arith, I.shape.size_low)) refl)
    row_stays (committing whose stage) e n c = st
    row_stays nothing e n c = st
