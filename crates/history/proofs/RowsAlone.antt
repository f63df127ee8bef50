-- The rows of a producer that write no count: read, judge, close, open, write and end.
use Prim.Native.Nat.{ℕ, ◌+◌, ◌*◌, ◌%◌, ◌≤◌, ◌<◌}
use mathlib.Core.Path.{◌≡◌, refl, sym, ap, subst, subst₂, ◌∙◌}
use mathlib.Core.Bool.{Bool, true, false, cond, ◌&&◌, false≢true}
use native.Mathlib.Decide.{dec_lt, ℕ_discrete}
use native.Mathlib.Omega.{arith}
use lib.Dec.{T}
use lib.ListN.{get_or}
use borrow.Author.Tests.{leb-false}
use Rattle.counts.specs.Place.{full_of}
use Rattle.counts.specs.PlaceLaws.{fit_is}
use Rattle.counts.specs.Position.{offset_of, since_of}
use Rattle.counts.specs.Wrap.{word, add32, sub32}
use Rattle.steps.specs.declared.producer.Producer.{Producer}
use Rattle.steps.specs.Fits.{phase_fits, fits_of}
use Rattle.steps.specs.Producer.{nobody, to_phase, with_done, place_at}
use Rattle.steps.specs.Rows.{read_row, judge_row, chunk_of, write_row}
use Rattle.steps.specs.RowsLaws.{read_event, read_idle, read_flush, write_on, write_last}
use Rattle.steps.specs.Step.{Row, reading, judging, opening, writing, row_of, moved as still}
use Rattle.ring.specs.declared.state.Ring.{Ring}
use Rattle.ring.specs.State.{shared_at, stored_of}
use Rattle.history.specs.Log.{Log, note_open}
use Rattle.history.specs.Premise.{half}
use Rattle.history.proofs.Coords.{part_near, part_in, is_entering, Spot, spot}
use Rattle.history.proofs.Geometry.{s_pos, small, two_parts, lt_of_mul}
use Rattle.history.proofs.Invariant.{says, says_of, Event, fit_in, Looked, Sized, Own, Core, KeepOf, Soon}
use Rattle.history.proofs.Jobs.{off_keeps}
use Rattle.history.proofs.Move.{calm}
use Rattle.history.proofs.Simple.{read_keeps, read_flush_keeps, read_end_keeps, judge_keeps, write_keeps, open_keeps}
use Rattle.history.proofs.View.{Truth, View, view_of, at, work, mark, stepped, with_pieces}
use Rattle.history.proofs.Fitting.{fits_phase, fits_done, not_zero, open_event, chunk_end}
use Rattle.history.proofs.Good.{Good, still_view, quiet}

-- a distance below B, of two positions that lie less than 2^31 apart
order : (x y B : ℕ) → B ≤ 65536 → x < y + half → y < x + half → sub32 (x % word) (y % word) < B → x < y + B
unfolding sub32
order x y B a b c d = omega arith

module _ (r : Ring) (l : Log) (t : Truth) (p : ℕ) (lt : p < r.producers) (fits : fits_of (get_or r.producer p nobody) r.size ≡ true)
    (soon : Soon (view_of r l t)) (I : Core (view_of r l t)) (K : KeepOf (view_of r l t)) where
  abbrev w : View
  w = view_of r l t

  abbrev q : Producer
  q = at w p

  mine : Own w p q (work w p) (mark w p)
  mine = I.prod p lt

  -- ---- read

  pub reading_good : row_of q.phase ≡ reading → (k : ℕ) → Good (stored_of r p k (still (read_row q r.write r.size) (shared_at r k))) l
  reading_good e k = go (ℕ_discrete q.z 0) (ℕ_discrete (offset_of r.write r.size) 0)
    where
      go : Dec (q.z ≡ 0) → Dec (offset_of r.write r.size ≡ 0) → Good (stored_of r p k (still (read_row q r.write r.size) (shared_at r k))) l
      go (no n) o = rw (read_event q r.write r.size n) (quiet r l t p K k _ _ refl refl (read_keeps w p lt I e))
      go (yes z) (yes o) = rw (read_idle q r.write r.size z o) (quiet r l t p K k _ _ refl refl (read_end_keeps w p lt I e))
      go (yes z) (no o) = rw (read_flush q r.write r.size z o) (quiet r l t p K k _ _ refl refl (read_flush_keeps w p lt I e z))

  -- ---- judge

  L : T (says_of q).looked → Looked q (work w p) (mark w p) w.W
  L = mine.looks

  -- where the test finds room, the part to be entered is in the window
  room : row_of q.phase ≡ judging → full_of (place_at q r.size) r.read r.size r.parts ≡ false → is_entering (fit_in r.size q (mark w p)) ≡ true →
      part_in (fit_in r.size q (mark w p)) r.size (mark w p).saw < t.lo + r.parts
  unfolding full_of since_of says
  room e full enters =
      lt_of_mul r.size _ (t.lo + r.parts)
      (omega (
        arith,
        order (part * r.size) (t.lo * r.size) (r.size * r.parts) (small I.shape)
            (omega (arith, near.1, look.before, I.span.high, small I.shape, two_parts I.shape))
            (omega (arith, near.0, look.after, soon p lt (rw e tt), I.span.low))
            (subst₂ (λ a b. sub32 a b < r.size * r.parts) S.t at_read (leb-false (r.size * r.parts) _ (no_room _ _ (S.enters ∙ enters) full))),
      ))
    where
      look : Looked q (work w p) (mark w p) w.W
      look = mine.looks (rw e tt)

      S : Spot I.shape q (mark w p).saw look.w_is (fit_in r.size q (mark w p)) (place_at q r.size)
      S = spot I.shape q (mark w p).saw look.w_is

      part : ℕ
      part = part_in (fit_in r.size q (mark w p)) r.size (mark w p).saw

      near : ((mark w p).saw ≤ part * r.size) × (part * r.size ≤ (mark w p).saw + r.size)
      near = part_near r.size (s_pos I.shape) _ (mark w p).saw q.z (fit_is _ _ _) enters

      at_read : r.read.0 ≡ t.lo * r.size % word
      at_read = I.rem.read ∙ ap (λ y. y * r.size % word) (sym K.here)

      no_room : (a b : Bool) → a ≡ true → (a && b) ≡ false → b ≡ false
      no_room true b e h = h
      no_room false b e h = absurd (false≢true e)

  pub judging_good : row_of q.phase ≡ judging → (k : ℕ) → Good (stored_of r p k (still (judge_row q r.read r.size r.parts) (shared_at r k))) l
  unfolding judge_row
  judging_good e k = quiet r l t p K k _ _ refl refl (judge_keeps w p lt I e _ (room e))

  -- ---- close, open, write, end

  -- p goes on at phase ph, which asks for nothing new
  pub goes : (x : Row) → row_of q.phase ≡ x → (ph k : ℕ) → T (calm (says (row_of ph)) (says x)) → (T (says (row_of ph)).raising → ⊥) → (T (says (row_of ph)).setting → ⊥) →
      (T (says (row_of ph)).whole → q.done ≡ q.z) → Good (stored_of r p k (still (to_phase ph q) (shared_at r k))) l
  goes x e ph k u a b c =
      quiet r l t p K k (to_phase ph q) t refl refl (off_keeps w p ph lt (subst (λ y. T (calm (says (row_of ph)) (says y))) (sym e) u) a b c I)

  pub opening_good : row_of q.phase ≡ opening → (k : ℕ) → Good (stored_of r p k (still (to_phase 10 q) (shared_at r k))) (note_open p l)
  unfolding note_open
  opening_good e k =
      record {
        truth = t;
        core = subst Core (sym view) (open_keeps w p lt I e ev _);
        keep = K;
      }
    where
      ev : Event q
      ev = open_event q r.size (fits_phase q r.size opening fits e)

      view : view_of (stored_of r p k (still (to_phase 10 q) (shared_at r k))) (note_open p l) t ≡ stepped p (to_phase 10 q) t (with_pieces (note_open p l).pieces w)
      view = still_view r p k (note_open p l) t (to_phase 10 q) t

  pub writing_good : row_of q.phase ≡ writing → (k : ℕ) → Good (stored_of r p k (still (write_row q r.size) (shared_at r k))) l
  unfolding says row_of calm phase_fits
  writing_good e k = go (dec_lt d q.z)
    where
      d : ℕ
      d = add32 q.done (chunk_of q)

      sized : Sized r.size q (mark w p)
      sized = mine.sized (rw e tt) (not_zero q.z (fits_phase q r.size writing fits e))

      le : d ≤ q.z
      le = chunk_end q (fits_done q r.size fits) (omega (arith, sized.fits, I.shape.size_high))

      last : (b : Bool) → q.z ≤ d → Good (stored_of r p k (still (to_phase (cond b 15 16) (with_done d q)) (shared_at r k))) l
      last true h = quiet r l t p K k _ _ refl refl (write_keeps w p lt I e 15 d le tt (λ u. u) (λ u. u) (λ u. omega (arith, le)))
      last false h = quiet r l t p K k _ _ refl refl (write_keeps w p lt I e 16 d le tt (λ u. u) (λ u. u) (λ u. omega (arith, le)))

      go : Dec (d < q.z) → Good (stored_of r p k (still (write_row q r.size) (shared_at r k))) l
      go (yes h) =
          rw (write_on q r.size h)
          (quiet r l t p K k _ _ refl refl (write_keeps w p lt I e q.phase d le (subst (λ y. T (calm (says y) (says writing))) (sym e) tt)
          (λ u. subst (λ y. T (says y).raising) e u) (λ u. subst (λ y. T (says y).setting) e u) (λ u. absurd (subst (λ y. T (says y).whole) e u))))
      go (no h) = rw (write_last q r.size (omega arith)) (last (place_at q r.size).ends (omega arith))
