-- Every row of the step table keeps the invariant of positions, commit counts and seqs.
use Prim.Native.Nat.{ℕ, ◌<◌}
use mathlib.Core.Path.{◌≡◌, refl}
use mathlib.Core.Bool.{true, false≢true}
use lib.ListN.{get_or}
use Rattle.steps.specs.declared.producer.Producer.{Producer}
use Rattle.steps.specs.Fits.{phase_fits, fits_of}
use Rattle.steps.specs.Producer.{nobody}
use Rattle.steps.specs.Step.{Row, idle, reading, judging, swapping, closing as shutting, opening, writing, ending, committing, nothing, row_of, moved_by, part_by, step_by, part_at}
use Rattle.ring.specs.declared.state.Ring.{Ring}
use Rattle.ring.specs.Calls.{stepped as afterStep}
use Rattle.ring.specs.State.{shared_at, stored_of}
use Rattle.history.specs.Log.{Log, work_at, event_at, bytes_of, note_judge}
use Rattle.history.specs.History.{note_row}
use Rattle.history.proofs.Invariant.{says, Event, Core, KeepOf, Soon}
use Rattle.history.proofs.Move.{calm}
use Rattle.history.proofs.View.{Truth, View, view_of, at, mark}
use Rattle.history.proofs.Fitting.{fits_phase}
use Rattle.history.proofs.Good.{Good}
use Rattle.history.proofs.RowsAlone.{reading_good, judging_good, goes, opening_good, writing_good}
use Rattle.history.proofs.RowsSwap.{swapping_good}
use Rattle.history.proofs.RowsCommit.{commit_good}

module _ (r : Ring) (l : Log) (t : Truth) (p : ℕ) (lt : p < r.producers) (fits : fits_of (get_or r.producer p nobody) r.size ≡ true)
    (soon : Soon (view_of r l t)) (I : Core (view_of r l t)) (K : KeepOf (view_of r l t)) where
  abbrev w : View
  w = view_of r l t

  abbrev q : Producer
  q = at w p

  row_good : (x : Row) → row_of q.phase ≡ x → (Event q → bytes_of (event_at l (work_at l p).event) ≡ (mark w p).bytes) →
      Good (stored_of r p (part_by x q r.size r.parts) (moved_by x q (shared_at r (part_by x q r.size r.parts)) r.size r.parts)) (note_row x r p l)
  unfolding moved_by note_row note_judge says row_of calm phase_fits
  row_good idle e b = absurd (false≢true (fits_phase q r.size idle fits e))
  row_good reading e b = reading_good r l t p lt fits soon I K e _
  row_good judging e b = let G = judging_good r l t p lt fits soon I K e (part_by judging q r.size r.parts) in record { truth = G.truth; core = G.core; keep = G.keep }
  row_good swapping e b = swapping_good r l t p lt fits soon I K e _ b
  row_good shutting e b = goes r l t p lt fits soon I K shutting e 5 _ tt (λ u. u) (λ u. u) (λ u. absurd u)
  row_good opening e b = opening_good r l t p lt fits soon I K e _
  row_good writing e b = writing_good r l t p lt fits soon I K e _
  row_good ending e b = goes r l t p lt fits soon I K ending e 16 _ tt (λ u. u) (λ u. u) (λ u. (I.prod p lt).all (rw e tt))
  row_good (committing whose stage) e b = commit_good r l t p lt fits soon I K whose stage e
  row_good nothing e b = absurd (false≢true (fits_phase q r.size nothing fits e))

  pub step_good : (Event q → bytes_of (event_at l (work_at l p).event) ≡ (mark w p).bytes) → Good (afterStep r p) (note_row (row_of q.phase) r p l)
  unfolding afterStep step_by part_at
  step_good b = row_good (row_of q.phase) refl b
