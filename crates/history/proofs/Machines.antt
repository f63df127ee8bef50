-- Machines that differ from the ring in a row or in the ready test, and their histories.
use Prim.Native.Nat.{ℕ}
use mathlib.Core.Path.{◌≡◌, refl, ◌∙◌, ap}
use mathlib.Core.Bool.{Bool, true, cond}
use mathlib.Core.List.{List, [], ◌∷◌}
use lib.Dec.{eqb}
use Rattle.counts.specs.Shape.{shape_of}
use Rattle.steps.specs.declared.producer.Producer.{Producer}
use Rattle.steps.specs.declared.step.Moved.{Moved}
use Rattle.steps.specs.declared.step.Shared.{Shared}
use Rattle.steps.specs.Bytes.{bytes_by}
use Rattle.steps.specs.Step.{Row, row_of, moved_by, step_by, part_at}
use Rattle.ring.specs.declared.state.Ring.{Ring}
use Rattle.ring.specs.Calls.{changed, stepped, step_of, step_bytes, get_of, held_of}
use Rattle.ring.specs.Refusals.{get_refusal, ready_at}
use Rattle.ring.specs.State.{at, shared_at, stored_of, with_holding}
use Rattle.ring.specs.World.{World, Call, offer, flush, step, get, put, code_of, after}
use Rattle.history.specs.Log.{Log, note_get}
use Rattle.history.specs.History.{Moment, note_row, note_call, next, ends}

-- what each row does to the state, to memory and to the log; and the ready test of get
pub record Machine : Type 0 where
  pub moves : Row → Producer → Shared → (S N : ℕ) → Moved
  pub bytes : Row → Producer → (p lost S N : ℕ) → (ring desks : List ℕ) → List ℕ
  pub notes : Row → Ring → (p : ℕ) → Log → Log
  pub ready : Ring → Bool

-- the ring's own
abbrev pub ours : Machine
ours = record { moves = moved_by; bytes = bytes_by; notes = note_row; ready = λ r. ready_at r r.read }

module _ (M : Machine) where
  -- 0, or the refusal's number
  abbrev code : World → Call → ℕ
  code w (offer p kind payload) = code_of w (offer p kind payload)
  code w (flush p) = code_of w (flush p)
  code w (step p) = code_of w (step p)
  code w get =
      let r = w.ring in
      cond (shape_of r.size r.parts r.producers) (cond r.holding 8 (cond (M.ready r) 0 7)) 1
  code w put = code_of w put

  abbrev moved : Ring → (p : ℕ) → Ring
  moved r p =
      let q = at r p in
      let k = part_at q r.size r.parts in
      stored_of r p k (M.moves (row_of q.phase) q (shared_at r k) r.size r.parts)

  abbrev wrote : World → (p : ℕ) → List ℕ
  wrote w p =
      let r = w.ring in
      M.bytes (row_of (at r p).phase) (at r p) p r.lost r.size r.parts w.memory w.desks

  abbrev behind : World → Call → World
  behind w (offer p kind payload) = after w (offer p kind payload)
  behind w (flush p) = after w (flush p)
  behind w (step p) =
      record { ring = cond (eqb (code w (step p)) 0) (moved w.ring p) w.ring; memory = changed (code w (step p)) (wrote w p) w.memory; desks = w.desks }
  behind w get = record { ring = cond (eqb (code w get) 0) (with_holding true w.ring) w.ring; memory = w.memory; desks = w.desks }
  behind w put = after w put

  abbrev note : World → Call → Log → Log
  note w (offer p kind payload) l = note_call w (offer p kind payload) l
  note w (flush p) l = note_call w (flush p) l
  note w (step p) l = M.notes (row_of (at w.ring p).phase) w.ring p l
  note w get l = note_get (held_of (behind w get).ring w.memory) l
  note w put l = note_call w put l

  abbrev pub next_by : Moment → Call → Moment
  next_by m c = record { world = behind m.world c; log = cond (eqb (code m.world c) 0) (note m.world c m.log) m.log }

  unfoldable pub ends_by : Moment → List Call → Moment
  ends_by m [] = m
  ends_by m (c ∷ cs) = ends_by (next_by m c) cs

-- the histories of our machine are those that the promise is about
pub ours_next : (m : Moment) (c : Call) → next_by ours m c ≡ next m c
unfolding next code_of after note_call step_of stepped step_by step_bytes get_of get_refusal
ours_next m (offer p kind payload) = refl
ours_next m (flush p) = refl
ours_next m (step p) = refl
ours_next m get = refl
ours_next m put = refl

pub ours_ends : (m : Moment) (h : List Call) → ends_by ours m h ≡ ends m h
unfolding ends_by ends
ours_ends m [] = refl
ours_ends m (c ∷ cs) = ours_ends (next_by ours m c) cs ∙ ap (λ x. ends x cs) (ours_next m c)
