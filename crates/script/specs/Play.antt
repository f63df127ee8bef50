-- Doing a line (document 01, "The replay program").
use Rattle.std.specs.Prelude.{ℕ, ◌*◌, Bool, true, false, cond, List, [], ◌∷◌, ◌++◌, ◌==◌, length, take, drop, find, replicate, Option, Some, None, is_some, Result, Ok, Err}
use Rattle.std.specs.Option.{option_map_or}
use Rattle.counts.specs.Position.{position}
use Rattle.ring.specs.declared.refusal.Refusal.{Refusal}
use Rattle.ring.specs.declared.refusal.Refusal.TheVariants.{NotAllowed, OffStart, NoProducer, NotIdle, TooLong, Idle, NotReady, Holding, NotHolding, NoRow}
use Rattle.ring.specs.declared.state.Answer.{Answer}
use Rattle.ring.specs.declared.state.Ring.{Ring}
use Rattle.runs.specs.Run.{run_of, run_bytes}
use Rattle.ring.specs.Calls.{answered, fresh_of, offer_of, offer_bytes, flush_of, step_of, step_bytes, get_of, put_of}
use Rattle.ring.specs.State.{zeros, says}
use Rattle.ring.specs.Told.{number_of, code_told}
use Rattle.lines.specs.declared.line.Line.{Line}
use Rattle.lines.specs.declared.line.Line.TheVariants.{New, Offer, Flush, Step, Run, Get, Put}
use Rattle.script.specs.declared.play.Play.{Play}
use Rattle.script.specs.declared.play.Play.TheVariants.{Waiting, Going, Over}

-- ---- what is lent: ring memory of exactly S-as-N bytes and desks of exactly P-as-S bytes, each the front of a larger buffer

abbrev pub memory_lent : Ring → (memory : List ℕ) → List ℕ
memory_lent r memory = take (r.size * r.parts) memory

abbrev pub desks_lent : Ring → (desks : List ℕ) → List ℕ
desks_lent r desks = take (r.producers * r.size) desks

-- ---- the call that a line makes of a ring: its answer, ring memory and desks

unfoldable pub answer_of : Ring → Line → (memory desks : List ℕ) → Answer
answer_of r (Offer p kind L) memory desks = offer_of r p L (length (desks_lent r desks))
answer_of r (Flush p) memory desks = flush_of r p
answer_of r (Step p) memory desks = step_of r p (length (memory_lent r memory)) (length (desks_lent r desks))
answer_of r (Run p) memory desks = run_of r p (memory_lent r memory) (desks_lent r desks)
answer_of r Get memory desks = get_of r
answer_of r Put memory desks = put_of r
answer_of r (New S N P start) memory desks = fresh_of S N P (position start)

unfoldable pub memory_of : Ring → Line → (memory desks : List ℕ) → List ℕ
memory_of r (Step p) memory desks = step_bytes r p (memory_lent r memory) (desks_lent r desks) ++ drop (r.size * r.parts) memory
memory_of r (Run p) memory desks = run_bytes r p (memory_lent r memory) (desks_lent r desks) ++ drop (r.size * r.parts) memory
memory_of r (New S N P start) memory desks = memory
memory_of r (Offer p kind L) memory desks = memory
memory_of r (Flush p) memory desks = memory
memory_of r Get memory desks = memory
memory_of r Put memory desks = memory

-- payload is L bytes equal to kind
unfoldable pub desks_of : Ring → Line → (desks : List ℕ) → List ℕ
desks_of r (Offer p kind L) desks = offer_bytes r p kind (replicate L kind) (desks_lent r desks) ++ drop (r.producers * r.size) desks
desks_of r (New S N P start) desks = desks
desks_of r (Flush p) desks = desks
desks_of r (Step p) desks = desks
desks_of r (Run p) desks = desks
desks_of r Get desks = desks
desks_of r Put desks = desks

-- ---- the program

-- before the first line
abbrev pub start_play : Play
start_play = Waiting

-- the ring that was made, and what its last line was answered; a bad line that has ended the program leaves them
abbrev pub last_of : Play → Option (Ring × Result Unit Refusal)
last_of Waiting = None
last_of (Going r answer) = Some (r, answer)
last_of (Over last) = last

-- whether a ring was made; whether a bad line has ended the program; what the last line was answered, 0 before a ring is made; the ring,
-- all zeros before that
abbrev pub begun : Play → Bool
begun p = is_some (last_of p)

abbrev pub over : Play → Bool
over Waiting = false
over (Going r answer) = false
over (Over last) = true

abbrev pub code_in : Play → ℕ
code_in p = option_map_or (λ l. code_told l.1) (last_of p) 0

abbrev pub ring_of : Play → Ring
ring_of p = option_map_or (λ l. l.0) (last_of p) zeros

-- what was answered where document 01 has a number: 0 for done, or the refusal's
abbrev pub refusals : List Refusal
refusals = NotAllowed ∷ OffStart ∷ NoProducer ∷ NotIdle ∷ TooLong ∷ Idle ∷ NotReady ∷ Holding ∷ NotHolding ∷ NoRow ∷ []

abbrev pub answer_at : (code : ℕ) → Result Unit Refusal
answer_at code = option_map_or Err (find (λ r. number_of r == code) refusals) (Ok tt)

-- a ring that was made, and what it was answered
abbrev pub play_of : Answer → Play
play_of a = Going a.ring (answer_at a.code)

-- a line that may stand where it does: the first one must be a new
abbrev pub allowed : (begun : Bool) → Line → Bool
allowed begun (New S N P start) = true
allowed begun (Offer p kind L) = begun
allowed begun (Flush p) = begun
allowed begun (Step p) = begun
allowed begun (Run p) = begun
allowed begun Get = begun
allowed begun Put = begun

-- a refused call keeps the old ring, a new's too
abbrev pub kept_of : Ring → Answer → Answer
kept_of r a = answered a.code a.ring r

-- a bad line, which is none, ends the program, and what stood before it stays
abbrev pub ended_of : Play → Play
ended_of p = Over (last_of p)

-- a play that a bad line ended goes on from what stood; any other is left as it is
abbrev pub resumed_of : Play → Play
resumed_of p = option_map_or (λ l. Going l.0 l.1) (last_of p) Waiting

-- a first new makes a ring, or else is a bad line
abbrev pub begun_by : Option Ring → Play
begun_by None = ended_of start_play
begun_by (Some r) = play_of (says 0 r)

-- a refused call keeps the old ring; a refused first new ends the program
unfoldable pub answered_of : Play → Answer → Play
answered_of p a = cond (a.code == 0) (play_of (says 0 a.ring)) (cond (begun p) (play_of (says a.code (ring_of p))) (ended_of p))

unfoldable pub done_of : Play → Option Line → (memory desks : List ℕ) → Play
done_of p None memory desks = ended_of p
done_of p (Some line) memory desks = cond (allowed (begun p) line) (answered_of p (answer_of (ring_of p) line memory desks)) (ended_of p)

unfoldable pub done_memory : Play → Option Line → (memory desks : List ℕ) → List ℕ
done_memory p None memory desks = memory
done_memory p (Some line) memory desks = cond (allowed (begun p) line) (memory_of (ring_of p) line memory desks) memory

unfoldable pub done_desks : Play → Option Line → (desks : List ℕ) → List ℕ
done_desks p None desks = desks
done_desks p (Some line) desks = cond (allowed (begun p) line) (desks_of (ring_of p) line desks) desks
