-- For each clause of the promise a wrong world that it refuses.
use Prim.Native.Nat.{ℕ}
use mathlib.Core.List.{List, [], ◌∷◌, ◌++◌}
use lib.ListN.{get_or, take, drop, set, replicate}
use Rattle.steps.specs.Producer.{nobody}
use Rattle.ring.specs.State.{with_producer}
use Rattle.ring.specs.World.{World}
use Rattle.history.specs.History.{Moment}
use Rattle.history.specs.Log.{Log, no_note, lost, event_at, piece_at, with_events, with_pieces, judged, settled, note_get}
use Rattle.history.specs.Promise.{Fates, Losses, Counts, Once, Stand, Parts, Held}
use Rattle.history.proofs.Histories.{waiting, resumed, confirmed, flushed}

-- another world, another log
abbrev in_world : World → Moment → Moment
in_world w m = record { world = w; log = m.log }

abbrev with_log : Log → Moment → Moment
with_log l m = record { world = m.world; log = l }

-- an event is open, and its producer has forgotten it
abbrev pub forgotten : Moment
forgotten =
    in_world (record { ring = with_producer 0 nobody waiting.world.ring; memory = waiting.world.memory; desks = waiting.world.desks }) waiting

-- an event is lost, though a part was free when it was judged
abbrev pub lost_with_room : Moment
lost_with_room = with_log (with_events (set confirmed.log.events 2 (judged no_note (event_at confirmed.log 2))) confirmed.log) confirmed

-- a lost event that the ring has not counted
abbrev pub uncounted : Moment
uncounted = with_log (with_events (confirmed.log.events ++ settled lost (event_at confirmed.log 0) ∷ []) confirmed.log) confirmed

-- an event with two slots
abbrev pub twice : Moment
twice = with_log (with_pieces (confirmed.log.pieces ++ piece_at confirmed.log 1 ∷ []) confirmed.log) confirmed

-- the part that was delivered last, with other bytes
abbrev redelivered : (List ℕ → List ℕ) → Moment
redelivered f = with_log (note_get (f (get_or resumed.log.delivered 0 [])) waiting.log) resumed

-- two records of a part out of order
abbrev pub disordered : Moment
disordered = redelivered (λ l. take 16 l ++ (take 24 (drop 24 l) ++ (take 8 (drop 16 l) ++ drop 48 l)))

-- a record comes over twice: its part is delivered again
abbrev pub again : Moment
again = with_log (note_get (get_or resumed.log.delivered 0 []) resumed.log) resumed

-- a part delivered with an empty slot in it: as its bytes were while the save was interrupted
abbrev pub empty_slot : Moment
empty_slot = with_log (note_get (take 64 waiting.world.memory) waiting.log) waiting

-- a part that was written to while it was held
abbrev pub disturbed : Moment
disturbed = in_world (record { ring = flushed.world.ring; memory = replicate 128 0; desks = flushed.world.desks }) flushed

-- each is refused by its clause
abbrev pub AllWrong : Type 0
AllWrong =
    (Fates forgotten → ⊥)
    × (Losses lost_with_room → ⊥)
    × (Counts uncounted → ⊥)
    × (Once twice → ⊥)
    × (Stand disordered → ⊥)
    × (Stand again → ⊥)
    × (Parts empty_slot → ⊥)
    × (Held disturbed → ⊥)
