-- Closed histories on which the promise is tried.
use Prim.Native.Nat.{ℕ}
use mathlib.Core.Path.{◌≡◌}
use mathlib.Core.List.{List, [], ◌∷◌, ◌++◌}
use lib.ListN.{length, replicate}
use Rattle.ring.specs.World.{Call, offer, flush, step, get, put}
use Rattle.history.specs.History.{Moment, ends, fresh}
use Rattle.history.specs.Promise.{Promise}
use Rattle.history.proofs.Decided.{counts}

-- n steps of p; those past its end are refused
abbrev pub run : (p n : ℕ) → List Call
run p n = replicate n (step p)

-- an event of producer p whose payload is L bytes equal to kind, and all its steps
abbrev pub event : (p kind L : ℕ) → List Call
event p kind L = offer p kind (replicate L kind) ∷ run p 40

-- from a ring of S = 64, N = 2, P = 3 whose memory and desks hold 7s
abbrev pub end : (start : ℕ) → List Call → Moment
end start h = ends (fresh 64 2 3 start (replicate 128 7) (replicate 192 7)) h

-- document 01's worked example
abbrev pub worked : Moment
worked = end 0 (event 0 1 2 ++ event 1 2 40 ++ get ∷ [] ++ event 0 3 2 ++ put ∷ [] ++ event 0 4 2)

-- a save interrupted before its first byte: others fill its part and close it, and get is refused while its slot is empty
abbrev pub interrupted : List Call
interrupted = offer 0 1 (replicate 4 1) ∷ run 0 3 ++ event 1 2 20 ++ event 2 3 40 ++ get ∷ []

abbrev pub waiting : Moment
waiting = end 0 interrupted

-- .. and accepted once it is written
abbrev pub resumed : Moment
resumed = end 0 (interrupted ++ run 0 40 ++ get ∷ [])

-- every part is occupied: a loss, confirmed by the second look at the write count
abbrev pub filled : List Call
filled = event 1 1 44 ++ event 1 2 2

abbrev pub confirmed : Moment
confirmed = end 0 (filled ++ event 0 3 40)

-- judged full, but the write count has moved meanwhile and a part was put back: written in the end
abbrev pub unconfirmed : Moment
unconfirmed = end 0 (filled ++ offer 0 3 (replicate 40 3) ∷ run 0 2 ++ event 1 4 2 ++ get ∷ put ∷ [] ++ run 0 40)

-- a flush closes a part, which is delivered and held
abbrev pub flushed : Moment
flushed = end 0 (event 0 1 2 ++ flush 1 ∷ run 1 10 ++ get ∷ [])

-- write and read run through zero
abbrev pub wrapped : Moment
wrapped = end 4294967168 (event 0 1 44 ++ get ∷ put ∷ [] ++ event 1 2 44 ++ get ∷ put ∷ [] ++ event 2 3 30 ++ event 0 4 30 ++ get ∷ [])

-- write, read, offered, written, lost, and how many parts were delivered
abbrev tally : Moment → List ℕ
tally m =
    m.world.ring.write.0 ∷ m.world.ring.read.0 ∷ m.world.ring.offered ∷ m.world.ring.written ∷ m.world.ring.lost
    ∷ length m.log.delivered ∷ []

-- each came out as it was meant, and the promise holds of it
abbrev pub Tried : Moment → List ℕ → Type 0
Tried m counts = (tally m ≡ counts) × Promise m

-- .. of each of them
abbrev pub AllTried : Type 0
AllTried =
    Tried worked (150 ∷ 64 ∷ 4 ∷ 3 ∷ 1 ∷ 1 ∷ [])
    × Tried waiting (124 ∷ 0 ∷ 3 ∷ 2 ∷ 0 ∷ 0 ∷ [])
    × Tried resumed (124 ∷ 0 ∷ 3 ∷ 3 ∷ 0 ∷ 1 ∷ [])
    × Tried confirmed (86 ∷ 0 ∷ 3 ∷ 2 ∷ 1 ∷ 0 ∷ [])
    × Tried unconfirmed (188 ∷ 64 ∷ 4 ∷ 4 ∷ 0 ∷ 1 ∷ [])
    × Tried flushed (64 ∷ 0 ∷ 1 ∷ 1 ∷ 0 ∷ 1 ∷ [])
    × Tried wrapped (114 ∷ 0 ∷ 4 ∷ 4 ∷ 0 ∷ 3 ∷ [])
