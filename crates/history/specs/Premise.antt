-- The wrap premise: fewer than 2^31 bytes reserved between a producer's start on an event or flush and its next idle state, or the
-- history's end.
use Rattle.std.specs.Prelude.{ℕ, ◌-◌, ◌<◌, ◌≡◌, List, ◌∷◌, ◌++◌, length, take}
use Rattle.ring.specs.State.{at}
use Rattle.ring.specs.World.{Call, offer, flush, step, get, put, code_of}
use Rattle.history.specs.History.{Moment, next, ends}

abbrev pub half : ℕ
half = 2147483648

abbrev pub IsIdle : Moment → (p : ℕ) → Type 0
IsIdle m p = (at m.world.ring p).phase ≡ 0

-- p starts: an offer or a flush of p
abbrev pub Starts : Call → (p : ℕ) → Type 0
Starts (offer q kind payload) p = q ≡ p
Starts (flush q) p = q ≡ p
Starts (step q) p = ⊥
Starts get p = ⊥
Starts put p = ⊥

-- A stretch of a history: accepted, p starts with c, and is not idle before the stretch ends.
pub record Stretch (m : Moment) (p : ℕ) (c : Call) (during : List Call) : Type 0 where
  pub accepted : code_of m.world c ≡ 0
  pub starts : Starts c p
  pub busy : (i : ℕ) → i < length during → IsIdle (ends (next m c) (take i during)) p → ⊥

-- of every stretch: fewer than 2^31 bytes are reserved in it
abbrev pub Premise : Moment → List Call → Type 0
Premise m h =
    (before during behind : List Call) (c : Call) (p : ℕ) → h ≡ before ++ (c ∷ (during ++ behind)) → Stretch (ends m before) p c during →
    (ends m (before ++ (c ∷ during))).log.write - (ends m before).log.write < half
