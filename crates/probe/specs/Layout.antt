-- A run as it crosses to C: a copy.
use Rattle.std.specs.Prelude.{ℕ, cond, List, ◌++◌, leb, length, drop}

-- a run at the front of a buffer, where it fits
unfoldable pub handed : (run out : List ℕ) → List ℕ
handed run out = cond (leb (length run) (length out)) (run ++ drop (length run) out) out
