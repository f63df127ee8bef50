-- What a line prints (document 01, "The replay program"): answer, write, read, offered, written, lost, or `bad line`.
use Rattle.std.specs.Prelude.{ℕ, zero, suc, ◌+◌, ◌/◌, ◌%◌, cond, List, [], ◌∷◌, ◌++◌, eqb, ltb}
use Rattle.script.specs.declared.play.Play.{Play}
use Rattle.script.specs.Play.{over, code_in, ring_of}

-- a number in decimal, of k digits at most, with no zero in front
unfoldable pub decimal_by : (k n : ℕ) → List ℕ
decimal_by zero n = []
decimal_by (suc k) n = cond (ltb n 10) ((48 + n) ∷ []) (decimal_by k (n / 10) ++ ((48 + n % 10) ∷ []))

-- a 32-bit number has ten digits at most
abbrev pub decimal_of : ℕ → List ℕ
decimal_of n = decimal_by 10 n

-- what ends the number at place i: a space, or a line feed behind the last of six
abbrev pub end_of : (i : ℕ) → ℕ
end_of i = cond (eqb i 5) 10 32

-- the numbers from place i on, each with what ends it
unfoldable pub joined : (i : ℕ) → List ℕ → List ℕ
joined i [] = []
joined i (n ∷ ns) = (decimal_of n ++ (end_of i ∷ [])) ++ joined (suc i) ns

-- what the last line was answered, and the counts of the ring; before the first line all are zero
abbrev pub numbers_told : Play → List ℕ
numbers_told p =
    let r = ring_of p in code_in p ∷ r.write.0 ∷ r.read.0 ∷ r.offered ∷ r.written ∷ r.lost ∷ []

-- `bad line` and a line feed
abbrev pub bad_line : List ℕ
bad_line = 98 ∷ 97 ∷ 100 ∷ 32 ∷ 108 ∷ 105 ∷ 110 ∷ 101 ∷ 10 ∷ []

unfoldable pub told_of : Play → List ℕ
told_of p = cond (over p) bad_line (joined 0 (numbers_told p))
