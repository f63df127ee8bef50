-- A test computed over all small numbers, and what it says of one. A fact about every allowed S or N is proved so, once.
use Rattle.std.specs.Prelude.{◌≡◌, ℕ, zero, suc, ◌<◌, Bool, true, ◌&&◌}
use Rattle.std.proofs.lemmas.Bool.{and_parts}
use Rattle.std.proofs.Common.{sym, subst, ⊎_elim, eq-or-lt_of_le, le_of_suc-le-suc, not-suc-le-zero}

-- f holds of every number below n
abbrev pub all : (ℕ → Bool) → ℕ → Bool
all f zero = true
all f (suc n) = f n && all f n

-- ---- both tests of a conjunction

pub and_left : (a b : Bool) → (a && b) ≡ true → a ≡ true
and_left a b e = (and_parts a b e).0

pub and_right : (a b : Bool) → (a && b) ≡ true → b ≡ true
and_right a b e = (and_parts a b e).1

-- ---- all

pub all_at : (f : ℕ → Bool) (n : ℕ) → all f n ≡ true → (k : ℕ) → k < n → f k ≡ true
all_at f zero e k h = absurd (not-suc-le-zero h)
all_at f (suc n) e k h =
    ⊎_elim (λ q. subst (λ (m : ℕ). f m ≡ true) (sym q) (and_left (f n) (all f n) e)) (λ l. all_at f n (and_right (f n) (all f n) e) k l)
    (eq-or-lt_of_le (le_of_suc-le-suc h))
