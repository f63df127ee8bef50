-- A few words about lists.
use Rattle.std.specs.Prelude.{ℕ, suc, ◌+◌, Bool, true, false, List, [], ◌∷◌, length}

-- an element before others, if it passes
abbrev pub kept : {A : Type 0} → Bool → A → List A → List A
kept true x xs = x ∷ xs
kept false x xs = xs

-- those that pass a test, in their order
unfoldable pub only : {A : Type 0} → (A → Bool) → List A → List A
only test [] = []
only test (x ∷ xs) = kept (test x) x (only test xs)

-- how many pass a test
abbrev pub many : {A : Type 0} → (A → Bool) → List A → ℕ
many test l = length (only test l)

-- something of each element, and of its number, counted from n on
unfoldable pub EachFrom : {A : Type 0} → ℕ → (ℕ → A → Type 0) → List A → Type 0
EachFrom n Q [] = Unit {0}
EachFrom n Q (x ∷ xs) = Q n x × EachFrom (suc n) Q xs

abbrev pub Each : {A : Type 0} → (ℕ → A → Type 0) → List A → Type 0
Each Q l = EachFrom 0 Q l

-- the sum of a number of each
unfoldable pub sum_by : {A : Type 0} → (A → ℕ) → List A → ℕ
sum_by f [] = 0
sum_by f (x ∷ xs) = f x + sum_by f xs
