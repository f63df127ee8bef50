-- Sums over lists, and statements over each place of a list. Nothing here knows of the ring.
use Prim.Native.Nat.{ℕ, zero, suc, ◌+◌, ◌-◌, ◌≤◌, ◌<◌}
use mathlib.Core.Path.{◌≡◌, sym, subst}
use mathlib.Core.Logic.{◌≢◌}
use mathlib.Core.List.{List, [], ◌∷◌, ◌++◌}
use native.Mathlib.Nat.{zero-add, not-suc-le-zero, le_of_suc-le-suc}
use native.Mathlib.Decide.{ℕ_discrete, dec_lt}
use native.Mathlib.Numerals.{add-one, add-two}
use native.Mathlib.Omega.{arith}
use lib.ListN.{length, get_or, set, length-append, length-set, get_or-append}
use lib.Seq.{get_or-append-add, get_or-set_same, get_or-set_other}
use Rattle.history.specs.Lists.{sum_by}

-- ---- by cases

-- over every q: at p, and at each other
pub each_of {ℓ} : (p : ℕ) (Q : ℕ → Type ℓ) → Q p → ((q : ℕ) → q ≢ p → Q q) → (q : ℕ) → Q q
each_of p Q h k q = go (ℕ_discrete q p)
  where
    go : Dec (q ≡ p) → Q q
    go (yes e) = subst Q (sym e) h
    go (no e) = k q e

-- ---- sums

module _ {A : Type 0} (f : A → ℕ) where
  pub sum_append : (s t : List A) → sum_by f (s ++ t) ≡ sum_by f s + sum_by f t
  unfolding sum_by
  sum_append [] t = sym (zero-add (sum_by f t))
  sum_append (x ∷ xs) t = rw (sum_append xs t) (omega arith)

  -- an element is exchanged
  pub sum_set : (l : List A) (i : ℕ) (a d : A) → i < length l → sum_by f (set l i a) + f (get_or l i d) ≡ sum_by f l + f a
  unfolding sum_by
  sum_set [] i a d h = absurd (not-suc-le-zero h)
  sum_set (x ∷ xs) zero a d h = omega arith
  sum_set (x ∷ xs) (suc i) a d h = omega (arith, sum_set xs i a d (le_of_suc-le-suc h))

  -- for one that counts the same
  pub sum_same : (l : List A) (i : ℕ) (a d : A) → i < length l → f a ≡ f (get_or l i d) → sum_by f (set l i a) ≡ sum_by f l
  sum_same l i a d h e = omega (arith, sum_set l i a d h)

-- two sums, of which one is below the other at each element
module _ {A : Type 0} (f h : A → ℕ) (le : (x : A) → f x ≤ h x) where
  pub sum_le : (l : List A) → sum_by f l ≤ sum_by h l
  unfolding sum_by
  sum_le [] = omega arith
  sum_le (x ∷ xs) = omega (arith, le x, sum_le xs)

  -- equal sums are equal at each element
  pub sum_eq : (l : List A) (d : A) → sum_by h l ≤ sum_by f l → (i : ℕ) → i < length l → f (get_or l i d) ≡ h (get_or l i d)
  unfolding sum_by
  sum_eq [] d e i k = absurd (not-suc-le-zero k)
  sum_eq (x ∷ xs) d e zero k = omega (arith, le x, sum_le xs)
  sum_eq (x ∷ xs) d e (suc i) k = sum_eq xs d (omega (arith, le x)) i (le_of_suc-le-suc k)

-- ---- every place of a list

module _ {A : Type 0} where
  -- of which one element was exchanged
  pub each_set : (l : List A) (j : ℕ) (a d : A) (Q : ℕ → A → Type 0) → (j < length l → Q j a) → ((i : ℕ) → i < length l → i ≢ j → Q i (get_or l i d)) →
      (i : ℕ) → i < length (set l j a) → Q i (get_or (set l j a) i d)
  each_set l j a d Q own other =
      each_of j (λ i. i < length (set l j a) → Q i (get_or (set l j a) i d))
      (λ h. let k : j < length l = rw length-set at h in rw (get_or-set_same l j a d k) (own k))
      (λ i ne h. let k : i < length l = rw length-set at h in rw (get_or-set_other l j i a d ne) (other i k ne))

  -- the second and third element behind a list
  pub at_one : (l r : List A) (d : A) → get_or (l ++ r) (suc (length l)) d ≡ get_or r 1 d
  at_one l r d = rw (← add-one) (get_or-append-add l r 1 d)

  pub at_two : (l r : List A) (d : A) → get_or (l ++ r) (suc (suc (length l))) d ≡ get_or r 2 d
  at_two l r d = rw (← add-two) (get_or-append-add l r 2 d)

  -- of two lists put together
  pub each_append : (l r : List A) (d : A) (Q : ℕ → A → Type 0) → ((i : ℕ) → i < length l → Q i (get_or l i d)) →
      ((i : ℕ) → i < length r → Q (length l + i) (get_or r i d)) → (i : ℕ) → i < length (l ++ r) → Q i (get_or (l ++ r) i d)
  each_append l r d Q old new i h = go (dec_lt i (length l))
    where
      go : Dec (i < length l) → Q i (get_or (l ++ r) i d)
      go (yes k) = rw (get_or-append l r d i k) (old i k)
      go (no k) =
          let e : length l + (i - length l) ≡ i = omega arith in
          subst (λ x. Q x (get_or (l ++ r) x d)) e (rw (get_or-append-add l r (i - length l) d) (new (i - length l) (omega (arith, length-append l r))))
