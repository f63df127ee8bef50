-- Counting in lists, and what the promise says of each element, from what is known at each place. Nothing here knows of the ring.
use Prim.Native.Nat.{ℕ, zero, suc, ◌+◌, ◌<◌}
use mathlib.Core.Path.{◌≡◌, refl, ap, subst}
use mathlib.Core.Logic.{◌≢◌}
use mathlib.Core.Bool.{Bool, true, false, cond, ◌&&◌}
use mathlib.Core.List.{List, [], ◌∷◌, ◌++◌}
use native.Mathlib.Nat.{not-suc-le-zero, le_of_suc-le-suc}
use native.Mathlib.Omega.{arith}
use lib.ListN.{length, get_or, set}
use Rattle.history.specs.Lists.{kept, only, many, EachFrom, Each, sum_by}
use Rattle.history.proofs.Sums.{sum_append, sum_set}

-- one or none
abbrev pub tick : Bool → ℕ
tick b = cond b 1 0

module _ {A : Type 0} where
  -- ---- each

  each_from : (n : ℕ) (Q : ℕ → A → Type 0) (l : List A) (d : A) → ((i : ℕ) → i < length l → Q (n + i) (get_or l i d)) → EachFrom n Q l
  unfolding EachFrom
  each_from n Q [] d h = tt
  each_from n Q (x ∷ xs) d h = (
    subst (λ m. Q m x) (omega arith) (h 0 (omega arith)),
    each_from (suc n) Q xs d (λ i lt. subst (λ m. Q m (get_or xs i d)) (omega arith) (h (suc i) (omega arith))),
  )

  pub each_at : (Q : ℕ → A → Type 0) (l : List A) (d : A) → ((i : ℕ) → i < length l → Q i (get_or l i d)) → Each Q l
  each_at Q l d h = each_from 0 Q l d (λ i lt. subst (λ m. Q m (get_or l i d)) (omega arith) (h i lt))

  -- ---- how many

  module _ (test : A → Bool) where
    pub many_sum : (l : List A) → many test l ≡ sum_by (λ x. tick (test x)) l
    unfolding only sum_by
    many_sum [] = refl
    many_sum (x ∷ xs) = go (test x) (many_sum xs)
      where
        go : (b : Bool) → many test xs ≡ sum_by (λ y. tick (test y)) xs → length (kept b x (only test xs)) ≡ tick b + sum_by (λ y. tick (test y)) xs
        go true e = omega arith
        go false e = omega arith

    pub many_append : (s t : List A) → many test (s ++ t) ≡ many test s + many test t
    many_append s t = rw (many_sum (s ++ t), many_sum s, many_sum t) (sum_append (λ x. tick (test x)) s t)

    pub many_set : (l : List A) (i : ℕ) (a d : A) → i < length l → many test (set l i a) + tick (test (get_or l i d)) ≡ many test l + tick (test a)
    many_set l i a d h = rw (many_sum (set l i a), many_sum l) (sum_set (λ x. tick (test x)) l i a d h)

    -- none, and exactly one
    pub many_none : (l : List A) (d : A) → ((i : ℕ) → i < length l → test (get_or l i d) ≡ false) → many test l ≡ 0
    unfolding only
    many_none [] d h = refl
    many_none (x ∷ xs) d h = rw (h 0 (omega arith)) (many_none xs d (λ i lt. h (suc i) (omega arith)))

    pub many_one : (l : List A) (d : A) (j : ℕ) → j < length l → test (get_or l j d) ≡ true → ((i : ℕ) → i < length l → i ≢ j → test (get_or l i d) ≡ false) →
        many test l ≡ 1
    unfolding only
    many_one [] d j lt t h = absurd (not-suc-le-zero lt)
    many_one (x ∷ xs) d zero lt t h = rw t (ap suc (many_none xs d (λ i k. h (suc i) (omega arith) (omega arith))))
    many_one (x ∷ xs) d (suc j) lt t h =
        rw (h 0 (omega arith) (omega arith)) (many_one xs d j (le_of_suc-le-suc lt) t (λ i k ne. h (suc i) (omega arith) (omega arith)))

  -- those of some that pass
  pub many_only : (test keep : A → Bool) (l : List A) → many test (only keep l) ≡ many (λ x. keep x && test x) l
  unfolding only
  many_only test keep [] = refl
  many_only test keep (x ∷ xs) = go (keep x) (test x) (many_only test keep xs) refl
    where
      go : (a b : Bool) → many test (only keep xs) ≡ many (λ y. keep y && test y) xs → test x ≡ b →
          many test (kept a x (only keep xs)) ≡ length (kept (a && test x) x (only (λ y. keep y && test y) xs))
      go true true e f = rw f (ap suc e)
      go true false e f = rw f e
      go false b e f = e
