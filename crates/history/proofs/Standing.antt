-- The written events stand in order: in the parts delivered, and then in those remaining.
use Prim.Native.Nat.{ℕ, zero, suc, ◌+◌, ◌*◌, ◌≤◌, ◌<◌}
use mathlib.Core.Path.{◌≡◌, refl, sym, ap, ◌∙◌}
use mathlib.Core.Logic.{◌≢◌}
use mathlib.Core.Bool.{Bool, true, false, ◌&&◌}
use mathlib.Core.List.{List, [], ◌∷◌, ◌++◌, flatten, append_assoc}
use native.Mathlib.Decide.{dec_lt, ℕ_discrete}
use native.Mathlib.Omega.{arith}
use lib.Dec.{eqb, leb}
use lib.ListN.{length, get_or}
use borrow.Author.Tests.{eq-eqb, ne_eqb, le-leb, lt-leb}
use Rattle.history.specs.Lists.{only, kept}
use Rattle.history.specs.Log.{Piece}
use Rattle.history.proofs.Chain.{Chain}
use Rattle.history.proofs.Geometry.{below}

-- ---- choosing twice

pub only_only : {A : Type 0} (t u : A → Bool) (l : List A) → only u (only t l) ≡ only (λ x. t x && u x) l
unfolding only
only_only t u [] = refl
only_only t u (x ∷ xs) = go (t x) (only_only t u xs)
  where
    go : (b : Bool) → only u (only t xs) ≡ only (λ x. t x && u x) xs → only u (kept b x (only t xs)) ≡ kept (b && u x) x (only (λ x. t x && u x) xs)
    go true e = rw e
    go false e = e

-- the same tests choose the same
pub only_same : {A : Type 0} (t u : A → Bool) (l : List A) (d : A) → ((i : ℕ) → i < length l → t (get_or l i d) ≡ u (get_or l i d)) → only t l ≡ only u l
unfolding only
only_same t u [] d h = refl
only_same t u (x ∷ xs) d h = rw (h 0 (omega arith), only_same t u xs d (λ i lt. h (suc i) (omega arith)))

-- ---- parts follow one another

module _ (S : ℕ) (w : Piece → Bool) where
  abbrev pub from : ℕ → Piece → Bool
  from k x = w x && leb k x.part

  abbrev pub exactly : ℕ → Piece → Bool
  exactly k x = w x && eqb x.part k

  -- what begins behind part k is none of its pieces
  none_behind : (k a : ℕ) (l : List Piece) (b : ℕ) → Chain S a l b → k * S + S ≤ a → only (exactly k) l ≡ []
  unfolding Chain only
  none_behind k a [] b h c = refl
  none_behind k a (x ∷ xs) b h c = rw (no (w x)) (none_behind k (a + x.size) xs b h.4 (omega arith))
    where
      away : x.part ≢ k
      away e = let f : x.part * S ≡ k * S = ap (λ y. y * S) e in omega (arith, h.0, h.1, h.2)

      no : (b : Bool) → (b && eqb x.part k) ≡ false
      no true = ne_eqb x.part k away
      no false = refl

  -- those from part k on: its own, and then those of later parts
  pub split : (k a : ℕ) (l : List Piece) (b : ℕ) → Chain S a l b → only (from k) l ≡ only (exactly k) l ++ only (from (suc k)) l
  unfolding Chain only
  split k a [] b h = refl
  split k a (x ∷ xs) b h = go (w x) refl (dec_lt x.part k) (ℕ_discrete x.part k) (split k (a + x.size) xs b h.4)
    where
      go : (c : Bool) → w x ≡ c → Dec (x.part < k) → Dec (x.part ≡ k) → only (from k) xs ≡ only (exactly k) xs ++ only (from (suc k)) xs →
          kept (c && leb k x.part) x (only (from k) xs) ≡ kept (c && eqb x.part k) x (only (exactly k) xs) ++ kept (c && leb (suc k) x.part) x (only (from (suc k)) xs)
      go false e d f ih = ih
      go true e (yes d) f ih = rw (lt-leb k x.part d, ne_eqb x.part k (omega arith), lt-leb (suc k) x.part (omega arith)) ih
      go true e (no d) (yes f) ih = rw (le-leb k x.part (omega arith), eq-eqb x.part k f, lt-leb (suc k) x.part (omega arith)) (ap (λ (l : List Piece). x ∷ l) ih)
      go true e (no d) (no f) ih =
          let none = none_behind k (a + x.size) xs b h.4 (omega (arith, h.0, below S k x.part (omega arith))) in
          rw (le-leb k x.part (omega arith), ne_eqb x.part k f, le-leb (suc k) x.part (omega arith), none) (ap (λ (l : List Piece). x ∷ l) (ih ∙ rw none))

  -- the parts f, f + 1, .., n of them, and then the rest
  unfoldable pub in_turn : (f n : ℕ) → List Piece → List (List Piece)
  in_turn f zero l = []
  in_turn f (suc n) l = only (exactly f) l ∷ in_turn (suc f) n l

  pub turns : (f n a : ℕ) (l : List Piece) (b : ℕ) → Chain S a l b → only (from f) l ≡ flatten (in_turn f n l) ++ only (from (f + n)) l
  unfolding in_turn flatten
  turns f zero a l b h = ap (λ k. only (from k) l) (omega arith)
  turns f (suc n) a l b h =
      split f a l b h
      ∙ ap (λ (r : List Piece). only (exactly f) l ++ r) (turns (suc f) n a l b h ∙ ap (λ k. flatten (in_turn (suc f) n l) ++ only (from k) l) (omega arith))
      ∙ sym (append_assoc (only (exactly f) l) (flatten (in_turn (suc f) n l)) (only (from (f + suc n)) l))
