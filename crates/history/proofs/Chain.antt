-- The pieces of the log follow one another, none crosses the end of its part; and their sums, part by part.
use Prim.Native.Nat.{ℕ, zero, suc, ◌+◌, ◌*◌, ◌≤◌, ◌<◌, min, max}
use mathlib.Core.Path.{◌≡◌, refl, ap}
use mathlib.Core.Logic.{◌≢◌}
use mathlib.Core.Bool.{Bool, true, false, cond, false≢true}
use mathlib.Core.List.{List, [], ◌∷◌, ◌++◌}
use native.Mathlib.Nat.{not-suc-le-zero, le_of_suc-le-suc}
use native.Mathlib.Decide.{dec_lt, ℕ_discrete}
use native.Mathlib.Omega.{arith}
use lib.Dec.{eqb}
use lib.ListN.{length, get_or, set}
use borrow.Author.Tests.{eq-eqb, ne_eqb}
use Rattle.layout.specs.Sizes.{header}
use Rattle.steps.specs.Step.{Whose, padding, heading, slot}
use Rattle.history.specs.Lists.{sum_by}
use Rattle.history.specs.Log.{Piece, no_piece, noted, is_slot}
use Rattle.history.proofs.Sums.{sum_le, sum_eq}
use Rattle.history.proofs.Geometry.{below}

-- ---- what a piece is

unfoldable pub Shape : Whose → (S offset size : ℕ) → List ℕ → Type 0
Shape padding S o n bytes = (header < o) × (o + n ≡ S)
Shape heading S o n bytes = (o ≡ 0) × (n ≡ header)
Shape slot S o n bytes = (header ≤ o) × (length bytes ≡ n)

pub is-slot : (y : Whose) → is_slot y ≡ true → y ≡ slot
is-slot padding e = absurd (false≢true e)
is-slot heading e = absurd (false≢true e)
is-slot slot e = refl

-- ---- the chain

module _ (S : ℕ) where
  -- where a piece starts
  abbrev pub pos : Piece → ℕ
  pos x = x.part * S + x.offset

  -- from position a to position b, each inside its part
  unfoldable pub Chain : ℕ → List Piece → ℕ → Type 0
  Chain a [] b = a ≡ b
  Chain a (x ∷ xs) b =
      (a ≡ pos x) × (x.offset + x.size ≤ S) × (0 < x.size) × Shape x.whose S x.offset x.size x.bytes × Chain (a + x.size) xs b

  pub chain_le : (a : ℕ) (l : List Piece) (b : ℕ) → Chain a l b → a ≤ b
  unfolding Chain
  chain_le a [] b h = omega arith
  chain_le a (x ∷ xs) b h = omega (arith, chain_le (a + x.size) xs b h.4)

  pub chain_append : (a : ℕ) (l : List Piece) (b : ℕ) (k : List Piece) (c : ℕ) → Chain a l b → Chain b k c → Chain a (l ++ k) c
  unfolding Chain
  chain_append a [] b k c h j = rw h j
  chain_append a (x ∷ xs) b k c h j = (h.0, h.1, h.2, h.3, chain_append (a + x.size) xs b k c h.4 j)

  -- a note changes no place
  pub chain_noted : (a : ℕ) (l : List Piece) (b i : ℕ) (n : ℕ) (c : Bool) → Chain a l b → Chain a (set l i (noted n c (get_or l i no_piece))) b
  unfolding Chain
  chain_noted a [] b i n c h = h
  chain_noted a (x ∷ xs) b zero n c h = h
  chain_noted a (x ∷ xs) b (suc i) n c h = (h.0, h.1, h.2, h.3, chain_noted (a + x.size) xs b i n c h.4)

  pub chain_low : (a : ℕ) (l : List Piece) (b i : ℕ) → Chain a l b → i < length l → a ≤ pos (get_or l i no_piece)
  unfolding Chain
  chain_low a [] b i h k = absurd (not-suc-le-zero k)
  chain_low a (x ∷ xs) b zero h k = omega arith
  chain_low a (x ∷ xs) b (suc i) h k = omega (arith, chain_low (a + x.size) xs b i h.4 (le_of_suc-le-suc k))

  pub chain_high : (a : ℕ) (l : List Piece) (b i : ℕ) → Chain a l b → i < length l → pos (get_or l i no_piece) + (get_or l i no_piece).size ≤ b
  unfolding Chain
  chain_high a [] b i h k = absurd (not-suc-le-zero k)
  chain_high a (x ∷ xs) b zero h k = omega (arith, chain_le (a + x.size) xs b h.4)
  chain_high a (x ∷ xs) b (suc i) h k = chain_high (a + x.size) xs b i h.4 (le_of_suc-le-suc k)

  -- each lies in its part, is not empty, and has its shape
  pub record Fine (x : Piece) : Type 0 where
    pub inside : x.offset + x.size ≤ S
    pub some : 0 < x.size
    pub shape : Shape x.whose S x.offset x.size x.bytes

  pub chain_fine : (a : ℕ) (l : List Piece) (b i : ℕ) → Chain a l b → i < length l → Fine (get_or l i no_piece)
  unfolding Chain
  chain_fine a [] b i h k = absurd (not-suc-le-zero k)
  chain_fine a (x ∷ xs) b zero h k = record { inside = h.1; some = h.2; shape = h.3 }
  chain_fine a (x ∷ xs) b (suc i) h k = chain_fine (a + x.size) xs b i h.4 (le_of_suc-le-suc k)

  pub chain_order : (a : ℕ) (l : List Piece) (b i j : ℕ) → Chain a l b → i < j → j < length l →
      pos (get_or l i no_piece) + (get_or l i no_piece).size ≤ pos (get_or l j no_piece)
  unfolding Chain
  chain_order a [] b i j h k e = absurd (not-suc-le-zero e)
  chain_order a (x ∷ xs) b zero zero h k e = absurd (not-suc-le-zero k)
  chain_order a (x ∷ xs) b zero (suc j) h k e = omega (arith, chain_low (a + x.size) xs b j h.4 (le_of_suc-le-suc e))
  chain_order a (x ∷ xs) b (suc i) zero h k e = absurd (not-suc-le-zero k)
  chain_order a (x ∷ xs) b (suc i) (suc j) h k e = chain_order (a + x.size) xs b i j h.4 (le_of_suc-le-suc k) (le_of_suc-le-suc e)

  -- two pieces of one part: one ends before the other starts
  pub data Apart (x y : Piece) : Type 0 where
    before : x.offset + x.size ≤ y.offset → Apart x y
    behind : y.offset + y.size ≤ x.offset → Apart x y

  pub chain_apart : (a : ℕ) (l : List Piece) (b i j : ℕ) → Chain a l b → i < length l → j < length l → i ≢ j →
      (get_or l i no_piece).part ≡ (get_or l j no_piece).part → Apart (get_or l i no_piece) (get_or l j no_piece)
  chain_apart a l b i j h ki kj ne e = go (dec_lt i j)
    where
      f : (get_or l i no_piece).part * S ≡ (get_or l j no_piece).part * S
      f = ap (λ k. k * S) e

      go : Dec (i < j) → Apart (get_or l i no_piece) (get_or l j no_piece)
      go (yes c) = before (omega (arith, f, chain_order a l b i j h c kj))
      go (no c) = behind (omega (arith, f, chain_order a l b j i h (omega arith) ki))

-- ---- sums, part by part

-- bytes of a piece in part k; and those committed
unfoldable pub reserved : ℕ → Piece → ℕ
reserved k x = cond (eqb x.part k) x.size 0

unfoldable pub did : ℕ → Piece → ℕ
did k x = cond (eqb x.part k) (cond x.committed x.size 0) 0

pub reserved_in : (k : ℕ) (x : Piece) → x.part ≡ k → reserved k x ≡ x.size
unfolding reserved
reserved_in k x e = rw (eq-eqb x.part k e)

pub reserved_out : (k : ℕ) (x : Piece) → x.part ≢ k → reserved k x ≡ 0
unfolding reserved
reserved_out k x ne = rw (ne_eqb x.part k ne)

pub did_in : (k : ℕ) (x : Piece) → x.part ≡ k → x.committed ≡ true → did k x ≡ x.size
unfolding did
did_in k x e d = rw (eq-eqb x.part k e, d)

pub did_out : (k : ℕ) (x : Piece) → x.part ≢ k → did k x ≡ 0
unfolding did
did_out k x ne = rw (ne_eqb x.part k ne)

pub did_open : (k : ℕ) (x : Piece) → x.committed ≡ false → did k x ≡ 0
unfolding did
did_open k x d = go (eqb x.part k)
  where
    go : (b : Bool) → cond b (cond x.committed x.size 0) 0 ≡ 0
    go true = rw d
    go false = refl

did_le : (k : ℕ) (x : Piece) → did k x ≤ reserved k x
unfolding did reserved
did_le k x = go (eqb x.part k) x.committed
  where
    go : (b c : Bool) → cond b (cond c x.size 0) 0 ≤ cond b x.size 0
    go true true = omega arith
    go true false = omega arith
    go false c = omega arith

pub did_all : (k : ℕ) (l : List Piece) → sum_by (did k) l ≤ sum_by (reserved k) l
did_all k l = sum_le (did k) (reserved k) (did_le k) l

-- committed all: each piece in it is
pub all_done : (k : ℕ) (l : List Piece) → sum_by (reserved k) l ≤ sum_by (did k) l → (i : ℕ) → i < length l → (get_or l i no_piece).part ≡ k →
    0 < (get_or l i no_piece).size → (get_or l i no_piece).committed ≡ true
all_done k l h i lt e some = go (get_or l i no_piece).committed refl
  where
    go : (b : Bool) → (get_or l i no_piece).committed ≡ b → b ≡ true
    go true d = refl
    go false d =
        absurd (omega (arith, sum_eq (did k) (reserved k) (did_le k) l no_piece h i lt, did_open k (get_or l i no_piece) d, reserved_in k (get_or l i no_piece) e))

add_up : (p q a b c : ℕ) → q + b ≡ c → p + a ≡ b → p + q + a ≡ c
add_up p q a b c i j = omega arith

module _ (S : ℕ) where
  -- x, brought into part k
  abbrev clip : (k x : ℕ) → ℕ
  clip k x = min (max x (k * S)) (k * S + S)

  clip_step : (k : ℕ) (x : Piece) → x.offset + x.size ≤ S → 0 < x.size → reserved k x + clip k (pos S x) ≡ clip k (pos S x + x.size)
  clip_step k x h z = go (ℕ_discrete x.part k)
    where
      out : x.part ≢ k → Dec (x.part < k) → reserved k x + clip k (pos S x) ≡ clip k (pos S x + x.size)
      out ne (yes l) = omega (arith, reserved_out k x ne, below S x.part k l)
      out ne (no l) = omega (arith, reserved_out k x ne, below S k x.part (omega arith))

      go : Dec (x.part ≡ k) → reserved k x + clip k (pos S x) ≡ clip k (pos S x + x.size)
      go (yes e) = rw (reserved_in k x e) (let f : x.part * S ≡ k * S = ap (λ y. y * S) e in omega arith)
      go (no ne) = out ne (dec_lt x.part k)

  -- the bytes reserved in part k are those that the chain has of it
  sum_reserved : (k a : ℕ) (l : List Piece) (b : ℕ) → Chain S a l b → sum_by (reserved k) l + clip k a ≡ clip k b
  unfolding Chain sum_by
  sum_reserved k a [] b h = rw h (omega arith)
  sum_reserved k a (x ∷ xs) b h =
      let i : sum_by (reserved k) xs + clip k (a + x.size) ≡ clip k b = sum_reserved k (a + x.size) xs b h.4 in
      let j : reserved k x + clip k a ≡ clip k (a + x.size) = rw h.0 (clip_step k x h.1 h.2) in
      add_up (reserved k x) (sum_by (reserved k) xs) (clip k a) (clip k (a + x.size)) (clip k b) i j

  -- in each part from a on: none past b, at most what lies before b, at most S
  pub none_past : (k a : ℕ) (l : List Piece) (b : ℕ) → Chain S a l b → a ≤ k * S → b ≤ k * S → sum_by (reserved k) l ≡ 0
  none_past k a l b h x y = omega (arith, sum_reserved k a l b h)

  pub at_most : (k a : ℕ) (l : List Piece) (b : ℕ) → Chain S a l b → a ≤ k * S → k * S ≤ b → k * S + sum_by (reserved k) l ≤ b
  at_most k a l b h x y = omega (arith, sum_reserved k a l b h)

  pub at_most_S : (k a : ℕ) (l : List Piece) (b : ℕ) → Chain S a l b → a ≤ k * S → sum_by (reserved k) l ≤ S
  at_most_S k a l b h x = omega (arith, sum_reserved k a l b h)
