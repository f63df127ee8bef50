-- Parts of S bytes, N of them, B = S-as-N. Positions are true ones; what the machine holds is their remainder modulo 2^32.
use Prim.Native.Nat.{ℕ, suc, ◌+◌, ◌*◌, ◌/◌, ◌%◌, ◌≤◌, ◌<◌, ◌∣◌}
use mathlib.Core.Path.{◌≡◌, sym, ap, ◌∙◌}
use native.Mathlib.Nat.{div-add-mod', mod-lt, mul-le-mul_right, mul_comm, mod-add-mod, mod-mod_of_dvd}
use native.Mathlib.Decide.{dec_le, dec_lt}
use native.Mathlib.Omega.{arith}
use lib.Arith.{digits_div, digits_mod, mod-mul}
use lib.Dec.{lit<}
use Rattle.counts.specs.ShapeLaws.{Shaped, size_word, ring_word}
use Rattle.counts.specs.Wrap.{word}
use Rattle.layout.specs.Sizes.{header}

-- ---- modulo 2^32

-- two counts that agree modulo 2^32 and lie within 2^32 of each other are equal
pub mod_close : (x y : ℕ) → x ≤ y → y < x + word → x % word ≡ y % word → x ≡ y
mod_close x y h k e = omega arith

-- ---- modulo a variable

module _ (B : ℕ) where
  -- places of two positions less than B apart differ
  pub place_inj : (x y : ℕ) → x ≤ y → y < x + B → x % B ≡ y % B → x ≡ y
  place_inj x y h k e = go (dec_le (suc (x / B)) (y / B))
    where
      go : Dec (suc (x / B) ≤ y / B) → x ≡ y
      go (yes a) = absurd (omega (arith, mul-le-mul_right B a, div-add-mod' x B, div-add-mod' y B))
      go (no a) =
          let b : y / B ≤ x / B = omega arith in
          omega (arith, mul-le-mul_right B b, div-add-mod' x B, div-add-mod' y B)

  -- B divides 2^32: the place of a count is that of its remainder
  pub place_wrap : B ∣ word → (x : ℕ) → x % word % B ≡ x % B
  place_wrap d x = mod-mod_of_dvd B x d

  -- some way past a count, from the count's remainder
  pub place_past : B ∣ word → (x n : ℕ) → (x % word + n) % B ≡ (x + n) % B
  place_past d x n = sym (mod-add-mod (x % word) B n) ∙ ap (λ y. (y + n) % B) (place_wrap d x) ∙ mod-add-mod x B n

-- ---- parts and offsets

module _ (S : ℕ) where
  pub below : (j k : ℕ) → j < k → j * S + S ≤ k * S
  below j k h = omega (arith, mul-le-mul_right S h)

  -- a position is its part and its offset, in one way
  pub at_div : (k o : ℕ) → o < S → (k * S + o) / S ≡ k
  at_div k o h = digits_div k h

  pub at_mod : (k o : ℕ) → o < S → (k * S + o) % S ≡ o
  at_mod k o h = digits_mod k h

  pub part_low : (r x : ℕ) → 0 < S → r * S ≤ x → r ≤ x / S
  part_low r x h k = go (dec_le r (x / S))
    where
      lt : ¬ (r ≤ x / S) → suc (x / S) ≤ r
      lt a = omega arith

      go : Dec (r ≤ x / S) → r ≤ x / S
      go (yes a) = a
      go (no a) = absurd (omega (arith, mul-le-mul_right S (lt a), div-add-mod' x S, mod-lt x h))

  pub lt_of_mul : (a b : ℕ) → a * S < b * S → a < b
  lt_of_mul a b h = go (dec_lt a b)
    where
      le : ¬ (a < b) → b ≤ a
      le k = omega arith

      go : Dec (a < b) → a < b
      go (yes k) = k
      go (no k) = absurd (omega (arith, mul-le-mul_right S (le k)))

-- two of the N parts from r on stand in different sub-buffers
pub window_inj : (N r j k : ℕ) → r ≤ j → j < r + N → r ≤ k → k < r + N → j % N ≡ k % N → j ≡ k
window_inj N r j k a b c d e = go (dec_le j k)
  where
    go : Dec (j ≤ k) → j ≡ k
    go (yes h) = place_inj N j k h (omega arith) e
    go (no h) = sym (place_inj N k j (omega arith) (omega arith) (sym e))

-- one turn on
pub turn : (N k : ℕ) → 0 < N → (k + N) / N ≡ suc (k / N)
turn N k h = ap (λ x. x / N) (omega (arith, div-add-mod' k N)) ∙ digits_div (suc (k / N)) (mod-lt k h)

pub turn_mod : (N k : ℕ) → 0 < N → (k + N) % N ≡ k % N
turn_mod N k h = ap (λ x. x % N) (omega (arith, div-add-mod' k N)) ∙ digits_mod (suc (k / N)) (mod-lt k h)

-- ---- the header

pub header_pos : 0 < header
unfolding header
header_pos = lit< tt

-- it is shorter than every part
pub header_short : (S : ℕ) → 64 ≤ S → header < S
unfolding header
header_short S h = omega arith

-- ---- an allowed shape

module _ {S N P : ℕ} (G : Shaped S N P) where
  pub s_pos : 0 < S
  s_pos = omega (arith, G.size_low)

  pub n_pos : 0 < N
  n_pos = omega (arith, G.parts_low)

  pub size_of_word : S ∣ word
  size_of_word = size_word S G.size_divides

  pub ring_of_word : S * N ∣ word
  ring_of_word = ring_word S N G.size_divides G.parts_divides

  -- B
  pub small : S * N ≤ 65536
  small = omega (arith, mul-le-mul_right N G.size_high, G.parts_high)

  pub two_parts : S + S ≤ S * N
  two_parts = omega (arith, mul-le-mul_right S G.parts_low)

  -- the offset and the sub-buffer of a position, from its remainder
  pub off_wrap : (x : ℕ) → x % word % S ≡ x % S
  off_wrap x = place_wrap S size_of_word x

  pub byte_wrap : (x : ℕ) → x % word % (S * N) ≡ x % (S * N)
  byte_wrap x = place_wrap (S * N) ring_of_word x

  -- the byte of a position: part by part
  pub byte_split : (x : ℕ) → x % (S * N) ≡ x / S % N * S + x % S
  byte_split x = ap (λ y. x % y) (mul_comm S N) ∙ mod-mul x n_pos s_pos

  pub byte_at : (k o : ℕ) → o < S → (k * S + o) % (S * N) ≡ k % N * S + o
  byte_at k o h = byte_split (k * S + o) ∙ ap (λ y. y % N * S + (k * S + o) % S) (at_div S k o h) ∙ ap (λ y. k % N * S + y) (at_mod S k o h)

  pub part_split : (x : ℕ) → x % (S * N) / S ≡ x / S % N
  part_split x = ap (λ y. y / S) (byte_split x) ∙ digits_div (x / S % N) (mod-lt x s_pos)

  pub part_wrap : (x : ℕ) → x % word % (S * N) / S ≡ x / S % N
  part_wrap x = ap (λ y. y / S) (byte_wrap x) ∙ part_split x

  pub byte_below : (x : ℕ) → x % (S * N) < S * N
  byte_below x = mod-lt x (omega (arith, two_parts, s_pos))
