-- The ready test, in true counts: the seq of a part of the window is raised exactly if the machine's test says ready.
use Prim.Native.Nat.{ℕ, ◌+◌, ◌-◌, ◌*◌, ◌/◌, ◌%◌, ◌≤◌, ◌<◌, ◌∣◌}
use mathlib.Core.Path.{◌≡◌, sym, ap, ap₂, ◌∙◌, subst}
use mathlib.Core.Bool.{true}
use native.Mathlib.Nat.{mod-lt, div-add-mod', mul-le-mul_right, mod-add-mod, add-zero, add-mul-mod_self_right, mod-eq-zero_of_dvd, dvd-mul_left}
use native.Mathlib.Decide.{dec_le}
use native.Mathlib.Omega.{arith}
use lib.Arith.{digits_div, mod-mul}
use borrow.Author.Tests.{eqb-true}
use Rattle.counts.specs.declared.commit.Commit.{Commit}
use Rattle.counts.specs.declared.position.Position.{Position}
use Rattle.counts.specs.Commit.{past_of, ready_of}
use Rattle.counts.specs.Position.{byte_of, to_commit_of}
use Rattle.counts.specs.ShapeLaws.{Shaped}
use Rattle.counts.specs.Wrap.{word, sub32}
use Rattle.history.proofs.Geometry.{place_inj, place_wrap, place_past, at_div, at_mod, s_pos, n_pos, small, two_parts, ring_of_word}

module _ {S N P : ℕ} (G : Shaped S N P) where
  -- how often the ring goes into 2^32
  abbrev pub c : ℕ
  c = word / (S * N)

  pub divides : c * (S * N) ≡ word
  divides = omega (arith, div-add-mod' word (S * N), mod-eq-zero_of_dvd (S * N) (ring_of_word G))

  -- 2^32 / N is c·S
  lap_size : word / N ≡ c * S
  lap_size = ap (λ x. x / N) (omega (arith, divides)) ∙ digits_div (c * S) {m = N} {r = 0} (n_pos G)

  c_two : 2 ≤ c
  c_two = go (dec_le 2 c)
    where
      le : ¬ (2 ≤ c) → c ≤ 1
      le h = omega arith

      go : Dec (2 ≤ c) → 2 ≤ c
      go (yes h) = h
      go (no h) = absurd (omega (arith, mul-le-mul_right (S * N) (le h), divides, small G))

  lap_word : N * (c * S) ≡ word
  lap_word = omega (arith, divides)

  lap_divides : c * S ∣ word
  lap_divides = subst (λ x. c * S ∣ x) lap_word (dvd-mul_left (c * S) N)

  s_le : S ≤ word
  s_le = omega (arith, small G, two_parts G)

  -- the machine's left side
  left_is : (Q : ℕ) → sub32 (Q % word) S % (c * S) ≡ (Q + (word - S)) % (c * S)
  unfolding sub32
  left_is Q = place_wrap (c * S) lap_divides (Q % word + (word - S)) ∙ place_past (c * S) lap_divides Q (word - S)

  -- the machine's right side
  right_is : (k : ℕ) → (k * S % word - k * S % word % (S * N)) / N ≡ k / N % c * S
  right_is k =
      ap (λ x. x / N) (whole (k * S % word)) ∙ digits_div (k * S % word / (S * N) * S) {m = N} {r = 0} (n_pos G) ∙ ap (λ x. x * S) lap
    where
      whole : (r : ℕ) → r - r % (S * N) ≡ r / (S * N) * S * N + 0
      whole r = omega (arith, div-add-mod' r (S * N))

      split : k * S ≡ k / N * (S * N) + k % N * S
      split =
          let a : (k / N * N + k % N) * S ≡ k * S = ap (λ x. x * S) (div-add-mod' k N) in
          omega arith

      B-pos : 0 < S * N
      B-pos = omega (arith, two_parts G, s_pos G)

      inside : k % N * S < S * N
      inside = omega (arith, mul-le-mul_right S (mod-lt k (n_pos G)), s_pos G)

      lap : k * S % word / (S * N) ≡ k / N % c
      lap =
          ap (λ x. k * S % x / (S * N)) (sym divides)
          ∙ ap (λ x. x / (S * N)) (mod-mul (k * S) (omega (arith, c_two)) B-pos)
          ∙ digits_div (k * S / (S * N) % c) (mod-lt (k * S) B-pos)
          ∙ ap (λ x. x / (S * N) % c) split
          ∙ ap (λ x. x % c) (at_div (S * N) (k / N) (k % N * S) inside)

  -- a lap's count, as the right side has it
  lap_is : (a : ℕ) → S * a % (c * S) ≡ a % c * S
  lap_is a =
      ap (λ x. x % (c * S)) (omega arith)
      ∙ mod-mul (a * S + 0) (omega (arith, c_two)) (s_pos G)
      ∙ ap₂ (λ x y. x % c * S + y) (at_div S a 0 (s_pos G)) (at_mod S a 0 (s_pos G))
      ∙ add-zero (a % c * S)

  -- two counts less than 2^32 / N apart, equal in that modulus
  same_count : (a b : ℕ) → a < b + c * S → b < a + c * S → a % (c * S) ≡ b % (c * S) → a ≡ b
  same_count a b x y e = go (dec_le a b)
    where
      go : Dec (a ≤ b) → a ≡ b
      go (yes h) = place_inj (c * S) a b h y e
      go (no h) = sym (place_inj (c * S) b a (omega arith) x (sym e))

  -- S more on both sides
  back : (q a : ℕ) → (q + (word - S)) % (c * S) ≡ a % (c * S) → q % (c * S) ≡ (a + S) % (c * S)
  back q a h =
      sym (add-mul-mod_self_right q N (c * S))
      ∙ ap (λ u. u % (c * S)) (omega (arith, lap_word, s_le))
      ∙ sym (mod-add-mod (q + (word - S)) (c * S) S)
      ∙ ap (λ u. (u + S) % (c * S)) h
      ∙ mod-add-mod a (c * S) S

  -- the test at part k, whose seq lies less than 2^32 / N below it
  raised_is : (k Q : ℕ) → Q ≤ S * (k / N) + S → S * (k / N) + S < Q + c * S →
      sub32 (Q % word) S % (c * S) ≡ (k * S % word - k * S % word % (S * N)) / N → Q ≡ S * (k / N) + S
  raised_is k Q hi lo e =
      same_count Q (S * (k / N) + S) (omega (arith, mul-le-mul_right S c_two)) lo
      (back Q (S * (k / N)) (sym (left_is Q) ∙ e ∙ right_is k ∙ sym (lap_is (k / N))))

  -- the machine's test, at the position of part k
  pub ready_is : (k Q : ℕ) (x : Position) (seq : Commit) → x.0 ≡ k * S % word → seq.0 ≡ Q % word → ready_of x seq S N ≡ true →
      Q ≤ S * (k / N) + S → S * (k / N) + S < Q + c * S → Q ≡ S * (k / N) + S
  unfolding ready_of past_of to_commit_of byte_of
  ready_is k Q x seq ex eq t hi lo =
      raised_is k Q hi lo
      (ap₂ (λ a b. sub32 a S % b) (sym eq) (sym lap_size) ∙ eqb-true _ _ t ∙ ap (λ y. (y - y % (S * N)) / N) ex)
