-- Laws of a buffer of bytes with a length beside it, and of the digits that the kit's io prints. What is printed stands in a text of its
-- own now (TextLaws); these stand as they were.
use Rattle.std.specs.Prelude.{ℕ, zero, suc, ◌+◌, ◌-◌, ◌/◌, ◌%◌, ◌^◌, ◌≤◌, ◌<◌, List, [], ◌∷◌, ◌++◌, ◌≡◌, length, take, drop, set}
use Rattle.std.proofs.Common.{append_assoc, sym, ap, ap₂, subst, ◌∙◌, pow-suc, mod-lt, arith, length-append, length-drop, take_at, length-take-le, take-suc-set, lt-ltb, le-ltb}
use Rattle.std.proofs.Math.Decide.{dec_lt}
use Rattle.std.proofs.Math.Nat.{pow-le-pow_right, one-le-pow}
use Rattle.io.specs.Digits.{hex_digit_ascii, last_digits, IsDigitCount}
use Rattle.layout.specs.Bytes.{copied}
use Rattle.layout.specs.BytesLaws.{copied_same}
use Rattle.replay.specs.Text.{decimal_by, decimal_of}

-- ---- a text behind the first bytes of a buffer

pub text_behind : (out text last : List ℕ) (at : ℕ) → at + length text ≤ length out → last ≡ copied text (take (at + length text - at) (drop at out)) →
    take (at + length text) (take at out ++ (last ++ drop (at + length text - at) (drop at out))) ≡ take at out ++ text
text_behind out text last at h e =
    let g : at + length text - at ≡ length text = omega arith in
    let n : length (take (length text) (drop at out)) ≡ length text = length-take-le (length text) (drop at out) (rw (length-drop at out) (omega arith)) in
    let made : last ≡ copied text (take (length text) (drop at out)) = rw g at e in
    let same : last ≡ text = made ∙ copied_same text (take (length text) (drop at out)) (sym n) in
    let long : length (take at out ++ text) ≡ at + length text =
    length-append (take at out) text ∙ ap (λ (k : ℕ). k + length text) (length-take-le at out (omega arith)) in
    rw (same, sym (append_assoc (take at out) text (drop (at + length text - at) (drop at out)))) (take_at (take at out ++ text) _ (at + length text) long)

-- ---- decimal

digit : (d : ℕ) → d < 10 → hex_digit_ascii d ≡ 48 + d
digit d h = rw (lt-ltb d 10 h)

pub decimal_digits : (f k n : ℕ) → k ≤ f → IsDigitCount 10 1 n k → last_digits 10 k n ≡ decimal_by f n
unfolding decimal_by
decimal_digits f zero n h w = absurd (omega (arith, w.0))
decimal_digits zero (suc k) n h w = absurd (omega arith)
decimal_digits (suc f) (suc zero) n h w =
    let small : n < 10 = omega (arith, w.1) in
    let same : n % 10 ≡ n = omega arith in
    rw (lt-ltb n 10 small, same, lt-ltb n 10 small)
decimal_digits (suc f) (suc (suc k)) n h w =
    let one : suc (suc k) - 1 ≡ suc k = omega arith in
    let two : suc k - 1 ≡ k = omega arith in
    let low : 10 ^ suc k ≤ n = subst (λ (j : ℕ). 10 ^ j ≤ n) one (w.2 (omega arith)) in
    let more : 10 ≤ 10 ^ suc k = omega (arith, pow-suc 10 k, one-le-pow k 10 (omega arith)) in
    let least : 10 ^ (suc k - 1) ≤ n / 10 = subst (λ (j : ℕ). 10 ^ j ≤ n / 10) (sym two) (omega (arith, low, pow-suc 10 k)) in
    let rest : IsDigitCount 10 1 (n / 10) (suc k) = (omega arith, omega (arith, w.1, pow-suc 10 (suc k)), λ _. least) in
    rw (le-ltb n 10 (omega arith)) (ap₂ (λ (l : List ℕ) (d : ℕ). l ++ (d ∷ [])) (decimal_digits f (suc k) (n / 10) (omega arith) rest) (digit (n % 10) (mod-lt n (omega arith))))

-- a 32-bit number has ten digits at most
pub ten_digits : (n k : ℕ) → n < 4294967296 → IsDigitCount 10 1 n k → k ≤ 10
ten_digits n k h w = go (dec_lt 10 k)
  where
    go : Dec (10 < k) → k ≤ 10
    go (no m) = omega arith
    go (yes m) = absurd (omega (arith, w.2 (omega arith), pow-le-pow_right {n = 10} (omega arith) {i = 10} {j = k - 1} (omega arith)))

-- a number behind the first bytes of a buffer, and the byte that ends it
pub number_behind : (out last text : List ℕ) (at mid k n end : ℕ) → mid < length last → take mid last ≡ take at out ++ text → text ≡ last_digits 10 k n →
    k ≤ 10 → IsDigitCount 10 1 n k → take (mid + 1) (set last mid end) ≡ take at out ++ (decimal_of n ++ (end ∷ []))
number_behind out last text at mid k n end h e d ten w =
    let one : mid + 1 ≡ suc mid = omega arith in
    rw (one, take-suc-set last mid end h, e, d ∙ decimal_digits 10 k n ten w, append_assoc (take at out) (decimal_of n) (end ∷ []))
