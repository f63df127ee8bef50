-- What is proved of the text that a line prints.
use Rattle.std.specs.Prelude.{ℕ, suc, ◌+◌, ◌^◌, ◌≤◌, ◌<◌, true, false, List, [], ◌∷◌, ◌++◌, ◌≡◌, length, drop, get_or}
use Rattle.std.proofs.Common.{append_assoc, append-nil, sym, arith, rules, drop_of_length-le, drop-cons}
use Rattle.std.proofs.lemmas.Fmt.{decimal_from_appends, length-decimal-le}
use Rattle.std.specs.Fmt.{decimal}
use Rattle.script.specs.declared.play.Play.{Play}
use Rattle.script.specs.Play.{over}
use Rattle.replay.specs.Text.{decimal_by, decimal_of, end_of, joined, numbers_told, bad_line, told_of}

-- ---- decimal

-- the digits that the library prints are those of document 01's decimal
pub printed_digits : (k n : ℕ) → n < 2 ^ 64 → length (decimal n) ≤ k → decimal n ≡ decimal_by k n
unfolding decimal_by
printed_digits k n h l = sym (decimal_from_appends decimal_by (search rules) k n h l)

-- a 32-bit number has ten digits at most
pub printed_ten : (n : ℕ) → n < 2 ^ 32 → length (decimal n) ≤ 10
printed_ten n h = length-decimal-le 10 n (omega arith) (omega arith) (omega arith)

-- a number behind a text
pub decimal_printed : (n : ℕ) → n < 2 ^ 32 → decimal n ≡ decimal_of n
decimal_printed n h = printed_digits 10 n (omega arith) (printed_ten n h)

-- ---- the six numbers

joined_on : (i : ℕ) (ns : List ℕ) → i < length ns → joined i (drop i ns) ≡ (decimal_of (get_or ns i 0) ++ (end_of i ∷ [])) ++ joined (suc i) (drop (suc i) ns)
unfolding joined
joined_on i ns h = rw (drop-cons ns i 0 h)

-- one number more
pub joined_step : (ns front before after : List ℕ) (i : ℕ) → i < length ns → after ≡ before ++ (decimal_of (get_or ns i 0) ++ (end_of i ∷ [])) →
    before ++ joined i (drop i ns) ≡ front → after ++ joined (i + 1) (drop (i + 1) ns) ≡ front
joined_step ns front before after i h e g =
    let one : i + 1 ≡ suc i = omega arith in
    rw (one, e, append_assoc before (decimal_of (get_or ns i 0) ++ (end_of i ∷ [])) (joined (suc i) (drop (suc i) ns)), sym (joined_on i ns h)) g

-- no number is left
pub joined_none : (ns front : List ℕ) (i : ℕ) → length ns ≤ i → front ++ joined i (drop i ns) ≡ front
unfolding joined
joined_none ns front i h = rw (drop_of_length-le ns {i = i} h, append-nil front)

-- ---- what a line prints

module _ (p : Play) where
  pub told_bad : over p ≡ true → told_of p ≡ bad_line
  unfolding told_of
  told_bad e = rw e

  pub told_numbers : over p ≡ false → told_of p ≡ joined 0 (numbers_told p)
  unfolding told_of
  told_numbers e = rw e
