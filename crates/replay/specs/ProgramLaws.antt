-- What is proved of the program on bytes.
use Prim.Native.Nat.{ℕ, suc, ◌+◌, ◌≤◌, ◌<◌}
use Rattle.std.specs.Prelude.{true, false, ◌≡◌, length, drop, get_or}
use mathlib.Core.List.{List, [], ◌++◌, append_assoc, append-nil}
use Rattle.std.proofs.Common.{sym, ap, ◌∙◌, drop_of_length-le}
use native.Mathlib.Omega.{arith}
use Rattle.std.proofs.Math.Seq.{drop-cons}
use borrow.Author.Tests.{eq-eqb, ne_eqb}
use Rattle.replay.specs.declared.program.Program.{Program}
use Rattle.replay.specs.Program.{lined_of, fed_of, said_of, fed_all, said_all, last_said}
use Rattle.lines.specs.Reading.{is_empty_of, take_of}
use Rattle.script.specs.Play.{over}
use Rattle.replay.specs.Text.{told_of}

-- ---- a byte

module _ (s : Program) (b : ℕ) where
  pub fed_over : over s.play ≡ true → fed_of s b ≡ s
  unfolding fed_of
  fed_over e = rw e

  pub said_over : over s.play ≡ true → said_of s b ≡ []
  unfolding said_of
  said_over e = rw e

  pub fed_line : over s.play ≡ false → b ≡ 10 → fed_of s b ≡ lined_of s
  unfolding fed_of
  fed_line e h = rw (e, eq-eqb b 10 h)

  pub said_line : over s.play ≡ false → b ≡ 10 → said_of s b ≡ told_of (lined_of s).play
  unfolding said_of
  said_line e h = rw (e, eq-eqb b 10 h)

  pub fed_byte : over s.play ≡ false → (b ≡ 10 → ⊥) →
      fed_of s b ≡ record { reading = take_of s.reading b; play = s.play; memory = s.memory; desks = s.desks }
  unfolding fed_of
  fed_byte e h = rw (e, ne_eqb b 10 h)

  pub said_byte : over s.play ≡ false → (b ≡ 10 → ⊥) → said_of s b ≡ []
  unfolding said_of
  said_byte e h = rw (e, ne_eqb b 10 h)

-- ---- bytes one after the other

module _ (s t : Program) (bs : List ℕ) (i : ℕ) (h : i < length bs) (e : t ≡ fed_of s (get_or bs i 0)) where
  -- one byte more
  pub fed_on : fed_all t (drop (i + 1) bs) ≡ fed_all s (drop i bs)
  unfolding fed_all
  fed_on = let one : i + 1 ≡ suc i = omega arith in rw (one, drop-cons bs i 0 h, e)

  said_next : said_all s (drop i bs) ≡ said_of s (get_or bs i 0) ++ said_all t (drop (i + 1) bs)
  unfolding said_all
  said_next = let one : i + 1 ≡ suc i = omega arith in rw (one, drop-cons bs i 0 h, e)

  pub said_on : (before after : List ℕ) → after ≡ before ++ said_of s (get_or bs i 0) → after ++ said_all t (drop (i + 1) bs) ≡ before ++ said_all s (drop i bs)
  said_on before after k =
      ap (λ (l : List ℕ). l ++ said_all t (drop (i + 1) bs)) k
      ∙ append_assoc before (said_of s (get_or bs i 0)) (said_all t (drop (i + 1) bs))
      ∙ ap (λ (l : List ℕ). before ++ l) (sym said_next)

module _ (s : Program) (bs : List ℕ) (i : ℕ) (h : length bs ≤ i) where
  -- no byte is left
  pub fed_none : fed_all s (drop i bs) ≡ s
  unfolding fed_all
  fed_none = rw (drop_of_length-le bs {i = i} h)

  pub said_none : (before : List ℕ) → before ++ said_all s (drop i bs) ≡ before
  unfolding said_all
  said_none before = rw (drop_of_length-le bs {i = i} h, append-nil before)

-- what a loop over the bytes needs
pub ruleset byte_by_byte = (fed_on, said_on, fed_none, said_none)

-- ---- the end of the input

module _ (s : Program) where
  pub last_over : over s.play ≡ true → last_said s ≡ []
  unfolding last_said
  last_over e = rw e

  pub last_none : over s.play ≡ false → is_empty_of s.reading ≡ true → last_said s ≡ []
  unfolding last_said
  last_none e h = rw (e, h)

  pub last-line : over s.play ≡ false → is_empty_of s.reading ≡ false → last_said s ≡ told_of (lined_of s).play
  unfolding last_said
  last-line e h = rw (e, h)
