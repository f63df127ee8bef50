-- A line written out: its word and its numbers in decimal, one space between two fields.
use Rattle.std.specs.Prelude.{ℕ, ◌≤◌, List, [], ◌∷◌, ◌++◌}
use Rattle.lines.specs.declared.line.Line.{Line}
use Rattle.lines.specs.declared.line.Line.TheVariants.{New, Offer, Flush, Step, Run, Get, Put}
use Rattle.lines.specs.Line.{most, word_new, word_offer, word_flush, word_step, word_run, word_get, word_put}
use Rattle.replay.specs.Text.{decimal_of}

unfoldable pub spelled : (word : List ℕ) (numbers : List ℕ) → List ℕ
spelled word [] = word
spelled word (n ∷ ns) = word ++ (32 ∷ spelled (decimal_of n) ns)

unfoldable pub written : Line → List ℕ
written (New S N P start) = spelled word_new (S ∷ N ∷ P ∷ start ∷ [])
written (Offer p kind L) = spelled word_offer (p ∷ kind ∷ L ∷ [])
written (Flush p) = spelled word_flush (p ∷ [])
written (Step p) = spelled word_step (p ∷ [])
written (Run p) = spelled word_run (p ∷ [])
written Get = spelled word_get []
written Put = spelled word_put []

-- its numbers are within their limits
unfoldable pub Fits : Line → Type 0
Fits (New S N P start) = (S ≤ most) × (N ≤ most) × (P ≤ most) × (start ≤ most)
Fits (Offer p kind L) = (p ≤ most) × (kind ≤ 255) × (L ≤ 65535)
Fits (Flush p) = p ≤ most
Fits (Step p) = p ≤ most
Fits (Run p) = p ≤ most
Fits Get = Unit {0}
Fits Put = Unit {0}
