-- Reading a line byte by byte: what the bytes so far come to, and what the next byte makes of that.
use Rattle.std.specs.Prelude.{ℕ, ◌+◌, ◌-◌, ◌*◌, ◌%◌, Bool, true, false, cond, List, [], ◌∷◌, eqb, ltb, leb, length, Option, Some, None, slice_get, slice_index}
use Rattle.std.specs.Option.{unwrap_or}
use Rattle.lines.specs.declared.line.Line.{Line}
use Rattle.lines.specs.declared.line.Line.TheVariants as line
use Rattle.lines.specs.declared.word.Word.{Word}
use Rattle.lines.specs.declared.word.Word.TheVariants.{New, Offer, Flush, Step, Run, Get, Put}
use Rattle.lines.specs.declared.reading.Reading.{Reading}
use Rattle.lines.specs.declared.reading.Reading.TheVariants.{Start, Letters, Numbers, Bad}
use Rattle.lines.specs.Line.{is_digit}
use Rattle.lines.specs.Word.{word_from, text_of, numbers_of, limit_of}

-- before the first byte
abbrev pub start_of : Reading
start_of = Start

-- no byte of the line was read
abbrev pub is_empty_of : Reading → Bool
is_empty_of Start = true
is_empty_of r = false

-- ---- a byte of the word

-- a first letter, of a word or of none
abbrev pub begun_of : Option Word → Reading
begun_of None = Bad
begun_of (Some word) = Letters word 1

unfoldable pub first_of : (b : ℕ) → Reading
first_of b = begun_of (word_from b)

-- whether a letter is the next one, if there is one
abbrev pub is_next : Option ℕ → (b : ℕ) → Bool
is_next None b = false
is_next (Some letter) b = eqb letter b

unfoldable pub letter_of : Word → (read b : ℕ) → Reading
letter_of word read b = cond (is_next (slice_get (text_of word) read) b) (Letters word (read + 1)) Bad

-- ---- a byte of a number

-- a digit more, if the number stays within its limit
unfoldable pub with_digit_of : (number b limit : ℕ) → Option ℕ
with_digit_of number b limit =
    cond (is_digit b) (cond (leb (number * 10 + (b - 48)) limit) (Some (number * 10 + (b - 48))) None) None

-- the number being read, if it is one
abbrev pub number_or_bad : Word → (place : ℕ) → Option ℕ → (before : List ℕ) → Reading
number_or_bad word place None before = Bad
number_or_bad word place (Some value) before = Numbers word place (Some value) before

-- ---- a space

-- behind the word or a number, so many numbers being read: the next one begins, if the word has more
unfoldable pub next_number_of : Word → (read : ℕ) → (before : List ℕ) → Reading
next_number_of word read before = cond (ltb read (numbers_of word)) (Numbers word (read + 1) None before) Bad

unfoldable pub space_of : Reading → Reading
space_of (Letters word read) = cond (eqb read (length (text_of word))) (next_number_of word 0 (0 ∷ 0 ∷ 0 ∷ [])) Bad
space_of (Numbers word place (Some last) before) = next_number_of word place (slice_index before 1 ∷ slice_index before 2 ∷ last ∷ [])
space_of r = Bad

-- ---- any byte, and the end

-- a byte that is no space
unfoldable pub byte_of : Reading → (b : ℕ) → Reading
byte_of Start b = first_of b
byte_of (Letters word read) b = letter_of word read b
byte_of (Numbers word place number before) b = number_or_bad word place (with_digit_of (unwrap_or number 0) b (limit_of word place)) before
byte_of Bad b = Bad

unfoldable pub take_of : Reading → (b : ℕ) → Reading
take_of r b = cond (eqb b 32) (space_of r) (byte_of r b)

-- the line of a word that no number follows
abbrev pub bare_of : Word → Option Line
bare_of Get = Some line.Get
bare_of Put = Some line.Put
bare_of word = None

-- the line of a word and its numbers
abbrev pub made_of : Word → (before : List ℕ) → (last : ℕ) → Option Line
made_of New before last = Some (line.New (slice_index before 0) (slice_index before 1) (slice_index before 2) last)
made_of Offer before last = Some (line.Offer (slice_index before 1) (slice_index before 2 % 256) (last % 65536))
made_of Flush before last = Some (line.Flush last)
made_of Step before last = Some (line.Step last)
made_of Run before last = Some (line.Run last)
made_of word before last = None

unfoldable pub line_in : Reading → Option Line
line_in (Letters word read) = cond (eqb read (length (text_of word))) (bare_of word) None
line_in (Numbers word place (Some last) before) = cond (eqb place (numbers_of word)) (made_of word before last) None
line_in r = None

-- bytes one after the other
unfoldable pub take_all : Reading → List ℕ → Reading
take_all r [] = r
take_all r (b ∷ bs) = take_all (take_of r b) bs
