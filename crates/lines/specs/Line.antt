-- Which text is which line (document 01, "The replay program"): `new S N P start`, `offer p kind L`, `flush p`, `step p`, `run p`,
-- `get`, `put`. Fields are parted by one space, numbers are decimal; kind is at most 255, L at most 65,535, others at most 4,294,967,295.
use Rattle.std.specs.Prelude.{ℕ, ◌+◌, ◌-◌, ◌*◌, Bool, true, false, cond, List, [], ◌∷◌, eqb, ltb, leb, get_or, Option, Some, None}
use Rattle.lines.specs.declared.line.Line.{Line}
use Rattle.lines.specs.declared.line.Line.TheVariants.{New, Offer, Flush, Step, Run, Get, Put}

-- ---- fields

-- the text before the first space: the word
unfoldable pub first_field : List ℕ → List ℕ
first_field [] = []
first_field (b ∷ bs) = cond (eqb b 32) [] (b ∷ first_field bs)

-- the fields behind it, one for each space
unfoldable pub later_fields : List ℕ → List (List ℕ)
later_fields [] = []
later_fields (b ∷ bs) = cond (eqb b 32) (first_field bs ∷ later_fields bs) (later_fields bs)

-- whether two texts are the same
unfoldable pub same : List ℕ → List ℕ → Bool
same [] [] = true
same [] (y ∷ ys) = false
same (x ∷ xs) [] = false
same (x ∷ xs) (y ∷ ys) = cond (eqb y x) (same xs ys) false

-- ---- numbers

abbrev pub is_digit : ℕ → Bool
is_digit b = cond (ltb b 48) false (cond (ltb 57 b) false true)

unfoldable pub all_digits : List ℕ → Bool
all_digits [] = true
all_digits (b ∷ bs) = cond (is_digit b) (all_digits bs) false

-- the number that a text of digits goes on with from v, and the number that it is
unfoldable pub value_from : (v : ℕ) → List ℕ → ℕ
value_from v [] = v
value_from v (b ∷ bs) = value_from (v * 10 + (b - 48)) bs

abbrev pub value_of : List ℕ → ℕ
value_of f = value_from 0 f

-- one digit or more, and within the limit
unfoldable pub is_number : (limit : ℕ) → List ℕ → Bool
is_number limit [] = false
is_number limit (b ∷ bs) = cond (all_digits (b ∷ bs)) (leb (value_of (b ∷ bs)) limit) false

-- as many fields as limits, each a number within its own
unfoldable pub fit : (limits : List ℕ) → List (List ℕ) → Bool
fit [] [] = true
fit [] (f ∷ fs) = false
fit (l ∷ ls) [] = false
fit (l ∷ ls) (f ∷ fs) = cond (is_number l f) (fit ls fs) false

abbrev pub number : (i : ℕ) → List (List ℕ) → ℕ
number i fs = value_of (get_or fs i [])

-- ---- lines

-- the largest 32-bit number, and the words in ASCII
abbrev pub most : ℕ
most = 4294967295

abbrev pub word_new : List ℕ
word_new = 110 ∷ 101 ∷ 119 ∷ []

abbrev pub word_offer : List ℕ
word_offer = 111 ∷ 102 ∷ 102 ∷ 101 ∷ 114 ∷ []

abbrev pub word_flush : List ℕ
word_flush = 102 ∷ 108 ∷ 117 ∷ 115 ∷ 104 ∷ []

abbrev pub word_step : List ℕ
word_step = 115 ∷ 116 ∷ 101 ∷ 112 ∷ []

abbrev pub word_run : List ℕ
word_run = 114 ∷ 117 ∷ 110 ∷ []

abbrev pub word_get : List ℕ
word_get = 103 ∷ 101 ∷ 116 ∷ []

abbrev pub word_put : List ℕ
word_put = 112 ∷ 117 ∷ 116 ∷ []

unfoldable pub form_of : (word : List ℕ) → List (List ℕ) → Option Line
form_of word fs =
    cond (same word word_new)
    (cond (fit (most ∷ most ∷ most ∷ most ∷ []) fs) (Some (New (number 0 fs) (number 1 fs) (number 2 fs) (number 3 fs))) None)
    (cond (same word word_offer)
    (cond (fit (most ∷ 255 ∷ 65535 ∷ []) fs) (Some (Offer (number 0 fs) (number 1 fs) (number 2 fs))) None)
    (cond (same word word_flush)
    (cond (fit (most ∷ []) fs) (Some (Flush (number 0 fs))) None)
    (cond (same word word_step)
    (cond (fit (most ∷ []) fs) (Some (Step (number 0 fs))) None)
    (cond (same word word_run)
    (cond (fit (most ∷ []) fs) (Some (Run (number 0 fs))) None)
    (cond (same word word_get)
    (cond (fit [] fs) (Some Get) None)
    (cond (same word word_put)
    (cond (fit [] fs) (Some Put) None)
    None))))))

-- the line that a text is
unfoldable pub line_of : List ℕ → Option Line
line_of text = form_of (first_field text) (later_fields text)
