-- The first word of a line: how it is written, and which numbers follow it.
use Rattle.std.specs.Prelude.{ℕ, cond, List, eqb, Option, Some, None}
use Rattle.lines.specs.declared.word.Word.{Word}
use Rattle.lines.specs.declared.word.Word.TheVariants.{New, Offer, Flush, Step, Run, Get, Put}
use Rattle.lines.specs.Line.{most, word_new, word_offer, word_flush, word_step, word_run, word_get, word_put}

-- the word that starts with n, o, f, s, r, g, p
abbrev pub word_from : (b : ℕ) → Option Word
word_from b =
    cond (eqb b 110) (Some New)
    (cond (eqb b 111) (Some Offer)
    (cond (eqb b 102) (Some Flush)
    (cond (eqb b 115) (Some Step)
    (cond (eqb b 114) (Some Run)
    (cond (eqb b 103) (Some Get)
    (cond (eqb b 112) (Some Put)
    None))))))

-- its letters
abbrev pub text_of : Word → List ℕ
text_of New = word_new
text_of Offer = word_offer
text_of Flush = word_flush
text_of Step = word_step
text_of Run = word_run
text_of Get = word_get
text_of Put = word_put

-- how many numbers follow it
abbrev pub numbers_of : Word → ℕ
numbers_of New = 4
numbers_of Offer = 3
numbers_of Flush = 1
numbers_of Step = 1
numbers_of Run = 1
numbers_of Get = 0
numbers_of Put = 0

-- the largest number allowed at a place behind it, the first being 1
abbrev pub limit_of : Word → (place : ℕ) → ℕ
limit_of Offer place = cond (eqb place 2) 255 (cond (eqb place 3) 65535 most)
limit_of word place = most
