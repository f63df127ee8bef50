-- The whole program: what it prints for its input (document 01, "The replay program").
use Rattle.std.specs.Prelude.{ℕ, cond, List, [], ◌∷◌, ◌++◌, eqb, replicate}
use Rattle.script.specs.declared.play.Play.{Play}
use Rattle.lines.specs.Line.{line_of}
use Rattle.script.specs.Play.{start_play, over, done_of, done_memory, done_desks}
use Rattle.replay.specs.Text.{told_of}

-- a last line without a line feed counts, unless nothing stands there
unfoldable pub last_line : List ℕ → List (List ℕ)
last_line [] = []
last_line (b ∷ bs) = (b ∷ bs) ∷ []

-- the lines of an input of which a part of a line was read: each ends before a line feed
unfoldable pub lines_from : (line : List ℕ) → List ℕ → List (List ℕ)
lines_from line [] = last_line line
lines_from line (b ∷ bs) = cond (eqb b 10) (line ∷ lines_from [] bs) (lines_from (line ++ (b ∷ [])) bs)

abbrev pub lines_of : List ℕ → List (List ℕ)
lines_of input = lines_from [] input

-- what lines print, one after the other; a bad line ends the program
unfoldable pub printed : Play → (memory desks : List ℕ) → List (List ℕ) → List ℕ
printed p memory desks [] = []
printed p memory desks (text ∷ texts) =
    let line = line_of text in
    let next = done_of p line memory desks in
    told_of next ++ cond (over next) [] (printed next (done_memory p line memory desks) (done_desks p line desks) texts)

-- ring memory and desks begin as zeros
abbrev pub output_of : List ℕ → List ℕ
output_of input = printed start_play (replicate 65536 0) (replicate 32768 0) (lines_of input)

-- the parts of an input, put together
unfoldable pub together : List (List ℕ) → List ℕ
together [] = []
together (t ∷ ts) = t ++ together ts
