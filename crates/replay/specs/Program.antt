-- The program on bytes (document 01, "The replay program"): what it makes of its input, byte by byte, and what it prints.
use Rattle.std.specs.Prelude.{ℕ, cond, List, [], ◌∷◌, ◌++◌, eqb, replicate}
use Rattle.replay.specs.declared.program.Program.{Program}
use Rattle.script.specs.Play.{start_play, over, done_of, done_memory, done_desks}
use Rattle.lines.specs.Reading.{start_of, is_empty_of, take_of, line_in}
use Rattle.replay.specs.Text.{told_of}

-- ring memory and desks begin as zeros
abbrev pub start_program : Program
start_program = record { reading = start_of; play = start_play; memory = replicate 65536 0; desks = replicate 32768 0 }

-- the line that was read is done
unfoldable pub lined_of : Program → Program
lined_of s =
    let line = line_in s.reading in
    record { reading = start_of; play = done_of s.play line s.memory s.desks; memory = done_memory s.play line s.memory s.desks; desks = done_desks s.play line s.desks }

-- a byte: a line feed ends a line; after a bad line nothing is done
unfoldable pub fed_of : Program → (b : ℕ) → Program
fed_of s b =
    cond (over s.play) s
    (cond (eqb b 10) (lined_of s)
    (record { reading = take_of s.reading b; play = s.play; memory = s.memory; desks = s.desks }))

-- what it prints
unfoldable pub said_of : Program → (b : ℕ) → List ℕ
said_of s b = cond (over s.play) [] (cond (eqb b 10) (told_of (lined_of s).play) [])

-- bytes one after the other
unfoldable pub fed_all : Program → List ℕ → Program
fed_all s [] = s
fed_all s (b ∷ bs) = fed_all (fed_of s b) bs

unfoldable pub said_all : Program → List ℕ → List ℕ
said_all s [] = []
said_all s (b ∷ bs) = said_of s b ++ said_all (fed_of s b) bs

-- the end of the input: a last line without a line feed counts
unfoldable pub last_said : Program → List ℕ
last_said s = cond (over s.play) [] (cond (is_empty_of s.reading) [] (told_of (lined_of s).play))

-- an input that is read in parts
unfoldable pub in_parts : Program → List (List ℕ) → List ℕ
in_parts s [] = last_said s
in_parts s (t ∷ ts) = said_all s t ++ in_parts (fed_all s t) ts
