-- What the program prints byte by byte is what its lines print: `prints`; and it does not matter in which parts the input is read.
use Rattle.std.specs.Prelude.{ℕ, Bool, ◌≡◌, Option, eqb, replicate}
use Rattle.std.proofs.Math.Bool.{true, false, cond}
use mathlib.Core.List.{List, [], ◌∷◌, ◌++◌, append_assoc, append-nil}
use Rattle.std.proofs.Math.Path.{refl, sym, ap}
use Rattle.std.proofs.Common.{ap₂, ◌∙◌, eqb-true}
use Rattle.std.proofs.lemmas.Bool.{eqb-false}
use Rattle.lines.specs.declared.line.Line.{Line}
use Rattle.script.specs.declared.play.Play.{Play}
use Rattle.lines.specs.declared.reading.Reading.{Reading}
use Rattle.lines.specs.Line.{line_of}
use Rattle.replay.specs.Output.{last_line, lines_from, printed, output_of, together}
use Rattle.script.specs.Play.{start_play, over, done_of, done_memory, done_desks}
use Rattle.replay.specs.declared.program.Program.{Program}
use Rattle.replay.specs.Program.{start_program, lined_of, fed_of, said_of, fed_all, said_all, last_said, in_parts}
use Rattle.replay.specs.ProgramLaws.{fed_over, said_over, fed_line, said_line, fed_byte, said_byte, last_over, last_none, last-line}
use Rattle.lines.specs.Reading.{start_of, is_empty_of, take_of, take_all}
use Rattle.lines.proofs.ReadingLaws.{reads, take_begun}
use Rattle.replay.specs.Text.{told_of}

-- ---- parts of the input

pub fed_parts : (s : Program) (xs ys : List ℕ) → fed_all s (xs ++ ys) ≡ fed_all (fed_all s xs) ys
unfolding fed_all
fed_parts s [] ys = refl
fed_parts s (x ∷ xs) ys = fed_parts (fed_of s x) xs ys

pub said_parts : (s : Program) (xs ys : List ℕ) → said_all s (xs ++ ys) ≡ said_all s xs ++ said_all (fed_all s xs) ys
unfolding fed_all said_all
said_parts s [] ys = refl
said_parts s (x ∷ xs) ys =
    ap (λ (l : List ℕ). said_of s x ++ l) (said_parts (fed_of s x) xs ys)
    ∙ sym (append_assoc (said_of s x) (said_all (fed_of s x) xs) (said_all (fed_all (fed_of s x) xs) ys))

-- ---- after a bad line

over_fed : (s : Program) (bs : List ℕ) → over s.play ≡ true → fed_all s bs ≡ s
unfolding fed_all
over_fed s [] o = refl
over_fed s (b ∷ bs) o = ap (λ (x : Program). fed_all x bs) (fed_over s b o) ∙ over_fed s bs o

over_said : (s : Program) (bs : List ℕ) → over s.play ≡ true → said_all s bs ≡ []
unfolding said_all
over_said s [] o = refl
over_said s (b ∷ bs) o = ap₂ (λ (l : List ℕ) (x : Program). l ++ said_all x bs) (said_over s b o) (fed_over s b o) ∙ over_said s bs o

-- ---- a line of which a byte was read is begun

all_begun : (r : Reading) (bs : List ℕ) → is_empty_of r ≡ false → is_empty_of (take_all r bs) ≡ false
unfolding take_all
all_begun r [] h = h
all_begun r (b ∷ bs) h = all_begun (take_of r b) bs (take_begun r b)

read_begun : (b : ℕ) (bs : List ℕ) → is_empty_of (take_all start_of (b ∷ bs)) ≡ false
unfolding take_all
read_begun b bs = all_begun (take_of start_of b) bs (take_begun start_of b)

read_none : is_empty_of (take_all start_of []) ≡ true
unfolding take_all
read_none = refl

-- ---- lines

take_snoc : (r : Reading) (bs : List ℕ) (b : ℕ) → take_all r (bs ++ (b ∷ [])) ≡ take_of (take_all r bs) b
unfolding take_all
take_snoc r [] b = refl
take_snoc r (x ∷ xs) b = take_snoc (take_of r x) xs b

-- a part of a line was read
abbrev at : (line : List ℕ) → Play → (memory desks : List ℕ) → Program
at line p memory desks = record { reading = take_all start_of line; play = p; memory = memory; desks = desks }

module _ (p : Play) (m d : List ℕ) where
  abbrev next : List ℕ → Play
  next line = done_of p (line_of line) m d

  abbrev then : List ℕ → Program
  then line = at [] (next line) (done_memory p (line_of line) m d) (done_desks p (line_of line) d)

  lined : (line : List ℕ) → lined_of (at line p m d) ≡ then line
  unfolding lined_of take_all
  lined line =
      ap (λ (l : Option Line). record { reading = start_of; play = done_of p l m d; memory = done_memory p l m d; desks = done_desks p l d }) (reads line)

  -- the end of the input
  last : (line : List ℕ) → over p ≡ false → last_said (at line p m d) ≡ printed p m d (last_line line)
  unfolding last_line printed
  last [] o = last_none (at [] p m d) o read_none
  last (b ∷ bs) o =
      last-line (at (b ∷ bs) p m d) o (read_begun b bs)
      ∙ ap (λ (s : Program). told_of s.play) (lined (b ∷ bs))
      ∙ sym (append-nil (told_of (next (b ∷ bs))))
      ∙ ap (λ (l : List ℕ). told_of (next (b ∷ bs)) ++ l) (sym (ends (over (next (b ∷ bs)))))
    where
      ends : (t : Bool) → cond {A = List ℕ} t [] [] ≡ []
      ends true = refl
      ends false = refl

-- what the bytes behind a line print
abbrev rest : Program → List ℕ → List ℕ
rest s bs = said_all s bs ++ last_said (fed_all s bs)

rest_over : (s : Program) (bs : List ℕ) → over s.play ≡ true → rest s bs ≡ []
rest_over s bs o =
    ap₂ (λ (l : List ℕ) (x : Program). l ++ last_said x) (over_said s bs o) (over_fed s bs o) ∙ last_over s o

after_line : (s : Program) (bs : List ℕ) (l : List ℕ) → (over s.play ≡ false → rest s bs ≡ l) → rest s bs ≡ cond (over s.play) [] l
after_line s bs l h = go (over s.play) refl
  where
    go : (t : Bool) → over s.play ≡ t → rest s bs ≡ cond t [] l
    go true o = rest_over s bs o
    go false o = h o

whole : (line : List ℕ) (p : Play) (m d : List ℕ) (bs : List ℕ) → over p ≡ false → rest (at line p m d) bs ≡ printed p m d (lines_from line bs)
unfolding said_all fed_all lines_from printed
whole line p m d [] o = last p m d line o
whole line p m d (b ∷ bs) o =
    append_assoc (said_of s b) (said_all (fed_of s b) bs) (last_said (fed_all (fed_of s b) bs))
    ∙ go (eqb b 10) refl (whole [] (next p m d line) (done_memory p (line_of line) m d) (done_desks p (line_of line) d) bs) (whole (line ++ (b ∷ [])) p m d bs o)
  where
    s : Program
    s = at line p m d

    ended : List ℕ
    ended = printed (next p m d line) (done_memory p (line_of line) m d) (done_desks p (line_of line) d) (lines_from [] bs)

    go : (t : Bool) → eqb b 10 ≡ t → (over (next p m d line) ≡ false → rest (then p m d line) bs ≡ ended) →
        rest (at (line ++ (b ∷ [])) p m d) bs ≡ printed p m d (lines_from (line ++ (b ∷ [])) bs) →
        said_of s b ++ rest (fed_of s b) bs ≡ printed p m d (cond t (line ∷ lines_from [] bs) (lines_from (line ++ (b ∷ [])) bs))
    go true e ih on =
        ap₂ (λ (l : List ℕ) (x : Program). l ++ rest x bs)
        (said_line s b o (eqb-true b 10 e) ∙ ap (λ (x : Program). told_of x.play) (lined p m d line))
        (fed_line s b o (eqb-true b 10 e) ∙ lined p m d line)
        ∙ ap (λ (l : List ℕ). told_of (next p m d line) ++ l) (after_line (then p m d line) bs ended ih)
    go false e ih on =
        ap₂ (λ (l : List ℕ) (x : Program). l ++ rest x bs)
        (said_byte s b o (eqb-false b 10 e))
        (fed_byte s b o (eqb-false b 10 e) ∙ (λ i. record { reading = sym (take_snoc start_of line b) i; play = p; memory = m; desks = d }))
        ∙ on

-- what is printed for the bytes of an input and its end is what its lines print
pub prints : (input : List ℕ) → said_all start_program input ++ last_said (fed_all start_program input) ≡ output_of input
unfolding take_all
prints input = whole [] start_play (replicate 65536 0) (replicate 32768 0) input refl

-- however the input is cut into parts
in-parts : (s : Program) (ts : List (List ℕ)) → in_parts s ts ≡ rest s (together ts)
unfolding in_parts together said_all fed_all
in-parts s [] = refl
in-parts s (t ∷ ts) =
    ap (λ (l : List ℕ). said_all s t ++ l) (in-parts (fed_all s t) ts)
    ∙ sym (append_assoc (said_all s t) (said_all (fed_all s t) (together ts)) (last_said (fed_all (fed_all s t) (together ts))))
    ∙ ap₂ (λ (l : List ℕ) (x : Program). l ++ last_said x) (sym (said_parts s t (together ts))) (sym (fed_parts s t (together ts)))

pub prints_in_parts : (parts : List (List ℕ)) → in_parts start_program parts ≡ output_of (together parts)
prints_in_parts parts = in-parts start_program parts ∙ prints (together parts)
