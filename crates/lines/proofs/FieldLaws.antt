-- Reading a line field by field: what the bytes of a field come to, and the fields behind it. A line that is bad stays so.
use Prim.Native.Nat.{ℕ}
use Rattle.std.specs.Prelude.{Bool, ◌≡◌, eqb, length, Option, Some, None}
use Rattle.std.proofs.Math.Bool.{true, false, cond}
use mathlib.Core.List.{List, [], ◌∷◌}
use Rattle.std.proofs.Math.Path.{refl, ap}
use Rattle.std.proofs.Common.{◌∙◌}
use Rattle.lines.specs.declared.line.Line.{Line}
use Rattle.lines.specs.declared.reading.Reading.{Reading}
use Rattle.lines.specs.declared.reading.Reading.TheVariants.{Start, Letters, Numbers, Bad}
use Rattle.lines.specs.Line.{first_field, later_fields}
use Rattle.lines.specs.Word.{text_of}
use Rattle.lines.specs.Reading.{space_of, byte_of, take_of, line_in, take_all}

-- ---- a byte of a field, and a space

take_space : (r : Reading) (b : ℕ) → eqb b 32 ≡ true → take_of r b ≡ space_of r
unfolding take_of
take_space r b e = rw e

take_byte : (r : Reading) (b : ℕ) → eqb b 32 ≡ false → take_of r b ≡ byte_of r b
unfolding take_of
take_byte r b e = rw e

unfoldable pub eat : Reading → List ℕ → Reading
eat r [] = r
eat r (b ∷ bs) = eat (byte_of r b) bs

-- the fields behind the one that was read
unfoldable pub followed : Reading → List (List ℕ) → Option Line
followed r [] = line_in r
followed r (f ∷ fs) = followed (eat (space_of r) f) fs

-- by fields in place of bytes
pub by_fields : (r : Reading) (bs : List ℕ) → line_in (take_all r bs) ≡ followed (eat r (first_field bs)) (later_fields bs)
unfolding take_all eat followed first_field later_fields
by_fields r [] = refl
by_fields r (b ∷ bs) = go (eqb b 32) refl (by_fields (take_of r b) bs)
  where
    go : (t : Bool) → eqb b 32 ≡ t → line_in (take_all (take_of r b) bs) ≡ followed (eat (take_of r b) (first_field bs)) (later_fields bs) →
        line_in (take_all (take_of r b) bs) ≡ followed (eat r (cond t [] (b ∷ first_field bs))) (cond t (first_field bs ∷ later_fields bs) (later_fields bs))
    go true e next = next ∙ ap (λ (x : Reading). followed (eat x (first_field bs)) (later_fields bs)) (take_space r b e)
    go false e next = next ∙ ap (λ (x : Reading). followed (eat x (first_field bs)) (later_fields bs)) (take_byte r b e)

-- ---- a line that is bad stays so

pub eat_bad : (f : List ℕ) → eat Bad f ≡ Bad
unfolding eat byte_of
eat_bad [] = refl
eat_bad (b ∷ bs) = eat_bad bs

pub followed_bad : (fs : List (List ℕ)) → followed Bad fs ≡ None
unfolding followed line_in space_of
followed_bad [] = refl
followed_bad (f ∷ fs) = ap (λ (x : Reading). followed x fs) (eat_bad f) ∙ followed_bad fs

-- whether the last field is whole
abbrev pub whole_of : Reading → Bool
whole_of (Letters k i) = eqb i (length (text_of k))
whole_of (Numbers k i (Some v) before) = true
whole_of r = false

short_line : (r : Reading) → whole_of r ≡ false → line_in r ≡ None
unfolding line_in
short_line Start e = refl
short_line (Letters k i) e = rw e
short_line (Numbers k i None before) e = refl
short_line (Numbers k i (Some v) before) e = cc
short_line Bad e = refl

short_space : (r : Reading) → whole_of r ≡ false → space_of r ≡ Bad
unfolding space_of
short_space Start e = refl
short_space (Letters k i) e = rw e
short_space (Numbers k i None before) e = refl
short_space (Numbers k i (Some v) before) e = cc
short_space Bad e = refl

-- a field that is not whole
pub followed_short : (r : Reading) (fs : List (List ℕ)) → whole_of r ≡ false → followed r fs ≡ None
unfolding followed
followed_short r [] e = short_line r e
followed_short r (f ∷ fs) e =
    ap (λ (x : Reading). followed (eat x f) fs) (short_space r e)
    ∙ ap (λ (x : Reading). followed x fs) (eat_bad f)
    ∙ followed_bad fs
