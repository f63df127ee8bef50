-- Reading a line byte by byte gives the line that its text is: `reads`. A reading that has taken a byte is not empty: `take_begun`.
use Prim.Native.Nat.{ℕ, zero, suc, ◌+◌, ◌-◌, ◌*◌, ◌≤◌, ◌<◌}
use Rattle.std.specs.Prelude.{Bool, ◌≡◌, ◌%◌, T, eqb, ltb, leb, length, slice_get, slice_index, Option, Some, None}
use Rattle.std.specs.Option.{unwrap_or}
use Rattle.std.proofs.Math.Bool.{true, false, cond}
use mathlib.Core.List.{List, [], ◌∷◌}
use Rattle.std.proofs.Math.Path.{refl, ap}
use Rattle.std.proofs.Common.{sym, subst, ◌∙◌, arith, rules}
use native.Mathlib.Omega.{arith}
use borrow.Author.Tests.{eq-eqb, ne_eqb, eqb-true, le-leb, lt-leb, lt-ltb, le-ltb, leb-true, leb-false}
use Rattle.std.proofs.lemmas.Bool.{cond_both}
use Rattle.lines.specs.declared.line.Line.{Line}
use Rattle.lines.specs.declared.line.Line.TheVariants as line
use Rattle.lines.specs.declared.word.Word.{Word}
use Rattle.lines.specs.declared.word.Word.TheVariants.{New, Offer, Flush, Step, Run, Get, Put}
use Rattle.lines.specs.declared.reading.Reading.{Reading}
use Rattle.lines.specs.declared.reading.Reading.TheVariants.{Start, Letters, Numbers, Bad}
use Rattle.lines.specs.Line.{first_field, later_fields, same, is_digit, all_digits, value_from, value_of, is_number, fit, number, most, form_of, line_of}
use Rattle.lines.specs.Line.{word_new, word_offer, word_flush, word_step, word_run, word_get, word_put}
use Rattle.lines.specs.Word.{word_from, text_of, numbers_of, limit_of}
use Rattle.lines.proofs.FieldLaws.{eat, followed, by_fields, eat_bad, followed_bad, whole_of, followed_short}
use Rattle.lines.specs.Reading.{start_of, is_empty_of, begun_of, first_of, is_next, letter_of, with_digit_of, number_or_bad, next_number_of, space_of, byte_of, take_of, bare_of, made_of, line_in, take_all}

-- ---- tests

pub no_true : false ≡ true → ⊥
no_true e = subst T (sym e) tt

pub both_true : (a b : Bool) → cond a b false ≡ true → (a ≡ true) × (b ≡ true)
both_true true b e = (refl, e)
both_true false b e = absurd (no_true e)

-- two answers are the same where the test says yes
when : (t : Bool) (x y z : Option Line) → (t ≡ true → x ≡ y) → cond t x z ≡ cond t y z
when true x y z h = h refl
when false x y z h = refl

-- ---- a number

grows : (v : ℕ) (bs : List ℕ) → v ≤ value_from v bs
unfolding value_from
grows v [] = omega arith
grows v (b ∷ bs) = omega (arith, grows (v * 10 + (b - 48)) bs)

-- a number, with these bytes more
abbrev with_bytes : Option ℕ → List ℕ → Option ℕ
with_bytes o [] = o
with_bytes o (b ∷ bs) = Some (value_from (unwrap_or o 0) (b ∷ bs))

bytes_stay : (v : ℕ) (bs : List ℕ) → with_bytes (Some v) bs ≡ Some (value_from v bs)
unfolding value_from
bytes_stay v [] = refl
bytes_stay v (b ∷ bs) = refl

module _ (k : Word) (i : ℕ) (before : List ℕ) where
  -- a number with these bytes more, or a bad line
  ended : Option ℕ → List ℕ → Reading
  ended o f =
      cond (all_digits f) (cond (leb (value_from (unwrap_or o 0) f) (limit_of k i)) (Numbers k i (with_bytes o f) before) Bad) Bad

  -- too large already
  over : (o : Option ℕ) (v : ℕ) (bs : List ℕ) (t : Bool) → limit_of k i < value_from v bs →
      cond t (cond (leb (value_from v bs) (limit_of k i)) (Numbers k i o before) Bad) Bad ≡ Bad
  over o v bs true h = rw (lt-leb (value_from v bs) (limit_of k i) h)
  over o v bs false h = refl

  eat_number : (o : Option ℕ) (f : List ℕ) → unwrap_or o 0 ≤ limit_of k i → eat (Numbers k i o before) f ≡ ended o f
  unfolding eat ended byte_of with_digit_of all_digits value_from
  eat_number o [] h = rw (le-leb (unwrap_or o 0) (limit_of k i) h)
  eat_number o (d ∷ bs) h = go (is_digit d) (leb w (limit_of k i)) refl (eat_number (Some w) bs)
    where
      w : ℕ
      w = unwrap_or o 0 * 10 + (d - 48)

      go : (digit low : Bool) → leb w (limit_of k i) ≡ low → (w ≤ limit_of k i → eat (Numbers k i (Some w) before) bs ≡ ended (Some w) bs) →
          eat (number_or_bad k i (cond digit (cond low (Some w) None) None) before) bs
          ≡ cond (cond digit (all_digits bs) false) (cond (leb (value_from w bs) (limit_of k i)) (Numbers k i (Some (value_from w bs)) before) Bad) Bad
      go false low q next = eat_bad bs
      go true false q next =
          eat_bad bs ∙ sym (over (Some (value_from w bs)) w bs (all_digits bs) (omega (arith, grows w bs, leb-false w (limit_of k i) q)))
      go true true q next =
          next (leb-true w (limit_of k i) q)
          ∙ ap (λ (x : Option ℕ). cond (all_digits bs) (cond (leb (value_from w bs) (limit_of k i)) (Numbers k i x before) Bad) Bad) (bytes_stay w bs)

-- ---- the numbers behind a word

-- a field, i numbers being read
module _ (k : Word) (i : ℕ) (before : List ℕ) (r : Reading) (space : space_of r ≡ next_number_of k i before) (f : List ℕ) (fs : List (List ℕ)) where
  -- no more numbers than the word has
  too_many : i ≡ numbers_of k → followed r (f ∷ fs) ≡ None
  unfolding followed next_number_of
  too_many e =
      rw (space, le-ltb i (numbers_of k) (omega arith)) (ap (λ (x : Reading). followed x fs) (eat_bad f) ∙ followed_bad fs)

  -- the next number
  step : i < numbers_of k → followed r (f ∷ fs) ≡ followed (ended k (i + 1) before None f) fs
  unfolding followed next_number_of
  step h =
      rw (space, lt-ltb i (numbers_of k) h)
      (ap (λ (x : Reading). followed x fs) (eat_number k (i + 1) before None f (omega arith)))

-- the limits of the n numbers behind the i-th
abbrev limits_from : (n : ℕ) → Word → (i : ℕ) → List ℕ
limits_from zero k i = []
limits_from (suc n) k i = limit_of k (i + 1) ∷ limits_from n k (i + 1)

-- a number more, the oldest of three going
abbrev moved : List ℕ → ℕ → List ℕ
moved before v = slice_index before 1 ∷ slice_index before 2 ∷ v ∷ []

-- the line of a word, the numbers read and the fields that follow
abbrev made_from : Word → (before : List ℕ) → ℕ → List (List ℕ) → Option Line
made_from k before v [] = made_of k before v
made_from k before v (f ∷ fs) = made_from k (moved before v) (value_of f) fs

module _ (k : Word) where
  abbrev whole : ℕ → List ℕ → ℕ → Reading
  whole i before v = Numbers k i (Some v) before

  spaced : (i : ℕ) (before : List ℕ) (v : ℕ) → space_of (whole i before v) ≡ next_number_of k i (moved before v)
  unfolding space_of
  spaced i before v = refl

  as_many : (i : ℕ) (before : List ℕ) (v : ℕ) → i ≡ numbers_of k → followed (whole i before v) [] ≡ made_of k before v
  unfolding followed line_in
  as_many i before v e = rw (eq-eqb i (numbers_of k) e)

  too_few : (i : ℕ) (before : List ℕ) (v : ℕ) → i < numbers_of k → followed (whole i before v) [] ≡ None
  unfolding followed line_in
  too_few i before v h = rw (ne_eqb i (numbers_of k) (λ e. omega arith))

  -- a field and those behind it, if what stands behind a whole number is known
  after_field : (i : ℕ) (before : List ℕ) (f : List ℕ) (fs : List (List ℕ)) (good : Bool) (line : Option Line) →
      followed (whole i before (value_of f)) fs ≡ cond good line None →
      followed (ended k i before None f) fs ≡ cond (cond (is_number (limit_of k i) f) good false) line None
  unfolding ended is_number all_digits value_from
  after_field i before [] fs good line e =
      ap (λ (x : Reading). followed x fs) none ∙ followed_short (Numbers k i None before) fs refl
    where
      none : ended k i before None [] ≡ Numbers k i None before
      none = rw (le-leb 0 (limit_of k i) (omega arith))
  after_field i before (d ∷ bs) fs good line e = go (all_digits (d ∷ bs)) (leb (value_of (d ∷ bs)) (limit_of k i))
    where
      go : (digits low : Bool) →
          followed (cond digits (cond low (whole i before (value_of (d ∷ bs))) Bad) Bad) fs
          ≡ cond (cond (cond digits low false) good false) line None
      go true true = e
      go true false = followed_bad fs
      go false low = followed_bad fs

  -- the n fields behind the i-th number
  numbers : (n i : ℕ) (before : List ℕ) (v : ℕ) (fs : List (List ℕ)) → i + n ≡ numbers_of k →
      followed (whole i before v) fs ≡ cond (fit (limits_from n k i) fs) (made_from k before v fs) None
  unfolding fit
  numbers zero i before v [] e = as_many i before v (omega arith)
  numbers zero i before v (f ∷ fs) e = too_many k i (moved before v) (whole i before v) (spaced i before v) f fs (omega arith)
  numbers (suc n) i before v [] e = too_few i before v (omega arith)
  numbers (suc n) i before v (f ∷ fs) e =
      step k i (moved before v) (whole i before v) (spaced i before v) f fs (omega arith)
      ∙ after_field (i + 1) (moved before v) f fs (fit (limits_from n k (i + 1)) fs) (made_from k (moved before v) (value_of f) fs)
      (numbers n (i + 1) (moved before v) (value_of f) fs (omega arith))

-- ---- the word

abbrev zeros : List ℕ
zeros = 0 ∷ 0 ∷ 0 ∷ []

-- the line of a whole word and the fields behind it
abbrev line_from : Word → List (List ℕ) → Option Line
line_from k [] = bare_of k
line_from k (f ∷ fs) = made_from k zeros (value_of f) fs

abbrev all_letters : Word → Reading
all_letters k = Letters k (length (text_of k))

word_alone : (k : Word) → followed (all_letters k) [] ≡ cond (fit (limits_from (numbers_of k) k 0) []) (bare_of k) None
unfolding followed line_in fit
word_alone New = refl
word_alone Offer = refl
word_alone Flush = refl
word_alone Step = refl
word_alone Run = refl
word_alone Get = refl
word_alone Put = refl

word_spaced : (k : Word) → space_of (all_letters k) ≡ next_number_of k 0 zeros
unfolding space_of
word_spaced k = rw (eq-eqb (length (text_of k)) (length (text_of k)) refl)

-- a whole word and the n fields behind it
after_word : (k : Word) (n : ℕ) (fs : List (List ℕ)) → n ≡ numbers_of k →
    followed (all_letters k) fs ≡ cond (fit (limits_from n k 0) fs) (line_from k fs) None
unfolding fit
after_word k n [] e = rw e (word_alone k)
after_word k zero (f ∷ fs) e = too_many k 0 zeros (all_letters k) (word_spaced k) f fs e
after_word k (suc n) (f ∷ fs) e =
    step k 0 zeros (all_letters k) (word_spaced k) f fs (omega arith)
    ∙ after_field k 1 zeros f fs (fit (limits_from n k 1) fs) (made_from k zeros (value_of f) fs)
    (numbers k n 1 zeros (value_of f) fs (omega arith))

-- a word's text from its i-th letter on
abbrev Spells : Word → (i : ℕ) → List ℕ → Type 0
Spells k i [] = (slice_get (text_of k) i ≡ None) × (eqb i (length (text_of k)) ≡ true)
Spells k i (l ∷ ls) = (slice_get (text_of k) i ≡ Some l) × (eqb i (length (text_of k)) ≡ false) × Spells k (i + 1) ls

-- nothing may follow the last letter
letter_none : (k : Word) (b : ℕ) → byte_of (all_letters k) b ≡ Bad
unfolding byte_of letter_of
letter_none New b = refl
letter_none Offer b = refl
letter_none Flush b = refl
letter_none Step b = refl
letter_none Run b = refl
letter_none Get b = refl
letter_none Put b = refl

letter_next : (k : Word) (i l b : ℕ) → slice_get (text_of k) i ≡ Some l → byte_of (Letters k i) b ≡ cond (eqb l b) (Letters k (i + 1)) Bad
unfolding byte_of letter_of
letter_next k i l b e = rw e

-- the letters that are to come are read exactly by the same letters
eat_letters : (k : Word) (i : ℕ) (ls : List ℕ) → Spells k i ls → (bs : List ℕ) → whole_of (eat (Letters k i) bs) ≡ same bs ls
unfolding eat same
eat_letters k i [] h [] = h.1
eat_letters k i (l ∷ ls) h [] = h.1
eat_letters k i [] h (b ∷ bs) = rw (eqb-true i (length (text_of k)) h.1, letter_none k b) (ap (λ (x : Reading). whole_of x) (eat_bad bs))
eat_letters k i (l ∷ ls) h (b ∷ bs) = rw (letter_next k i l b h.0) (go (eqb l b) (eat_letters k (i + 1) ls h.2 bs))
  where
    go : (t : Bool) → whole_of (eat (Letters k (i + 1)) bs) ≡ same bs ls → whole_of (eat (cond t (Letters k (i + 1)) Bad) bs) ≡ cond t (same bs ls) false
    go true next = next
    go false next = ap (λ (x : Reading). whole_of x) (eat_bad bs)

same_true : (xs ys : List ℕ) → same xs ys ≡ true → xs ≡ ys
unfolding same
same_true [] [] e = refl
same_true [] (y ∷ ys) e = absurd (no_true e)
same_true (x ∷ xs) [] e = absurd (no_true e)
same_true (x ∷ xs) (y ∷ ys) e =
    let h = both_true (eqb y x) (same xs ys) e in
    λ i. sym (eqb-true y x h.0) i ∷ same_true xs ys h.1 i

tail_differs : (b l : ℕ) (bs ls : List ℕ) → eqb b l ≡ true → same (b ∷ bs) (l ∷ ls) ≡ false → same bs ls ≡ false
unfolding same
tail_differs b l bs ls t e = sym (rw (eq-eqb l b (sym (eqb-true b l t)))) ∙ e

-- a word that is none of the seven is not read whole
no_word : (w : List ℕ) →
    same w word_new ≡ false → same w word_offer ≡ false → same w word_flush ≡ false →
    same w word_step ≡ false → same w word_run ≡ false → same w word_get ≡ false →
    same w word_put ≡ false → whole_of (eat start_of w) ≡ false
unfolding eat byte_of first_of
no_word [] n1 n2 n3 n4 n5 n6 n7 = refl
no_word (b ∷ bs) n1 n2 n3 n4 n5 n6 n7 =
    go (eqb b 110) refl (eqb b 111) refl (eqb b 102) refl (eqb b 115) refl (eqb b 114) refl (eqb b 103) refl (eqb b 112) refl
  where
    found : (k : Word) (l : ℕ) (ls : List ℕ) → Spells k 1 ls → eqb b l ≡ true → same (b ∷ bs) (l ∷ ls) ≡ false →
        whole_of (eat (Letters k 1) bs) ≡ false
    found k l ls s t n = eat_letters k 1 ls s bs ∙ tail_differs b l bs ls t n

    go : (t1 : Bool) → eqb b 110 ≡ t1 → (t2 : Bool) → eqb b 111 ≡ t2 → (t3 : Bool) → eqb b 102 ≡ t3 → (t4 : Bool) → eqb b 115 ≡ t4 →
        (t5 : Bool) → eqb b 114 ≡ t5 → (t6 : Bool) → eqb b 103 ≡ t6 → (t7 : Bool) → eqb b 112 ≡ t7 →
        whole_of (eat (begun_of
        (cond t1 (Some New)
        (cond t2 (Some Offer)
        (cond t3 (Some Flush)
        (cond t4 (Some Step)
        (cond t5 (Some Run)
        (cond t6 (Some Get)
        (cond t7 (Some Put)
        None)))))))) bs) ≡ false
    go true e1 t2 e2 t3 e3 t4 e4 t5 e5 t6 e6 t7 e7 = found New 110 (101 ∷ 119 ∷ []) (search rules) e1 n1
    go false e1 true e2 t3 e3 t4 e4 t5 e5 t6 e6 t7 e7 = found Offer 111 (102 ∷ 102 ∷ 101 ∷ 114 ∷ []) (search rules) e2 n2
    go false e1 false e2 true e3 t4 e4 t5 e5 t6 e6 t7 e7 = found Flush 102 (108 ∷ 117 ∷ 115 ∷ 104 ∷ []) (search rules) e3 n3
    go false e1 false e2 false e3 true e4 t5 e5 t6 e6 t7 e7 = found Step 115 (116 ∷ 101 ∷ 112 ∷ []) (search rules) e4 n4
    go false e1 false e2 false e3 false e4 true e5 t6 e6 t7 e7 = found Run 114 (117 ∷ 110 ∷ []) (search rules) e5 n5
    go false e1 false e2 false e3 false e4 false e5 true e6 t7 e7 = found Get 103 (101 ∷ 116 ∷ []) (search rules) e6 n6
    go false e1 false e2 false e3 false e4 false e5 false e6 true e7 = found Put 112 (117 ∷ 116 ∷ []) (search rules) e7 n7
    go false e1 false e2 false e3 false e4 false e5 false e6 false e7 = ap (λ (x : Reading). whole_of x) (eat_bad bs)

-- ---- the line

fit_none : (fs : List (List ℕ)) → fit [] fs ≡ true → fs ≡ []
unfolding fit
fit_none [] e = refl
fit_none (f ∷ fs) e = absurd (no_true e)

-- as many fields as there are limits, each with its test
fit_one : (l : ℕ) (ls : List ℕ) (fs : List (List ℕ)) → fit (l ∷ ls) fs ≡ true →
    (f : List ℕ) × (gs : List (List ℕ)) × (fs ≡ f ∷ gs) × (is_number l f ≡ true) × (fit ls gs ≡ true)
unfolding fit
fit_one l ls [] e = absurd (no_true e)
fit_one l ls (f ∷ gs) e = let h = both_true (is_number l f) (fit ls gs) e in (f, gs, refl, h.0, h.1)

within : (l : ℕ) (f : List ℕ) → is_number l f ≡ true → value_of f ≤ l
unfolding is_number
within l [] e = absurd (no_true e)
within l (b ∷ bs) e = leb-true (value_of (b ∷ bs)) l (both_true (all_digits (b ∷ bs)) (leb (value_of (b ∷ bs)) l) e).1

behind : (f : List ℕ) {gs hs : List (List ℕ)} → gs ≡ hs → f ∷ gs ≡ f ∷ hs
behind f e = ap (λ (l : List (List ℕ)). f ∷ l) e

-- fields that fit give the line of their word
one_made : (k : Word) (line : ℕ → Line) → ((v : ℕ) → made_of k zeros v ≡ Some (line v)) → (fs : List (List ℕ)) → fit (most ∷ []) fs ≡ true →
    line_from k fs ≡ Some (line (number 0 fs))
one_made k line h fs e =
    let s = fit_one most [] fs e in
    let n : fs ≡ s.0 ∷ [] = s.2 ∙ behind s.0 (fit_none s.1 s.4) in
    subst (λ (x : List (List ℕ)). line_from k x ≡ Some (line (number 0 x))) (sym n) (h (value_of s.0))

new_made : (fs : List (List ℕ)) → fit (most ∷ most ∷ most ∷ most ∷ []) fs ≡ true →
    line_from New fs ≡ Some (line.New (number 0 fs) (number 1 fs) (number 2 fs) (number 3 fs))
new_made fs e =
    let s = fit_one most (most ∷ most ∷ most ∷ []) fs e in
    let n = fit_one most (most ∷ most ∷ []) s.1 s.4 in
    let p = fit_one most (most ∷ []) n.1 n.4 in
    let x = fit_one most [] p.1 p.4 in
    let shape : fs ≡ s.0 ∷ n.0 ∷ p.0 ∷ x.0 ∷ [] = s.2 ∙ behind s.0 (n.2 ∙ behind n.0 (p.2 ∙ behind p.0 (x.2 ∙ behind x.0 (fit_none x.1 x.4)))) in
    subst (λ (l : List (List ℕ)). line_from New l ≡ Some (line.New (number 0 l) (number 1 l) (number 2 l) (number 3 l))) (sym shape) refl

offer_made : (fs : List (List ℕ)) → fit (most ∷ 255 ∷ 65535 ∷ []) fs ≡ true → line_from Offer fs ≡ Some (line.Offer (number 0 fs) (number 1 fs) (number 2 fs))
offer_made fs e =
    let p = fit_one most (255 ∷ 65535 ∷ []) fs e in
    let k = fit_one 255 (65535 ∷ []) p.1 p.4 in
    let l = fit_one 65535 [] k.1 k.4 in
    let shape : fs ≡ p.0 ∷ k.0 ∷ l.0 ∷ [] = p.2 ∙ behind p.0 (k.2 ∙ behind k.0 (l.2 ∙ behind l.0 (fit_none l.1 l.4))) in
    let kind : value_of k.0 % 256 ≡ value_of k.0 = omega (arith, within 255 k.0 k.3) in
    let long : value_of l.0 % 65536 ≡ value_of l.0 = omega (arith, within 65535 l.0 l.3) in
    subst (λ (x : List (List ℕ)). line_from Offer x ≡ Some (line.Offer (number 0 x) (number 1 x) (number 2 x))) (sym shape)
    (λ i. Some (line.Offer (value_of p.0) (kind i) (long i)))

none_made : (k : Word) (fs : List (List ℕ)) → fit [] fs ≡ true → line_from k fs ≡ bare_of k
none_made k fs e = subst (λ (x : List (List ℕ)). line_from k x ≡ bare_of k) (sym (fit_none fs e)) refl

-- a whole word and the fields behind it
word_made : (k : Word) (letters : List ℕ) (line : Option Line) (w : List ℕ) (fs : List (List ℕ)) → same w letters ≡ true →
    eat start_of letters ≡ all_letters k → (fit (limits_from (numbers_of k) k 0) fs ≡ true → line_from k fs ≡ line) →
    followed (eat start_of w) fs ≡ cond (fit (limits_from (numbers_of k) k 0) fs) line None
word_made k letters line w fs e r h =
    ap (λ (x : List ℕ). followed (eat start_of x) fs) (same_true w letters e)
    ∙ ap (λ (x : Reading). followed x fs) r
    ∙ after_word k (numbers_of k) fs refl
    ∙ when (fit (limits_from (numbers_of k) k 0) fs) (line_from k fs) line None h

by_word : (w : List ℕ) (fs : List (List ℕ)) → followed (eat start_of w) fs ≡ form_of w fs
unfolding form_of eat byte_of first_of letter_of
by_word w fs =
    go (same w word_new) refl (same w word_offer) refl (same w word_flush) refl
    (same w word_step) refl (same w word_run) refl (same w word_get) refl (same w word_put) refl
  where
    go : (t1 : Bool) → same w word_new ≡ t1 → (t2 : Bool) → same w word_offer ≡ t2 →
        (t3 : Bool) → same w word_flush ≡ t3 → (t4 : Bool) → same w word_step ≡ t4 →
        (t5 : Bool) → same w word_run ≡ t5 → (t6 : Bool) → same w word_get ≡ t6 → (t7 : Bool) → same w word_put ≡ t7 →
        followed (eat start_of w) fs
        ≡ cond t1
        (cond (fit (most ∷ most ∷ most ∷ most ∷ []) fs) (Some (line.New (number 0 fs) (number 1 fs) (number 2 fs) (number 3 fs))) None)
        (cond t2 (cond (fit (most ∷ 255 ∷ 65535 ∷ []) fs) (Some (line.Offer (number 0 fs) (number 1 fs) (number 2 fs))) None)
        (cond t3 (cond (fit (most ∷ []) fs) (Some (line.Flush (number 0 fs))) None)
        (cond t4 (cond (fit (most ∷ []) fs) (Some (line.Step (number 0 fs))) None)
        (cond t5 (cond (fit (most ∷ []) fs) (Some (line.Run (number 0 fs))) None)
        (cond t6 (cond (fit [] fs) (Some line.Get) None) (cond t7 (cond (fit [] fs) (Some line.Put) None) None))))))
    go true e1 t2 e2 t3 e3 t4 e4 t5 e5 t6 e6 t7 e7 = word_made New _ _ w fs e1 refl (new_made fs)
    go false e1 true e2 t3 e3 t4 e4 t5 e5 t6 e6 t7 e7 = word_made Offer _ _ w fs e2 refl (offer_made fs)
    go false e1 false e2 true e3 t4 e4 t5 e5 t6 e6 t7 e7 = word_made Flush _ _ w fs e3 refl (one_made Flush line.Flush (λ v. refl) fs)
    go false e1 false e2 false e3 true e4 t5 e5 t6 e6 t7 e7 = word_made Step _ _ w fs e4 refl (one_made Step line.Step (λ v. refl) fs)
    go false e1 false e2 false e3 false e4 true e5 t6 e6 t7 e7 = word_made Run _ _ w fs e5 refl (one_made Run line.Run (λ v. refl) fs)
    go false e1 false e2 false e3 false e4 false e5 true e6 t7 e7 = word_made Get _ _ w fs e6 refl (none_made Get fs)
    go false e1 false e2 false e3 false e4 false e5 false e6 true e7 = word_made Put _ _ w fs e7 refl (none_made Put fs)
    go false e1 false e2 false e3 false e4 false e5 false e6 false e7 = followed_short (eat start_of w) fs (no_word w e1 e2 e3 e4 e5 e6 e7)

-- read byte by byte, a text gives the line that it is
pub reads : (text : List ℕ) → line_in (take_all start_of text) ≡ line_of text
unfolding line_of
reads text = by_fields start_of text ∙ by_word (first_field text) (later_fields text)

-- ---- a reading that has taken a byte is not empty

abbrev Begun : Reading → Type 0
Begun r = is_empty_of r ≡ false

word_begun : (o : Option Word) → Begun (begun_of o)
word_begun None = refl
word_begun (Some k) = refl

number_begun : (k : Word) (i : ℕ) (o : Option ℕ) (before : List ℕ) → Begun (number_or_bad k i o before)
number_begun k i None before = refl
number_begun k i (Some v) before = refl

next_begun : (k : Word) (i : ℕ) (before : List ℕ) → Begun (next_number_of k i before)
unfolding next_number_of
next_begun k i before = cond_both (ltb i (numbers_of k)) _ _ Begun (λ _. refl) (λ _. refl)

space_begun : (r : Reading) → Begun (space_of r)
unfolding space_of
space_begun Start = refl
space_begun (Letters k i) = cond_both (eqb i (length (text_of k))) _ _ Begun (λ _. next_begun k 0 zeros) (λ _. refl)
space_begun (Numbers k i None before) = refl
space_begun (Numbers k i (Some v) before) = next_begun k i (moved before v)
space_begun Bad = refl

byte_begun : (r : Reading) (b : ℕ) → Begun (byte_of r b)
unfolding byte_of first_of letter_of
byte_begun Start b = word_begun (word_from b)
byte_begun (Letters k i) b = cond_both (is_next (slice_get (text_of k) i) b) _ _ Begun (λ _. refl) (λ _. refl)
byte_begun (Numbers k i o before) b = number_begun k i (with_digit_of (unwrap_or o 0) b (limit_of k i)) before
byte_begun Bad b = refl

pub take_begun : (r : Reading) (b : ℕ) → is_empty_of (take_of r b) ≡ false
unfolding take_of
take_begun r b = cond_both (eqb b 32) _ _ Begun (λ _. space_begun r) (λ _. byte_begun r b)
