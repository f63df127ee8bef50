-- A line that is written out reads back: `written_reads`.
use Rattle.std.specs.Prelude.{ℕ, zero, suc, ◌+◌, ◌-◌, ◌*◌, ◌/◌, ◌%◌, ◌^◌, ◌≤◌, ◌<◌, Bool, true, false, cond, ◌≡◌, eqb, ltb, length, Some, None}
use mathlib.Core.List.{List, [], ◌∷◌, ◌++◌}
use Rattle.std.proofs.Math.Path.{refl}
use Rattle.std.proofs.Common.{ap, ap₂, ◌∙◌, mod-lt, pow-suc, arith, length-append, ne_eqb, le-ltb, ltb-true, le-leb}
use Rattle.lines.specs.declared.line.Line.{Line}
use Rattle.lines.specs.declared.line.Line.TheVariants.{New, Offer, Flush, Step, Run, Get, Put}
use Rattle.lines.specs.Line.{first_field, later_fields, same, is_digit, all_digits, value_from, value_of, is_number, fit, most, form_of, line_of, word_new, word_offer, word_flush, word_step, word_run, word_get, word_put}
use Rattle.lines.proofs.ReadingLaws.{no_true, both_true}
use Rattle.replay.specs.Text.{decimal_by, decimal_of}
use Rattle.replay.specs.Written.{spelled, written, Fits}

-- ---- fields

-- no space in it
abbrev Plain : List ℕ → Type 0
Plain [] = Unit {0}
Plain (b ∷ bs) = (eqb b 32 ≡ false) × Plain bs

module _ (t : List ℕ) where
  first_plain : (f : List ℕ) → Plain f → first_field (f ++ (32 ∷ t)) ≡ f
  unfolding first_field
  first_plain [] h = refl
  first_plain (b ∷ bs) h = rw h.0 (ap (λ (l : List ℕ). b ∷ l) (first_plain bs h.1))

  later_plain : (f : List ℕ) → Plain f → later_fields (f ++ (32 ∷ t)) ≡ first_field t ∷ later_fields t
  unfolding later_fields
  later_plain [] h = refl
  later_plain (b ∷ bs) h = rw h.0 (later_plain bs h.1)

first_last : (f : List ℕ) → Plain f → first_field f ≡ f
unfolding first_field
first_last [] h = refl
first_last (b ∷ bs) h = rw h.0 (ap (λ (l : List ℕ). b ∷ l) (first_last bs h.1))

later_last : (f : List ℕ) → Plain f → later_fields f ≡ []
unfolding later_fields
later_last [] h = refl
later_last (b ∷ bs) h = rw h.0 (later_last bs h.1)

-- ---- decimal

is-digit : (d : ℕ) → d < 10 → is_digit (48 + d) ≡ true
is-digit d h = rw (le-ltb (48 + d) 48 (omega arith), le-ltb 57 (48 + d) (omega arith))

no_space : (d : ℕ) → eqb (48 + d) 32 ≡ false
no_space d = ne_eqb (48 + d) 32 (λ q. omega arith)

plain_snoc : (xs : List ℕ) (b : ℕ) → Plain xs → eqb b 32 ≡ false → Plain (xs ++ (b ∷ []))
plain_snoc [] b h e = (e, tt)
plain_snoc (x ∷ xs) b h e = (h.0, plain_snoc xs b h.1 e)

digits_snoc : (xs : List ℕ) (b : ℕ) → all_digits xs ≡ true → is_digit b ≡ true → all_digits (xs ++ (b ∷ [])) ≡ true
unfolding all_digits
digits_snoc [] b h e = rw e
digits_snoc (x ∷ xs) b h e = let d = both_true (is_digit x) (all_digits xs) h in rw d.0 (digits_snoc xs b d.1 e)

value_snoc : (v : ℕ) (xs : List ℕ) (b : ℕ) → value_from v (xs ++ (b ∷ [])) ≡ value_from v xs * 10 + (b - 48)
unfolding value_from
value_snoc v [] b = refl
value_snoc v (x ∷ xs) b = value_snoc (v * 10 + (x - 48)) xs b

-- what a number in decimal is: k digits at most
pub record Decimal (k n : ℕ) (f : List ℕ) : Type 0 where
  pub plain : Plain f
  pub digits : all_digits f ≡ true
  pub value : n < 10 ^ k → value_of f ≡ n
  pub long : 0 < k → 0 < length f

decimal : (k n : ℕ) → Decimal k n (decimal_by k n)
unfolding decimal_by all_digits value_from
decimal zero n = record { plain = tt; digits = refl; value = λ h. omega arith; long = λ h. absurd (omega arith) }
decimal (suc k) n = go (ltb n 10) refl (decimal k (n / 10))
  where
    go : (t : Bool) → ltb n 10 ≡ t → Decimal k (n / 10) (decimal_by k (n / 10)) →
        Decimal (suc k) n (cond t ((48 + n) ∷ []) (decimal_by k (n / 10) ++ ((48 + n % 10) ∷ [])))
    go true e d = record { plain = (no_space n, tt); digits = rw (is-digit n (ltb-true n 10 e)); value = λ h. omega arith; long = λ h. omega arith }
    go false e d =
        record {
          plain = plain_snoc (decimal_by k (n / 10)) (48 + n % 10) d.plain (no_space (n % 10));
          digits = digits_snoc (decimal_by k (n / 10)) (48 + n % 10) d.digits (is-digit (n % 10) (mod-lt n (omega arith)));
          value = λ h.
              let less : n / 10 < 10 ^ k = omega (arith, pow-suc 10 k) in
              value_snoc 0 (decimal_by k (n / 10)) (48 + n % 10) ∙ (let v = d.value less in omega arith);
          long = λ h. rw (length-append (decimal_by k (n / 10)) ((48 + n % 10) ∷ [])) (omega arith);
        }

is-number : (limit : ℕ) (f : List ℕ) → 0 < length f → all_digits f ≡ true → value_of f ≤ limit → is_number limit f ≡ true
unfolding is_number
is-number limit [] h e l = absurd (omega arith)
is-number limit (b ∷ bs) h e l = rw (e) (le-leb (value_of (b ∷ bs)) limit l)

module _ (n : ℕ) (h : n ≤ most) where
  value_is : value_of (decimal_of n) ≡ n
  value_is = (decimal 10 n).value (omega arith)

  number_is : (limit : ℕ) → n ≤ limit → is_number limit (decimal_of n) ≡ true
  number_is limit l = is-number limit (decimal_of n) ((decimal 10 n).long (omega arith)) (decimal 10 n).digits (rw value_is l)

-- ---- lines

unfoldable texts : List ℕ → List (List ℕ)
texts [] = []
texts (n ∷ ns) = decimal_of n ∷ texts ns

spelled_first : (w : List ℕ) (ns : List ℕ) → Plain w → first_field (spelled w ns) ≡ w
unfolding spelled
spelled_first w [] h = first_last w h
spelled_first w (n ∷ ns) h = first_plain (spelled (decimal_of n) ns) w h

spelled_later : (w : List ℕ) (ns : List ℕ) → Plain w → later_fields (spelled w ns) ≡ texts ns
unfolding spelled texts
spelled_later w [] h = later_last w h
spelled_later w (n ∷ ns) h =
    later_plain (spelled (decimal_of n) ns) w h
    ∙ ap₂ (λ (f : List ℕ) (fs : List (List ℕ)). f ∷ fs) (spelled_first (decimal_of n) ns (decimal 10 n).plain) (spelled_later (decimal_of n) ns (decimal 10 n).plain)

spelled_reads : (w ns : List ℕ) → Plain w → line_of (spelled w ns) ≡ form_of w (texts ns)
unfolding line_of
spelled_reads w ns h = ap₂ (λ (x : List ℕ) (fs : List (List ℕ)). form_of x fs) (spelled_first w ns h) (spelled_later w ns h)

fit_next : (l n : ℕ) (ls ns : List ℕ) → n ≤ most → n ≤ l → fit ls (texts ns) ≡ true → fit (l ∷ ls) (texts (n ∷ ns)) ≡ true
unfolding fit texts
fit_next l n ls ns m h e = rw (number_is n m l h) e

fit_end : fit [] (texts []) ≡ true
unfolding fit texts
fit_end = refl

fit_single : (p : ℕ) → p ≤ most → fit (most ∷ []) (texts (p ∷ [])) ≡ true
fit_single p h = fit_next most p [] [] h h fit_end

when_fit : (t : Bool) (x y : Line) → t ≡ true → x ≡ y → cond t (Some x) None ≡ Some y
when_fit true x y e h = ap Some h
when_fit false x y e h = absurd (no_true e)

pub written_reads : (l : Line) → Fits l → line_of (written l) ≡ Some l
unfolding written Fits form_of same texts
written_reads (New S N P x) h =
    let p = fit_next most P (most ∷ []) (x ∷ []) h.2 h.2 (fit_single x h.3) in
    let n = fit_next most N (most ∷ most ∷ []) (P ∷ x ∷ []) h.1 h.1 p in
    spelled_reads word_new (S ∷ N ∷ P ∷ x ∷ []) (refl, (refl, (refl, tt)))
    ∙ when_fit _ _ (New S N P x) (fit_next most S (most ∷ most ∷ most ∷ []) (N ∷ P ∷ x ∷ []) h.0 h.0 n)
    (λ i. New (value_is S h.0 i) (value_is N h.1 i) (value_is P h.2 i) (value_is x h.3 i))
written_reads (Offer p k L) h =
    let kind : k ≤ most = omega (arith, h.1) in
    let long : L ≤ most = omega (arith, h.2) in
    let l = fit_next 255 k (65535 ∷ []) (L ∷ []) kind h.1 (fit_next 65535 L [] [] long h.2 fit_end) in
    spelled_reads word_offer (p ∷ k ∷ L ∷ []) (refl, (refl, (refl, (refl, (refl, tt)))))
    ∙ when_fit _ _ (Offer p k L) (fit_next most p (255 ∷ 65535 ∷ []) (k ∷ L ∷ []) h.0 h.0 l)
    (λ i. Offer (value_is p h.0 i) (value_is k kind i) (value_is L long i))
written_reads (Flush p) h =
    spelled_reads word_flush (p ∷ []) (refl, (refl, (refl, (refl, (refl, tt)))))
    ∙ when_fit _ _ (Flush p) (fit_single p h) (λ i. Flush (value_is p h i))
written_reads (Step p) h =
    spelled_reads word_step (p ∷ []) (refl, (refl, (refl, (refl, tt)))) ∙ when_fit _ _ (Step p) (fit_single p h) (λ i. Step (value_is p h i))
written_reads (Run p) h =
    spelled_reads word_run (p ∷ []) (refl, (refl, (refl, tt))) ∙ when_fit _ _ (Run p) (fit_single p h) (λ i. Run (value_is p h i))
written_reads Get h = spelled_reads word_get [] (refl, (refl, (refl, tt))) ∙ when_fit _ Get Get fit_end refl
written_reads Put h = spelled_reads word_put [] (refl, (refl, (refl, tt))) ∙ when_fit _ Put Put fit_end refl
