-- A part that is committed whole stays as it is in the log.
use Prim.Native.Nat.{ℕ, zero, suc, ◌+◌, ◌*◌, ◌/◌, ◌≤◌, ◌<◌}
use mathlib.Core.Path.{◌≡◌, refl, ap, ap₂, ◌∙◌}
use mathlib.Core.Logic.{◌≢◌}
use mathlib.Core.Bool.{Bool, true, false, ◌&&◌}
use mathlib.Core.List.{List, [], ◌∷◌, ◌++◌, map, append-nil}
use native.Mathlib.Nat.{le_of_suc-le-suc, not-suc-le-zero}
use native.Mathlib.Omega.{arith}
use lib.Dec.{eqb}
use lib.ListN.{length, get_or, set}
use borrow.Author.Tests.{ne_eqb}
use Rattle.history.specs.Lists.{only, kept}
use Rattle.history.specs.Log.{Piece, no_piece, noted, is_slot, is_heading}
use Rattle.history.proofs.Contents.{in_part, head_of}
use Rattle.history.proofs.Geometry.{part_low}
use Rattle.history.proofs.Reserve.{Open}

-- ---- choosing from a list that changed elsewhere

pub only_append : {A : Type 0} (test : A → Bool) (a b : List A) → only test (a ++ b) ≡ only test a ++ only test b
unfolding only
only_append test [] b = refl
only_append test (x ∷ xs) b = rw (only_append test xs b) (kept_append (test x) x (only test xs) (only test b))
  where
    kept_append : {A : Type 0} (t : Bool) (x : A) (a b : List A) → kept t x (a ++ b) ≡ kept t x a ++ b
    kept_append true x a b = refl
    kept_append false x a b = refl

-- none passes
pub only_none : {A : Type 0} (test : A → Bool) (l : List A) (d : A) → ((i : ℕ) → i < length l → test (get_or l i d) ≡ false) → only test l ≡ []
unfolding only
only_none test [] d h = refl
only_none test (x ∷ xs) d h = rw (h 0 (omega arith)) (only_none test xs d (λ i lt. h (suc i) (omega arith)))

-- one that did not pass was exchanged for one that does not
pub only_set : {A : Type 0} (test : A → Bool) (l : List A) (j : ℕ) (y d : A) → j < length l → test (get_or l j d) ≡ false → test y ≡ false → only test (set l j y) ≡ only test l
unfolding only
only_set test [] j y d h a b = absurd (not-suc-le-zero h)
only_set test (x ∷ xs) zero y d h a b = rw (a, b)
only_set test (x ∷ xs) (suc j) y d h a b = rw (only_set test xs j y d (le_of_suc-le-suc h) a b)

-- an element that was chosen stands in the list
pub record Chosen {A : Type 0} (test : A → Bool) (l : List A) (d x : A) : Type 0 where
  pub j : ℕ
  pub there : j < length l
  pub is : get_or l j d ≡ x
  pub passes : test x ≡ true

chosen_later : {A : Type 0} (test : A → Bool) (y : A) (l : List A) (d x : A) → Chosen test l d x → Chosen test (y ∷ l) d x
chosen_later test y l d x c = record { j = suc c.j; there = omega (arith, c.there); is = c.is; passes = c.passes }

pub only_at : {A : Type 0} (test : A → Bool) (l : List A) (d : A) (i : ℕ) → i < length (only test l) → Chosen test l d (get_or (only test l) i d)
unfolding only
only_at test [] d i h = absurd (not-suc-le-zero h)
only_at test (x ∷ xs) d i h = go (test x) refl i h (only_at test xs d)
  where
    go : (b : Bool) → test x ≡ b → (i : ℕ) → i < length (kept b x (only test xs)) → ((i : ℕ) → i < length (only test xs) → Chosen test xs d (get_or (only test xs) i d)) →
        Chosen test (x ∷ xs) d (get_or (kept b x (only test xs)) i d)
    go true e zero h later = record { j = 0; there = omega arith; is = refl; passes = e }
    go true e (suc i) h later = chosen_later test x xs d _ (later i (le_of_suc-le-suc h))
    go false e i h later = chosen_later test x xs d _ (later i h)

-- all pass, and what passes then passes now
pub all_pass : {A : Type 0} (t t' : A → Bool) (l : List A) (d : A) → ((i : ℕ) → i < length l → t (get_or l i d) ≡ true → t' (get_or l i d) ≡ true) → length (only t l) ≡ length l →
    length (only t' l) ≡ length l
unfolding only
all_pass t t' [] d h e = refl
all_pass t t' (x ∷ xs) d h e = go (t x) refl e (all_pass t t' xs d (λ i lt. h (suc i) (omega arith)))
  where
    short : {A : Type 0} (t : A → Bool) (l : List A) → length (only t l) ≤ length l
    short t [] = omega arith
    short t (y ∷ ys) = more (t y) (short t ys)
      where
        more : (b : Bool) → length (only t ys) ≤ length ys → length (kept b y (only t ys)) ≤ suc (length ys)
        more true k = omega arith
        more false k = omega arith

    go : (b : Bool) → t x ≡ b → length (kept b x (only t xs)) ≡ suc (length xs) → (length (only t xs) ≡ length xs → length (only t' xs) ≡ length xs) →
        length (kept (t' x) x (only t' xs)) ≡ suc (length xs)
    go true a k later = rw (h 0 (omega arith) a) (ap suc (later (omega arith)))
    go false a k later = absurd (omega (arith, short t xs))

-- the same of each
pub map_same : {A B : Type 0} (f g : A → B) (l : List A) (d : A) → ((i : ℕ) → i < length l → f (get_or l i d) ≡ g (get_or l i d)) → map f l ≡ map g l
map_same f g [] d h = refl
map_same f g (x ∷ xs) d h = ap₂ (λ a b. a ∷ b) (h 0 (omega arith)) (map_same f g xs d (λ i lt. h (suc i) (omega arith)))

-- ---- the pieces of a part

-- those of part k are still the same
pub record Same (k : ℕ) (ps ps' : List Piece) : Type 0 where
  pub slots : only (in_part k) ps' ≡ only (in_part k) ps
  pub heads : only (head_of k) ps' ≡ only (head_of k) ps

pub same_none : (k : ℕ) (ps : List Piece) → Same k ps ps
same_none k ps = record { slots = refl; heads = refl }

away : (b : Bool) (k part : ℕ) → part ≢ k → (b && eqb part k) ≡ false
away true k part ne = ne_eqb part k ne
away false k part ne = refl

no_slot : (k : ℕ) (x : Piece) → x.part ≢ k → in_part k x ≡ false
no_slot k x ne = away (is_slot x.whose) k x.part ne

no_head : (k : ℕ) (x : Piece) → x.part ≢ k → head_of k x ≡ false
no_head k x ne = away (is_heading x.whose) k x.part ne

-- others were reserved, in later parts
pub same_append : (S W k : ℕ) (ps new : List Piece) → 0 < S → k * S + S ≤ W → Open S W new → Same k ps (ps ++ new)
same_append S W k ps new s past fresh =
    record {
      slots = only_append (in_part k) ps new ∙ ap (λ (l : List Piece). only (in_part k) ps ++ l) (only_none (in_part k) new no_piece (λ i h. no_slot k (get_or new i no_piece) (later i h))) ∙ append-nil (only (in_part k) ps);
      heads = only_append (head_of k) ps new ∙ ap (λ (l : List Piece). only (head_of k) ps ++ l) (only_none (head_of k) new no_piece (λ i h. no_head k (get_or new i no_piece) (later i h))) ∙ append-nil (only (head_of k) ps);
    }
  where
    above : suc k ≤ W / S
    above = part_low S (suc k) W s (omega arith)

    later : (i : ℕ) → i < length new → (get_or new i no_piece).part ≢ k
    later i h = omega (arith, (fresh i h).1, above)

-- a note was taken of a piece that is not the part's
pub same_noted : (k : ℕ) (ps : List Piece) (j n : ℕ) (b : Bool) → j < length ps → (get_or ps j no_piece).part ≢ k → Same k ps (set ps j (noted n b (get_or ps j no_piece)))
same_noted k ps j n b h ne =
    record {
      slots = only_set (in_part k) ps j (noted n b (get_or ps j no_piece)) no_piece h (no_slot k (get_or ps j no_piece) ne) (no_slot k (noted n b (get_or ps j no_piece)) ne);
      heads = only_set (head_of k) ps j (noted n b (get_or ps j no_piece)) no_piece h (no_head k (get_or ps j no_piece) ne) (no_head k (noted n b (get_or ps j no_piece)) ne);
    }
