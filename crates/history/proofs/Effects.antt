-- What the rows close, open, write and end do to ring memory, each as a write of runs.
use Prim.Native.Nat.{ℕ, ◌+◌, ◌-◌, ◌≤◌, ◌<◌}
use mathlib.Core.Path.{◌≡◌, refl, sym, ap, ap₂, subst, ◌∙◌}
use mathlib.Core.Logic.{inl, inr}
use mathlib.Core.List.{List, ◌++◌, append_assoc}
use native.Mathlib.Decide.{dec_lt}
use native.Mathlib.Omega.{arith}
use lib.ListN.{length, get_or, take, drop, length-drop}
use lib.Seq.{length-take-le, get_or-take, get_or-drop, take_at, drop_at, drop-drop, ext_get_or, sets, sets-eq}
use Rattle.layout.specs.Bytes.{le2, le4}
use Rattle.layout.specs.Header.{mark_of, opened, used_set}
use Rattle.layout.specs.HeaderLaws.{opened_over, used_over}
use Rattle.layout.specs.Sizes.{header}
use Rattle.steps.specs.Bytes.{put, over}
use Rattle.steps.specs.BytesFrame.{put_inside}
use Rattle.steps.specs.BytesLaws.{over_fits}
use Rattle.history.proofs.Memory.{put_length, put_other}

-- ---- a write within a write

module _ (l : List ℕ) (a n : ℕ) (fits : a + n ≤ length l) where
  abbrev part : List ℕ
  part = take n (drop a l)

  part_long : length part ≡ n
  part_long = length-take-le n (drop a l) (rw (length-drop a l) (omega arith))

  part-at : (j : ℕ) → j < n → get_or part j 0 ≡ get_or l (a + j) 0
  part-at j h = get_or-take n (drop a l) j 0 h ∙ get_or-drop a l j 0

  -- m bytes of the n from a on are changed
  nested : (o m : ℕ) (vs : List ℕ) → o + m ≤ n → length vs ≡ m → put l a n (put part o m vs) ≡ put l (a + o) m vs
  nested o m vs h e =
      ext_get_or 0 (put l a n (put part o m vs)) (put l (a + o) m vs)
      (put_length l a n (put part o m vs) fits inner ∙ sym (put_length l (a + o) m vs (omega arith) e))
      (λ i k. go i (dec_lt i a) (dec_lt i (a + n)))
    where
      inner : length (put part o m vs) ≡ n
      inner = put_length part o m vs (rw part_long h) e ∙ part_long

      within : (j : ℕ) → j < n → Dec (j < o) → Dec (j < o + m) → get_or (put part o m vs) j 0 ≡ get_or (put l (a + o) m vs) (a + j) 0
      within j k (yes c) d =
          put_other part o m vs (rw part_long h) e j (inl c) ∙ part-at j k ∙ sym (put_other l (a + o) m vs (omega arith) e (a + j) (inl (omega arith)))
      within j k (no c) (yes d) =
          let x : j ≡ o + (j - o) = omega arith in
          let y : a + o + (j - o) ≡ a + j = omega arith in
          ap (λ z. get_or (put part o m vs) z 0) x
          ∙ put_inside part o m vs (rw part_long h) e (j - o) (omega arith)
          ∙ sym (put_inside l (a + o) m vs (omega arith) e (j - o) (omega arith))
          ∙ ap (λ z. get_or (put l (a + o) m vs) z 0) y
      within j k (no c) (no d) =
          put_other part o m vs (rw part_long h) e j (inr (omega arith)) ∙ part-at j k ∙ sym (put_other l (a + o) m vs (omega arith) e (a + j) (inr (omega arith)))

      go : (i : ℕ) → Dec (i < a) → Dec (i < a + n) → get_or (put l a n (put part o m vs)) i 0 ≡ get_or (put l (a + o) m vs) i 0
      go i (yes c) d = put_other l a n _ fits inner i (inl c) ∙ sym (put_other l (a + o) m vs (omega arith) e i (inl (omega arith)))
      go i (no c) (yes d) =
          let x : i ≡ a + (i - a) = omega arith in
          subst (λ z. get_or (put l a n (put part o m vs)) z 0 ≡ get_or (put l (a + o) m vs) z 0) (sym x)
          (put_inside l a n _ fits inner (i - a) (omega arith) ∙ within (i - a) (omega arith) (dec_lt (i - a) o) (dec_lt (i - a) (o + m)))
      go i (no c) (no d) = put_other l a n _ fits inner i (inr (omega arith)) ∙ sym (put_other l (a + o) m vs (omega arith) e i (inr (omega arith)))

  -- what was put there is there, and a second write takes its place
  front : length (take a l) ≡ a
  front = length-take-le a l (omega arith)

  taken : (x : List ℕ) → length x ≡ n → take n (drop a (put l a n x)) ≡ x
  unfolding put
  taken x e = ap (take n) (drop_at (take a l) _ a front) ∙ take_at x _ n e

  again : (x y : List ℕ) → length x ≡ n → put (put l a n x) a n y ≡ put l a n y
  unfolding put
  again x y e =
      ap₂ (λ (p q : List ℕ). p ++ (y ++ q)) (take_at (take a l) _ a front) (ap (drop n) (drop_at (take a l) _ a front) ∙ drop_at x _ n e)

-- stores in a row are a write
sets_put : (l : List ℕ) (o : ℕ) (vs : List ℕ) → o + length vs ≤ length l → sets l o vs ≡ put l o (length vs) vs
unfolding put
sets_put l o vs h =
    sets-eq vs l o h ∙ append_assoc (take o l) vs (drop (o + length vs) l) ∙ ap (λ (r : List ℕ). take o l ++ (vs ++ r)) (sym (drop-drop (length vs) o l))

-- ---- the rows

module _ (mem : List ℕ) (a S : ℕ) (fits : a + S ≤ length mem) (long : header ≤ S) where
  here : List ℕ
  here = take S (drop a mem)

  here_long : length here ≡ S
  unfolding here
  here_long = part_long mem a S fits

  -- close and end: the used size
  pub used_effect : (u : ℕ) → over mem a S (λ l. used_set l u) ≡ put mem (a + 6) 2 (le2 u)
  unfolding here header
  used_effect u =
      over_fits mem a S (λ l. used_set l u) fits
      ∙ ap (λ (l : List ℕ). put mem a S l) (used_over here 0 0 u (rw here_long long) ∙ sets_put here 6 (le2 u) (rw here_long (omega arith)))
      ∙ nested mem a S fits 6 2 (le2 u) (omega arith) refl

  -- open: all else of the header
  pub open_effect : (position lost : ℕ) → over mem a S (λ l. opened l position lost) ≡ put (put mem a 6 mark_of) (a + 8) 8 (le4 position ++ le4 lost)
  unfolding here header
  open_effect position lost =
      over_fits mem a S (λ l. opened l position lost) fits
      ∙ ap (λ (l : List ℕ). put mem a S l) (opened_over here position lost 0 (rw here_long long) ∙ two_sets)
      ∙ sym (again mem a S fits x _ x_long)
      ∙ ap (λ (l : List ℕ). put (put mem a S x) a S (put l 8 8 rest)) (sym (taken mem a S fits x x_long))
      ∙ nested (put mem a S x) a S (rw (put_length mem a S x fits x_long) fits) 8 8 rest (omega arith) refl
      ∙ ap (λ (l : List ℕ). put l (a + 8) 8 rest) (nested mem a S fits 0 6 mark_of (omega arith) refl ∙ ap (λ y. put mem y 6 mark_of) (omega arith))
    where
      rest : List ℕ
      rest = le4 position ++ le4 lost

      x : List ℕ
      x = put here 0 6 mark_of

      x_long : length x ≡ S
      x_long = put_length here 0 6 mark_of (rw here_long (omega arith)) refl ∙ here_long

      two_sets : sets (sets here 0 mark_of) 8 rest ≡ put x 8 8 rest
      two_sets =
          ap (λ (l : List ℕ). sets l 8 rest) (sets_put here 0 mark_of (rw here_long (omega arith))) ∙ sets_put x 8 rest (rw x_long (omega arith))
