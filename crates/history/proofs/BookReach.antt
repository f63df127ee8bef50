-- The first part that is not entered: how reservations move it, and that the judge's test is what the log notes.
use Prim.Native.Nat.{ℕ, suc, ◌+◌, ◌-◌, ◌*◌, ◌/◌, ◌%◌, ◌≤◌, ◌<◌}
use mathlib.Core.Path.{◌≡◌, refl, sym, ap, ap₂, ◌∙◌}
use mathlib.Core.Bool.{Bool, true, false, cond, ◌&&◌, ◌||◌, true≢false}
use mathlib.Core.List.{List, ◌++◌}
use native.Mathlib.Nat.{div-add-mod', mod-lt, mul-le-mul_right}
use native.Mathlib.Decide.{dec_lt, ℕ_discrete}
use native.Mathlib.Omega.{arith}
use lib.Dec.{eqb, ltb, leb}
use lib.ListN.{length}
use borrow.Author.Tests.{eq-eqb, ne_eqb, le-leb, lt-leb, lt-ltb, le-ltb}
use Rattle.counts.specs.declared.position.Position.{Position}
use Rattle.counts.specs.Place.{Fit, entering, inside, closing, fit_of, full_of}
use Rattle.counts.specs.PlaceLaws.{FitIs, fit_is}
use Rattle.counts.specs.Position.{since_of}
use Rattle.counts.specs.ShapeLaws.{Shaped}
use Rattle.counts.specs.Wrap.{word, sub32}
use Rattle.layout.specs.Sizes.{header}
use Rattle.steps.specs.declared.producer.Producer.{Producer}
use Rattle.steps.specs.Producer.{place_at}
use Rattle.history.specs.Lists.{only, many, sum_by}
use Rattle.history.specs.Log.{Piece, Log, is_heading, pieces, pad, sizes, entered, all_occupied, too_short}
use Rattle.history.proofs.Book.{Reach}
use Rattle.history.proofs.BookLists.{many_append}
use Rattle.history.proofs.Coords.{part_in, is_entering, Spot, spot}
use Rattle.history.proofs.Geometry.{s_pos, small, lt_of_mul}

abbrev headings : List Piece → ℕ
headings ps = many (λ (x : Piece). is_heading x.whose) ps

-- ---- where it is

module _ (S : ℕ) (S_pos : 0 < S) where
  -- at the write count, if that is at a boundary
  at_boundary : (W E : ℕ) → W % S ≡ 0 → W ≤ E * S → E * S < W + S → E * S ≡ W
  at_boundary W E z low high =
      let b : E < suc (W / S) = lt_of_mul S E (suc (W / S)) (omega (arith, div-add-mod' W S)) in
      omega (arith, mul-le-mul_right S b, div-add-mod' W S)

  -- else where the newest part ends
  past_boundary : (W E : ℕ) → 0 < W % S → W ≤ E * S → E * S < W + S → E * S ≡ W + (S - W % S)
  past_boundary W E past low high =
      let a : W / S < E = lt_of_mul S (W / S) E (omega (arith, div-add-mod' W S)) in
      let b : E < suc (suc (W / S)) = lt_of_mul S E (suc (suc (W / S))) (omega (arith, div-add-mod' W S, mod-lt W S_pos)) in
      omega (arith, mul-le-mul_right S a, mul-le-mul_right S b, div-add-mod' W S, mod-lt W S_pos)

  -- n more parts are entered
  further : (start W' n : ℕ) (ps new : List Piece) → start / S * S ≡ start → headings new ≡ n → W' ≤ (headings ps + start / S) * S + n * S → (headings ps + start / S) * S + n * S < W' + S →
      Reach S start W' (ps ++ new)
  further start W' n ps new z e a b =
      let m : headings (ps ++ new) ≡ headings ps + n = many_append (λ (x : Piece). is_heading x.whose) ps new ∙ ap (λ x. headings ps + x) e in
      let f : (headings (ps ++ new) + start / S) * S ≡ (headings ps + n + start / S) * S = ap (λ x. (x + start / S) * S) m in
      record { begins = z; low = omega arith; high = omega arith }

  -- an event's slot
  pub reach_slot : (start W : ℕ) (ps : List Piece) (p event : ℕ) (bytes : List ℕ) (f : Fit) → FitIs f (W % S) (length bytes) S → header + length bytes ≤ S → 0 < length bytes →
      Reach S start W ps → Reach S start (W + sizes (pieces f p W S event bytes)) (ps ++ pieces f p W S event bytes)
  unfolding pieces FitIs only sum_by
  reach_slot start W ps p event bytes inside h a b R =
      further start _ 0 ps (pieces inside p W S event bytes) R.begins refl
      (omega (arith, past_boundary W _ h.0 R.low R.high)) (omega (arith, R.high))
  reach_slot start W ps p event bytes entering h a b R =
      further start _ 1 ps (pieces entering p W S event bytes) R.begins refl
      (omega (arith, at_boundary W _ h R.low R.high)) (omega (arith, at_boundary W _ h R.low R.high))
  reach_slot start W ps p event bytes closing h a b R =
      further start _ 1 ps (pieces closing p W S event bytes) R.begins refl
      (omega (arith, past_boundary W _ h.0 R.low R.high, mod-lt W S_pos)) (omega (arith, past_boundary W _ h.0 R.low R.high, mod-lt W S_pos))

  -- a flush's padding
  pub reach_pad : (start W : ℕ) (ps : List Piece) (p : ℕ) → 0 < W % S → Reach S start W ps → Reach S start (W + sizes (pad p W S)) (ps ++ pad p W S)
  unfolding only sum_by
  reach_pad start W ps p past R =
      further start _ 0 ps (pad p W S) R.begins refl
      (omega (arith, past_boundary W _ past R.low R.high)) (omega (arith, past_boundary W _ past R.low R.high, mod-lt W S_pos))

  -- the part that an event enters
  pub first_part : (W E z : ℕ) (f : Fit) → FitIs f (W % S) z S → is_entering f ≡ true → W ≤ E * S → E * S < W + S → part_in f S W * S ≡ E * S
  unfolding FitIs part_in
  first_part W E z entering h e low high = omega (arith, at_boundary W E h low high, div-add-mod' W S)
  first_part W E z inside h e low high = absurd (true≢false (sym e))
  first_part W E z closing h e low high = omega (arith, past_boundary W E h.0 low high, div-add-mod' W S, mod-lt W S_pos)

-- ---- the judge's test

-- closed or too short: an event would enter a part
short_is : (o z S : ℕ) → (eqb o 0 || ltb S (o + z)) ≡ is_entering (fit_of o z S)
unfolding fit_of
short_is o z S = go (ℕ_discrete o 0) (dec_lt S (o + z))
  where
    go : Dec (o ≡ 0) → Dec (S < o + z) → (eqb o 0 || ltb S (o + z)) ≡ is_entering (cond (eqb o 0) entering (cond (leb (o + z) S) inside closing))
    go (yes e) d = rw (eq-eqb o 0 e)
    go (no n) (yes h) = rw (ne_eqb o 0 n, lt-ltb S (o + z) h, lt-leb (o + z) S h)
    go (no n) (no h) = rw (ne_eqb o 0 n, le-ltb S (o + z) (omega arith), le-leb (o + z) S (omega arith))

turned : (a b c d : Bool) → a ≡ d → (d ≡ true → b ≡ c) → (a && b) ≡ (c && d)
turned a b c d e h = rw e (go c d h)
  where
    go : (c d : Bool) → (d ≡ true → b ≡ c) → (d && b) ≡ (c && d)
    go true true h = h refl
    go false true h = h refl
    go true false h = refl
    go false false h = refl

since_far : (x y B : ℕ) → B ≤ 65536 → x ≡ y + B → B ≤ sub32 (x % word) (y % word)
unfolding sub32
since_far x y B s e = omega arith

since_near : (x y B : ℕ) → B ≤ 65536 → y ≤ x → x < y + B → sub32 (x % word) (y % word) < B
unfolding sub32
since_near x y B s a b = omega arith

module _ {S N P : ℕ} (G : Shaped S N P) (q : Producer) (l : Log) (read : Position) (lo : ℕ) (w_is : q.w.0 ≡ l.write % word) (read_is : read.0 ≡ lo * S % word)
    (lo-is : lo ≡ l.start / S + l.back) (low : lo * S ≤ l.write) (high : l.write ≤ lo * S + S * N) (R : Reach S l.start l.write l.pieces) where
  abbrev f : Fit
  f = fit_of (l.write % S) q.z S

  -- where a part is entered: all N are occupied exactly if it lies N parts past the read count
  full_is : is_entering f ≡ true → leb (S * N) (sub32 (part_in f S l.write * S % word) (lo * S % word)) ≡ eqb (entered l) (l.back + N)
  unfolding entered
  full_is e = go (ℕ_discrete (entered l) (l.back + N))
    where
      part : part_in f S l.write * S ≡ (entered l + l.start / S) * S
      part = first_part S (s_pos G) l.write (entered l + l.start / S) q.z f (fit_is _ _ _) e R.low R.high

      base : lo * S ≡ (l.start / S + l.back) * S
      base = ap (λ x. x * S) lo-is

      go : Dec (entered l ≡ l.back + N) → leb (S * N) (sub32 (part_in f S l.write * S % word) (lo * S % word)) ≡ eqb (entered l) (l.back + N)
      go (yes a) =
          rw (eq-eqb (entered l) (l.back + N) a)
          (le-leb (S * N) _ (since_far _ _ (S * N) (small G) (omega (arith, part, base, ap (λ x. x * S) a))))
      go (no a) =
          let b : entered l < suc (l.back + N) = lt_of_mul S (entered l) (suc (l.back + N)) (omega (arith, R.high, base, high)) in
          let c : suc (entered l) ≤ l.back + N = omega (arith, a) in
          rw (ne_eqb (entered l) (l.back + N) a)
          (lt-leb (S * N) _ (since_near _ _ (S * N) (small G) (omega (arith, part, R.low, low)) (omega (arith, part, base, mul-le-mul_right S c, s_pos G))))

  pub judge_true : full_of (place_at q S) read S N ≡ (all_occupied l N && too_short l q.z S)
  unfolding full_of since_of all_occupied too_short
  judge_true =
      turned _ _ _ _ (X.enters ∙ sym (short_is (l.write % S) q.z S))
      (λ e. ap₂ (λ a b. leb (S * N) (sub32 a b)) X.t read_is ∙ full_is (sym (short_is (l.write % S) q.z S) ∙ e))
    where
      X : Spot G q l.write w_is f (place_at q S)
      X = spot G q l.write w_is
