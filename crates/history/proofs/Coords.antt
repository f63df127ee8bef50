-- A producer's slot: from the write count that it saw to part and offset, and from the machine's formulas to true positions.
use Prim.Native.Nat.{ℕ, suc, ◌+◌, ◌-◌, ◌*◌, ◌/◌, ◌%◌, ◌≤◌, ◌<◌}
use mathlib.Core.Path.{◌≡◌, refl, sym, ap, ◌∙◌}
use mathlib.Core.Bool.{Bool, true, false, true≢false}
use native.Mathlib.Nat.{div-add-mod', mod-lt, mod-le}
use native.Mathlib.Omega.{arith}
use lib.Dec.{eqb}
use Rattle.counts.specs.declared.place.Place.{Place}
use Rattle.counts.specs.declared.position.Position.{Position}
use Rattle.counts.specs.Place.{Fit, entering, inside, closing, fit_of, slot_of, placed, place_of}
use Rattle.counts.specs.PlaceLaws.{FitIs, fit_is}
use Rattle.counts.specs.Position.{plus_of, offset_of, start_of, left_of, next_of, byte_of, part_of}
use Rattle.counts.specs.ShapeLaws.{Shaped}
use Rattle.counts.specs.Wrap.{word, add32}
use Rattle.layout.specs.Sizes.{header}
use Rattle.steps.specs.declared.producer.Producer.{Producer}
use Rattle.steps.specs.Producer.{place_at}
use Rattle.history.proofs.Geometry.{at_div, off_wrap, part_wrap, s_pos}

-- ---- true positions

-- the part of the slot, its offset there, and how far past the write count it starts
unfoldable pub part_in : Fit → (S saw : ℕ) → ℕ
part_in entering S saw = saw / S
part_in inside S saw = saw / S
part_in closing S saw = suc (saw / S)

unfoldable pub off_in : Fit → (S saw : ℕ) → ℕ
off_in entering S saw = header
off_in inside S saw = saw % S
off_in closing S saw = header

unfoldable pub skip : Fit → (S o : ℕ) → ℕ
skip entering S o = header
skip inside S o = 0
skip closing S o = S - o + header

-- a part is entered
abbrev pub is_entering : Fit → Bool
is_entering entering = true
is_entering inside = false
is_entering closing = true

abbrev pub is_closing : Fit → Bool
is_closing entering = false
is_closing inside = false
is_closing closing = true

module _ (S : ℕ) (pos-S : 0 < S) where
  pub slot_pos : (f : Fit) (saw z : ℕ) → FitIs f (saw % S) z S → part_in f S saw * S + off_in f S saw ≡ saw + skip f S (saw % S)
  unfolding FitIs part_in off_in skip
  slot_pos entering saw z h = omega (arith, div-add-mod' saw S)
  slot_pos inside saw z h = omega (arith, div-add-mod' saw S)
  slot_pos closing saw z h = omega (arith, div-add-mod' saw S, mod-lt saw pos-S)

  -- the part that is entered starts at the write count, or less than S behind it
  pub part_near : (f : Fit) (saw z : ℕ) → FitIs f (saw % S) z S → is_entering f ≡ true → (saw ≤ part_in f S saw * S) × (part_in f S saw * S ≤ saw + S)
  unfolding FitIs part_in
  part_near entering saw z h e = (omega (arith, div-add-mod' saw S), omega (arith, div-add-mod' saw S))
  part_near inside saw z h e = absurd (true≢false (sym e))
  part_near closing saw z h e = (omega (arith, div-add-mod' saw S, mod-lt saw pos-S), omega (arith, div-add-mod' saw S, mod-lt saw pos-S))

  -- the slot ends in its part
  pub slot_fits : (f : Fit) (saw z : ℕ) → FitIs f (saw % S) z S → header + z ≤ S → off_in f S saw + z ≤ S
  unfolding FitIs off_in
  slot_fits entering saw z h k = k
  slot_fits inside saw z h k = h.1
  slot_fits closing saw z h k = k

  -- behind the header, if the write count is never inside one
  pub slot_behind : (f : Fit) (saw z : ℕ) → FitIs f (saw % S) z S → (0 < saw % S → header < saw % S) → header ≤ off_in f S saw
  unfolding FitIs off_in
  slot_behind entering saw z h k = omega arith
  slot_behind inside saw z h k = omega (arith, k h.0)
  slot_behind closing saw z h k = omega arith

-- ---- the machine's formulas

module _ {S N P : ℕ} (G : Shaped S N P) (q : Producer) (saw : ℕ) (is : q.w.0 ≡ saw % word) where
  abbrev pub fit : Fit
  fit = fit_of (saw % S) q.z S

  pub off_is : offset_of q.w S ≡ saw % S
  off_is = rw is (off_wrap G saw)

  pub fit_true : FitIs fit (saw % S) q.z S
  fit_true = fit_is (saw % S) q.z S

  pub left_is : left_of q.w S ≡ S - saw % S
  unfolding left_of
  left_is = ap (λ o. S - o) off_is

  -- n bytes past the write count held
  sum_is : (n : ℕ) → (plus_of q.w n).0 ≡ (saw + n) % word
  unfolding plus_of add32
  sum_is n = rw is (omega arith)

  pub next_is : (next_of q.w S).0 ≡ (saw + (S - saw % S)) % word
  unfolding next_of
  next_is = rw left_is (sum_is (S - saw % S))

  pub part_is : part_of q.w S N ≡ saw / S % N
  unfolding part_of byte_of
  part_is = rw is (part_wrap G saw)

  pub start_is : (start_of q.w S).0 ≡ saw / S * S % word
  unfolding start_of
  start_is = back (saw % S) (saw / S * S) (div-add-mod' saw S) (mod-le q.w.0 S) off_is
    where
      back : (o x : ℕ) → x + o ≡ saw → q.w.0 % S ≤ q.w.0 → q.w.0 % S ≡ o → q.w.0 - q.w.0 % S ≡ x % word
      back o x e h f = omega (arith, is)

  -- where document 01 puts the slot
  pub record Spot (f : Fit) (x : Place) : Type 0 where
    pub closes : x.closes ≡ is_closing f
    pub enters : x.enters ≡ is_entering f
    pub t : x.t.0 ≡ part_in f S saw * S % word
    pub a : x.a.0 ≡ (part_in f S saw * S + off_in f S saw) % word
    pub e : x.e.0 ≡ (part_in f S saw * S + off_in f S saw + q.z) % word
    pub ends : x.ends ≡ eqb ((part_in f S saw * S + off_in f S saw + q.z) % S) 0

  pub past : (x : Position) (y n : ℕ) → x.0 ≡ y % word → (plus_of x n).0 ≡ (y + n) % word
  unfolding plus_of add32
  past x y n e = rw e (omega arith)

  -- a slot at a position, from its remainder
  slot-at : (f : Fit) (n : ℕ) (c d : Bool) (t a : Position) → c ≡ is_closing f → d ≡ is_entering f → t.0 ≡ part_in f S saw * S % word →
      a.0 ≡ (part_in f S saw * S + off_in f S saw) % word → Spot f (slot_of n c d t a q.z S)
  unfolding slot_of
  slot-at f n c d t a ec ed et ea =
      let e = past a (part_in f S saw * S + off_in f S saw) q.z ea in
      record {
        closes = ec;
        enters = ed;
        t = et;
        a = ea;
        e = e;
        ends = ap (λ x. eqb (x % S) 0) e ∙ ap (λ x. eqb x 0) (off_wrap G (part_in f S saw * S + off_in f S saw + q.z));
      }

  pos_of : (f : Fit) → FitIs f (saw % S) q.z S → (x : Position) → x.0 ≡ (saw + skip f S (saw % S)) % word → x.0 ≡ (part_in f S saw * S + off_in f S saw) % word
  pos_of f h x e = e ∙ ap (λ y. y % word) (sym (slot_pos S (s_pos G) f saw q.z h))

  spot_by : (f : Fit) → FitIs f (saw % S) q.z S → Spot f (placed f q.w q.z S header)
  unfolding placed FitIs part_in skip
  spot_by entering h =
      slot-at entering 0 false true q.w (plus_of q.w header) refl refl (is ∙ ap (λ y. y % word) (omega (arith, div-add-mod' saw S)))
      (pos_of entering h (plus_of q.w header) (sum_is header))
  spot_by inside h = slot-at inside 0 false false (start_of q.w S) q.w refl refl start_is (pos_of inside h q.w (is ∙ ap (λ y. y % word) (omega arith)))
  spot_by closing h =
      slot-at closing (left_of q.w S) true true (next_of q.w S) (plus_of (next_of q.w S) header) refl refl
      (next_is ∙ ap (λ y. y % word) (omega (arith, div-add-mod' saw S, mod-lt saw (s_pos G))))
      (pos_of closing h (plus_of (next_of q.w S) header) (past (next_of q.w S) (saw + (S - saw % S)) header next_is ∙ ap (λ y. y % word) (omega arith)))

  pub spot : Spot fit (place_at q S)
  unfolding place_at place_of
  spot = rw off_is (spot_by fit fit_true)

  -- the slot's sub-buffer
  pub slot_part : 0 < q.z → header + q.z ≤ S → part_of (place_at q S).a S N ≡ part_in fit S saw % N
  unfolding part_of byte_of
  slot_part some room =
      ap (λ x. x % (S * N) / S) spot.a
      ∙ part_wrap G (part_in fit S saw * S + off_in fit S saw)
      ∙ ap (λ x. x % N) (at_div S (part_in fit S saw) (off_in fit S saw) (omega (arith, slot_fits S (s_pos G) fit saw q.z fit_true room)))
