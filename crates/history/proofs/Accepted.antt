-- What an accepted call does, and what its being accepted says.
use Prim.Native.Nat.{ℕ, ◌-◌, ◌*◌, ◌<◌, ◌≤◌}
use mathlib.Core.Path.{◌≡◌, refl}
use mathlib.Core.Bool.{Bool, true, false, cond, ◌&&◌}
use lib.Dec.{eqb, ltb}
use lib.ListN.{length}
use borrow.Author.Tests.{eq-eqb, ne_eqb, eqb-true, eqb-false, ltb-false}
use native.Mathlib.Decide.{ℕ_discrete}
use Rattle.counts.specs.Position.{plus_of}
use Rattle.counts.specs.Shape.{shape_of}
use Rattle.counts.specs.ShapeLaws.{Shaped}
use Rattle.counts.specs.Tests.{and_left, and_right}
use Rattle.counts.specs.Wrap.{add32}
use Rattle.layout.specs.Record.{laid_on}
use Rattle.layout.specs.Sizes.{least_used, record_size}
use Rattle.steps.specs.Bytes.{over, bytes_by}
use Rattle.steps.specs.Fits.{fits_of}
use Rattle.steps.specs.Producer.{starts}
use Rattle.steps.specs.Step.{row_of}
use Rattle.ring.specs.declared.state.Ring.{Ring}
use Rattle.ring.specs.Calls.{offer_of, offer_bytes, flush_of, stepped, step_of, step_bytes, get_of, put_of}
use Rattle.ring.specs.Refusals.{first, offer_refusal, flush_refusal, step_refusal, ready_at, get_refusal, put_refusal}
use Rattle.ring.specs.RefusalsLaws.{known}
use Rattle.ring.specs.State.{at, with_producer, with_offered, with_read, with_holding}
use Rattle.ring.specs.World.{World, Call, offer, flush, step, get, put, code_of, after}
use Rattle.ring.specs.WorldLaws.{refused}
use Rattle.history.specs.History.{Moment, note_call, next}

-- ---- what it does

abbrev pub done : World → Call → World
done w (offer p kind payload) =
    record { ring = with_producer p (starts (record_size (length payload))) (with_offered (add32 w.ring.offered 1) w.ring); memory = w.memory; desks = over w.desks (p * w.ring.size) w.ring.size (λ l. laid_on l payload kind p) }
done w (flush p) = record { ring = with_producer p (starts 0) w.ring; memory = w.memory; desks = w.desks }
done w (step p) =
    record { ring = stepped w.ring p; memory = bytes_by (row_of (at w.ring p).phase) (at w.ring p) p w.ring.lost w.ring.size w.ring.parts w.memory w.desks; desks = w.desks }
done w get = record { ring = with_holding true w.ring; memory = w.memory; desks = w.desks }
done w put = record { ring = with_holding false (with_read (plus_of w.ring.read w.ring.size) w.ring); memory = w.memory; desks = w.desks }

pub accepted : (w : World) (c : Call) → code_of w c ≡ 0 → after w c ≡ done w c
unfolding code_of after offer_of offer_bytes flush_of step_of step_bytes get_of put_of
accepted w (offer p kind payload) e = rw e
accepted w (flush p) e = rw e
accepted w (step p) e = rw e
accepted w get e = rw e
accepted w put e = rw e

pub next_accepted : (m : Moment) (c : Call) → code_of m.world c ≡ 0 → next m c ≡ record { world = done m.world c; log = note_call m.world c m.log }
unfolding next
next_accepted m c e = rw (accepted m.world c e, e)

pub next_refused : (m : Moment) (c : Call) → (code_of m.world c ≡ 0 → ⊥) → next m c ≡ m
unfolding next
next_refused m c n = rw (refused m.world c n, ne_eqb (code_of m.world c) 0 n)

-- by the call's answer
pub by_answer : (m : Moment) (c : Call) (Q : Moment → Type 0) →
    (code_of m.world c ≡ 0 → Q (record { world = done m.world c; log = note_call m.world c m.log })) →
    ((code_of m.world c ≡ 0 → ⊥) → Q m) → Q (next m c)
by_answer m c Q yes-so not_so = go (ℕ_discrete (code_of m.world c) 0)
  where
    go : Dec (code_of m.world c ≡ 0) → Q (next m c)
    go (yes e) = rw (next_accepted m c e) (yes-so e)
    go (no n) = rw (next_refused m c n) (not_so n)

-- ---- what is known of it

first_none : (a b : ℕ) → first a b ≡ 0 → (a ≡ 0) × (b ≡ 0)
first_none a b e = go (eqb a 0) refl e
  where
    go : (t : Bool) → eqb a 0 ≡ t → ◌≡◌ {A = ℕ} (cond t b a) 0 → (a ≡ 0) × (b ≡ 0)
    go true q e = (eqb-true a 0 q, e)
    go false q e = absurd (eqb-false a 0 q e)

pub record Offered (r : Ring) (p L desks : ℕ) : Type 0 where
  pub shape : Shaped r.size r.parts r.producers
  pub below : p < r.producers
  pub desks_long : desks ≡ r.producers * r.size
  pub idle : (at r p).phase ≡ 0
  pub short : L ≤ r.size - least_used

pub offer_ok : (r : Ring) (p L desks : ℕ) → offer_refusal r p L desks ≡ 0 → Offered r p L desks
unfolding offer_refusal
offer_ok r p L desks e =
    let f = first_none _ _ e in
    let k = known r.size r.parts r.producers (eqb desks (r.producers * r.size)) p f.0 in
    record {
      shape = k.shape;
      below = k.below;
      desks_long = eqb-true desks (r.producers * r.size) k.long;
      idle = idle_of (eqb (at r p).phase 0) refl f.1;
      short = short_of (eqb (at r p).phase 0) (ltb (r.size - least_used) L) refl f.1;
    }
  where
    idle_of : (t : Bool) → eqb (at r p).phase 0 ≡ t → ◌≡◌ {A = ℕ} (cond t (cond (ltb (r.size - least_used) L) 5 0) 4) 0 → (at r p).phase ≡ 0
    idle_of true q e = eqb-true (at r p).phase 0 q
    idle_of false q e = absurd (eqb-false 4 0 refl e)

    short_of : (t u : Bool) → ltb (r.size - least_used) L ≡ u → ◌≡◌ {A = ℕ} (cond t (cond u 5 0) 4) 0 → L ≤ r.size - least_used
    short_of true true q e = absurd (eqb-false 5 0 refl e)
    short_of true false q e = ltb-false (r.size - least_used) L q
    short_of false u q e = absurd (eqb-false 4 0 refl e)

pub record Flushed (r : Ring) (p : ℕ) : Type 0 where
  pub below : p < r.producers
  pub shape : Shaped r.size r.parts r.producers
  pub idle : (at r p).phase ≡ 0

pub flush_ok : (r : Ring) (p : ℕ) → flush_refusal r p ≡ 0 → Flushed r p
unfolding flush_refusal
flush_ok r p e =
    let f = first_none _ _ e in
    let k = known r.size r.parts r.producers true p f.0 in
    record { below = k.below; shape = k.shape; idle = idle_of (eqb (at r p).phase 0) refl f.1 }
  where
    idle_of : (t : Bool) → eqb (at r p).phase 0 ≡ t → ◌≡◌ {A = ℕ} (cond t 0 4) 0 → (at r p).phase ≡ 0
    idle_of true q e = eqb-true (at r p).phase 0 q
    idle_of false q e = absurd (eqb-false 4 0 refl e)

pub record Stepped (r : Ring) (p ring desks : ℕ) : Type 0 where
  pub below : p < r.producers
  pub shape : Shaped r.size r.parts r.producers
  pub ring_long : ring ≡ r.size * r.parts
  pub desks_long : desks ≡ r.producers * r.size
  pub busy : (at r p).phase ≡ 0 → ⊥
  pub fits : fits_of (at r p) r.size ≡ true

pub step_ok : (r : Ring) (p ring desks : ℕ) → step_refusal r p ring desks ≡ 0 → Stepped r p ring desks
unfolding step_refusal
step_ok r p ring desks e =
    let f = first_none _ _ e in
    let k = known r.size r.parts r.producers (eqb ring (r.size * r.parts) && eqb desks (r.producers * r.size)) p f.0 in
    record {
      below = k.below;
      shape = k.shape;
      ring_long = eqb-true ring (r.size * r.parts) (and_left (eqb ring (r.size * r.parts)) (eqb desks (r.producers * r.size)) k.long);
      desks_long = eqb-true desks (r.producers * r.size) (and_right (eqb ring (r.size * r.parts)) (eqb desks (r.producers * r.size)) k.long);
      busy = λ z. busy_of (eqb (at r p).phase 0) (eq-eqb (at r p).phase 0 z) f.1;
      fits = fits-of (eqb (at r p).phase 0) (fits_of (at r p) r.size) refl f.1;
    }
  where
    busy_of : (t : Bool) → t ≡ true → ◌≡◌ {A = ℕ} (cond t 6 (cond (fits_of (at r p) r.size) 0 18)) 0 → ⊥
    busy_of true q e = eqb-false 6 0 refl e
    busy_of false q e = absurd (eqb-false 0 1 refl cc)

    fits-of : (t u : Bool) → fits_of (at r p) r.size ≡ u → ◌≡◌ {A = ℕ} (cond t 6 (cond u 0 18)) 0 → fits_of (at r p) r.size ≡ true
    fits-of true u q e = absurd (eqb-false 6 0 refl e)
    fits-of false true q e = q
    fits-of false false q e = absurd (eqb-false 18 0 refl e)

pub record Got (r : Ring) : Type 0 where
  pub shape : shape_of r.size r.parts r.producers ≡ true
  pub free : r.holding ≡ false
  pub ready : ready_at r r.read ≡ true

pub get_ok : (r : Ring) → get_refusal r ≡ 0 → Got r
unfolding get_refusal
get_ok r e = go (shape_of r.size r.parts r.producers) r.holding (ready_at r r.read) refl refl refl e
  where
    go : (a b c : Bool) → shape_of r.size r.parts r.producers ≡ a → r.holding ≡ b → ready_at r r.read ≡ c →
        ◌≡◌ {A = ℕ} (cond a (cond b 8 (cond c 0 7)) 1) 0 → Got r
    go true true c x y z e = absurd (eqb-false 8 0 refl e)
    go true false true x y z e = record { shape = x; free = y; ready = z }
    go true false false x y z e = absurd (eqb-false 7 0 refl e)
    go false b c x y z e = absurd (eqb-false 1 0 refl e)

pub put_ok : (r : Ring) → put_refusal r ≡ 0 → r.holding ≡ true
unfolding put_refusal
put_ok r e = go (shape_of r.size r.parts r.producers) r.holding refl e
  where
    go : (a b : Bool) → r.holding ≡ b → ◌≡◌ {A = ℕ} (cond a (cond b 0 9) 1) 0 → r.holding ≡ true
    go true true y e = y
    go true false y e = absurd (eqb-false 9 0 refl e)
    go false b y e = absurd (eqb-false 1 0 refl e)
