-- Once a new is accepted the ring has an allowed shape for ever, and what is lent to its calls is exactly as long as document 01 asks.
use Rattle.std.specs.Prelude.{ℕ, zero, suc, ◌*◌, Bool, true, false, cond, List, ◌≡◌, ◌==◌, refl, eqb, length, Option, Some, None}
use Rattle.std.proofs.Common.{◌∙◌, mul-le-mul, arith, length-take-le, eq-eqb, eqb-true}
use Rattle.counts.specs.Position.{position, plus_of}
use Rattle.counts.specs.Wrap.{add32}
use Rattle.layout.specs.Sizes.{record_size}
use Rattle.counts.specs.Shape.{shape_of}
use Rattle.counts.specs.ShapeLaws.{shaped}
use Rattle.ring.specs.declared.state.Answer.{Answer}
use Rattle.ring.specs.declared.state.Ring.{Ring}
use Rattle.ring.specs.Calls.{fresh_of, offer_of, flush_of, stepped, step_of, get_of, put_of}
use Rattle.ring.specs.Refusals.{fresh_refusal, offer_refusal, flush_refusal, step_refusal, get_refusal, put_refusal}
use Rattle.runs.specs.Run.{steps, most, world, run_of}
use Rattle.ring.specs.World.{World, step, after}
use Rattle.ring.specs.State.{at, says, with_producer, with_offered, with_read, with_holding}
use Rattle.steps.specs.Producer.{starts}
use Rattle.lines.specs.declared.line.Line.{Line}
use Rattle.lines.specs.declared.line.Line.TheVariants.{New, Offer, Flush, Step, Run, Get, Put}
use Rattle.script.specs.declared.play.Play.{Play}
use Rattle.script.specs.Play.{memory_lent, desks_lent, answer_of, start_play, begun, ring_of, play_of, allowed, ended_of, answered_of, done_of}
use Rattle.lines.proofs.ReadingLaws.{no_true}

abbrev pub shape_at : Ring → Bool
shape_at r = shape_of r.size r.parts r.producers

-- ---- calls leave S, N and P as they are

either : (t : Bool) (x y : Ring) → shape_at x ≡ shape_at y → shape_at (cond t x y) ≡ shape_at y
either true x y e = e
either false x y e = refl

offer_shape : (r : Ring) (p L desks : ℕ) → shape_at (offer_of r p L desks).ring ≡ shape_at r
unfolding offer_of
offer_shape r p L desks =
    either (eqb (offer_refusal r p L desks) 0) (with_producer p (starts (record_size L)) (with_offered (add32 r.offered 1) r)) r refl

flush_shape : (r : Ring) (p : ℕ) → shape_at (flush_of r p).ring ≡ shape_at r
unfolding flush_of
flush_shape r p = either (eqb (flush_refusal r p) 0) (with_producer p (starts 0) r) r refl

get_shape : (r : Ring) → shape_at (get_of r).ring ≡ shape_at r
unfolding get_of
get_shape r = either (eqb (get_refusal r) 0) (with_holding true r) r refl

put_shape : (r : Ring) → shape_at (put_of r).ring ≡ shape_at r
unfolding put_of
put_shape r = either (eqb (put_refusal r) 0) (with_holding false (with_read (plus_of r.read r.size) r)) r refl

step_shape : (r : Ring) (p ring desks : ℕ) → shape_at (step_of r p ring desks).ring ≡ shape_at r
unfolding step_of stepped
step_shape r p ring desks = either (eqb (step_refusal r p ring desks) 0) (stepped r p) r refl

steps_shape : (n : ℕ) (w : World) (p : ℕ) → shape_at (steps n w p).ring ≡ shape_at w.ring
unfolding steps after
steps_shape zero w p = refl
steps_shape (suc n) w p = go (eqb (at w.ring p).phase 0) (steps_shape n (after w (step p)) p)
  where
    go : (t : Bool) → shape_at (steps n (after w (step p)) p).ring ≡ shape_at (after w (step p)).ring →
        shape_at (cond t w (steps n (after w (step p)) p)).ring ≡ shape_at w.ring
    go true next = refl
    go false next = next ∙ step_shape w.ring p (length w.memory) (length w.desks)

run_shape : (r : Ring) (p : ℕ) (ring desks : List ℕ) → shape_at (run_of r p ring desks).ring ≡ shape_at r
unfolding run_of after
run_shape r p ring desks =
    either (eqb (step_refusal r p (length ring) (length desks)) 0) (steps most (after (world r ring desks) (step p)) p).ring r
    (steps_shape most (after (world r ring desks) (step p)) p ∙ step_shape r p (length ring) (length desks))

took : (t : Bool) (x : ℕ) → cond t x 1 ≡ 0 → t ≡ true
took true x e = refl
took false x e = absurd (omega arith)

-- an accepted new has an allowed shape
fresh_shape : (S N P start : ℕ) → (fresh_of S N P (position start)).code ≡ 0 → shape_at (fresh_of S N P (position start)).ring ≡ true
unfolding fresh_of fresh_refusal
fresh_shape S N P start e = rw (eq-eqb (fresh_refusal S N P (position start)) 0 e) (took (shape_of S N P) _ e)

-- ---- a ring that was begun has an allowed shape

abbrev pub Right : Play → Type 0
Right p = begun p ≡ true → shape_at (ring_of p) ≡ true

call_right : (line : Line) (p : Play) (m d : List ℕ) → Right p → allowed (begun p) line ≡ true → (answer_of (ring_of p) line m d).code ≡ 0 →
    shape_at (answer_of (ring_of p) line m d).ring ≡ true
unfolding answer_of
call_right (New S N P x) p m d h a e = fresh_shape S N P x e
call_right (Offer q k L) p m d h a e = offer_shape (ring_of p) q L (length (desks_lent (ring_of p) d)) ∙ h a
call_right (Flush q) p m d h a e = flush_shape (ring_of p) q ∙ h a
call_right (Step q) p m d h a e = step_shape (ring_of p) q _ _ ∙ h a
call_right (Run q) p m d h a e = run_shape (ring_of p) q _ _ ∙ h a
call_right Get p m d h a e = get_shape (ring_of p) ∙ h a
call_right Put p m d h a e = put_shape (ring_of p) ∙ h a

answered_right : (p : Play) (a : Answer) → Right p → (a.code ≡ 0 → shape_at a.ring ≡ true) → Right (answered_of p a)
unfolding answered_of
answered_right p a h k = go (a.code == 0) refl (begun p) refl
  where
    go : (t : Bool) → (a.code == 0) ≡ t → (u : Bool) → begun p ≡ u →
        Right (cond t (play_of (says 0 a.ring)) (cond u (play_of (says a.code (ring_of p))) (ended_of p)))
    go true e u f = λ _. k (eqb-true a.code 0 e)
    go false e true f = λ _. h f
    go false e false f = h

pub start_right : Right start_play
start_right e = absurd (no_true e)

pub done_right : (p : Play) (line : Option Line) (m d : List ℕ) → Right p → Right (done_of p line m d)
unfolding done_of
done_right p None m d h = h
done_right p (Some line) m d h = go (allowed (begun p) line) refl
  where
    go : (t : Bool) → allowed (begun p) line ≡ t → Right (cond t (answered_of p (answer_of (ring_of p) line m d)) (ended_of p))
    go true a = answered_right p (answer_of (ring_of p) line m d) h (call_right line p m d h a)
    go false a = h

-- ---- what is lent to its calls: S-as-N bytes of ring memory, P-as-S of desks

pub memory_right : (p : Play) (m : List ℕ) → Right p → begun p ≡ true → length m ≡ 65536 → length (memory_lent (ring_of p) m) ≡ (ring_of p).size * (ring_of p).parts
memory_right p m h b e =
    let s = shaped (ring_of p).size (ring_of p).parts (ring_of p).producers (h b) in
    length-take-le ((ring_of p).size * (ring_of p).parts) m (rw e (mul-le-mul s.size_high s.parts_high))

pub desks_right : (p : Play) (d : List ℕ) → Right p → begun p ≡ true → length d ≡ 32768 → length (desks_lent (ring_of p) d) ≡ (ring_of p).producers * (ring_of p).size
desks_right p d h b e =
    let s = shaped (ring_of p).size (ring_of p).parts (ring_of p).producers (h b) in
    length-take-le ((ring_of p).producers * (ring_of p).size) d (rw e (mul-le-mul s.producers_high s.size_high))
