-- What a play says that it was answered is the number of document 01 that its line's call answers.
use Rattle.std.specs.Prelude.{ℕ, Bool, true, false, cond, List, ◌≡◌, ◌==◌, refl, nat_lt, ◌&&◌, Some, Result}
use Rattle.std.proofs.Common.{ap, ◌∙◌}
use Rattle.counts.specs.Shape.{shape_of}
use Rattle.ring.specs.declared.refusal.Refusal.{Refusal}
use Rattle.ring.specs.declared.state.Ring.{Ring}
use Rattle.ring.specs.Refusals.{first, known_of, fresh_refusal, offer_refusal, flush_refusal, step_refusal, get_refusal, put_refusal}
use Rattle.ring.specs.Calls.{fresh_of, offer_of, flush_of, step_of, get_of, put_of}
use Rattle.ring.specs.Told.{code_told}
use Rattle.runs.specs.Run.{run_of}
use Rattle.lines.specs.declared.line.Line.{Line}
use Rattle.lines.specs.declared.line.Line.TheVariants.{New, Offer, Flush, Step, Run, Get, Put}
use Rattle.script.specs.declared.play.Play.{Play}
use Rattle.script.specs.Play.{answer_of, last_of, code_in, answer_at, done_of}
use Rattle.script.specs.PlayLaws.{done_made}

-- 0, or a refusal's number
abbrev Named : ℕ → Type 0
Named n = code_told (answer_at n) ≡ n

choice : (t : Bool) (x y : ℕ) → Named x → Named y → Named (cond t x y)
choice true x y h k = h
choice false x y h k = k

known_named : (S N P : ℕ) (right : Bool) (p : ℕ) → Named (known_of S N P right p)
unfolding known_of
known_named S N P right p = choice (shape_of S N P && right) _ 1 (choice (nat_lt p P) 0 3 refl refl) refl

first_named : (a b : ℕ) → Named a → Named b → Named (first a b)
first_named a b h k = choice (a == 0) b a k h

offer_named : (r : Ring) (p L desks : ℕ) → Named (offer_refusal r p L desks)
unfolding offer_refusal
offer_named r p L desks =
    first_named _ _ (known_named _ _ _ _ p) (choice _ _ 4 (choice _ 5 0 refl refl) refl)

step_named : (r : Ring) (p ring desks : ℕ) → Named (step_refusal r p ring desks)
unfolding step_refusal
step_named r p ring desks =
    first_named _ _ (known_named _ _ _ _ p) (choice _ 6 _ refl (choice _ 0 18 refl refl))

pub answer_named : (r : Ring) (line : Line) (memory desks : List ℕ) → Named (answer_of r line memory desks).code
unfolding answer_of fresh_of fresh_refusal offer_of flush_of flush_refusal step_of run_of get_of get_refusal put_of put_refusal
answer_named r (New S N P start) memory desks = choice _ _ 1 (choice _ 0 2 refl refl) refl
answer_named r (Offer p kind L) memory desks = offer_named r p L _
answer_named r (Flush p) memory desks = first_named _ _ (known_named _ _ _ true p) (choice _ 0 4 refl refl)
answer_named r (Step p) memory desks = step_named r p _ _
answer_named r (Run p) memory desks = step_named r p _ _
answer_named r Get memory desks = choice _ _ 1 (choice _ 8 _ refl (choice _ 0 7 refl refl)) refl
answer_named r Put memory desks = choice _ _ 1 (choice _ 0 9 refl refl) refl

-- so a ring's line is told by that number
pub done_named : (p : Play) (r : Ring) (answer : Result Unit Refusal) (line : Line) (memory desks : List ℕ) → last_of p ≡ Some (r, answer) →
    code_in (done_of p (Some line) memory desks) ≡ (answer_of r line memory desks).code
done_named p r answer line memory desks e = ap code_in (done_made p line memory desks r answer e) ∙ answer_named r line memory desks
