-- What is proved of doing a line.
use Rattle.std.specs.Prelude.{ℕ, ◌*◌, ◌==◌, min, Bool, true, false, cond, List, ◌++◌, ◌≡◌, refl, length, take, drop, Option, Some, None, Result, Ok, Err}
use Rattle.std.proofs.Common.{ap, ap₂, ◌∙◌, sym, true≢false, ne_eqb, eqb-true}
use Rattle.std.proofs.lemmas.List.{take_min, drop_min}
use Rattle.ring.specs.declared.refusal.Refusal.{Refusal}
use Rattle.ring.specs.declared.refusal.Refusal.TheVariants.{NotAllowed, OffStart, NoProducer, NotIdle, TooLong, Idle, NotReady, Holding, NotHolding, NoRow}
use Rattle.ring.specs.declared.state.Answer.{Answer}
use Rattle.ring.specs.declared.state.Ring.{Ring}
use Rattle.ring.specs.Calls.{answered}
use Rattle.ring.specs.State.{zeros, says}
use Rattle.ring.specs.Told.{code_told, told}
use Rattle.lines.specs.declared.line.Line.{Line}
use Rattle.lines.specs.declared.line.Line.TheVariants.{New, Offer, Flush, Step, Run, Get, Put}
use Rattle.script.specs.declared.play.Play.{Play}
use Rattle.script.specs.declared.play.Play.TheVariants.{Waiting, Going, Over}
use Rattle.script.specs.Play.{memory_lent, desks_lent, answer_of, memory_of, desks_of, last_of, begun, over, ring_of, answer_at, play_of, allowed, kept_of, ended_of, answered_of, done_of, done_memory, done_desks}

-- ---- the front of a buffer that is lent, and what stands behind it

pub front : (n k : ℕ) (l : List ℕ) → k ≡ min n (length l) → take k l ≡ take n l
front n k l e = ap (λ (j : ℕ). take j l) e ∙ take_min n l

pub behind : (n k : ℕ) (l : List ℕ) → k ≡ min n (length l) → drop k l ≡ drop n l
behind n k l e = ap (λ (j : ℕ). drop j l) e ∙ drop_min n l

-- a call on the fronts b and d of memory and desks, which are as long as the ring asks for: its answer, and memory with what it wrote
module _ (r : Ring) (memory desks : List ℕ) (b d : ℕ) (memory-is : b ≡ min (r.size * r.parts) (length memory)) (desks-is : d ≡ min (r.producers * r.size) (length desks)) where
  pub lent_call : (answer : (ring desks : List ℕ) → Answer) (bytes : (ring desks : List ℕ) → List ℕ) (a : Answer) (l : List ℕ) →
      a ≡ answer (take b memory) (take d desks) → l ≡ bytes (take b memory) (take d desks) →
      (a ≡ answer (memory_lent r memory) (desks_lent r desks)) × (l ++ drop b memory ≡ bytes (memory_lent r memory) (desks_lent r desks) ++ drop (r.size * r.parts) memory)
  lent_call answer bytes a l e f =
      let x = front (r.size * r.parts) b memory memory-is in
      let y = front (r.producers * r.size) d desks desks-is in
      (e ∙ ap₂ answer x y, ap₂ (λ (u v : List ℕ). u ++ v) (f ∙ ap₂ bytes x y) (behind (r.size * r.parts) b memory memory-is))

-- ---- the program

-- a number says what was answered
answer_back : (answer : Result Unit Refusal) → answer_at (code_told answer) ≡ answer
answer_back (Ok _) = refl
answer_back (Err NotAllowed) = refl
answer_back (Err OffStart) = refl
answer_back (Err NoProducer) = refl
answer_back (Err NotIdle) = refl
answer_back (Err TooLong) = refl
answer_back (Err Idle) = refl
answer_back (Err NotReady) = refl
answer_back (Err Holding) = refl
answer_back (Err NotHolding) = refl
answer_back (Err NoRow) = refl

pub play_told : (answer : Result Unit Refusal) (r : Ring) → play_of (told answer r) ≡ Going r answer
play_told answer r = ap (λ (a : Result Unit Refusal). Going r a) (answer_back answer)

pub play_called : (answer : Result Unit Refusal) (r : Ring) (a : Answer) → told answer r ≡ a → Going r answer ≡ play_of a
play_called answer r a is = sym (play_told answer r) ∙ ap (λ (x : Answer). play_of x) is

-- a refused call of a ring keeps it by itself, where it is no new
same_again : (t : Bool) (x y : Ring) → cond t (cond t x y) y ≡ cond t x y
same_again true x y = refl
same_again false x y = refl

pub kept_answered : (code : ℕ) (next r : Ring) → kept_of r (answered code next r) ≡ answered code next r
kept_answered code next r = ap (λ (x : Ring). says code x) (same_again (code == 0) next r)

-- a line of a ring
line_allowed : (line : Line) → allowed true line ≡ true
line_allowed (New S N P start) = refl
line_allowed (Offer p kind L) = refl
line_allowed (Flush p) = refl
line_allowed (Step p) = refl
line_allowed (Run p) = refl
line_allowed Get = refl
line_allowed Put = refl

-- before a ring is made no line changes memory or desks
pub unmade_memory : (line : Line) (memory desks : List ℕ) → cond (allowed false line) (memory_of zeros line memory desks) memory ≡ memory
unfolding memory_of
unmade_memory (New S N P start) memory desks = refl
unmade_memory (Offer p kind L) memory desks = refl
unmade_memory (Flush p) memory desks = refl
unmade_memory (Step p) memory desks = refl
unmade_memory (Run p) memory desks = refl
unmade_memory Get memory desks = refl
unmade_memory Put memory desks = refl

pub unmade_desks : (line : Line) (desks : List ℕ) → cond (allowed false line) (desks_of zeros line desks) desks ≡ desks
unfolding desks_of
unmade_desks (New S N P start) desks = refl
unmade_desks (Offer p kind L) desks = refl
unmade_desks (Flush p) desks = refl
unmade_desks (Step p) desks = refl
unmade_desks (Run p) desks = refl
unmade_desks Get desks = refl
unmade_desks Put desks = refl

-- an answer to a play that was begun, over or not
went : (t : Bool) (code : ℕ) (next r : Ring) → (code == 0) ≡ t →
    cond t (play_of (says 0 next)) (play_of (says code r)) ≡ play_of (says code (cond t next r))
went true code next r e = ap (λ (n : ℕ). play_of (says n next)) (sym (eqb-true code 0 e))
went false code next r e = refl

-- what a line makes of a play rests on what stands, over or not
module _ (p : Play) (line : Line) (memory desks : List ℕ) where
  pub done_made : (r : Ring) (answer : Result Unit Refusal) → last_of p ≡ Some (r, answer) →
      done_of p (Some line) memory desks ≡ play_of (kept_of r (answer_of r line memory desks))
  unfolding done_of answered_of
  done_made r answer e =
      let a = answer_of r line memory desks in
      rw (e, line_allowed line) (went (a.code == 0) a.code a.ring r refl)

  pub done_begun : begun p ≡ true →
      done_of p (Some line) memory desks ≡ play_of (kept_of (ring_of p) (answer_of (ring_of p) line memory desks))
  unfolding done_of answered_of
  done_begun e =
      let a = answer_of (ring_of p) line memory desks in
      rw (e, line_allowed line) (went (a.code == 0) a.code a.ring (ring_of p) refl)

  pub done_unmade : last_of p ≡ None → done_of p (Some line) memory desks ≡ done_of Waiting (Some line) memory desks
  unfolding done_of answered_of
  done_unmade e = rw e refl

  pub memory_unmade : last_of p ≡ None → done_memory p (Some line) memory desks ≡ memory
  unfolding done_memory
  memory_unmade e = rw e (unmade_memory line memory desks)

  pub desks_unmade : last_of p ≡ None → done_desks p (Some line) desks ≡ desks
  unfolding done_desks
  desks_unmade e = rw e (unmade_desks line desks)

pub done_going : (r : Ring) (answer : Result Unit Refusal) (line : Line) (memory desks : List ℕ) →
    done_of (Going r answer) (Some line) memory desks ≡ play_of (kept_of r (answer_of r line memory desks))
done_going r answer line memory desks = done_made (Going r answer) line memory desks r answer refl

-- ---- a play that is over

stays : (p : Play) → over p ≡ true → ended_of p ≡ p
stays Waiting e = absurd (true≢false (sym e))
stays (Going r answer) e = absurd (true≢false (sym e))
stays (Over last) e = refl

-- a bad line leaves it as it is
module _ (p : Play) (memory desks : List ℕ) (e : over p ≡ true) where
  pub over_stays : done_of p None memory desks ≡ p
  unfolding done_of
  over_stays = stays p e

  pub unallowed_stays : (line : Line) → allowed (begun p) line ≡ false → done_of p (Some line) memory desks ≡ p
  unfolding done_of
  unallowed_stays line h = rw h (stays p e)

-- any other line makes of it what it makes of the play that has not been ended
module _ (p : Play) (line : Option Line) (memory desks : List ℕ) where
  pub ended_goes_on : done_of (ended_of p) line memory desks ≡ done_of p line memory desks
  unfolding done_of answered_of
  ended_goes_on = refl

  pub ended_memory : done_memory (ended_of p) line memory desks ≡ done_memory p line memory desks
  unfolding done_memory
  ended_memory = refl

  pub ended_desks : done_desks (ended_of p) line desks ≡ done_desks p line desks
  unfolding done_desks
  ended_desks = refl

-- a first new that is refused ends it
pub answered_ended : (p : Play) (a : Answer) → (a.code ≡ 0 → ⊥) → begun p ≡ false → answered_of p a ≡ ended_of p
unfolding answered_of
answered_ended p a n e = rw (ne_eqb a.code 0 n, e)
