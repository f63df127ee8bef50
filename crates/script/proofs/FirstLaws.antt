-- What the first line makes: a new that is accepted makes a ring, and one that is refused ends the program.
use Rattle.std.specs.Prelude.{ℕ, List, [], ◌≡◌, refl, Some, None, Result, Ok, Err}
use Rattle.std.specs.Result.{result_ok}
use Rattle.std.proofs.Common.{sym, ap, ◌∙◌, ne_eqb}
use Rattle.counts.specs.Position.{position}
use Rattle.ring.specs.declared.refusal.Refusal.{Refusal}
use Rattle.ring.specs.declared.state.Ring.{Ring}
use Rattle.ring.specs.Calls.{fresh_of}
use Rattle.ring.specs.State.{zeros, says}
use Rattle.ring.specs.Told.{number_of, made}
use Rattle.ring.specs.ToldLaws.{numbered}
use Rattle.lines.specs.declared.line.Line.{Line}
use Rattle.lines.specs.declared.line.Line.TheVariants.{New, Offer, Flush, Step, Run, Get, Put}
use Rattle.script.specs.declared.play.Play.TheVariants.{Waiting, Going, Over}
use Rattle.script.specs.declared.play.Play.{Play}
use Rattle.script.specs.Play.{answer_of, last_of, ended_of, begun_by, answered_of, done_of}
use Rattle.script.specs.PlayLaws.{done_unmade, memory_unmade, desks_unmade}

module _ (S N P start : ℕ) (memory desks : List ℕ) where
  pub first_made : (r : Ring) → says 0 r ≡ fresh_of S N P (position start) →
      Going r (Ok tt) ≡ done_of Waiting (Some (New S N P start)) memory desks
  unfolding done_of answer_of answered_of
  first_made r is = rw (sym is) refl

  pub first_refused : (e : Refusal) → says (number_of e) zeros ≡ fresh_of S N P (position start) →
      Over None ≡ done_of Waiting (Some (New S N P start)) memory desks
  unfolding done_of answer_of answered_of
  first_refused e is = rw (sym is, ne_eqb (number_of e) 0 (numbered e)) refl

  pub first_fresh : (fresh : Result Ring Refusal) → made fresh ≡ fresh_of S N P (position start) →
      begun_by (result_ok fresh) ≡ done_of Waiting (Some (New S N P start)) memory desks
  first_fresh (Ok r) is = first_made r is
  first_fresh (Err e) is = first_refused e is

-- it reads no memory
pub first_alone : (line : Line) (memory desks : List ℕ) → done_of Waiting (Some line) [] [] ≡ done_of Waiting (Some line) memory desks
unfolding done_of answer_of
first_alone (New S N P start) memory desks = refl
first_alone (Offer p kind L) memory desks = refl
first_alone (Flush p) memory desks = refl
first_alone (Step p) memory desks = refl
first_alone (Run p) memory desks = refl
first_alone Get memory desks = refl
first_alone Put memory desks = refl

-- a play of which no ring was made
module _ (p : Play) (line : Line) (memory desks : List ℕ) (none : last_of p ≡ None) where
  pub done_first : (r : Ring) → begun_by (Some r) ≡ done_of Waiting (Some line) [] [] → Going r (Ok tt) ≡ done_of p (Some line) memory desks
  done_first r e = e ∙ first_alone line memory desks ∙ sym (done_unmade p line memory desks none)

  pub done_none : begun_by None ≡ done_of Waiting (Some line) [] [] → ended_of p ≡ done_of p (Some line) memory desks
  done_none e = ap (λ last. Over last) none ∙ e ∙ first_alone line memory desks ∙ sym (done_unmade p line memory desks none)

-- what a first line needs
pub ruleset first_line = (done_first, done_none, memory_unmade, desks_unmade)
