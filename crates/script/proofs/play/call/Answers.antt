-- `script::play::call` meets its contract.
use Rattle.std.proofs.Common.{ℕ, ◌*◌, ◌≤◌, ◌≡◌, List, ◌++◌, length, take, sym, ap, ap₂, ◌∙◌, rules}
use Rattle.std.specs.Prelude.{replicate}
use Rattle.std.proofs.lemmas.List.{length-replicate, take-replicate}
use Rattle.ring.specs.Calls.{offer_of, offer_bytes, flush_of, step_of, step_bytes, get_of, put_of}
use Rattle.runs.specs.Run.{run_of, run_bytes}
use Rattle.script.specs.Play.{answer_of, desks_of}
use Rattle.script.specs.PlayLaws.{front, behind, lent_call, kept_answered}
use Rattle.script.proofs.play.call.Goals as goal

-- the payload is cut from the longest one
cut : (n kind : ℕ) (l : List ℕ) → n ≤ 65536 → l ≡ replicate 65536 kind → take n l ≡ replicate n kind
cut n kind l h e = ap (λ (x : List ℕ). take n x) e ∙ take-replicate n 65536 kind h

pub returns-in-Offer-clause-value : goal.returns-in-Offer-clause-value
unfolding answer_of offer_of
returns-in-Offer-clause-value c =
    let a = c.args in
    let o = c.in-Offer in
    let f = front (a.ring.now.producers * a.ring.now.size) _ a.desks.now c.lent-d.ensures in
    let pay = cut o.n o.kind _ (search rules) c.payload_of-payload.ensures in
    rw o.is
    (c.offer.ensures.value
    ∙ ap₂ (λ (x y : ℕ). offer_of a.ring.now o.p x y) (ap (λ (x : List ℕ). length x) pay ∙ length-replicate o.n o.kind) (ap (λ (x : List ℕ). length x) f)
    ∙ sym (kept_answered _ _ a.ring.now))

pub returns-in-Offer-clause-desks_after : goal.returns-in-Offer-clause-desks_after
unfolding desks_of
returns-in-Offer-clause-desks_after c =
    let a = c.args in
    let o = c.in-Offer in
    let f = front (a.ring.now.producers * a.ring.now.size) _ a.desks.now c.lent-d.ensures in
    let pay = cut o.n o.kind _ (search rules) c.payload_of-payload.ensures in
    rw o.is
    (ap₂ (λ (x y : List ℕ). x ++ y)
    (c.offer.ensures.desks_after ∙ ap₂ (λ (x y : List ℕ). offer_bytes a.ring.now o.p o.kind x y) pay f)
    (behind (a.ring.now.producers * a.ring.now.size) _ a.desks.now c.lent-d.ensures))

pub returns-in-Flush-clause-value : goal.returns-in-Flush-clause-value
unfolding answer_of flush_of
returns-in-Flush-clause-value c = rw c.in-Flush.is (c.flush.ensures ∙ sym (kept_answered _ _ c.args.ring.now))

pub returns-in-Step-clause-value : goal.returns-in-Step-clause-value
unfolding answer_of step_of
returns-in-Step-clause-value c =
    let a = c.args in
    let s = c.in-Step in
    let e = c.step.ensures in
    let l = lent_call a.ring.now a.memory.now a.desks.now _ _ c.lent-b.ensures c.lent-d.ensures
    (λ x y. step_of a.ring.now s.p (length x) (length y)) (λ x y. step_bytes a.ring.now s.p x y) _ _ e.value e.ring_after in
    rw s.is (l.0 ∙ sym (kept_answered _ _ a.ring.now))

pub returns-in-Run-clause-value : goal.returns-in-Run-clause-value
unfolding answer_of run_of
returns-in-Run-clause-value c =
    let a = c.args in
    let s = c.in-Run in
    let e = c.run.ensures in
    let l = lent_call a.ring.now a.memory.now a.desks.now _ _ c.lent-b.ensures c.lent-d.ensures
    (λ x y. run_of a.ring.now s.p x y) (λ x y. run_bytes a.ring.now s.p x y) _ _ e.value e.memory_after in
    rw s.is (l.0 ∙ sym (kept_answered _ _ a.ring.now))

pub returns-in-Get-clause-value : goal.returns-in-Get-clause-value
unfolding answer_of get_of
returns-in-Get-clause-value c = rw c.in-Get.is (c.get.ensures ∙ sym (kept_answered _ _ c.args.ring.now))

pub returns-in-Put-clause-value : goal.returns-in-Put-clause-value
unfolding answer_of put_of
returns-in-Put-clause-value c = rw c.in-Put.is (c.put.ensures ∙ sym (kept_answered _ _ c.args.ring.now))
