-- `replay::text::put_numbers` meets its contract.
use Rattle.std.proofs.Common.{ℕ, ◌∷◌, [], ◌++◌, ◌∙◌, get_or, ap, arith, rules, sym}
use Rattle.replay.specs.Text.{decimal_of}
use Rattle.replay.specs.TextLaws.{joined_step, joined_none}
use Rattle.replay.proofs.text.put_numbers.Goals as goal

pub loop-i-preserved : goal.loop-i-preserved
loop-i-preserved c =
    let a = c.args in
    let l = c.loop-i in
    let p = c.put_number in
    let e = ap (λ (x : ℕ). l.out.bytes ++ (decimal_of (get_or a.numbers l.i 0) ++ (x ∷ []))) c.end_of.ensures in
    record {
      few = omega (arith, p.ensures.upper_bound);
      rest = joined_step a.numbers _ l.out.bytes _ l.i (search rules) (p.ensures.out_after ∙ e) l.invariant.rest;
    }

pub returns-clause-out_after : goal.returns-clause-out_after
returns-clause-out_after c =
    let l = c.loop-i in
    sym (joined_none c.args.numbers l.out.bytes l.i (search rules)) ∙ l.invariant.rest
