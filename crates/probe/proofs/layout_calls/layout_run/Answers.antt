-- `probe::layout_calls::layout_run` meets its contract.
use Rattle.std.proofs.Common.{sym, ◌∙◌, ap, ℕ, List}
use Rattle.probe.specs.Layout.{handed}
use Rattle.probe.specs.LayoutLaws.{handed_short, handed_copy}
use Rattle.probe.proofs.layout_calls.layout_run.Goals as goal

-- where it fits, its copy and what stood behind
pub returns-then-n-out-clause-out_after : goal.returns-then-n-out-clause-out_after
returns-then-n-out-clause-out_after c =
    handed_copy _ c.args.out.now _ c.if-n-out.true c.copy.ensures ∙ ap (λ (l : List ℕ). handed l c.args.out.now) c.run-run.ensures

-- where the run does not fit, nothing is written
pub returns-else-n-out-clause-out_after : goal.returns-else-n-out-clause-out_after
returns-else-n-out-clause-out_after c =
    sym (handed_short _ c.args.out.now c.if-n-out.false) ∙ ap (λ (l : List ℕ). handed l c.args.out.now) c.run-run.ensures
