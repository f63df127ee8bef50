-- `script::play::first` meets its contract.
use Rattle.std.proofs.Common.{[], ap, ◌∙◌}
use Rattle.script.specs.Play.{begun_by}
use Rattle.script.proofs.FirstLaws.{first_fresh}
use Rattle.script.proofs.play.first.Goals as goal

pub returns-in-New : goal.returns-in-New
returns-in-New c =
    let n = c.in-New in
    rw n.is (ap begun_by c.ok.ensures.value ∙ first_fresh n.size n.parts n.producers n.start [] [] c.fresh.result c.fresh.ensures)
