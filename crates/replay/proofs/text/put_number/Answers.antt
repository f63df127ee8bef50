-- `replay::text::put_number` meets its contract.
use Rattle.std.proofs.Common.{◌∙◌, append_assoc, rules}
use Rattle.replay.specs.TextLaws.{decimal_printed}
use Rattle.replay.proofs.text.put_number.Goals as goal

pub returns-clause-out_after : goal.returns-clause-out_after
returns-clause-out_after c =
    let a = c.args in
    rw (c.push.ensures.ascii c.requires.ascii, c.push_str.ensures.bytes, c.format.ensures.text ∙ decimal_printed a.n (search rules), append_assoc)
