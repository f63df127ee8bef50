-- `replay::program::Program::feed_all` meets its contract.
use Rattle.std.proofs.Common.{◌≡◌, ◌+◌, ◌*◌, ◌≤◌, ◌++◌, length, get_or, append-nil, ◌∙◌, arith, rules}
use Rattle.replay.specs.Program.{said_of}
use Rattle.replay.specs.ProgramLaws.{fed_on, said_on}
use Rattle.replay.specs.declared.text.TheConstants.{LINE}
use Rattle.replay.proofs.program.Program.feed_all.Goals as goal
use Rattle.replay.proofs.program.Program.feed_all.Goals.{then-feed, else-feed}

pub loop-b-preserved : goal.loop-b-preserved
loop-b-preserved c =
    let t = c.args.text.now in
    let l = c.loop-b in
    let o = c.if-feed.out in
    let e = c.feed.ensures in
    let few : length o.bytes ≤ LINE * (l.b-index + 1) =
    elim c.if-feed.branch [ then-feed w ↦ rw w.out-is (omega (arith, w.tell.ensures.upper_bound)) | else-feed w ↦ rw w.out-is (omega arith) ] in
    let more : o.bytes ≡ l.out.bytes ++ said_of l.self (get_or t l.b-index 0) =
    elim c.if-feed.branch [
      | then-feed w ↦ rw (w.out-is, e.printed, w.if-feed.true) w.tell.ensures.out_after
      | else-feed w ↦ rw (w.out-is, e.printed, w.if-feed.false, append-nil l.out.bytes)
    ] in
    record {
      few = few;
      fed = fed_on l.self _ t l.b-index (search rules) e.program_after ∙ l.invariant.fed;
      said = said_on l.self _ t l.b-index (search rules) e.program_after l.out.bytes _ more ∙ l.invariant.said;
    }
