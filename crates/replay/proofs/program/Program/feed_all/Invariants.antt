-- What was made of the bytes so far, and the bytes that are left, make the whole.
use Rattle.std.proofs.Common.{◌≡◌, ◌*◌, ◌≤◌, ◌++◌, length, drop}
use Rattle.replay.specs.Program.{fed_all, said_all}
use Rattle.replay.specs.declared.text.TheConstants.{LINE}
use Rattle.replay.proofs.program.Program.feed_all.Given as goal

abbrev pub invariant-loop-b : goal.invariant-loop-b
invariant-loop-b l =
    record {
      few : length l.out.bytes ≤ LINE * l.b-index;
      fed : fed_all l.self (drop l.b-index l.text) ≡ fed_all l.initial.self l.text;
      said : l.out.bytes ++ said_all l.self (drop l.b-index l.text) ≡ said_all l.initial.self l.text;
    }
