-- The numbers that are left make the text whole.
use Rattle.std.proofs.Common.{◌≡◌, ◌+◌, ◌*◌, ◌≤◌, ◌++◌, length, drop}
use Rattle.replay.specs.Text.{joined}
use Rattle.replay.specs.declared.text.TheConstants.{NUMBER}
use Rattle.replay.proofs.text.put_numbers.Given as goal

abbrev pub invariant-loop-i : goal.invariant-loop-i
invariant-loop-i l =
    record {
      few : length l.out.bytes ≤ length l.initial.out.bytes + NUMBER * l.i;
      rest : l.out.bytes ++ joined l.i (drop l.i l.n-items) ≡ l.initial.out.bytes ++ joined 0 l.n-items;
    }
