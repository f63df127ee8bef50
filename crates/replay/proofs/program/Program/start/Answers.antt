-- `replay::program::Program::start` meets its contract.
use Rattle.std.proofs.Common.{refl}
use Rattle.replay.proofs.program.Program.start.Goals as goal

pub returns : goal.returns
returns c = rw (c.start.ensures, c.start-2.ensures) refl
