-- `script::play::payload_of` meets its contract.
use mathlib.Core.Path.{refl}
use Rattle.script.proofs.play.payload_of.Goals as goal

pub returns : goal.returns
returns c = refl
