use Rattle.std.proofs.Common.{arith}
use Rattle.std.proofs.lemmas.Grind.{common_steps}
use Rattle.claxon_input.proofs.input.IoCursorReadBytes.buffered.Goals as goal

pub returns : goal.returns
returns g c = record { is_front = grind (arith, common_steps) }
