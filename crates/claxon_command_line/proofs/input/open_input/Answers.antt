use Rattle.std.proofs.Common.{arith}
use Rattle.std.proofs.lemmas.Grind.{common_steps}
use Rattle.claxon_command_line.proofs.input.open_input.Goals as goal

pub returns : goal.returns
returns g c = grind (arith, common_steps)
