use Rattle.std.proofs.Common.{arith}
use Rattle.std.proofs.lemmas.Grind.{common_steps}
use Rattle.claxon_command_line.specs.Text.{line}
use Rattle.claxon_command_line.proofs.messages.line.Goals as goal

pub returns : goal.returns
unfolding line
returns g c = grind (arith, common_steps)
