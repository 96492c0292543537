use Rattle.std.proofs.Common.{arith}
use Rattle.std.proofs.lemmas.Grind.{common_steps}
use Rattle.claxon_command_line.specs.Text.{count_text}
use Rattle.claxon_command_line.proofs.text.count_text.Goals as goal

pub returns : goal.returns
unfolding count_text
returns g c = grind (arith, common_steps)
