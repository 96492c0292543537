use Rattle.std.proofs.Common.{arith}
use Rattle.std.proofs.lemmas.Grind.{common_steps}
use Rattle.claxon_command_line.proofs.messages.io_text.Goals as goal

pub returns-in-Head : goal.returns-in-Head
returns-in-Head g c = grind (arith, common_steps)
