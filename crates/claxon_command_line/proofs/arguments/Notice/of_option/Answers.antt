use Rattle.std.proofs.Common.{arith}
use Rattle.std.proofs.lemmas.Grind.{common_steps}
use Rattle.claxon_command_line.proofs.arguments.Notice.of_option.Goals as goal

pub returns : goal.returns
returns c = grind (arith, common_steps)

pub returns-then-matches-2 : goal.returns-then-matches-2
returns-then-matches-2 c = grind (arith, common_steps)
