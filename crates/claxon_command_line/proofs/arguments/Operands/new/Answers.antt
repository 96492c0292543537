use Rattle.std.proofs.Common.{arith}
use Rattle.std.proofs.lemmas.Grind.{common_steps}
use Rattle.claxon_command_line.proofs.arguments.Operands.new.Goals as goal

pub returns-clause-total : goal.returns-clause-total
returns-clause-total c = grind (arith, common_steps)
