use Rattle.std.proofs.Common.{arith}
use Rattle.std.proofs.lemmas.Grind.{common_steps}
use Rattle.claxon_command_line.proofs.arguments.Arguments.next.Goals as goal

pub returns-in-45-2-clause-is_sound : goal.returns-in-45-2-clause-is_sound
returns-in-45-2-clause-is_sound c = grind (arith, common_steps)
