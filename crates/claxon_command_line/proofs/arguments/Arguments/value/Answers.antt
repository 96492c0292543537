use Rattle.std.proofs.Common.{arith}
use Rattle.std.proofs.lemmas.Grind.{common_steps}
use Rattle.claxon_command_line.proofs.arguments.Arguments.value.Goals as goal

pub returns-clause-is_sound : goal.returns-clause-is_sound
returns-clause-is_sound c = grind (arith, common_steps)

pub returns-clause-takes_word : goal.returns-clause-takes_word
returns-clause-takes_word c = grind (arith, common_steps)
