use Rattle.std.proofs.Common.{arith}
use Rattle.std.proofs.lemmas.Grind.{common_steps}
use Rattle.claxon_command_line.proofs.input.InputRead.read.Goals as goal

pub returns-in-File-clause-bytes : goal.returns-in-File-clause-bytes
returns-in-File-clause-bytes g c = grind (arith, common_steps)

pub returns-in-Standard-clause-bytes : goal.returns-in-Standard-clause-bytes
returns-in-Standard-clause-bytes g c = grind (arith, common_steps)
