use Rattle.std.proofs.Common.{arith}
use Rattle.std.proofs.lemmas.Grind.{common_steps}
use Rattle.claxon_verdict.proofs.print.is_broken_pipe.Goals as goal

pub returns-in-IoError : goal.returns-in-IoError
returns-in-IoError c = grind (arith, common_steps)
