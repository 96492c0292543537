use Rattle.std.proofs.Common.{arith}
use Rattle.std.proofs.lemmas.Grind.{common_steps}
use Rattle.claxon_wav.proofs.error.of_output.Goals as goal

pub returns-in-Err-IoError : goal.returns-in-Err-IoError
returns-in-Err-IoError g c = grind (arith, common_steps)
