use Rattle.std.proofs.Common.{arith}
use Rattle.std.proofs.lemmas.Grind.{common_steps}
use Rattle.claxon_frame.proofs.frame.started.StartedFrame.info.Goals as goal

pub returns-clause-says : goal.returns-clause-says
returns-clause-says c = grind (arith, common_steps)
