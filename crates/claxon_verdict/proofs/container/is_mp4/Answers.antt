use Rattle.std.proofs.Common.{arith}
use Rattle.std.proofs.lemmas.Grind.{common_steps}
use Rattle.claxon_verdict.proofs.container.is_mp4.Goals as goal

pub returns-then-front-ge4 : goal.returns-then-front-ge4
returns-then-front-ge4 c = grind (arith, common_steps)
