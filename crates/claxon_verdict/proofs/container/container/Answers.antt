use Rattle.std.proofs.Common.{arith}
use Rattle.std.proofs.lemmas.Grind.{common_steps}
use Rattle.claxon_verdict.proofs.container.container.Goals as goal

pub returns-then-is_ogg : goal.returns-then-is_ogg
returns-then-is_ogg c = grind (arith, common_steps)
