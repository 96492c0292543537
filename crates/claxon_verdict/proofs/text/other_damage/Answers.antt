use Rattle.std.proofs.Common.{arith}
use Rattle.std.proofs.lemmas.Grind.{common_steps}
use Rattle.claxon_verdict.proofs.text.other_damage.Goals as goal

pub returns-in-Repeated : goal.returns-in-Repeated
returns-in-Repeated c = grind (arith, common_steps)
