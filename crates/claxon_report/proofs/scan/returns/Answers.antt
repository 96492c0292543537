use Rattle.std.proofs.Common.{arith}
use Rattle.std.proofs.lemmas.Grind.{common_steps}
use Rattle.claxon_report.proofs.scan.returns.Goals as goal

pub returns-then-ended-number : goal.returns-then-ended-number
returns-then-ended-number c = grind (arith, common_steps)

pub returns-else-ended-number : goal.returns-else-ended-number
returns-else-ended-number c = grind (arith, common_steps)

pub returns-in-None : goal.returns-in-None
returns-in-None c = grind (arith, common_steps)
