use Rattle.std.proofs.Common.{arith}
use Rattle.std.proofs.lemmas.Grind.{common_steps}
use Rattle.claxon_report.proofs.scan.fills.Goals as goal

pub returns-then-ended-due : goal.returns-then-ended-due
returns-then-ended-due c = grind (arith, common_steps)

pub returns-else-ended-due : goal.returns-else-ended-due
returns-else-ended-due c = grind (arith, common_steps)

pub returns-in-None : goal.returns-in-None
returns-in-None c = grind (arith, common_steps)
