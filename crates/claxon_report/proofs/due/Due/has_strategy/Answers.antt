use Rattle.std.proofs.Common.{arith}
use Rattle.std.proofs.lemmas.Grind.{common_steps}
use Rattle.claxon_report.proofs.due.Due.has_strategy.Goals as goal

pub returns-in-Some-true : goal.returns-in-Some-true
returns-in-Some-true c = grind (arith, common_steps)

pub returns-in-Some-false : goal.returns-in-Some-false
returns-in-Some-false c = grind (arith, common_steps)

pub returns-in-None : goal.returns-in-None
returns-in-None c = grind (arith, common_steps)
