use Rattle.std.proofs.Common.{arith}
use Rattle.std.proofs.lemmas.Grind.{common_steps}
use Rattle.claxon_report.proofs.due.Due.first_sample.Goals as goal

pub returns-then-header-self : goal.returns-then-header-self
returns-then-header-self c = grind (arith, common_steps)

pub returns-then-header : goal.returns-then-header
returns-then-header c = grind (arith, common_steps)

pub returns : goal.returns
returns c = grind (arith, common_steps)
