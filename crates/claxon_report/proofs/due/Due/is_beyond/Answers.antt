use Rattle.std.proofs.Common.{arith}
use Rattle.std.proofs.lemmas.Grind.{common_steps}
use Rattle.claxon_report.proofs.due.Due.is_beyond.Goals as goal

pub returns-then-self-samples : goal.returns-then-self-samples
returns-then-self-samples c = grind (arith, common_steps)

pub returns-else-self-samples : goal.returns-else-self-samples
returns-else-self-samples c = grind (arith, common_steps)
