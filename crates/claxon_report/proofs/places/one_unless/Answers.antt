use Rattle.std.proofs.Common.{arith}
use Rattle.std.proofs.lemmas.Grind.{common_steps}
use Rattle.claxon_report.proofs.places.one_unless.Goals as goal

pub returns-then-is_so : goal.returns-then-is_so
returns-then-is_so c = grind (arith, common_steps)

pub returns-else-is_so : goal.returns-else-is_so
returns-else-is_so c = grind (arith, common_steps)
