use Rattle.std.proofs.Common.{arith}
use Rattle.std.proofs.lemmas.Grind.{common_steps}
use Rattle.claxon_report.proofs.report.has_nothing_wrong.Goals as goal

pub returns-after-matches : goal.returns-after-matches
returns-after-matches g c = grind (arith, common_steps)

pub returns-else-expected-found : goal.returns-else-expected-found
returns-else-expected-found g c = grind (arith, common_steps)
