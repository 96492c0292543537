use Rattle.std.proofs.Common.{arith}
use Rattle.std.proofs.lemmas.Grind.{common_steps}
use Rattle.claxon_stream.proofs.head.rules.Rules.end_after.Goals as goal

pub returns-then-is_last : goal.returns-then-is_last
returns-then-is_last g c = grind (arith, common_steps)

pub returns-then-self : goal.returns-then-self
returns-then-self g c = grind (arith, common_steps)

pub returns-else-self : goal.returns-else-self
returns-else-self g c = grind (arith, common_steps)
