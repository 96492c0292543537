use Rattle.std.proofs.Common.{arith}
use Rattle.std.proofs.lemmas.Grind.{common_steps}
use Rattle.claxon_stream.proofs.head.rules.Rules.is_enough.Goals as goal

pub returns-then-not-self : goal.returns-then-not-self
returns-then-not-self g c = grind (arith, common_steps)

pub returns-then-self : goal.returns-then-self
returns-then-self g c = grind (arith, common_steps)

pub returns-else-self : goal.returns-else-self
returns-else-self g c = grind (arith, common_steps)
