use Rattle.std.proofs.Common.{arith}
use Rattle.std.proofs.lemmas.Grind.{common_steps}
use Rattle.claxon_stream.proofs.head.rules.Rules.misses_info.Goals as goal

pub returns-then-not-self : goal.returns-then-not-self
returns-then-not-self g c = grind (arith, common_steps)

pub returns-else-not-self : goal.returns-else-not-self
returns-else-not-self g c = grind (arith, common_steps)
