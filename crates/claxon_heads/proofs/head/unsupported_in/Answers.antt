use Rattle.std.proofs.Common.{arith}
use Rattle.std.proofs.lemmas.Grind.{common_steps}
use Rattle.claxon_heads.proofs.head.unsupported_in.Goals as goal

pub returns-then-are_comments : goal.returns-then-are_comments
returns-then-are_comments g c = grind (arith, common_steps)

pub returns-else-has_comments : goal.returns-else-has_comments
returns-else-has_comments g c = grind (arith, common_steps)

pub returns-in-PassedOver : goal.returns-in-PassedOver
returns-in-PassedOver g c = grind (arith, common_steps)
