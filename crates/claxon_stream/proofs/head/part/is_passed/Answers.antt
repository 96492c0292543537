use Rattle.std.proofs.Common.{arith}
use Rattle.std.proofs.lemmas.Grind.{common_steps}
use Rattle.claxon_stream.proofs.head.part.is_passed.Goals as goal

pub returns-then-block_type-ne4 : goal.returns-then-block_type-ne4
returns-then-block_type-ne4 c = grind (arith, common_steps)

pub returns-else-block_type-ne4 : goal.returns-else-block_type-ne4
returns-else-block_type-ne4 c = grind (arith, common_steps)
