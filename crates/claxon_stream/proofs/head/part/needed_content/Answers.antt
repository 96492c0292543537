use Rattle.std.proofs.Common.{arith}
use Rattle.std.proofs.lemmas.Grind.{common_steps}
use Rattle.claxon_stream.proofs.head.part.needed_content.Goals as goal

pub returns-then-is_passed : goal.returns-then-is_passed
returns-then-is_passed c = grind (arith, common_steps)

pub returns-then-block_type-eq127 : goal.returns-then-block_type-eq127
returns-then-block_type-eq127 c = grind (arith, common_steps)

pub returns : goal.returns
returns c = grind (arith, common_steps)
