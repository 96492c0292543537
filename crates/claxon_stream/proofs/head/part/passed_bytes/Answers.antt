use Rattle.std.proofs.Common.{arith}
use Rattle.std.proofs.lemmas.Grind.{common_steps}
use Rattle.claxon_stream.proofs.head.part.passed_bytes.Goals as goal

pub returns-then-is_passed : goal.returns-then-is_passed
returns-then-is_passed c = grind (arith, common_steps)

pub returns-else-is_passed : goal.returns-else-is_passed
returns-else-is_passed c = grind (arith, common_steps)
