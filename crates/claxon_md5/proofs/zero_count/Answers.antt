use Rattle.std.proofs.Common.{arith}
use Rattle.std.proofs.lemmas.Grind.{common_steps}
use Rattle.claxon_md5.proofs.zero_count.Goals as goal

pub returns-then-left-le55 : goal.returns-then-left-le55
returns-then-left-le55 c = grind (arith, common_steps)

pub returns-else-left-le55 : goal.returns-else-left-le55
returns-else-left-le55 c = grind (arith, common_steps)
