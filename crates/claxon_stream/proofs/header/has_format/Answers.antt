use Rattle.std.proofs.Common.{arith}
use Rattle.std.proofs.lemmas.Grind.{common_steps}
use Rattle.claxon_stream.proofs.header.has_format.Goals as goal

pub returns-then-block-info : goal.returns-then-block-info
returns-then-block-info c = grind (arith, common_steps)

pub returns-else-block-info : goal.returns-else-block-info
returns-else-block-info c = grind (arith, common_steps)

pub returns-in-None : goal.returns-in-None
returns-in-None c = grind (arith, common_steps)
