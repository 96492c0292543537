use Rattle.std.proofs.Common.{arith}
use Rattle.std.proofs.lemmas.Grind.{common_steps}
use Rattle.claxon_stream.proofs.frames.ends_there.Goals as goal

pub returns-then-at-position : goal.returns-then-at-position
returns-then-at-position c = grind (arith, common_steps)

pub returns-else-at-position : goal.returns-else-at-position
returns-else-at-position c = grind (arith, common_steps)
