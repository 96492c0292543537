use Rattle.std.proofs.Common.{arith}
use Rattle.std.proofs.lemmas.Grind.{common_steps}
use Rattle.claxon_stream.proofs.finder.FrameFinder.move_to.Goals as goal

pub returns-then-position : goal.returns-then-position
returns-then-position c = grind (arith, common_steps)

pub returns-else-position : goal.returns-else-position
returns-else-position c = grind (arith, common_steps)
