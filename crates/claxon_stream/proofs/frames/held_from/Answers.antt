use Rattle.std.proofs.Common.{arith}
use Rattle.std.proofs.lemmas.Grind.{common_steps}
use Rattle.claxon_stream.proofs.frames.held_from.Goals as goal

pub returns-then-position-at : goal.returns-then-position-at
returns-then-position-at c = grind (arith, common_steps)

pub returns : goal.returns
returns c = grind (arith, common_steps)
