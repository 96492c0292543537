use Rattle.std.proofs.Common.{arith}
use Rattle.std.proofs.lemmas.Grind.{common_steps}
use Rattle.claxon_stream.proofs.frames.FrameDecoder.is_due.Goals as goal

pub returns-then-ends : goal.returns-then-ends
returns-then-ends c = grind (arith, common_steps)

pub returns-else-ends : goal.returns-else-ends
returns-else-ends c = grind (arith, common_steps)
