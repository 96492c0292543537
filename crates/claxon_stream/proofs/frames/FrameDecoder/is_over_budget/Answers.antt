use Rattle.std.proofs.Common.{arith}
use Rattle.std.proofs.lemmas.Grind.{common_steps}
use Rattle.claxon_stream.proofs.frames.FrameDecoder.is_over_budget.Goals as goal

pub returns : goal.returns
returns c = grind (arith, common_steps)
