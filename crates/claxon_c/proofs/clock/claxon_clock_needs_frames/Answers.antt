use Rattle.std.proofs.Common.{arith}
use Rattle.std.proofs.lemmas.Grind.{common_steps}
use Rattle.claxon_c.proofs.clock.claxon_clock_needs_frames.Goals as goal

pub returns-then-needs_frames : goal.returns-then-needs_frames
returns-then-needs_frames c = grind (arith, common_steps)

pub returns-else-needs_frames : goal.returns-else-needs_frames
returns-else-needs_frames c = grind (arith, common_steps)
