use Rattle.std.proofs.Common.{arith}
use Rattle.std.proofs.lemmas.Grind.{common_steps}
use Rattle.claxon_frame.proofs.frame.header.parts.ChannelAssignment.bit_depth.Goals as goal

pub returns-clause-is_subframe_bit_depth : goal.returns-clause-is_subframe_bit_depth
returns-clause-is_subframe_bit_depth c = grind (arith, common_steps)
