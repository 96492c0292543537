use Rattle.std.proofs.Common.{sym}
use Rattle.claxon_frame.proofs.ChannelsInBuffer.{joined-chunks}
use Rattle.claxon_frame.proofs.frame.block.Block.into_buffer.Goals as goal

pub returns-clause-items : goal.returns-clause-items
returns-clause-items g c = rw (← c.self.view_is) (sym (joined-chunks _ _ _ c.self.invariant.0))
