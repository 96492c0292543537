use Rattle.std.proofs.Common.{sym}
use Rattle.claxon_frame.proofs.ChannelsInBuffer.{duration-chunks, lengths-chunks}
use Rattle.claxon_frame.proofs.frame.block.Block.duration.Goals as goal

pub returns-clause-value : goal.returns-clause-value
returns-clause-value g c = rw (← c.self.view_is) (sym (duration-chunks _ _ _ c.self.invariant.0 c.self.invariant.3))

pub returns-clause-are_of_length : goal.returns-clause-are_of_length
returns-clause-are_of_length g c = rw (← c.self.view_is) (lengths-chunks _ _ _ c.self.invariant.0)
