use Rattle.claxon_frame.proofs.ChannelsInBuffer.{length-chunks, duration-chunks}
use Rattle.claxon_frame.proofs.frame.block.Block.len.Goals as goal

pub returns : goal.returns
returns g c = rw (← c.self.view_is) (rw (length-chunks c.self.inside.channels c.self.inside.duration c.self.inside.buffer.items, duration-chunks c.self.inside.channels c.self.inside.duration c.self.inside.buffer.items c.self.invariant.0 c.self.invariant.3))
