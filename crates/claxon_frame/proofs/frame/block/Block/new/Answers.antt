use Rattle.std.proofs.Common.{arith}
use Rattle.claxon_frame.proofs.ChannelsInBuffer.{length-chunks, duration-chunks}
use Rattle.claxon_frame.proofs.frame.block.Block.new.Goals as goal

pub returns-clause-channels : goal.returns-clause-channels
returns-clause-channels g c = length-chunks _ _ _

pub returns-clause-duration : goal.returns-clause-duration
returns-clause-duration g c = duration-chunks _ _ _ c.requires.whole (λ none. absurd (omega (arith, none, c.requires.some)))
