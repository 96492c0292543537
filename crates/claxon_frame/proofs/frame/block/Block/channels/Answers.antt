use Rattle.std.proofs.Common.{◌≡◌, length, arith}
use Rattle.claxon_frame.proofs.ChannelsInBuffer.{length-chunks}
use Rattle.claxon_frame.proofs.frame.block.Block.channels.Goals as goal

pub returns-clause-value : goal.returns-clause-value
returns-clause-value g c =
    let n : length c.args.self.now.channels ≡ c.self.inside.channels = rw (← c.self.view_is) (length-chunks _ _ _) in
    omega (arith, n)
