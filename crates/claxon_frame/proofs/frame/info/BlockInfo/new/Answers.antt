use Rattle.std.proofs.Common.{rules}
use Rattle.claxon_frame.proofs.FrameSteps.{channel_count_is}
use Rattle.claxon_frame.proofs.frame.info.BlockInfo.new.Goals as goal

pub returns : goal.returns
returns c =
    let header = c.args.header.now in
    rw (channel_count_is header.channel_assignment header.min_channels header.max_channels) (search rules)
