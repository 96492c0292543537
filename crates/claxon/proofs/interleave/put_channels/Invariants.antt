use Rattle.std.proofs.Common.{◌*◌, ◌-◌}
use Rattle.claxon.proofs.Interleaving.{ChannelsPutSoFar}
use Rattle.claxon.proofs.interleave.put_channels.Given as goal

abbrev pub invariant-loop-ch : goal.invariant-loop-ch
invariant-loop-ch g l = ChannelsPutSoFar g.U.SampleUnit.units l.block.channels g.U.SampleUnit.SIZE (g.U.SampleUnit.SIZE * g.row.CHANNELS) l.from (l.to - l.from) l.ch l.buffer
