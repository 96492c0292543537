use Rattle.std.proofs.Common.{◌*◌}
use Rattle.claxon.proofs.Interleaving.{ChannelSoFar}
use Rattle.claxon.proofs.interleave.put_channel.Given as goal

abbrev pub invariant-loop-i : goal.invariant-loop-i
invariant-loop-i g l = ChannelSoFar g.U.SampleUnit.units (g.U.SampleUnit.SIZE * g.row.CHANNELS) (g.U.SampleUnit.SIZE * l.ch) l.i l.samples l.initial.buffer l.buffer
