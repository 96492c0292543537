use Rattle.std.proofs.Common.{◌-◌, ◌≤◌, length}
use Rattle.claxon_md5.specs.HasherCalls.{HashesSamples}
use Rattle.claxon_md5.specs.Planar.{interleaved_part}
use Rattle.claxon_md5.proofs.Md5.update_channels.Given as goal

abbrev pub decreases-loop-from : goal.decreases-loop-from
decreases-loop-from g l = length l.samples - l.from

abbrev pub invariant-loop-from : goal.invariant-loop-from
invariant-loop-from g l = record {
  within : l.from ≤ length l.samples;
  hashed : HashesSamples l.bit_depth (interleaved_part g.row.CHANNELS l.samples 0 l.from) l.fn.self l.self;
}
