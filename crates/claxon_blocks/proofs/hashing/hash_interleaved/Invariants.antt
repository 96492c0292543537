use Rattle.std.proofs.Common.{◌≤◌, ◌-◌}
use Rattle.claxon.specs.Interleave.{interleave_range}
use Rattle.claxon.specs.Streams.{duration_of}
use Rattle.claxon_md5.specs.HasherCalls.{HashesSamples}
use Rattle.claxon_blocks.proofs.hashing.hash_interleaved.Given as goal

abbrev pub decreases-loop-from : goal.decreases-loop-from
decreases-loop-from g l = l.duration - l.from

abbrev pub invariant-loop-from : goal.invariant-loop-from
invariant-loop-from g l = record {
  within : l.from ≤ duration_of l.block.channels;
  hashed : HashesSamples l.bit_depth (interleave_range l.block.channels 0 l.from) l.fn.md5 l.md5;
}
