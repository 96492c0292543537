use Rattle.std.proofs.Common.{◌+◌, ◌-◌, ◌^◌, ◌<◌, []}
use Rattle.claxon_input.specs.Bitstream.{left_in, TakesBits}
use Rattle.claxon_input.proofs.bits.Bitstream.gather_buffered.Given as goal

abbrev pub invariant-loop-count : goal.invariant-loop-count
invariant-loop-count g l = record {
  none_early : l.count < l.wanted + 8;
  fits : l.cache < 2 ^ l.count;
  same : TakesBits (left_in l.fn.cache l.fn.count (g.R.ReadBytes.source l.fn.reader)) (left_in l.cache l.count (g.R.ReadBytes.source l.reader)) [];
}

abbrev pub decreases-loop-count : goal.decreases-loop-count
decreases-loop-count g l = l.wanted + 8 - l.count
