use Rattle.std.proofs.Common.{◌+◌, ◌-◌, ◌^◌, ◌<◌, ◌≤◌, false, replicate}
use Rattle.claxon_input.specs.Bitstream.{left_in, TakesBits}
use Rattle.claxon_input.proofs.bits.Bitstream.skip_buffered_zeros.Given as goal

abbrev pub invariant-loop-cache : goal.invariant-loop-cache
invariant-loop-cache g l = record {
  few : l.count ≤ 8;
  bound : l.zeros + 8 < 2 ^ 32;
  fits : l.cache < 2 ^ l.count;
  taken : TakesBits (left_in l.fn.cache l.fn.count (g.R.ReadBytes.source l.fn.reader)) (left_in l.cache l.count (g.R.ReadBytes.source l.reader)) (replicate l.zeros false);
}

abbrev pub decreases-loop-cache : goal.decreases-loop-cache
decreases-loop-cache g l = 2 ^ 32 + 8 - (l.zeros + l.count)
