use Rattle.std.proofs.Common.{◌≡◌, take, drop, map}
use Rattle.claxon_format.specs.Subframe.{scaled}
use Rattle.claxon_subframe.proofs.subframe.restore_wasted_bits.Given as goal

abbrev pub invariant-loop-sample : goal.invariant-loop-sample
invariant-loop-sample l = record {
  done : take l.sample-index l.buffer ≡ map (scaled l.wasted) (take l.sample-index l.fn.buffer);
  rest : drop l.sample-index l.buffer ≡ drop l.sample-index l.fn.buffer;
}
