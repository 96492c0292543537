use Rattle.std.proofs.Common.{◌≡◌, ◌*◌, length, take}
use Rattle.claxon_md5.specs.WholeBytes.{sample_width, whole_bytes_of_samples}
use Rattle.claxon_md5.proofs.packing.pack.Given as goal

abbrev pub invariant-loop-sample : goal.invariant-loop-sample
invariant-loop-sample l = record {
  size : length l.buffer ≡ 4096;
  place : l.at ≡ sample_width l.bit_depth * l.sample-index;
  packed : take l.at l.buffer ≡ whole_bytes_of_samples l.bit_depth (take l.sample-index l.samples);
}
