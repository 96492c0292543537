use Rattle.std.proofs.Common.{◌≡◌, ◌*◌, take}
use Rattle.std.specs.List.{flat_map}
use Rattle.claxon_wav.specs.Samples.{bytes_of_sample}
use Rattle.claxon_wav.proofs.samples.put_samples.Given as goal

abbrev pub invariant-loop-i : goal.invariant-loop-i
invariant-loop-i g l = take (l.i * g.row.N) l.buffer ≡ flat_map (bytes_of_sample g.row.N l.valid_bits) (take l.i l.samples)
