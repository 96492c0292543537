use Rattle.std.proofs.Common.{◌≡◌, ◌*◌, take}
use Rattle.std.specs.List.{flat_map}
use Rattle.claxon.specs.Interleave.{sample_bytes}
use Rattle.claxon.proofs.interleave.U8SampleUnit.put_all.Given as goal

abbrev pub invariant-loop-i : goal.invariant-loop-i
invariant-loop-i l = take (l.i * 4) l.buffer ≡ flat_map sample_bytes (take l.i l.samples)
