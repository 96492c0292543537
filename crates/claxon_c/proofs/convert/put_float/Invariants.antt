use Rattle.std.proofs.Common.{◌≡◌, take, map}
use Rattle.claxon_c.specs.Convert.{full_scale}
use Rattle.claxon_c.proofs.convert.put_float.Given as goal

abbrev pub invariant-loop-i : goal.invariant-loop-i
invariant-loop-i l = take l.i l.numbers ≡ map (full_scale l.bits) (take l.i l.samples)
