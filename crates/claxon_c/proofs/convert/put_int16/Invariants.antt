use Rattle.std.proofs.Common.{◌≡◌, take, map}
use Rattle.claxon_c.specs.Convert.{upper_16}
use Rattle.claxon_c.proofs.convert.put_int16.Given as goal

abbrev pub invariant-loop-i : goal.invariant-loop-i
invariant-loop-i l = take l.i l.numbers ≡ map (upper_16 l.bits) (take l.i l.samples)
