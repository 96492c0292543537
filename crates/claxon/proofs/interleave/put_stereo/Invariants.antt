use Rattle.std.proofs.Common.{◌≡◌, ◌*◌, ◌∷◌, [], take}
use Rattle.std.specs.List.{flat_map}
use Rattle.claxon.specs.Interleave.{interleave_range}
use Rattle.claxon.proofs.interleave.put_stereo.Given as goal

abbrev pub invariant-loop-i : goal.invariant-loop-i
invariant-loop-i g l = take (l.i * (2 * g.U.SampleUnit.SIZE)) l.buffer ≡ flat_map g.U.SampleUnit.units (interleave_range (l.left ∷ l.right ∷ []) 0 l.i)
