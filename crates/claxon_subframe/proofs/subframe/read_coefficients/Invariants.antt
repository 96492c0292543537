use Rattle.std.proofs.Common.{length}
use Rattle.claxon_format.specs.read.Bits.{signed_at}
use Rattle.claxon_input.specs.State.{bits_in}
use Rattle.claxon_input.proofs.FieldLoops.{TimesSoFar}
use Rattle.claxon_subframe.proofs.subframe.read_coefficients.Given as goal

abbrev pub invariant-loop-coefficient : goal.invariant-loop-coefficient
invariant-loop-coefficient g l = TimesSoFar (signed_at l.precision) (length l.fn.coefficients) l.coefficients l.coefficient-index (bits_in g.R.ReadBytes.source l.fn.input) (bits_in g.R.ReadBytes.source l.input)
