use Rattle.std.proofs.Common.{◌-◌, length}
use Rattle.claxon_subframe.proofs.PaddedCoefficients.{Filled}
use Rattle.claxon_subframe.proofs.subframe.predictor.lanes.padded_coefficients.Given as goal

abbrev pub invariant-loop-i : goal.invariant-loop-i
invariant-loop-i g l = Filled g.row.COUNT (g.row.COUNT - length l.coefficients) l.i l.coefficients l.padded
