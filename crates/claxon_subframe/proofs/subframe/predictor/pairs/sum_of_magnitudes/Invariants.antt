use Rattle.std.proofs.Common.{◌≡◌, ◌≤◌, ◌+◌, ◌*◌, ◌^◌, drop}
use Rattle.claxon_subframe.specs.Pairs.{magnitude}
use Rattle.claxon_subframe.proofs.subframe.predictor.pairs.sum_of_magnitudes.Given as goal

abbrev pub invariant-loop-coefficient : goal.invariant-loop-coefficient
invariant-loop-coefficient l = record {
  so_far : l.sum + magnitude (drop l.coefficient-index l.coefficients) ≡ magnitude l.coefficients;
  small : l.sum ≤ 2 ^ 15 * l.coefficient-index;
}
