use Rattle.std.proofs.Common.{◌*◌, List, ℤ, take, reverse}
use Rattle.claxon_subframe.proofs.subframe.predictor.restore.first_sums.Given as goal

abbrev pub invariant-loop-pair : goal.invariant-loop-pair
invariant-loop-pair g l = record {
  fit : g.T.LaneTaps.fit l.sums;
  pending : (ks : List ℤ) → g.T.LaneTaps.coefficients l.taps ks → g.T.LaneTaps.pending ks (reverse (take (2 * l.pair) l.samples)) l.sums;
}
