use Rattle.std.proofs.Common.{◌≡◌, ◌*◌, ◌^◌, drop, pos, ◌+ℤ◌, ◌≤ℤ◌, neg_ℤ}
use Rattle.claxon_format.specs.Predict.{dot}
use Rattle.claxon_subframe.proofs.subframe.predictor.inner_product.Given as goal

abbrev pub invariant-loop-i : goal.invariant-loop-i
invariant-loop-i l = record {
  sum_so_far : l.sum +ℤ dot (drop l.i l.coefficients) (drop l.i l.samples) ≡ dot l.coefficients l.samples;
  low : neg_ℤ (pos (2 ^ 46 * l.i)) ≤ℤ l.sum;
  high : l.sum ≤ℤ pos (2 ^ 46 * l.i);
}
