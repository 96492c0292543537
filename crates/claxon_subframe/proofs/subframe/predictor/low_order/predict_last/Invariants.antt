use Rattle.std.proofs.Common.{◌≡◌, ◌+◌, ◌*◌, length, reverse}
use Rattle.claxon_format.specs.Predict.{linear}
use Rattle.claxon_subframe.specs.PredictorState.{AreRestored}
use Rattle.claxon_subframe.specs.TwelveLanes.{numbers, TwelveFit64, AreTwelvePending}
use Rattle.claxon_subframe.proofs.subframe.predictor.low_order.predict_last.Given as goal

abbrev pub invariant-loop-pair : goal.invariant-loop-pair
invariant-loop-pair g l = record {
  kept : length l.buffer ≡ length l.fn.buffer;
  fits : TwelveFit64 l.state.sums;
  restored : AreRestored (AreTwelvePending (reverse (numbers l.coefficients))) (linear (reverse (numbers l.coefficients)) l.shift) l.fn.buffer l.known l.buffer (l.known + 2 * l.pair) l.state;
}
