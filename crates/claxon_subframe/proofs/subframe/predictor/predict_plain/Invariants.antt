use Rattle.std.proofs.Common.{◌≡◌, length, reverse}
use Rattle.claxon_format.specs.read.Predict.{restored}
use Rattle.claxon_format.specs.Predict.{linear}
use Rattle.claxon_subframe.proofs.subframe.predictor.predict_plain.Given as goal

abbrev pub invariant-loop-i : goal.invariant-loop-i
invariant-loop-i l = record {
  kept : length l.buffer ≡ length l.fn.buffer;
  same : restored (linear (reverse l.coefficients) l.shift) l.i l.buffer ≡ restored (linear (reverse l.coefficients) l.shift) (length l.coefficients) l.fn.buffer;
}
