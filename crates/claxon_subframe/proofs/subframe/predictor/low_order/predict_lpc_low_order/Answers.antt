use Rattle.std.proofs.Common.{◌-◌, ◌∙◌, length, arith}
use Rattle.claxon_subframe.specs.TwelveLanes.{numbers}
use Rattle.claxon_subframe.proofs.PaddedCoefficients.{zeros_before}
use Rattle.claxon_subframe.proofs.RestoredFront.{front_restored, padded_restored}
use Rattle.claxon_subframe.proofs.subframe.predictor.low_order.predict_lpc_low_order.Goals as goal

pub predict_after_12-requires-clause-zeros : goal.predict_after_12-requires-clause-zeros
predict_after_12-requires-clause-zeros c = zeros_before 12 4 c.args.coefficients.now (numbers c.padded_to_twelve-twelve.result) (omega arith) c.padded_to_twelve-twelve.ensures.value

pub returns-then-coefficients-le8 : goal.returns-then-coefficients-le8
returns-then-coefficients-le8 c = record {
  samples_are_restored =
      let cs = c.args.coefficients.now in
      c.predict_after_12.ensures ∙ padded_restored cs (numbers c.padded_to_twelve-twelve.result) _ c.args.shift 12 (12 - length cs) c.padded_to_twelve-twelve.ensures.value
      ∙ front_restored cs c.args.buffer.now c.predict_plain-2.new.buffer c.args.shift 12 (omega arith) (omega arith) c.predict_plain-2.ensures.samples_are_restored;
}

pub returns-else-coefficients-le8 : goal.returns-else-coefficients-le8
returns-else-coefficients-le8 c = record {
  samples_are_restored =
      let cs = c.args.coefficients.now in
      c.predict_after_12-else-coefficients-le8.ensures ∙ padded_restored cs (numbers c.padded_to_twelve-twelve.result) _ c.args.shift 12 (12 - length cs) c.padded_to_twelve-twelve.ensures.value
      ∙ front_restored cs c.args.buffer.now c.predict_plain-2.new.buffer c.args.shift 12 (omega arith) (omega arith) c.predict_plain-2.ensures.samples_are_restored;
}
