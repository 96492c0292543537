use Rattle.std.proofs.Common.{◌+◌, ◌*◌, ◌-◌, length, arith}
use Rattle.claxon_subframe.proofs.PaddedCoefficients.{zeros_before}
use Rattle.claxon_subframe.proofs.RestoredFront.{all_restored}
use Rattle.claxon_subframe.proofs.subframe.predictor.high_order.predict_by_vectors.Goals as goal

pub predict_32_taps-known-requires-clause-zeros : goal.predict_32_taps-known-requires-clause-zeros
predict_32_taps-known-requires-clause-zeros g c =
    zeros_before 32 (28 - 4 * g.row.VECTORS) c.args.coefficients.now c.padded_coefficients-padded.result (omega arith) c.padded_coefficients-padded.ensures.value

pub returns : goal.returns
returns g c = record {
  samples_are_restored =
      let cs = c.args.coefficients.now in
      all_restored cs c.padded_coefficients-padded.result c.predict_plain-2.new.buffer c.predict_32_taps-known.new.buffer c.predict_plain-3.new.buffer c.args.buffer.now c.args.shift _ (4 * g.row.VECTORS + 4) c.predict_32_taps-known.result (32 - length cs)
      (omega arith) (omega arith) (omega arith) (omega arith) (omega arith) c.padded_coefficients-padded.ensures.value c.predict_plain-2.ensures.samples_are_restored c.predict_32_taps-known.ensures.restored c.predict_plain-3.ensures.samples_are_restored;
}
