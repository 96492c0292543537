use Rattle.std.proofs.Common.{ℕ, ◌+◌, ◌-◌, ◌*◌, ◌∙◌, List, ℤ, length, sym, arith}
use Rattle.claxon_subframe.proofs.PaddedCoefficients.{zeros_before}
use Rattle.claxon_subframe.proofs.Pairs.{magnitude_padded}
use Rattle.claxon_subframe.proofs.RestoredFront.{front_restored, padded_restored}
use Rattle.claxon_subframe.proofs.subframe.predictor.pairs.predict_front.Goals as goal

pub predict_pairs-requires-clause-zeros : goal.predict_pairs-requires-clause-zeros
predict_pairs-requires-clause-zeros g c = zeros_before 32 (28 - 4 * g.row.VECTORS) c.args.coefficients.now c.padded_to_32.result (omega arith) c.padded_to_32.ensures

pub predict_pairs-requires-clause-magnitude : goal.predict_pairs-requires-clause-magnitude
predict_pairs-requires-clause-magnitude g c =
    let same = magnitude_padded (32 - length c.args.coefficients.now) c.args.coefficients.now c.padded_to_32.result c.padded_to_32.ensures in
    omega (arith, same)

pub returns-clause-restored : goal.returns-clause-restored
returns-clause-restored g c =
    let cs = c.args.coefficients.now in
    let same = λ (n : ℕ) (xs : List ℤ). padded_restored cs c.padded_to_32.result xs c.args.shift n (32 - length cs) c.padded_to_32.ensures in
    sym (same c.predict_pairs.result c.predict_pairs.new.buffer) ∙ c.predict_pairs.ensures.restored ∙ same (4 * g.row.VECTORS + 4) _
    ∙ front_restored cs c.args.buffer.now c.predict_plain.new.buffer c.args.shift (4 * g.row.VECTORS + 4) (omega arith) (omega arith) c.predict_plain.ensures.samples_are_restored
