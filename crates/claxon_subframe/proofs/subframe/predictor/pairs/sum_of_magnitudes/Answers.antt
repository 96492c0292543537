use Rattle.std.proofs.Common.{◌∙◌, ap, get_or, pos, rules, arith, FitsSigned, w16, unsigned_abs}
use Rattle.std.proofs.lemmas.Int.{to_z-of_z}
use Rattle.claxon_subframe.specs.Pairs.{magnitude}
use Rattle.claxon_subframe.proofs.Pairs.{magnitude_more, magnitude_all}
use Rattle.claxon_subframe.proofs.subframe.predictor.pairs.sum_of_magnitudes.Goals as goal

pub overflow_add-sum : goal.overflow_add-sum
overflow_add-sum c = record { fits = omega (arith, c.from-sum.ensures, c.unsigned_abs.ensures.bound) }

pub loop-coefficient-preserved : goal.loop-coefficient-preserved
loop-coefficient-preserved c =
    let f : FitsSigned w16 (get_or c.args.coefficients.now c.loop-coefficient.coefficient-index (pos 0)) = search rules in
    record {
      so_far = magnitude_more c.args.coefficients.now c.loop-coefficient.coefficient-index c.loop-coefficient.sum (magnitude c.args.coefficients.now) c.from-sum.result c.loop-coefficient-test.true
          (c.from-sum.ensures ∙ c.unsigned_abs.ensures.value ∙ ap unsigned_abs (to_z-of_z w16 _ f)) c.loop-coefficient.invariant.so_far;
      small = omega (arith, c.from-sum.ensures, c.unsigned_abs.ensures.bound);
    }

pub returns : goal.returns
returns c = magnitude_all c.args.coefficients.now c.loop-coefficient.coefficient-index c.loop-coefficient.sum (magnitude c.args.coefficients.now) (omega arith) c.loop-coefficient.invariant.so_far
