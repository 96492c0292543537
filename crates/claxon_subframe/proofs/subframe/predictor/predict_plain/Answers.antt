use Rattle.std.proofs.Common.{◌∙◌, get_or, take, pos, rules, FitsSigned, w32, w64, arith, reverse}
use Rattle.std.proofs.lemmas.Int.{wraps}
use Rattle.std.proofs.lemmas.List.{length-set}
use Rattle.claxon_format.specs.Predict.{linear}
use Rattle.claxon_subframe.proofs.Predictors.{restored_more, linear_value, linear_sum, wrap_fits}
use Rattle.claxon_subframe.proofs.subframe.predictor.predict_plain.Goals as goal

pub loop-i-preserved : goal.loop-i-preserved
loop-i-preserved c =
    let d : FitsSigned w32 (get_or c.loop-i.buffer c.loop-i.i (pos 0)) = search rules in
    let r : FitsSigned w64 c.inner_product-sum.result = search rules in
    let p = linear (reverse c.args.coefficients.now) c.args.shift in
    let predicted = linear_value c.args.coefficients.now c.loop-i.buffer c.loop-i.i c.args.shift c.low_bits.result c.inner_product-sum.result (omega arith) (omega arith) r c.inner_product-sum.ensures (grind arith) in
    let l : FitsSigned w32 c.low_bits.result = wrap_fits _ _ predicted in
    record {
      kept = length-set c.loop-i.buffer c.loop-i.i _ ∙ c.loop-i.invariant.kept;
      same = restored_more p c.loop-i.buffer c.loop-i.i _ (omega arith) (linear_sum _ c.low_bits.result (p (reverse (take c.loop-i.i c.loop-i.buffer))) _ predicted (search (rules, wraps, l, d))) ∙ c.loop-i.invariant.same;
    }
