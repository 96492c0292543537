use Rattle.std.proofs.Common.{get_or, pos, rules, FitsSigned, w16, w32, w64, arith, refl, ap, ◌∙◌, ℤ, to_z, of_z}
use Rattle.std.proofs.lemmas.Int.{to_z-of_z}
use Rattle.claxon_subframe.proofs.Predictors.{sum_step, dot_step}
use Rattle.claxon_subframe.proofs.subframe.predictor.inner_product.Goals as goal

pub overflow_add-sum : goal.overflow_add-sum
overflow_add-sum c =
    let f : FitsSigned w16 (get_or c.args.coefficients.now c.loop-i.i (pos 0)) = search rules in
    let g : FitsSigned w32 (get_or c.args.samples.now c.loop-i.i (pos 0)) = search rules in
    let s = sum_step c.loop-i.sum-bits (to_z w64 c.loop-i.sum-bits) c.from.result c.from-in-loop-i.result (get_or c.args.coefficients.now c.loop-i.i (pos 0)) (get_or c.args.samples.now c.loop-i.i (pos 0)) c.loop-i.i refl c.from.ensures c.from-in-loop-i.ensures f g (omega arith) c.loop-i.invariant.low c.loop-i.invariant.high in
    rw s.is s.fits

pub loop-i-preserved : goal.loop-i-preserved
loop-i-preserved c =
    let f : FitsSigned w16 (get_or c.args.coefficients.now c.loop-i.i (pos 0)) = search rules in
    let g : FitsSigned w32 (get_or c.args.samples.now c.loop-i.i (pos 0)) = search rules in
    let s = sum_step c.loop-i.sum-bits (to_z w64 c.loop-i.sum-bits) c.from.result c.from-in-loop-i.result (get_or c.args.coefficients.now c.loop-i.i (pos 0)) (get_or c.args.samples.now c.loop-i.i (pos 0)) c.loop-i.i refl c.from.ensures c.from-in-loop-i.ensures f g (omega arith) c.loop-i.invariant.low c.loop-i.invariant.high in
    let e = ap (λ (y : ℤ). to_z w64 (of_z w64 y)) s.is ∙ to_z-of_z w64 _ s.fits in
    record {
      sum_so_far = rw e (dot_step c.args.coefficients.now c.args.samples.now c.loop-i.i (to_z w64 c.loop-i.sum-bits) _ (omega arith) c.requires.same c.loop-i.invariant.sum_so_far);
      low = rw e s.low;
      high = rw e s.high;
    }
