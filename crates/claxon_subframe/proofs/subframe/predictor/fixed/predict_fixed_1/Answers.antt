use Rattle.std.proofs.Common.{◌∷◌, get_or, pos, rules, refl, FitsSigned, w32, to_z, arith}
use Rattle.claxon_subframe.proofs.RestoreLoop.{restoring_next}
use Rattle.claxon_format.proofs.WrappingArithmetic.{represents_fits, represents_bits, step_1}
use Rattle.claxon_subframe.proofs.subframe.predictor.fixed.predict_fixed_1.Goals as goal

pub loop-place-preserved : goal.loop-place-preserved
loop-place-preserved c =
    let f : FitsSigned w32 (get_or c.loop-place.place-items c.loop-place.place-index (pos 0)) = search rules in
    let item = represents_fits (get_or c.loop-place.place-items c.loop-place.place-index (pos 0)) f in
    let newest = represents_bits c.loop-place.newest-bits (to_z w32 c.loop-place.newest-bits) c.loop-place.auto.newest-fits.fits refl in
    restoring_next _ _ (omega arith) c.loop-place.invariant (λ older. step_1 _ c.loop-place.newest-bits _ (to_z w32 c.loop-place.newest-bits) item newest) (λ older. (to_z w32 c.loop-place.newest-bits ∷ older, refl))
