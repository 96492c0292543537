use Rattle.std.proofs.Common.{◌∷◌, get_or, pos, rules, refl, FitsSigned, w32, to_z, arith}
use Rattle.claxon_subframe.proofs.RestoreLoop.{restoring_next}
use Rattle.claxon_format.proofs.WrappingArithmetic.{represents_fits, represents_bits, step_2}
use Rattle.claxon_subframe.proofs.subframe.predictor.fixed.predict_fixed_2.Goals as goal

pub loop-place-preserved : goal.loop-place-preserved
loop-place-preserved c =
    let f : FitsSigned w32 (get_or c.loop-place.place-items c.loop-place.place-index (pos 0)) = search rules in
    let item = represents_fits (get_or c.loop-place.place-items c.loop-place.place-index (pos 0)) f in
    let newest = represents_bits c.loop-place.newest-bits (to_z w32 c.loop-place.newest-bits) c.loop-place.auto.newest-fits.fits refl in
    let second = represents_bits c.loop-place.second-bits (to_z w32 c.loop-place.second-bits) c.loop-place.auto.second-fits.fits refl in
    restoring_next _ _ (omega arith) c.loop-place.invariant (λ older. step_2 _ c.loop-place.newest-bits c.loop-place.second-bits _ (to_z w32 c.loop-place.newest-bits) (to_z w32 c.loop-place.second-bits) item newest second) (λ older. (to_z w32 c.loop-place.second-bits ∷ older, refl))
