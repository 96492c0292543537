use Rattle.std.proofs.Common.{◌∷◌, get_or, pos, rules, refl, FitsSigned, w32, to_z, arith}
use Rattle.claxon_format.specs.read.Predict.{fixed}
use Rattle.claxon_subframe.proofs.RestoreLoop.{restoring_next, restoring_from, restoring_end, restored_into, front_3}
use Rattle.claxon_format.proofs.WrappingArithmetic.{represents_fits, represents_bits, step_3}
use Rattle.claxon_subframe.proofs.subframe.predictor.fixed.predict_fixed_3.Goals as goal

pub loop-place-init : goal.loop-place-init
loop-place-init c =
    let f : FitsSigned w32 (get_or c.args.buffer.now 0 (pos 0)) = search rules in
    let g : FitsSigned w32 (get_or c.args.buffer.now 1 (pos 0)) = search rules in
    let k : FitsSigned w32 (get_or c.args.buffer.now 2 (pos 0)) = search rules in
    restoring_from (fixed 3) 3 c.args.buffer.now _ (front_3 c.args.buffer.now f g k c.requires.warm_up)

pub loop-place-preserved : goal.loop-place-preserved
loop-place-preserved c =
    let f : FitsSigned w32 (get_or c.loop-place.place-items c.loop-place.place-index (pos 0)) = search rules in
    let item = represents_fits (get_or c.loop-place.place-items c.loop-place.place-index (pos 0)) f in
    let newest = represents_bits c.loop-place.newest-bits (to_z w32 c.loop-place.newest-bits) c.loop-place.auto.newest-fits.fits refl in
    let second = represents_bits c.loop-place.second-bits (to_z w32 c.loop-place.second-bits) c.loop-place.auto.second-fits.fits refl in
    let third = represents_bits c.loop-place.third-bits (to_z w32 c.loop-place.third-bits) c.loop-place.auto.third-fits.fits refl in
    restoring_next _ _ (omega arith) c.loop-place.invariant (λ older. step_3 _ c.loop-place.newest-bits c.loop-place.second-bits c.loop-place.third-bits _ (to_z w32 c.loop-place.newest-bits) (to_z w32 c.loop-place.second-bits) (to_z w32 c.loop-place.third-bits) item newest second third) (λ older. (to_z w32 c.loop-place.third-bits ∷ older, refl))

pub returns : goal.returns
returns c = restored_into (fixed 3) 3 c.args.buffer.now c.loop-place.place-items (restoring_end (omega arith) c.loop-place.invariant)
