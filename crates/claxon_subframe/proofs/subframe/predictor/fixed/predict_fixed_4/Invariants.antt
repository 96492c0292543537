use Rattle.std.proofs.Common.{[], ◌∷◌, take, drop, reverse}
use Rattle.claxon_format.specs.read.Predict.{fixed, restore}
use Rattle.claxon_subframe.proofs.RestoreLoop.{Restoring}
use Rattle.claxon_subframe.proofs.subframe.predictor.fixed.predict_fixed_4.Given as goal

abbrev pub invariant-loop-place : goal.invariant-loop-place
invariant-loop-place l =
    Restoring (fixed 4) (reverse (take 4 l.fn.buffer)) (restore (fixed 4) (reverse (take 4 l.fn.buffer)) (drop 4 l.fn.buffer)) l.place-items l.place-index (l.newest ∷ l.second ∷ l.third ∷ l.fourth ∷ [])
