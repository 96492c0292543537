use Rattle.std.proofs.Common.{◌+◌, ◌*◌, ◌∙◌, refl, arith}
use Rattle.claxon_format.specs.Predict.{linear}
use Rattle.claxon_subframe.proofs.PredictorState.{none_restored, place_is, then_ok, then_err, place_restored}
use Rattle.claxon_subframe.proofs.subframe.predictor.restore.restore_front.Goals as goal

pub loop-ten-init : goal.loop-ten-init
loop-ten-init g c = record { kept = refl; fits = c.requires.sums; restored = λ ks are last stands. place_is (c.args.start + 10 * 0) (none_restored stands) (omega arith) }

pub loop-ten-preserved : goal.loop-ten-preserved
loop-ten-preserved g c = record {
  kept = c.restore_ten.ensures.kept ∙ c.loop-ten.invariant.kept;
  fits = c.in-Ok.ensures.fits;
  restored = λ ks are last stands.
      place_is (c.args.start + 10 * (c.loop-ten.ten + 1)) (then_ok (c.loop-ten.invariant.restored ks are last stands) (c.in-Ok.ensures.restores_ten ks are last) (omega arith)) (omega arith);
}

pub returns-in-Err-clause-restores_front : goal.returns-in-Err-clause-restores_front
returns-in-Err-clause-restores_front g c = λ ks are last stands.
    then_err (c.loop-ten.invariant.restored ks are last stands) (c.in-Err.ensures.restores_ten ks are last) (omega arith)

pub returns-clause-restores_front : goal.returns-clause-restores_front
returns-clause-restores_front g c = λ ks are last stands.
    place_restored (linear ks c.args.shift) c.loop-ten.buffer _ (c.args.start + 10 * c.loop-ten.ten) (omega arith) (c.loop-ten.invariant.restored ks are last stands).same
