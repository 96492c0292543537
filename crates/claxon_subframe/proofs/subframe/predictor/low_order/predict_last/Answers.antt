use Rattle.std.proofs.Common.{◌+◌, ◌-◌, ◌*◌, ◌/◌, ◌∙◌, length, reverse, refl, sym, arith}
use Rattle.claxon_format.specs.Predict.{linear}
use Rattle.claxon_subframe.specs.TwelveLanes.{numbers}
use Rattle.claxon_subframe.proofs.PendingSums.{fit_vectors}
use Rattle.claxon_subframe.proofs.PredictorState.{none_restored, of_ok, place_is, then_restored}
use Rattle.claxon_subframe.proofs.Predictors.{restored_all}
use Rattle.claxon_subframe.proofs.TwelveLanes.{twelve_long}
use Rattle.claxon_subframe.proofs.subframe.predictor.low_order.predict_last.Goals as goal

pub loop-pair-init : goal.loop-pair-init
loop-pair-init g c =
    let ks = reverse (numbers c.args.coefficients.now) in
    let state = c.state_after-state.ensures in
    let fit = fit_vectors (numbers c.args.coefficients.now) 12 g.row.VECTORS (8 - 4 * g.row.VECTORS) (twelve_long c.args.coefficients.now c.requires.small_twelve) (omega arith) c.requires.zeros in
    record {
      kept = refl;
      fits = state.twelve_fit64;
      restored = place_is (c.args.known + 0) (none_restored (record { newest = state.newest; sums = state.sums ks c.taps_of_twelve.ensures.are_twelve_taps fit })) (omega arith);
    }

pub loop-pair-preserved : goal.loop-pair-preserved
loop-pair-preserved g c =
    let ks = reverse (numbers c.args.coefficients.now) in
    let fit = fit_vectors (numbers c.args.coefficients.now) 12 g.row.VECTORS (8 - 4 * g.row.VECTORS) (twelve_long c.args.coefficients.now c.requires.small_twelve) (omega arith) c.requires.zeros in
    record {
      kept = c.restore_pair.ensures.kept ∙ c.loop-pair.invariant.kept;
      fits = of_ok _ c.unwrap-state.ensures c.restore_pair.ensures.fits;
      restored = place_is (c.args.known + 2 * (c.loop-pair.pair + 1))
          (then_restored c.loop-pair.invariant.restored
          (λ stands. of_ok _ c.unwrap-state.ensures (c.restore_pair.ensures.restores_pair ks (c.taps_of_twelve.ensures.are_twelve_taps, fit) c.newest_of_twelve-last.ensures.are_newest stands).ok) refl) (omega arith);
    }

pub returns-then-known-pairs : goal.returns-then-known-pairs
returns-then-known-pairs g c =
    let ks = reverse (numbers c.args.coefficients.now) in
    let i = c.args.known + 2 * ((length c.args.buffer.now - c.args.known) / 2) in
    let pairs = place_is i c.loop-pair.invariant.restored (omega arith) in
    sym (restored_all (linear ks c.args.shift) c.restore_one.new.buffer (i + 1) (omega (arith, c.restore_one.ensures.kept, c.loop-pair.invariant.kept)))
    ∙ c.restore_one.ensures.restored ks c.newest_of_twelve-last.ensures.are_newest pairs.stands ∙ pairs.same
