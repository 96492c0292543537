use Rattle.std.proofs.Common.{◌-◌, ◌*◌, reverse, arith}
use Rattle.claxon_subframe.specs.TwelveLanes.{numbers}
use Rattle.claxon_subframe.proofs.PendingSums.{fit_vectors}
use Rattle.claxon_subframe.proofs.TwelveLanes.{twelve_long}
use Rattle.claxon_subframe.proofs.subframe.predictor.low_order.predict_12_taps.Goals as goal

pub returns-clause-restored : goal.returns-clause-restored
returns-clause-restored g c =
    let ks = reverse (numbers c.args.coefficients.now) in
    let taps = c.taps_of_twelve.ensures.are_twelve_taps in
    let state = c.state_after-state.ensures in
    let fit = fit_vectors (numbers c.args.coefficients.now) 12 g.row.VECTORS (8 - 4 * g.row.VECTORS) (twelve_long c.args.coefficients.now c.requires.small_twelve) (omega arith) c.requires.zeros in
    c.restore_front.ensures.restores_front ks (taps, fit) c.newest_of_twelve-last.ensures.are_newest (record { newest = state.newest; sums = state.sums ks taps fit })
