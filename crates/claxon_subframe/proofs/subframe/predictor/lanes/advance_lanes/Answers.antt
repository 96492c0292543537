use Rattle.std.proofs.Common.{arith, subst, sym}
use Rattle.claxon_subframe.specs.Lanes.{LanesFit64}
use Rattle.claxon_subframe.proofs.Lanes.{kept_lanes, kept_fit_64, products_fit_64, moved_by, later_is}
use Rattle.claxon_subframe.proofs.subframe.predictor.lanes.advance_lanes.Goals as goal

pub shift_two_lanes-moved-requires-clause-before : goal.shift_two_lanes-moved-requires-clause-before
shift_two_lanes-moved-requires-clause-before c = kept_fit_64 c.requires.before

pub shift_two_lanes-moved-requires-clause-lanes : goal.shift_two_lanes-moved-requires-clause-lanes
shift_two_lanes-moved-requires-clause-lanes c = kept_fit_64 c.requires.sums

pub add_products-requires-clause-sums : goal.add_products-requires-clause-sums
add_products-requires-clause-sums c = kept_fit_64 c.shift_two_lanes-moved.ensures.fits

pub add_products-requires-2-clause-sums : goal.add_products-requires-2-clause-sums
add_products-requires-2-clause-sums c =
    kept_fit_64 (subst LanesFit64 (sym c.add_products.ensures) (products_fit_64 _ _ _ (kept_fit_64 c.shift_two_lanes-moved.ensures.fits).four (kept_lanes (omega arith) c.requires.for_second) (kept_lanes (omega arith) c.requires.second)))

pub add_products-requires-clause-coefficients : goal.add_products-requires-clause-coefficients
add_products-requires-clause-coefficients c = kept_lanes (omega arith) c.requires.for_second

pub add_products-requires-clause-samples : goal.add_products-requires-clause-samples
add_products-requires-clause-samples c = kept_lanes (omega arith) c.requires.second

pub add_products-requires-2-clause-coefficients : goal.add_products-requires-2-clause-coefficients
add_products-requires-2-clause-coefficients c = kept_lanes (omega arith) c.requires.for_newest

pub add_products-requires-2-clause-samples : goal.add_products-requires-2-clause-samples
add_products-requires-2-clause-samples c = kept_lanes (omega arith) c.requires.newest

pub returns : goal.returns
returns c =
    let later = later_is c.args.before c.args.sums c.args.for_second c.args.second c.args.for_newest c.args.newest _ c.add_products.result c.add_products-2.result c.requires.before c.requires.sums c.requires.for_second c.requires.second c.requires.for_newest c.requires.newest
    (moved_by c.requires.before c.requires.sums c.shift_two_lanes-moved.ensures.fits c.shift_two_lanes-moved.ensures.value) c.add_products.ensures c.add_products-2.ensures in
    record { value = λ h. later.0; zeros = λ h. absurd cc; fits = later.1 }
