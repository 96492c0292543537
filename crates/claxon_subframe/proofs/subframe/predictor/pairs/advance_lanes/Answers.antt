use Rattle.claxon_subframe.proofs.Pairs.{kept_fit_16, kept_fit_32, shifted_by, later_pairs_are}
use Rattle.claxon_subframe.proofs.subframe.predictor.pairs.advance_lanes.Goals as goal

pub shift_two_lanes-requires-clause-before : goal.shift_two_lanes-requires-clause-before
shift_two_lanes-requires-clause-before c = kept_fit_32 c.requires.before

pub shift_two_lanes-requires-clause-lanes : goal.shift_two_lanes-requires-clause-lanes
shift_two_lanes-requires-clause-lanes c = kept_fit_32 c.requires.sums

pub add_pairs-requires-clause-sums : goal.add_pairs-requires-clause-sums
add_pairs-requires-clause-sums c = kept_fit_32 c.shift_two_lanes.ensures.fits

pub add_pairs-requires-clause-taps : goal.add_pairs-requires-clause-taps
add_pairs-requires-clause-taps c = kept_fit_16 c.requires.taps

pub add_pairs-requires-clause-pair : goal.add_pairs-requires-clause-pair
add_pairs-requires-clause-pair c = kept_fit_16 c.requires.pair

pub returns-clause-value : goal.returns-clause-value
returns-clause-value c = λ h.
    (later_pairs_are c.args.before c.args.sums c.args.taps c.args.pair _ c.add_pairs.result c.requires.before c.requires.sums c.requires.taps c.requires.pair
    (shifted_by c.requires.before c.requires.sums c.shift_two_lanes.ensures.fits c.shift_two_lanes.ensures.value) c.add_pairs.ensures.value).0

pub returns-clause-fits : goal.returns-clause-fits
returns-clause-fits c = kept_fit_32 c.add_pairs.ensures.fits
