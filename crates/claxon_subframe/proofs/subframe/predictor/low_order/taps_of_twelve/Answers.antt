use Rattle.claxon_subframe.proofs.TwelveLanes.{twelve_taps, twelve_small}
use Rattle.claxon_subframe.proofs.subframe.predictor.low_order.taps_of_twelve.Goals as goal

pub returns-clause-are_twelve_taps : goal.returns-clause-are_twelve_taps
returns-clause-are_twelve_taps c = twelve_taps c.args.coefficients.now c.requires.small_twelve

pub returns-clause-small_twelve_taps : goal.returns-clause-small_twelve_taps
returns-clause-small_twelve_taps c = twelve_small c.args.coefficients.now c.requires.small_twelve
