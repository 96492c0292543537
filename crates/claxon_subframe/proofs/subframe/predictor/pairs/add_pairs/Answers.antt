use Rattle.claxon_subframe.proofs.Pairs.{pairs_added_is, added_fit_32}
use Rattle.claxon_subframe.proofs.subframe.predictor.pairs.add_pairs.Goals as goal

pub returns-clause-value : goal.returns-clause-value
returns-clause-value c = pairs_added_is c.args.sums c.args.taps c.args.pair c.requires.sums c.requires.taps c.requires.pair

pub returns-clause-fits : goal.returns-clause-fits
returns-clause-fits c = added_fit_32 c.args.sums c.args.taps c.args.pair c.requires.sums c.requires.taps c.requires.pair
