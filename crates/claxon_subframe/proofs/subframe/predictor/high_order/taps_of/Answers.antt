use Rattle.claxon_subframe.proofs.PendingSums.{taps_value, taps_small}
use Rattle.claxon_subframe.proofs.subframe.predictor.high_order.taps_of.Goals as goal

pub returns-clause-are_taps : goal.returns-clause-are_taps
returns-clause-are_taps c = taps_value c.args.padded.now c.told-padded c.requires.within

pub returns-clause-small_taps : goal.returns-clause-small_taps
returns-clause-small_taps c = taps_small c.args.padded.now c.requires.within
