use Rattle.claxon_subframe.proofs.Pairs.{shifted_is}
use Rattle.claxon_subframe.proofs.subframe.predictor.pairs.shift_two_lanes.Goals as goal

pub returns-clause-value : goal.returns-clause-value
returns-clause-value c = shifted_is c.args.before c.args.lanes c.requires.before c.requires.lanes
