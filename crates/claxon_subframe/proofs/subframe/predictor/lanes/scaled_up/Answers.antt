use Rattle.claxon_subframe.proofs.PendingSums.{nearest_scaled_up, farther_scaled_up}
use Rattle.claxon_subframe.proofs.subframe.predictor.lanes.scaled_up.Goals as goal

pub returns-clause-nearest : goal.returns-clause-nearest
returns-clause-nearest c = λ sum e. nearest_scaled_up c.args.sums c.from-up.result c.args.nearest sum c.args.shift c.requires.lanes_fit64 c.ranges.nearest c.requires.shift c.from-up.ensures e

pub returns-clause-farther : goal.returns-clause-farther
returns-clause-farther c = λ sum e. farther_scaled_up c.args.sums c.from-up.result c.args.farther sum c.args.shift c.requires.lanes_fit64 c.ranges.farther c.requires.shift c.from-up.ensures e
