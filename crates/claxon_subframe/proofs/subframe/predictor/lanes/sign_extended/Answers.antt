use Rattle.claxon_subframe.proofs.Lanes.{sign_extended_is}
use Rattle.claxon_subframe.proofs.subframe.predictor.lanes.sign_extended.Goals as goal

pub returns : goal.returns
returns c = sign_extended_is c.args.lanes c.requires.lanes
