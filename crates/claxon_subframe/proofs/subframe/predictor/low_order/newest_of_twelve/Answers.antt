use Rattle.claxon_subframe.proofs.TwelveLanes.{twelve_last}
use Rattle.claxon_subframe.proofs.subframe.predictor.low_order.newest_of_twelve.Goals as goal

pub returns : goal.returns
returns c = record { are_newest = twelve_last c.args.coefficients.now c.requires.small_twelve }
