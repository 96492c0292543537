use Rattle.std.proofs.Common.{arith}
use Rattle.claxon_subframe.proofs.Lanes.{kept_lanes, added_is}
use Rattle.claxon_subframe.proofs.subframe.predictor.lanes.add_products.Goals as goal

pub sign_extended-requires : goal.sign_extended-requires
sign_extended-requires c = record { lanes = kept_lanes (omega arith) c.requires.coefficients }

pub returns : goal.returns
returns c = added_is c.args.sums c.args.coefficients c.args.samples c.sign_extended.result c.requires.sums c.requires.coefficients c.requires.samples c.sign_extended.ensures
