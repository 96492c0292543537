use Rattle.claxon_subframe.proofs.PendingSums.{product_is}
use Rattle.claxon_subframe.proofs.subframe.predictor.lanes.add_product.Goals as goal

pub returns : goal.returns
returns c = record { adds_product = record { adds = λ sum residual e. product_is c.args.scaled c.args.coefficient c.args.sample sum residual c.args.shift c.ranges.scaled c.ranges.coefficient c.ranges.sample e } }
