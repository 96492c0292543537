use Rattle.std.proofs.Common.{◌∙◌}
use Rattle.claxon_subframe.proofs.Lanes.{kept_fit_64, same_fit_64}
use Rattle.claxon_subframe.proofs.subframe.predictor.high_order.HighOrderTapsLaneTaps.next_four.Goals as goal

pub returns-clause-lanes_fit64 : goal.returns-clause-lanes_fit64
returns-clause-lanes_fit64 g c = kept_fit_64 c.requires.at_0

pub returns-clause-pending : goal.returns-clause-pending
returns-clause-pending g c = λ ks past pending. same_fit_64 c.requires.at_0 ∙ pending.at_0
