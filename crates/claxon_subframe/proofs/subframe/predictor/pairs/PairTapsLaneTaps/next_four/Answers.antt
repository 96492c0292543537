use Rattle.std.proofs.Common.{◌∙◌}
use Rattle.claxon_subframe.proofs.Pairs.{widened_fit_64, widened_is}
use Rattle.claxon_subframe.proofs.subframe.predictor.pairs.PairTapsLaneTaps.next_four.Goals as goal

pub returns-clause-lanes_fit64 : goal.returns-clause-lanes_fit64
returns-clause-lanes_fit64 g c = widened_fit_64 c.args.sums.at_0 c.requires.at_0

pub returns-clause-pending : goal.returns-clause-pending
returns-clause-pending g c = λ ks past sums. widened_is c.args.sums.at_0 c.requires.at_0 ∙ sums.pending.at_0
