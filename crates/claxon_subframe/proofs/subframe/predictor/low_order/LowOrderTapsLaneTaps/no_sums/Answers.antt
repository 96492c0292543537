use Rattle.claxon_subframe.proofs.PendingSums.{four_pending_before_all}
use Rattle.claxon_subframe.proofs.subframe.predictor.low_order.LowOrderTapsLaneTaps.no_sums.Goals as goal

pub returns-clause-pending : goal.returns-clause-pending
returns-clause-pending g c = λ ks. record { at_8 = four_pending_before_all ks 8; at_4 = four_pending_before_all ks 4; at_0 = four_pending_before_all ks 0 }
