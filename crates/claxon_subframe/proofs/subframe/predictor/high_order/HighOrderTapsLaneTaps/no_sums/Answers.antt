use Rattle.claxon_subframe.proofs.PendingSums.{four_pending_before_all}
use Rattle.claxon_subframe.proofs.subframe.predictor.high_order.HighOrderTapsLaneTaps.no_sums.Goals as goal

pub returns-clause-pending : goal.returns-clause-pending
returns-clause-pending g c = λ ks. record { at_0 = four_pending_before_all ks 0; later = record { at_4 = four_pending_before_all ks 4; at_8 = four_pending_before_all ks 8; at_12 = four_pending_before_all ks 12; at_16 = four_pending_before_all ks 16; at_20 = four_pending_before_all ks 20; at_24 = four_pending_before_all ks 24; at_28 = four_pending_before_all ks 28 } }
