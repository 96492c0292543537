use Rattle.std.proofs.Common.{◌∙◌, rules, refl}
use Rattle.std.proofs.lemmas.Result.{err_from_is_err_and}
use Rattle.claxon.proofs.ConsecutiveCalls.{exit, stops_after, consumes_then, consumes_none}
use Rattle.claxon_uses.proofs.PairWithCrc.{pair_is, after_pair}
use Rattle.claxon_uses.proofs.crc_pair.read_pair_through_crc.Goals as goal

pub returns-in_err-pair : goal.returns-in_err-pair
returns-in_err-pair g c =
    record {
      gives = exit _ (err_from_is_err_and c.from_residual.result c.from_residual.ensures.1)
          (stops_after (consumes_none _ _ refl) (record { fault = λ s f rest e. pair_is s ∙ rw e refl; incomplete = λ s e. pair_is s ∙ rw e refl }) c.in_err-pair.ensures.gives);
    }

pub returns-in_err-check_crc : goal.returns-in_err-check_crc
returns-in_err-check_crc g c =
    record {
      gives = exit _ (err_from_is_err_and c.from_residual-in_err-check_crc.result c.from_residual-in_err-check_crc.ensures.1)
          (stops_after (after_pair g.R.ReadBytes.source _ _ c.value-computed.result _ c.requires c.value-computed.ensures (search rules) c.in_ok-pair.ensures.gives) (record { fault = λ s f rest e. rw e refl; incomplete = λ s e. rw e refl }) c.in_err-check_crc.ensures.gives);
    }

pub returns : goal.returns
returns g c = record { gives = consumes_then _ (after_pair g.R.ReadBytes.source _ _ c.value-computed.result _ c.requires c.value-computed.ensures (search rules) c.in_ok-pair.ensures.gives) c.in_ok-check_crc.ensures.gives (λ p q. p ∙ rw q refl) }
