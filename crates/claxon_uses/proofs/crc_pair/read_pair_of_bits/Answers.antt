use Rattle.std.proofs.Common.{refl}
use Rattle.std.proofs.lemmas.Result.{err_from_is_err_and}
use Rattle.claxon.proofs.ConsecutiveCalls.{io_exit, failure_or_after, failure_or_known, consumes_then}
use Rattle.claxon_uses.specs.PairWithCrc.{pair_at}
use Rattle.claxon_uses.proofs.crc_pair.read_pair_of_bits.Goals as goal

pub returns-in_err-first : goal.returns-in_err-first
unfolding pair_at
returns-in_err-first g c =
    record {
      gives = io_exit _ (err_from_is_err_and c.from_residual.result c.from_residual.ensures.1)
          (failure_or_known _ c.in_err-first.ensures.is_read (λ t q. rw q refl));
    }

pub returns-in_err-second : goal.returns-in_err-second
unfolding pair_at
returns-in_err-second g c =
    record {
      gives = io_exit _ (err_from_is_err_and c.from_residual-in_err-second.result c.from_residual-in_err-second.ensures.1)
          (failure_or_after _ c.in_ok-first.ensures.is_read c.in_err-second.ensures.is_read (λ p q. rw (p, q) refl));
    }

pub returns : goal.returns
unfolding pair_at
returns g c = record { gives = consumes_then _ c.in_ok-first.ensures.is_read c.in_ok-second.ensures.is_read (λ p q. rw (p, q) refl) }
