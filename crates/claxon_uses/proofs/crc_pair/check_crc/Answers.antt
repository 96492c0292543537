use Rattle.std.proofs.Common.{◌≡◌, rules, refl}
use Rattle.std.proofs.lemmas.Result.{err_from_is_err_and}
use Rattle.claxon.specs.Fault.{FrameCrc, fault_text}
use Rattle.claxon.proofs.CrcBytes.{crc_at_done, crc_at_fault, crc_at_incomplete}
use Rattle.claxon.proofs.ConsecutiveCalls.{consumes_map, consumes_none, io_exit, failure_or_after}
use Rattle.claxon.proofs.ByteFields.{consumes_big, failure_or_big}
use Rattle.claxon.proofs.Faults.{stops_fault}
use Rattle.claxon_uses.proofs.crc_pair.check_crc.Goals as goal

pub returns-in_err-read_be_u16 : goal.returns-in_err-read_be_u16
returns-in_err-read_be_u16 g c =
    record {
      gives = io_exit _ (err_from_is_err_and c.from_residual.result c.from_residual.ensures.1)
          (failure_or_after _ (consumes_none _ (λ s m. s ≡ m) refl) (failure_or_big g.R.ReadBytes.source 2 c.in_err-read_be_u16.ensures.failure_or_eof) (λ p q. crc_at_incomplete 2 _ FrameCrc _ q));
    }

pub returns-then-branch-computed : goal.returns-then-branch-computed
unfolding fault_text
returns-then-branch-computed g c =
    record {
      gives = stops_fault FrameCrc refl refl (refl, refl)
          (consumes_map _ (consumes_big g.R.ReadBytes.source 2 c.in_ok-read_be_u16.field-0 (search rules) c.in_ok-read_be_u16.ensures.is_sound)
          (λ p. crc_at_fault 2 _ c.in_ok-read_be_u16.field-0 FrameCrc _ _ (search rules) p));
    }

pub returns : goal.returns
returns g c =
    record {
      gives = consumes_map _ (consumes_big g.R.ReadBytes.source 2 c.in_ok-read_be_u16.field-0 (search rules) c.in_ok-read_be_u16.ensures.is_sound)
          (λ p. crc_at_done 2 _ c.in_ok-read_be_u16.field-0 FrameCrc _ _ (search rules) p);
    }
