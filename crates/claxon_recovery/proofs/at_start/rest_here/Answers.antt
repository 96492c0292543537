use Rattle.claxon_recovery.proofs.Beginnings.{rest_cut, rest_fault}
use Rattle.claxon_recovery.proofs.at_start.rest_here.Goals as goal

pub returns-in-Err-IoError-clause-stands : goal.returns-in-Err-IoError-clause-stands
returns-in-Err-IoError-clause-stands c = rest_cut c.args.known c.args.bytes.now _ c.in-Err-IoError.field-0-0 (rw (c.in-Err-IoError.is, c.in-Err-IoError.field-0-is) at c.rest_at_start.ensures.at_start)

pub returns-in-Err-FormatError-clause-stands : goal.returns-in-Err-FormatError-clause-stands
returns-in-Err-FormatError-clause-stands c = rest_fault c.args.known c.args.bytes.now _ _ (rw (c.in-Err-FormatError.is, c.in-Err-FormatError.field-0-is) at c.rest_at_start.ensures.fault_is_taken) (λ is. cc) (λ io. cc)

pub returns-in-Err-Unsupported-clause-stands : goal.returns-in-Err-Unsupported-clause-stands
returns-in-Err-Unsupported-clause-stands c = rest_fault c.args.known c.args.bytes.now _ _ (rw (c.in-Err-Unsupported.is, c.in-Err-Unsupported.field-0-is) at c.rest_at_start.ensures.fault_is_taken) (λ is. cc) (λ io. cc)
