use Rattle.claxon_recovery.proofs.Beginnings.{header_cut, header_fault}
use Rattle.claxon_recovery.proofs.at_start.header_here.Goals as goal

pub returns-else-has_format : goal.returns-else-has_format
returns-else-has_format c =
    let h = rw (c.in-Ok-Some.is, c.in-Ok-Some.field-0-is) at c.header_at_start.ensures.at_start in
    record { stands = (rw c.info-block.ensures h.sound, λ is. let no = c.has_format.ensures.1 is in cc) }

pub returns-in-Err-IoError : goal.returns-in-Err-IoError
returns-in-Err-IoError c = record { stands = header_cut c.args.known c.args.bytes.now c.in-Err-IoError.field-0-0 (rw (c.in-Err-IoError.is, c.in-Err-IoError.field-0-is) at c.header_at_start.ensures.at_start) }

pub returns-in-Err-FormatError : goal.returns-in-Err-FormatError
returns-in-Err-FormatError c = record { stands = rw c.in-Err-FormatError.text-is (header_fault c.args.known c.args.bytes.now _ (rw (c.in-Err-FormatError.is, c.in-Err-FormatError.field-0-is) at c.header_at_start.ensures.at_start) (λ io. cc)) }

pub returns-in-Err-Unsupported : goal.returns-in-Err-Unsupported
returns-in-Err-Unsupported c = record { stands = rw c.in-Err-Unsupported.text-is (header_fault c.args.known c.args.bytes.now _ (rw (c.in-Err-Unsupported.is, c.in-Err-Unsupported.field-0-is) at c.header_at_start.ensures.at_start) (λ io. cc)) }
