use Rattle.std.proofs.Common.{arith}
use Rattle.std.proofs.lemmas.Grind.{common_steps}
use Rattle.std.proofs.Common.{None}
use Rattle.claxon_seek.proofs.Searches.{faulty_header, header_cut_by_io, header_cut_without_bytes, other_header}
use Rattle.claxon_stream.proofs.header.read_header.Goals as goal

pub returns-then-has_format : goal.returns-then-has_format
returns-then-has_format c =
    let h = rw (c.in-Ok-Some.is, c.in-Ok-Some.field-0-is) at c.header_at_start.ensures.at_start in
    record { is_there = rw c.info-info.ensures (record { format = rw c.info-info.ensures at c.has_format.ensures.0 c.if-has_format.true; holds = tt; header = h.sound }) }

pub returns-else-has_format : goal.returns-else-has_format
returns-else-has_format c =
    let h = rw (c.in-Ok-Some.is, c.in-Ok-Some.field-0-is) at c.header_at_start.ensures.at_start in
    record { is_there = other_header c.args.known.now None c.args.bytes.now _ h.sound (λ is. let no = c.has_format.ensures.1 (rw c.info-info.ensures is.0) in cc) }

pub returns-in-Ok-None : goal.returns-in-Ok-None
returns-in-Ok-None c = record { is_there = header_cut_without_bytes c.args.known.now None c.args.bytes.now (rw (c.in-Ok-None.is, c.in-Ok-None.field-0-is) at c.header_at_start.ensures.at_start) }

pub returns-in-Err-IoError : goal.returns-in-Err-IoError
returns-in-Err-IoError c = record { is_there = header_cut_by_io c.args.known.now None c.args.bytes.now c.in-Err-IoError.field-0-0 (rw (c.in-Err-IoError.is, c.in-Err-IoError.field-0-is) at c.header_at_start.ensures.at_start) }

pub returns-in-Err-FormatError : goal.returns-in-Err-FormatError
returns-in-Err-FormatError c = record { is_there = faulty_header c.args.known.now None c.args.bytes.now _ (rw (c.in-Err-FormatError.is, c.in-Err-FormatError.field-0-is) at c.header_at_start.ensures.at_start) (λ io. cc) }

pub returns-in-Err-Unsupported : goal.returns-in-Err-Unsupported
returns-in-Err-Unsupported c = record { is_there = faulty_header c.args.known.now None c.args.bytes.now _ (rw (c.in-Err-Unsupported.is, c.in-Err-Unsupported.field-0-is) at c.header_at_start.ensures.at_start) (λ io. cc) }

pub returns-in-Err-OutOfMemory : goal.returns-in-Err-OutOfMemory
returns-in-Err-OutOfMemory c = grind (arith, common_steps)
