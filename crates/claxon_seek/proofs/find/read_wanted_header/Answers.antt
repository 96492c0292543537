use Rattle.claxon_seek.proofs.Searches.{faulty_header, header_cut_by_io, header_cut_without_bytes, other_header}
use Rattle.claxon_seek.proofs.find.read_wanted_header.Goals as goal
use Rattle.claxon_seek.proofs.find.read_wanted_header.Goals.{else-has_format-via-then-has_format+else-holds_sample, else-has_format-via-else-has_format}

pub returns-else-has_format : goal.returns-else-has_format
returns-else-has_format c =
    let h = rw (c.in-Ok-Some.is, c.in-Ok-Some.field-0-is) at c.header_at_start.ensures.at_start in
    record {
      at_start = other_header c.args.known.now c.args.sample c.args.bytes.now _ h.sound (λ is. elim c.else-has_format.branch [
        | else-has_format-via-then-has_format+else-holds_sample w ↦ (let no = w.holds_sample.ensures.1 (rw c.info-block.ensures is.1) in cc)
        | else-has_format-via-else-has_format w ↦ (let no = c.has_format.ensures.1 (rw c.info-block.ensures is.0) in cc)
      ]);
    }

pub returns-in-Ok-None : goal.returns-in-Ok-None
returns-in-Ok-None c = record { at_start = header_cut_without_bytes c.args.known.now c.args.sample c.args.bytes.now (rw (c.in-Ok-None.is, c.in-Ok-None.field-0-is) at c.header_at_start.ensures.at_start) }

pub returns-in-Err-IoError : goal.returns-in-Err-IoError
returns-in-Err-IoError c = record { at_start = header_cut_by_io c.args.known.now c.args.sample c.args.bytes.now c.in-Err-IoError.field-0-0 (rw (c.in-Err-IoError.is, c.in-Err-IoError.field-0-is) at c.header_at_start.ensures.at_start) }

pub returns-in-Err-FormatError : goal.returns-in-Err-FormatError
returns-in-Err-FormatError c = record { at_start = faulty_header c.args.known.now c.args.sample c.args.bytes.now _ (rw (c.in-Err-FormatError.is, c.in-Err-FormatError.field-0-is) at c.header_at_start.ensures.at_start) (λ io. cc) }

pub returns-in-Err-Unsupported : goal.returns-in-Err-Unsupported
returns-in-Err-Unsupported c = record { at_start = faulty_header c.args.known.now c.args.sample c.args.bytes.now _ (rw (c.in-Err-Unsupported.is, c.in-Err-Unsupported.field-0-is) at c.header_at_start.ensures.at_start) (λ io. cc) }
