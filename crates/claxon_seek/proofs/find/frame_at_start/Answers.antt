use Rattle.claxon_seek.proofs.BlockMemories.{granted_too}
use Rattle.claxon_seek.proofs.Searches.{cut_by_io, faulty_there, known_depth}
use Rattle.claxon_seek.proofs.find.frame_at_start.Goals as goal

pub returns-in-Ok : goal.returns-in-Ok
returns-in-Ok c = record { memory_is_counted = granted_too _ c.rest_at_start.result c.rest_at_start.ensures.memory_is_counted (λ m. let k = c.in-Ok.is in cc) (λ m. cc); is_at_start = (rw c.in-Ok.is at c.rest_at_start.ensures.at_start).sound }

pub returns-in-Err-IoError : goal.returns-in-Err-IoError
returns-in-Err-IoError c = record { memory_is_counted = granted_too _ c.rest_at_start.result c.rest_at_start.ensures.memory_is_counted (λ m. let k = c.in-Err-IoError.is in let n = c.in-Err-IoError.field-0-is in cc) (λ m. cc); is_at_start = cut_by_io c.args.known c.args.bytes.now c.rest_at_start.new.taken c.in-Err-IoError.field-0-0 (rw (c.in-Err-IoError.is, c.in-Err-IoError.field-0-is) at c.rest_at_start.ensures.at_start) }

pub returns-in-Err-FormatError : goal.returns-in-Err-FormatError
returns-in-Err-FormatError c = record { memory_is_counted = granted_too _ c.rest_at_start.result c.rest_at_start.ensures.memory_is_counted (λ m. let k = c.in-Err-FormatError.is in let n = c.in-Err-FormatError.field-0-is in cc) (λ m. cc); is_at_start = faulty_there c.args.known c.args.bytes.now c.rest_at_start.new.taken (known_depth c.args.known c.requires.depth) _ (rw (c.in-Err-FormatError.is, c.in-Err-FormatError.field-0-is) at c.rest_at_start.ensures.at_start) (rw (c.in-Err-FormatError.is, c.in-Err-FormatError.field-0-is) at c.rest_at_start.ensures.fault_is_taken) (λ is. cc) (λ io. cc) }

pub returns-in-Err-Unsupported : goal.returns-in-Err-Unsupported
returns-in-Err-Unsupported c = record { memory_is_counted = granted_too _ c.rest_at_start.result c.rest_at_start.ensures.memory_is_counted (λ m. let k = c.in-Err-Unsupported.is in let n = c.in-Err-Unsupported.field-0-is in cc) (λ m. cc); is_at_start = faulty_there c.args.known c.args.bytes.now c.rest_at_start.new.taken (known_depth c.args.known c.requires.depth) _ (rw (c.in-Err-Unsupported.is, c.in-Err-Unsupported.field-0-is) at c.rest_at_start.ensures.at_start) (rw (c.in-Err-Unsupported.is, c.in-Err-Unsupported.field-0-is) at c.rest_at_start.ensures.fault_is_taken) (λ is. cc) (λ io. cc) }
