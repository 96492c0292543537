use Rattle.claxon_recovery.proofs.Beginnings.{fault_of_header, fault_of_rest, whole_with_header}
use Rattle.claxon_recovery.proofs.at_start.frame_at_start.Goals as goal

pub returns-in-Err-Faulty-clause-is_there : goal.returns-in-Err-Faulty-clause-is_there
returns-in-Err-Faulty-clause-is_there c = rw c.in-Err-Faulty.error-is (fault_of_header c.args.known c.in-Err-Faulty.error c.args.bytes.now (rw c.in-Err-Faulty.field-0-is at c.in-Err-Faulty.ensures.stands))

pub returns-in-Whole-clause-is_there : goal.returns-in-Whole-clause-is_there
returns-in-Whole-clause-is_there c = rw c.info-info.ensures (whole_with_header c.args.known c.args.bytes.now _ c.in-Whole.block c.in-Whole.len c.in-Ok.ensures.stands.0 (rw c.in-Whole.is at c.in_ok-len.ensures.stands))

pub returns-in-Broken-clause-is_there : goal.returns-in-Broken-clause-is_there
returns-in-Broken-clause-is_there c = fault_of_rest c.args.known c.in-Broken.error c.args.bytes.now c.in-Broken.field-0 (rw c.in-Broken.is at c.in_ok-len.ensures.stands)
