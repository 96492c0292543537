use Rattle.std.proofs.Common.{rules}
use Rattle.claxon_format.specs.Fault.{fault_text}
use Rattle.claxon_metadata.proofs.metadata.comment.check_end.Goals as goal

pub returns-then-bytes_left-gt0 : goal.returns-then-bytes_left-gt0
unfolding fault_text
returns-then-bytes_left-gt0 c = record { end_is_checked = search rules }

pub returns-then-missing-gt0 : goal.returns-then-missing-gt0
unfolding fault_text
returns-then-missing-gt0 c = record { end_is_checked = search rules }
