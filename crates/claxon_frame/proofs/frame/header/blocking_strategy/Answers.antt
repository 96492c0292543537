use Rattle.std.proofs.Common.{rules}
use Rattle.claxon_format.specs.read.Header.{blocking_at}
use Rattle.claxon_format.specs.Fault.{fault_text}
use Rattle.claxon_frame.proofs.frame.header.blocking_strategy.Goals as goal

pub returns-then-sync-ne16382 : goal.returns-then-sync-ne16382
unfolding blocking_at fault_text
returns-then-sync-ne16382 c = record { gives = search rules }
