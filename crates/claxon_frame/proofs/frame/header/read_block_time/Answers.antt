use Rattle.std.proofs.Common.{rules}
use Rattle.claxon_format.specs.read.Header.{number_in}
use Rattle.claxon_format.specs.Fault.{fault_text}
use Rattle.claxon_frame.proofs.frame.header.read_block_time.Goals as goal

pub returns-then-number-largest : goal.returns-then-number-largest
unfolding number_in fault_text
returns-then-number-largest g c = record { gives = search rules }

pub returns-else-number-largest : goal.returns-else-number-largest
unfolding number_in fault_text
returns-else-number-largest g c = search rules
