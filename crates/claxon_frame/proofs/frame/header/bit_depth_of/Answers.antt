use Rattle.std.proofs.Common.{rules}
use Rattle.claxon_format.specs.Fault.{fault_text}
use Rattle.claxon_frame.proofs.frame.header.bit_depth_of.Goals as goal

pub returns-in-0-clause-gives : goal.returns-in-0-clause-gives
unfolding fault_text
returns-in-0-clause-gives c = search rules
