use Rattle.std.proofs.Common.{arith}
use Rattle.claxon_format.specs.Fault.{fault_text}
use Rattle.claxon_format.specs.read.Header.{size_at}
use Rattle.claxon_input.proofs.ByteFields.{first_number}
use Rattle.claxon_frame.proofs.frame.header.read_block_size.Goals as goal

pub returns-then-less_one-clause-gives : goal.returns-then-less_one-clause-gives
unfolding size_at fault_text
returns-then-less_one-clause-gives g c = grind (arith, first_number)
