use Rattle.std.proofs.Common.{arith}
use Rattle.claxon_format.specs.Fault.{fault_text}
use Rattle.claxon_format.specs.read.Bytes.{crc_at}
use Rattle.claxon_input.proofs.ByteFields.{first_number}
use Rattle.claxon_frame.proofs.frame.header.check_header_crc.Goals as goal

pub returns : goal.returns
unfolding crc_at fault_text
returns g c = grind (arith, first_number)
