use Rattle.std.proofs.Common.{arith}
use Rattle.claxon_format.specs.Fault.{fault_text}
use Rattle.claxon_format.specs.read.Heads.{marker_at}
use Rattle.claxon_input.proofs.ByteFields.{first_number}
use Rattle.claxon.proofs.head.read_stream_header.Goals as goal

pub returns-then-marker-eq4801587 : goal.returns-then-marker-eq4801587
unfolding marker_at fault_text
returns-then-marker-eq4801587 g c = grind (arith, first_number)
