use Rattle.claxon_format.proofs.CodedNumber.{Reads-coded_number_bits as law}
use Rattle.claxon_format.proofs.coded_number_reads.Goals as goal

pub returns : goal.returns
returns c = record { coded_number_reads = law }
