use Rattle.claxon_format.proofs.Numbers.{Reads-number as law}
use Rattle.claxon_format.proofs.number_reads.Goals as goal

pub returns : goal.returns
returns c = record { number_reads = law }
