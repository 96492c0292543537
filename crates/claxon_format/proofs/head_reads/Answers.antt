use Rattle.claxon_format.proofs.Heads.{Reads-head as law}
use Rattle.claxon_format.proofs.head_reads.Goals as goal

pub returns : goal.returns
returns c = record { head_reads = law }
