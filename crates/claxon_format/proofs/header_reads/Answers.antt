use Rattle.claxon_format.proofs.Headers.{Reads-header as law}
use Rattle.claxon_format.proofs.header_reads.Goals as goal

pub returns : goal.returns
returns c = record { header_reads = law }
