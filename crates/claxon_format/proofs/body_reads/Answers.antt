use Rattle.claxon_format.proofs.MetadataBlocks.{Reads-body as law}
use Rattle.claxon_format.proofs.body_reads.Goals as goal

pub returns : goal.returns
returns c = record { body_reads = law }
