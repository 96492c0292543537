use Rattle.claxon_format.proofs.MetadataBlocks.{Reads-block as law}
use Rattle.claxon_format.proofs.metadata_block_reads.Goals as goal

pub returns : goal.returns
returns c = record { metadata_block_reads = law }
