use Rattle.std.proofs.Common.{rules}
use Rattle.claxon_metadata.specs.MetadataBlock.{content_at}
use Rattle.claxon_metadata.proofs.metadata.read_metadata_block_with_header_exact.Goals as goal

pub returns-in_err-block-clause-is_read : goal.returns-in_err-block-clause-is_read
unfolding content_at
returns-in_err-block-clause-is_read g c = search rules

pub returns-clause-is_read : goal.returns-clause-is_read
unfolding content_at
returns-clause-is_read g c = search rules
