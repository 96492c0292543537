use Rattle.claxon_format.proofs.MetadataBlocks.{Reads-body}
use Rattle.claxon_input.proofs.Promises.{promises}
use Rattle.claxon_metadata.specs.MetadataBlock.{content_view}
use Rattle.claxon_metadata.proofs.metadata.read_metadata_block.Goals as goal

pub returns-clause-is_sound : goal.returns-clause-is_sound
returns-clause-is_sound g c = (promises (Reads-body c.args.block_type c.args.length) content_view c.read_metadata_block_exact.result _ _ c.read_metadata_block_exact.ensures.is_read).is_sound

pub returns-clause-is_complete : goal.returns-clause-is_complete
returns-clause-is_complete g c = (promises (Reads-body c.args.block_type c.args.length) content_view c.read_metadata_block_exact.result _ _ c.read_metadata_block_exact.ensures.is_read).is_complete

pub returns-clause-fault_is_sound : goal.returns-clause-fault_is_sound
returns-clause-fault_is_sound g c = (promises (Reads-body c.args.block_type c.args.length) content_view c.read_metadata_block_exact.result _ _ c.read_metadata_block_exact.ensures.is_read).fault_is_sound

pub returns-clause-fault_is_complete : goal.returns-clause-fault_is_complete
returns-clause-fault_is_complete g c = (promises (Reads-body c.args.block_type c.args.length) content_view c.read_metadata_block_exact.result _ _ c.read_metadata_block_exact.ensures.is_read).fault_is_complete

pub returns-clause-else_io_error : goal.returns-clause-else_io_error
returns-clause-else_io_error g c = (promises (Reads-body c.args.block_type c.args.length) content_view c.read_metadata_block_exact.result _ _ c.read_metadata_block_exact.ensures.is_read).else_io_error

pub returns-clause-leaves_rest : goal.returns-clause-leaves_rest
returns-clause-leaves_rest g c = (promises (Reads-body c.args.block_type c.args.length) content_view c.read_metadata_block_exact.result _ _ c.read_metadata_block_exact.ensures.is_read).leaves_rest
