use Rattle.claxon_format.proofs.FormatLaws.{metadata_blocks_unambiguous as law}
use Rattle.claxon_format.proofs.metadata_blocks_unambiguous.Goals as goal

pub returns : goal.returns
returns c = record { metadata_blocks_unambiguous = law }
