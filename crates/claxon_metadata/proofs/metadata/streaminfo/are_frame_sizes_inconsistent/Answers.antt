use Rattle.std.proofs.Common.{rules}
use Rattle.claxon_metadata.proofs.metadata.streaminfo.are_frame_sizes_inconsistent.Goals as goal

pub returns-in_default : goal.returns-in_default
returns-in_default c = search rules
