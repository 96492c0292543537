use Rattle.std.proofs.Common.{rules}
use Rattle.claxon_metadata.proofs.metadata.MetadataBlockReader.new.Goals as goal

pub returns-clause-not_ended : goal.returns-clause-not_ended
returns-clause-not_ended g c = search rules
