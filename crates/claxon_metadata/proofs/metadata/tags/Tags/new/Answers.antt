use Rattle.std.proofs.Common.{rules}
use Rattle.claxon_metadata.proofs.metadata.tags.Tags.new.Goals as goal

pub returns : goal.returns
returns g c = search rules
