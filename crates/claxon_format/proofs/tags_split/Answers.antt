use Rattle.claxon_format.proofs.Tags.{tags_split as law}
use Rattle.claxon_format.proofs.tags_split.Goals as goal

pub returns : goal.returns
returns c = record { tags_split = law }
