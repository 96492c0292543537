use Rattle.claxon_format.proofs.Tags.{names_same as law}
use Rattle.claxon_format.proofs.names_same.Goals as goal

pub returns : goal.returns
returns c = record { names_same = law }
