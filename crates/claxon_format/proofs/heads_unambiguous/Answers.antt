use Rattle.claxon_format.proofs.FormatLaws.{heads_unambiguous as law}
use Rattle.claxon_format.proofs.heads_unambiguous.Goals as goal

pub returns : goal.returns
returns c = record { heads_unambiguous = law }
