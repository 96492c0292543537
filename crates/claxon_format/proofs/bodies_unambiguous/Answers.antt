use Rattle.claxon_format.proofs.FormatLaws.{bodies_unambiguous as law}
use Rattle.claxon_format.proofs.bodies_unambiguous.Goals as goal

pub returns : goal.returns
returns c = record { bodies_unambiguous = law }
