use Rattle.claxon_format.proofs.FormatLaws.{subframes_unambiguous as law}
use Rattle.claxon_format.proofs.subframes_unambiguous.Goals as goal

pub returns : goal.returns
returns c = record { subframes_unambiguous = law }
