use Rattle.claxon_format.proofs.FormatLaws.{frames_unambiguous as law}
use Rattle.claxon_format.proofs.frames_unambiguous.Goals as goal

pub returns : goal.returns
returns c = record { frames_unambiguous = law }
