use Rattle.claxon_format.proofs.FormatLaws.{channels_unambiguous as law}
use Rattle.claxon_format.proofs.channels_unambiguous.Goals as goal

pub returns : goal.returns
returns c = record { channels_unambiguous = law }
