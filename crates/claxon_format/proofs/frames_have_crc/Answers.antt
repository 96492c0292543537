use Rattle.claxon_format.proofs.FormatLaws.{frames_have_crc as law}
use Rattle.claxon_format.proofs.frames_have_crc.Goals as goal

pub returns : goal.returns
returns c = record { frames_have_crc = law }
