use Rattle.claxon_format.proofs.FormatLaws.{crc_divides as law}
use Rattle.claxon_format.proofs.crc_divides.Goals as goal

pub returns : goal.returns
returns c = record { crc_divides = law }
