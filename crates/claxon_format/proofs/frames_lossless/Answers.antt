use Rattle.claxon_format.proofs.FormatLaws.{frames_lossless as law}
use Rattle.claxon_format.proofs.frames_lossless.Goals as goal

pub returns : goal.returns
returns c = record { frames_lossless = law }
