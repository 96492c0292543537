use Rattle.claxon_format.proofs.FormatLaws.{samples_interleaved as law}
use Rattle.claxon_format.proofs.samples_interleaved.Goals as goal

pub returns : goal.returns
returns c = record { interleaved = law }
