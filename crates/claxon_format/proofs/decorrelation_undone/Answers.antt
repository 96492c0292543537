use Rattle.claxon_format.proofs.FormatLaws.{decorrelation_undone as law}
use Rattle.claxon_format.proofs.decorrelation_undone.Goals as goal

pub returns : goal.returns
returns c = record { decorrelation_undone = law }
