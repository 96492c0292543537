use Rattle.claxon_format.proofs.FormatLaws.{plans_written as law}
use Rattle.claxon_format.proofs.plans_written.Goals as goal

pub returns : goal.returns
returns c = record { plans_written = law }
