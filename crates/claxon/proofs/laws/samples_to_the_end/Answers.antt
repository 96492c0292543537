use Rattle.claxon.proofs.SampleRuns.{samples_to_the_end as law}
use Rattle.claxon.proofs.laws.samples_to_the_end.Goals as goal

pub returns : goal.returns
returns g c = record { samples_to_the_end = law g.R.ReadBytes.source }
