use Rattle.claxon.proofs.SampleRuns.{whole_streams as law}
use Rattle.claxon.proofs.laws.whole_streams.Goals as goal

pub returns : goal.returns
returns g c = record { whole_streams = law g.R.Read.remaining }
