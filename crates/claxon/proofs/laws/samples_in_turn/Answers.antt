use Rattle.claxon.proofs.SampleRuns.{samples_in_turn as law}
use Rattle.claxon.proofs.laws.samples_in_turn.Goals as goal

pub returns : goal.returns
returns g c = record { samples_in_turn = law g.R.ReadBytes.source }
