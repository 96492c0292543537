use Rattle.claxon_recovery.proofs.Runs.{frames_alone}
use Rattle.claxon_recovery.proofs.laws.frames_alone.Goals as goal

pub returns : goal.returns
returns c = record { frames_alone = λ info start s values parts depth frames is. frames_alone info start s values parts frames is }
