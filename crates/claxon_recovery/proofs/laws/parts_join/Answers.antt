use Rattle.claxon_recovery.proofs.Runs.{parts_join}
use Rattle.claxon_recovery.proofs.laws.parts_join.Goals as goal

pub returns : goal.returns
returns c = record { parts_join = λ info start s parts small is. parts_join info start s parts small is }
