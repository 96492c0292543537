use Rattle.claxon_recovery.proofs.Runs.{one_run}
use Rattle.claxon_recovery.proofs.laws.one_run.Goals as goal

pub returns : goal.returns
returns c = record { one_run = λ info start s parts others depth few is other searched all. one_run info start s parts others depth few is other searched all }
