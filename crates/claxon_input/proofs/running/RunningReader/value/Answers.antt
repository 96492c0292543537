use Rattle.std.proofs.Common.{rules}
use Rattle.claxon_input.proofs.running.RunningReader.value.Goals as goal

pub returns : goal.returns
returns g c = search rules
