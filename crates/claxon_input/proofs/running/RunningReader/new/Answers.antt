use Rattle.std.proofs.Common.{rules}
use Rattle.claxon_input.proofs.running.RunningReader.new.Goals as goal

pub returns-clause-source : goal.returns-clause-source
returns-clause-source g c = search rules

pub returns-clause-state : goal.returns-clause-state
returns-clause-state g c = search rules
