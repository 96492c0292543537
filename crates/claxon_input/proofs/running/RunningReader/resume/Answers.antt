use Rattle.std.proofs.Common.{rules}
use Rattle.claxon_input.proofs.running.RunningReader.resume.Goals as goal

pub returns-clause-source : goal.returns-clause-source
returns-clause-source g c = search rules

pub returns-clause-value : goal.returns-clause-value
returns-clause-value g c = search rules
