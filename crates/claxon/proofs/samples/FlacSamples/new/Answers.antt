use Rattle.std.proofs.Common.{rules}
use Rattle.claxon.proofs.samples.FlacSamples.new.Goals as goal

pub returns-clause-stream : goal.returns-clause-stream
returns-clause-stream g c = search rules

pub returns-clause-goes_on : goal.returns-clause-goes_on
returns-clause-goes_on g c = search rules
