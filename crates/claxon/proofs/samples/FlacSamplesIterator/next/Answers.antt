use Rattle.std.proofs.Common.{rules}
use Rattle.claxon.proofs.samples.FlacSamplesIterator.next.Goals as goal

pub returns-then-self-clause-steps : goal.returns-then-self-clause-steps
returns-then-self-clause-steps g c = search rules
