use Rattle.std.proofs.Common.{rules}
use Rattle.claxon_uses.proofs.streams.push_next.Goals as goal

pub returns-in_ok-push-in-Some-clause-none : goal.returns-in_ok-push-in-Some-clause-none
returns-in_ok-push-in-Some-clause-none g c = search rules
