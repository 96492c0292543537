use Rattle.std.proofs.Common.{rules}
use Rattle.claxon.proofs.head.shown.Head.streaminfo.Goals as goal

pub returns-clause-value : goal.returns-clause-value
returns-clause-value g c = search rules
