use Rattle.std.proofs.Common.{rules}
use Rattle.claxon.proofs.head.shown.Head.new.Goals as goal

pub returns-clause-view : goal.returns-clause-view
returns-clause-view g c = search rules
