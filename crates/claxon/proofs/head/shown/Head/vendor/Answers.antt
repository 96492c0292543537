use Rattle.std.proofs.Common.{rules}
use Rattle.claxon.proofs.head.shown.Head.vendor.Goals as goal

pub returns : goal.returns
returns g c = search rules
