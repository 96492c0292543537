use Rattle.std.proofs.Common.{rules}
use Rattle.claxon.proofs.head.FlacReaderOptionsDefault.default.Goals as goal

pub returns : goal.returns
returns c = search rules
