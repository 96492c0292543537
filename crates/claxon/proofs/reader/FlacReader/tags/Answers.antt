use Rattle.std.proofs.Common.{rules}
use Rattle.claxon.proofs.reader.FlacReader.tags.Goals as goal

pub returns : goal.returns
returns g c = search rules
