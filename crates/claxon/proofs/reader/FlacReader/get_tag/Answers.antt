use Rattle.std.proofs.Common.{rules}
use Rattle.claxon.proofs.reader.FlacReader.get_tag.Goals as goal

pub returns : goal.returns
returns g c = search rules
