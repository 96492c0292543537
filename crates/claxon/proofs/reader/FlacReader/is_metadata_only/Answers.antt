use Rattle.std.proofs.Common.{rules}
use Rattle.claxon.proofs.reader.FlacReader.is_metadata_only.Goals as goal

pub returns : goal.returns
returns g c = search rules
