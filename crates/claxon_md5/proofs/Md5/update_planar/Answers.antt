use Rattle.std.proofs.Common.{rules}
use Rattle.claxon_md5.proofs.Md5.update_planar.Goals as goal

pub returns-in-2 : goal.returns-in-2
returns-in-2 c = search rules
