use Rattle.std.proofs.Common.{rules}
use Rattle.claxon_md5.proofs.block.round_4.Goals as goal

pub returns : goal.returns
returns c = search rules
