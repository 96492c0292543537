use Rattle.std.proofs.Common.{rules}
use Rattle.claxon_frame.proofs.frame.header.common_rate_of.Goals as goal

pub returns-in-8 : goal.returns-in-8
returns-in-8 c = search rules
