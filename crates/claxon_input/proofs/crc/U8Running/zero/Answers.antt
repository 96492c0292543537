use Rattle.std.proofs.Common.{rules}
use Rattle.claxon_input.proofs.crc.U8Running.zero.Goals as goal

pub returns : goal.returns
returns c = search rules
