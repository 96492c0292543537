use Rattle.std.proofs.Common.{rules}
use Rattle.claxon_input.proofs.CrcUpdate.{update16_byte_is}
use Rattle.claxon_input.proofs.crc.update16_byte.Goals as goal

pub returns : goal.returns
returns c = update16_byte_is c.args.state c.args.byte c.entry16.result (search rules) (search rules) c.entry16.ensures
