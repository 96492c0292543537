use Rattle.std.proofs.Common.{rules, refl}
use Rattle.claxon_input.proofs.CrcUpdate.{update8_byte_is}
use Rattle.claxon_input.proofs.crc.update8_byte.Goals as goal

pub returns : goal.returns
returns c = update8_byte_is c.args.state c.args.byte _ (search rules) (search rules) refl
