use Rattle.claxon_input.proofs.CrcUpdate.{continues_8}
use Rattle.claxon_input.proofs.crc.crc8_continues.Goals as goal

pub returns : goal.returns
returns c = record { crc8_continues = continues_8 }
