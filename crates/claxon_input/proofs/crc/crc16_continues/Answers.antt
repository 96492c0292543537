use Rattle.claxon_input.proofs.CrcUpdate.{continues_16}
use Rattle.claxon_input.proofs.crc.crc16_continues.Goals as goal

pub returns : goal.returns
returns c = record { crc16_continues = continues_16 }
