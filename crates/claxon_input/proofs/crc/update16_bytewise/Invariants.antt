use Rattle.std.proofs.Common.{◌≡◌, drop}
use Rattle.claxon_input.specs.CrcUpdate.{update_crc16}
use Rattle.claxon_input.proofs.crc.update16_bytewise.Given as goal

abbrev pub invariant-loop-byte : goal.invariant-loop-byte
invariant-loop-byte l = update_crc16 l.state (drop l.byte-index l.bytes) ≡ update_crc16 l.fn.state l.fn.bytes
