use Rattle.std.proofs.Common.{◌≡◌, drop}
use Rattle.claxon_input.specs.CrcUpdate.{update_crc8}
use Rattle.claxon_input.proofs.crc.update8.Given as goal

abbrev pub invariant-loop-byte : goal.invariant-loop-byte
invariant-loop-byte l = update_crc8 l.state (drop l.byte-index l.bytes) ≡ update_crc8 l.fn.state l.fn.bytes
