use Rattle.std.proofs.Common.{◌≡◌, ◌*◌, drop}
use Rattle.claxon_input.specs.CrcUpdate.{update_crc16}
use Rattle.claxon_input.proofs.crc.update16_by_16.Given as goal

abbrev pub invariant-loop-sixteen : goal.invariant-loop-sixteen
invariant-loop-sixteen l = update_crc16 l.state (drop (16 * l.sixteen-index) l.fn.bytes) ≡ update_crc16 l.fn.state l.fn.bytes
