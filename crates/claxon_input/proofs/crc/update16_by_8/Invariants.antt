use Rattle.std.proofs.Common.{◌≡◌, ◌*◌, drop}
use Rattle.claxon_input.specs.CrcUpdate.{update_crc16}
use Rattle.claxon_input.proofs.crc.update16_by_8.Given as goal

abbrev pub invariant-loop-eight : goal.invariant-loop-eight
invariant-loop-eight l = update_crc16 l.state (drop (8 * l.eight-index) l.fn.bytes) ≡ update_crc16 l.fn.state l.fn.bytes
