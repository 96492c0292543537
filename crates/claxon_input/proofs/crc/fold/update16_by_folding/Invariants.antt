use Rattle.std.proofs.Common.{◌≡◌, ◌+◌, ◌*◌, take, drop}
use Rattle.claxon_input.specs.CrcUpdate.{update_crc16}
use Rattle.claxon_input.proofs.CrcFolding.{words_crc}
use Rattle.claxon_input.proofs.crc.fold.update16_by_folding.Given as goal

abbrev pub invariant-loop-piece : goal.invariant-loop-piece
invariant-loop-piece l =
    update_crc16 (words_crc (take 16 l.words)) (drop (128 * (l.piece-index + 1)) l.fn.bytes) ≡ update_crc16 l.fn.state l.fn.bytes
