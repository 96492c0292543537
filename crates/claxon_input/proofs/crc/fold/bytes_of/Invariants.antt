use Rattle.std.proofs.Common.{◌≡◌, ◌*◌, length, take}
use Rattle.claxon_input.proofs.CrcFolding.{word_bytes}
use Rattle.claxon_input.proofs.crc.fold.bytes_of.Given as goal

abbrev pub invariant-loop-i : goal.invariant-loop-i
invariant-loop-i l = (length l.bytes ≡ 128) × (take (8 * l.i) l.bytes ≡ word_bytes (take l.i l.words))
