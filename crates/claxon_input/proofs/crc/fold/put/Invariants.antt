use Rattle.std.proofs.Common.{◌≡◌, ◌+◌, ◌*◌, ◌++◌, length, take}
use Rattle.claxon_input.proofs.CrcFolding.{word_bytes}
use Rattle.claxon_input.proofs.crc.fold.put.Given as goal

abbrev pub invariant-loop-i : goal.invariant-loop-i
invariant-loop-i l = (length l.words ≡ 32) × (word_bytes (take (l.i + 16) l.words) ≡ word_bytes (take 16 l.fn.words) ++ take (8 * l.i) l.fn.bytes)
