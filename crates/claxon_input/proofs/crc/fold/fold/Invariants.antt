use Rattle.std.proofs.Common.{◌≡◌, drop}
use Rattle.claxon_input.proofs.CrcFolding.{words_crc}
use Rattle.claxon_input.proofs.crc.fold.fold.Given as goal

abbrev pub invariant-loop-i : goal.invariant-loop-i
invariant-loop-i l = words_crc (drop l.i l.words) ≡ words_crc l.fn.words
