use Rattle.std.proofs.Common.{◌≡◌, ◌*◌, length, take}
use Rattle.claxon_md5.specs.Md5.{bytes_of_words}
use Rattle.claxon_md5.proofs.bytes_of_words.Given as goal

abbrev pub invariant-loop-i : goal.invariant-loop-i
invariant-loop-i l =
    (length l.bytes ≡ 16) × (take (4 * l.i) l.bytes ≡ bytes_of_words (take l.i l.words))
