use Rattle.std.proofs.Common.{◌≡◌, ℕ, ◌<◌, length, slice_index}
use Rattle.claxon_md5.specs.Md5.{add, words_of_bytes}
use Rattle.claxon_md5.proofs.block.sums.Given as goal

abbrev pub invariant-loop-i : goal.invariant-loop-i
invariant-loop-i l =
    let words = words_of_bytes l.fn.block in
    (length l.sums ≡ 16)
    × ((k : ℕ) → k < l.i
    → slice_index l.sums k ≡ add (slice_index words k) (slice_index l.fn.sines k))
