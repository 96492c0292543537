use Rattle.std.proofs.Common.{◌≡◌, ◌+◌, ◌<◌, ℕ, get_or, pos}
use Rattle.claxon_md5.specs.Planar.{interleaved_sample}
use Rattle.claxon_md5.proofs.packing.interleave.Given as goal

abbrev pub invariant-loop-i : goal.invariant-loop-i
invariant-loop-i g l =
    (k : ℕ) → k < l.i
    → get_or l.buffer k (pos 0) ≡ interleaved_sample g.row.CHANNELS l.samples (l.from + k)
