use Rattle.std.proofs.Common.{◌≡◌, ◌*◌, ◌∷◌, [], take}
use Rattle.std.specs.List.{flat_map}
use Rattle.claxon.specs.Interleave.{interleave_range}
use Rattle.claxon_md5.specs.WholeBytes.{whole_bytes_of_sample}
use Rattle.claxon_blocks.proofs.hashing.pack_pairs.Given as goal

abbrev pub invariant-loop-i : goal.invariant-loop-i
invariant-loop-i l =
    take (l.i * 4) l.buffer
    ≡ flat_map (whole_bytes_of_sample 16) (interleave_range (l.left ∷ l.right ∷ []) 0 l.i)
