use Rattle.std.proofs.Common.{◌≤◌, ◌-◌, ◌∷◌, [], length}
use Rattle.claxon.specs.Interleave.{interleave_range}
use Rattle.claxon_md5.specs.HasherCalls.{HashesSamples}
use Rattle.claxon_blocks.proofs.hashing.hash_pairs.Given as goal

abbrev pub decreases-loop-from : goal.decreases-loop-from
decreases-loop-from l = length l.left - l.from

abbrev pub invariant-loop-from : goal.invariant-loop-from
invariant-loop-from l = record {
  within : l.from ≤ length l.left;
  hashed : HashesSamples 16 (interleave_range (l.left ∷ l.right ∷ []) 0 l.from) l.fn.md5 l.md5;
}
