use Rattle.claxon_heads.specs.BytesRead.{counted_bytes}
use Rattle.claxon_heads.proofs.StreamHeads.{BlocksSoFar}
use Rattle.claxon_heads.proofs.head.read_other_blocks.Given as goal

abbrev pub invariant-loop-most : goal.invariant-loop-most
invariant-loop-most g l = record {
  read : BlocksSoFar l.most l.seen (counted_bytes g.R.ReadBytes.source l.fn.input) (counted_bytes g.R.ReadBytes.source l.input);
}

abbrev pub decreases-loop-most : goal.decreases-loop-most
decreases-loop-most g l = l.most
