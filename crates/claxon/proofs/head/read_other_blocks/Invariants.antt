use Rattle.std.proofs.Common.{IfSome}
use Rattle.claxon_input.specs.State.{bytes_in}
use Rattle.claxon_metadata.specs.TagEntries.{HaveSeparatorIndices}
use Rattle.claxon.specs.ReadHead.{found_view}
use Rattle.claxon.proofs.HeadParts.{OthersSoFar}
use Rattle.claxon.proofs.head.read_other_blocks.Given as goal

abbrev pub invariant-loop-most : goal.invariant-loop-most
invariant-loop-most g l = record {
  places : IfSome l.found (λ comment. HaveSeparatorIndices comment.comments.items);
  read : OthersSoFar l.comments_suffice l.most (found_view l.found) (bytes_in g.R.ReadBytes.source l.fn.input) (bytes_in g.R.ReadBytes.source l.input);
}

abbrev pub decreases-loop-most : goal.decreases-loop-most
decreases-loop-most g l = l.most
