use Rattle.std.proofs.Common.{length, ◌+◌, ◌≤◌}
use Rattle.claxon_input.specs.State.{bytes_in}
use Rattle.claxon_metadata.specs.TagEntries.{HaveSeparatorIndices, entries_view}
use Rattle.claxon_metadata.proofs.CommentEntries.{EntriesSoFar}
use Rattle.claxon_metadata.proofs.metadata.comment.read_entries.Given as goal

abbrev pub invariant-loop-missing : goal.invariant-loop-missing
invariant-loop-missing g l = record {
  separators : HaveSeparatorIndices l.comments.items;
  within : length (bytes_in g.R.ReadBytes.source l.fn.input).remaining + l.bytes_left ≤ l.length + length (bytes_in g.R.ReadBytes.source l.input).remaining;
  read : EntriesSoFar l.count l.length l.missing l.bytes_left (entries_view l.comments.items) (bytes_in g.R.ReadBytes.source l.fn.input) (bytes_in g.R.ReadBytes.source l.input);
}

abbrev pub decreases-loop-missing : goal.decreases-loop-missing
decreases-loop-missing g l = l.missing
