use Rattle.std.proofs.Common.{rules}
use Rattle.claxon_format.specs.read.Comments.{entry_or_empty_at}
use Rattle.claxon_metadata.proofs.metadata.comment.read_entry_or_empty.Goals as goal

pub returns-then-length-eq0-clause-place : goal.returns-then-length-eq0-clause-place
returns-then-length-eq0-clause-place g c = tt

pub returns-then-length-eq0-clause-gives : goal.returns-then-length-eq0-clause-gives
unfolding entry_or_empty_at
returns-then-length-eq0-clause-gives g c = search rules
