use Rattle.std.proofs.Common.{◌≡◌, length}
use Rattle.claxon_metadata.specs.Tags.{remaining_values, remaining_tags}
use Rattle.claxon_metadata.proofs.metadata.tags.GetTagIterator.next.Given as goal

abbrev pub invariant-loop-name : goal.invariant-loop-name
invariant-loop-name g l = (remaining_values l.self ≡ remaining_values l.initial.self) × (l.self.needle.now ≡ l.initial.self.needle.now)

abbrev pub decreases-loop-name : goal.decreases-loop-name
decreases-loop-name g l = length (remaining_tags l.self.tags)
