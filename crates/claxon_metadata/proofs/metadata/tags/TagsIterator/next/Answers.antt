use Rattle.std.proofs.Common.{rules}
use Rattle.claxon_metadata.proofs.TagSeparators.{separators_rest, separator_first}
use Rattle.claxon_metadata.proofs.metadata.tags.TagsIterator.next.Goals as goal

pub invariant_of-self : goal.invariant_of-self
invariant_of-self g c = record { separators = separators_rest c.args.self.now.comments.now c.in_ok-first.rest.now c.in_ok-first.first.now (search rules) c.args.self.now.separators }

pub split-requires : goal.split-requires
split-requires g c = record { is_separator_index = separator_first c.args.self.now.comments.now c.in_ok-first.rest.now c.in_ok-first.first.now (search rules) c.args.self.now.separators }
