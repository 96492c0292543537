use Rattle.std.proofs.Common.{rules}
use Rattle.claxon_metadata.proofs.metadata.tags.GetTagIterator.next.Goals as goal

pub returns-then-eq_ignore_ascii_case-clause-steps : goal.returns-then-eq_ignore_ascii_case-clause-steps
returns-then-eq_ignore_ascii_case-clause-steps g c = search rules
