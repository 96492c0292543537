use Rattle.std.proofs.Common.{arith}
use Rattle.std.proofs.lemmas.Grind.{common_steps}
use Rattle.claxon_metadata.proofs.metadata.tags.TagsIterator.size_hint.Goals as goal

pub returns-clause-exact : goal.returns-clause-exact
returns-clause-exact g c = grind (arith, common_steps)
