use Rattle.std.proofs.Common.{rules}
use Rattle.claxon_metadata.proofs.metadata.MetadataBlockReaderIterator.size_hint.Goals as goal

pub returns-else-self-clause-exact : goal.returns-else-self-clause-exact
returns-else-self-clause-exact g c = search rules
