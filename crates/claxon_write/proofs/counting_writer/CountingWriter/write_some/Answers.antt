use Rattle.std.proofs.Common.{rules}
use Rattle.claxon_write.proofs.counting_writer.CountingWriter.write_some.Goals as goal

pub returns-in-Ok-eq0-clause-writes_some : goal.returns-in-Ok-eq0-clause-writes_some
returns-in-Ok-eq0-clause-writes_some g c = search rules

pub returns-in-Ok-eq0-clause-succeeded : goal.returns-in-Ok-eq0-clause-succeeded
returns-in-Ok-eq0-clause-succeeded g c = search rules

pub returns-in-Ok-clause-writes_some : goal.returns-in-Ok-clause-writes_some
returns-in-Ok-clause-writes_some g c = search rules
