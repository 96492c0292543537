use Rattle.std.proofs.Common.{rules}
use Rattle.claxon_write.proofs.counting_writer.CountingWriter.flush.Goals as goal

pub returns-in-Ok-clause-succeeded : goal.returns-in-Ok-clause-succeeded
returns-in-Ok-clause-succeeded g c = search rules

pub returns-in-Ok-clause-failed : goal.returns-in-Ok-clause-failed
returns-in-Ok-clause-failed g c = search rules
