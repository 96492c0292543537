use Rattle.std.proofs.Common.{arith}
use Rattle.std.proofs.lemmas.Grind.{common_steps}
use Rattle.claxon_input.proofs.input.counting_reader.CountingReader.read.Goals as goal

pub returns-in-Err-clause-counts_read : goal.returns-in-Err-clause-counts_read
returns-in-Err-clause-counts_read g c = grind (arith, common_steps)

pub returns-in-Ok-eq0-clause-counts_read : goal.returns-in-Ok-eq0-clause-counts_read
returns-in-Ok-eq0-clause-counts_read g c = grind (arith, common_steps)
