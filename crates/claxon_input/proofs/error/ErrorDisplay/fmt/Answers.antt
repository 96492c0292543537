use Rattle.std.proofs.Common.{rules}
use Rattle.claxon_input.proofs.error.ErrorDisplay.fmt.Goals as goal

pub returns-in-OutOfMemory-clause-writes : goal.returns-in-OutOfMemory-clause-writes
returns-in-OutOfMemory-clause-writes g c = search rules
