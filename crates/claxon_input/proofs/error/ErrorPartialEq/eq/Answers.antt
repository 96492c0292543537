use Rattle.std.proofs.Common.{rules}
use Rattle.claxon_input.proofs.error.ErrorPartialEq.eq.Goals as goal

pub returns-in-OutOfMemory-OutOfMemory : goal.returns-in-OutOfMemory-OutOfMemory
returns-in-OutOfMemory-OutOfMemory c = search rules
