use Rattle.std.proofs.Common.{rules}
use Rattle.claxon_input.proofs.input.RefMutReadBytes.skip.Goals as goal

pub returns-clause-are_skipped : goal.returns-clause-are_skipped
returns-clause-are_skipped g c = search rules
