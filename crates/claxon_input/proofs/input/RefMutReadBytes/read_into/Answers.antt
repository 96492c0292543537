use Rattle.std.proofs.Common.{rules}
use Rattle.claxon_input.proofs.input.RefMutReadBytes.read_into.Goals as goal

pub returns-clause-are_sound : goal.returns-clause-are_sound
returns-clause-are_sound g c = search rules
