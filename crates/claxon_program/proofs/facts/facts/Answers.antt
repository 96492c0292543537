use Rattle.std.proofs.Common.{append_assoc, arith}
use Rattle.claxon_program.proofs.facts.facts.Goals as goal

pub returns : goal.returns
returns g c = record { are_sound = grind (arith, append_assoc) }
