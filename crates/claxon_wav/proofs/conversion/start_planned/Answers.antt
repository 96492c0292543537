use Rattle.std.proofs.Common.{arith}
use Rattle.std.proofs.lemmas.Grind.{common_steps}
use Rattle.claxon_wav.proofs.conversion.start_planned.Goals as goal

pub returns-in-None-clause-fault_is_sound : goal.returns-in-None-clause-fault_is_sound
returns-in-None-clause-fault_is_sound g c = grind (arith, common_steps)
