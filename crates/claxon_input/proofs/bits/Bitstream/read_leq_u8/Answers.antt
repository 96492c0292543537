use Rattle.std.proofs.Common.{arith}
use Rattle.std.proofs.lemmas.Grind.{common_steps}
use Rattle.claxon_input.proofs.bits.Bitstream.read_leq_u8.Goals as goal

pub returns-clause-is_read : goal.returns-clause-is_read
returns-clause-is_read g c = grind (arith, common_steps)

pub returns-clause-is_sound : goal.returns-clause-is_sound
returns-clause-is_sound g c = grind (arith, common_steps)

pub returns-clause-value : goal.returns-clause-value
returns-clause-value g c = grind (arith, common_steps)
