use Rattle.std.proofs.Common.{arith}
use Rattle.std.proofs.lemmas.Grind.{common_steps}
use Rattle.claxon_input.proofs.bits.Bitstream.read_gt_u8_leq_u16.Goals as goal

pub returns-clause-failure_or_eof : goal.returns-clause-failure_or_eof
returns-clause-failure_or_eof g c = grind (arith, common_steps)

pub returns-clause-few_are_left : goal.returns-clause-few_are_left
returns-clause-few_are_left g c = grind (arith, common_steps)

pub returns-clause-is_read : goal.returns-clause-is_read
returns-clause-is_read g c = grind (arith, common_steps)

pub returns-clause-is_sound : goal.returns-clause-is_sound
returns-clause-is_sound g c = grind (arith, common_steps)

pub returns-clause-value : goal.returns-clause-value
returns-clause-value g c = grind (arith, common_steps)
