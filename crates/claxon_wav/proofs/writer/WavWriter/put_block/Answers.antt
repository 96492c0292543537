use Rattle.std.proofs.Common.{rules, arith}
use Rattle.std.proofs.lemmas.Grind.{common_steps}
use Rattle.claxon_wav.proofs.writer.WavWriter.put_block.Goals as goal

pub returns-clause-is_sound : goal.returns-clause-is_sound
returns-clause-is_sound g c = search rules

pub returns-then-size-free-clause-fault_is_sound : goal.returns-then-size-free-clause-fault_is_sound
returns-then-size-free-clause-fault_is_sound g c = search rules

pub returns-then-channels-clause-fault_keeps : goal.returns-then-channels-clause-fault_keeps
returns-then-channels-clause-fault_keeps g c = grind (arith, common_steps)
