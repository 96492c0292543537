use Rattle.std.proofs.Common.{rules}
use Rattle.claxon_write.proofs.output.Output.reserve.Goals as goal

pub returns-clause-is_sound : goal.returns-clause-is_sound
returns-clause-is_sound g c = search rules
