use Rattle.std.proofs.Common.{rules}
use Rattle.claxon_wav.proofs.writer.WavWriter.pad.Goals as goal

pub returns-clause-is_sound : goal.returns-clause-is_sound
returns-clause-is_sound g c = search rules
