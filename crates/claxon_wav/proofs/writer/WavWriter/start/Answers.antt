use Rattle.std.proofs.Common.{rules}
use Rattle.claxon_wav.proofs.writer.WavWriter.start.Goals as goal

pub returns : goal.returns
returns g c = search rules
