use Rattle.std.proofs.Common.{rules}
use Rattle.claxon_wav.proofs.samples.silence.Goals as goal

pub returns-then-size-eq1 : goal.returns-then-size-eq1
returns-then-size-eq1 c = search rules
