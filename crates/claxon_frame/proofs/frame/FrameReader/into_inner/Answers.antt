use Rattle.std.proofs.Common.{rules}
use Rattle.claxon_frame.proofs.frame.FrameReader.into_inner.Goals as goal

pub returns : goal.returns
returns g c = search rules
