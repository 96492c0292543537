use Rattle.claxon_stream.proofs.FrameEnds.{frame_ends_at_zero}
use Rattle.claxon_stream.proofs.laws.frames_end_at_zero.Goals as goal

pub returns : goal.returns
returns c = record { frames_end_at_zero = frame_ends_at_zero }
