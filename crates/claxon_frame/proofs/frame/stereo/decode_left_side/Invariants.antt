use Rattle.claxon_format.specs.read.Stereo.{right_of}
use Rattle.claxon_frame.proofs.Decorrelation.{ZippedUpTo}
use Rattle.claxon_frame.proofs.frame.stereo.decode_left_side.Given as goal

abbrev pub invariant-loop-i : goal.invariant-loop-i
invariant-loop-i l = ZippedUpTo (right_of 8) l.left l.initial.side l.initial.side l.side l.i
