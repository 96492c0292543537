use Rattle.claxon_format.specs.read.Stereo.{left_of}
use Rattle.claxon_frame.proofs.Decorrelation.{ZippedUpTo}
use Rattle.claxon_frame.proofs.frame.stereo.decode_right_side.Given as goal

abbrev pub invariant-loop-i : goal.invariant-loop-i
invariant-loop-i l = ZippedUpTo (left_of 9) l.initial.side l.right l.initial.side l.side l.i
