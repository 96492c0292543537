use Rattle.claxon_format.specs.read.Stereo.{left_of, right_of}
use Rattle.claxon_frame.proofs.Decorrelation.{ZippedUpTo}
use Rattle.claxon_frame.proofs.frame.stereo.decode_mid_side.Given as goal

abbrev pub invariant-loop-i : goal.invariant-loop-i
invariant-loop-i l = record {
  left : ZippedUpTo (left_of 10) l.initial.mid l.initial.side l.initial.mid l.mid l.i;
  right : ZippedUpTo (right_of 10) l.initial.mid l.initial.side l.initial.side l.side l.i;
}
