use Rattle.claxon_input.specs.State.{bits_in}
use Rattle.claxon_input.proofs.RunningReaders.{over_borrow}
use Rattle.claxon_frame.specs.FrameHeader.{channels_of, subframe_bit_depths}
use Rattle.claxon_frame.proofs.SubframesInBuffer.{ChannelsSoFar}
use Rattle.claxon_frame.proofs.frame.decode_subframes.Given as goal

abbrev pub invariant-loop-ch : goal.invariant-loop-ch
invariant-loop-ch g l =
    ChannelsSoFar (subframe_bit_depths l.assignment l.header.bit_depth) (channels_of l.assignment) l.size l.ch l.start l.buffer
    (bits_in (over_borrow g.R.ReadBytes.source) l.initial.bits) (bits_in (over_borrow g.R.ReadBytes.source) l.bits)
