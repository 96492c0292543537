use Rattle.claxon_stream.proofs.FrameEnds.{SummedTo}
use Rattle.claxon_stream.proofs.ending.sum_through.Given as goal

abbrev pub invariant-loop-byte : goal.invariant-loop-byte
invariant-loop-byte l = SummedTo l.fn.crc l.fn.was_zero l.fn.bytes l.byte-index l.sum l.is_zero
