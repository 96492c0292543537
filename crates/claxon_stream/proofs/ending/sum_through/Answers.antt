use Rattle.claxon_stream.proofs.FrameEnds.{all_summed, none_summed, other_summed, zero_summed}
use Rattle.claxon_stream.proofs.ending.sum_through.Goals as goal
use Rattle.claxon_stream.proofs.ending.sum_through.Goals.{then-sum-eq0, else-sum-eq0}

pub loop-byte-init : goal.loop-byte-init
loop-byte-init c = none_summed c.args.crc c.args.was_zero c.args.bytes.now

pub loop-byte-preserved : goal.loop-byte-preserved
loop-byte-preserved c =
    let l = c.loop-byte in
    elim c.if-sum-eq0.branch [
      | then-sum-eq0 w ↦ rw w.is_zero-is (zero_summed c.args.crc c.args.was_zero c.args.bytes.now l.byte-index l.sum c.next-sum.result l.is_zero c.loop-byte-test.true l.invariant c.next-sum.ensures w.if-sum-eq0.true)
      | else-sum-eq0 w ↦ rw w.is_zero-is (other_summed c.args.crc c.args.was_zero c.args.bytes.now l.byte-index l.sum c.next-sum.result l.is_zero c.loop-byte-test.true l.invariant c.next-sum.ensures w.if-sum-eq0.false)
    ]

pub returns : goal.returns
returns c = all_summed c.args.crc c.args.was_zero c.args.bytes.now c.loop-byte.byte-index c.loop-byte.sum c.loop-byte.is_zero c.loop-byte-test.false c.loop-byte.auto.byte-index-end c.loop-byte.invariant
