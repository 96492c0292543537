use Rattle.std.proofs.Common.{[], arith, length, map, take, ◌*◌, ◌-◌, ◌+◌, ◌≤◌, ◌∙◌}
use Rattle.claxon_input.proofs.Sources.{on_err}
use Rattle.claxon_subframe.specs.RiceCodes.{decoded}
use Rattle.claxon_subframe.specs.SubframeFields.{method_of}
use Rattle.claxon_subframe.proofs.BufferedPartitions.{BufferedPartitionsSoFar, Reads-joined, buffered_partition_fits, buffered_partitions_begin, buffered_partitions_decoded, buffered_partitions_fit, buffered_partitions_next, buffered_partitions_stay}
use Rattle.claxon_subframe.proofs.PartitionLoop.{length-range}
use Rattle.claxon_subframe.proofs.PartitionParameter.{method_small}
use Rattle.claxon_subframe.proofs.SkippedBits.{never_incomplete, read_consumes, read_skipped}
use Rattle.claxon_subframe.proofs.subframe.partitions.read_buffered_partitions.Goals.{else-loop-whole-test, then-loop-whole-test+then-not-decode_buffered_partition}
use Rattle.claxon_subframe.proofs.subframe.partitions.read_buffered_partitions.Goals as goal

pub loop-whole-init : goal.loop-whole-init
loop-whole-init g c = (omega arith, omega arith, buffered_partitions_begin (method_of c.args.partition_type) c.args.each c.args.buffer.now c.buffered-buffered.result)

pub loop-whole-preserved : goal.loop-whole-preserved
loop-whole-preserved g c =
    let l = c.loop-whole in
    let ys = c.decode_buffered_partition.new.buffer in
    let capacity = buffered_partition_fits c.args.each l.whole c.args.most l.start (length l.buffer) l.invariant.0 c.loop-whole-test.true (omega (arith, c.requires.capacity, l.auto.buffer)) in (
      grind (arith, l.invariant.0),
      omega arith,
      buffered_partitions_next (method_of c.args.partition_type) c.args.each l.whole l.start l.buffer ys c.buffered-buffered.result l.buffered c.decode_buffered_partition.new.buffered l.invariant.0 capacity c.decode_buffered_partition.auto.buffer
          (c.decode_buffered_partition.auto.buffer ∙ length-range l.start c.args.each l.buffer capacity) l.invariant.2 c.if-not-decode_buffered_partition.ensures,
    )

pub overflow_sub-consumed : goal.overflow_sub-consumed
overflow_sub-consumed g c =
    let l = c.loop-whole in
    let after = c.loop-whole-test in
    let method = method_of c.args.partition_type in
    let fit : l.start ≤ length l.buffer = buffered_partitions_fit c.args.each l.whole c.args.most l.start (length l.buffer) l.invariant.0 l.invariant.1 (omega (arith, c.requires.capacity, l.auto.buffer)) in
    let so_far : BufferedPartitionsSoFar method c.args.each l.whole after.buffer c.buffered-buffered.result after.buffered = elim after.branch [
      | else-loop-whole-test w ↦ rw (w.buffer-is, w.buffered-is) l.invariant.2
      | then-loop-whole-test+then-not-decode_buffered_partition w ↦ rw (w.buffer-is, w.buffered-is)
          (buffered_partitions_stay method c.args.each l.whole l.start (l.start + c.args.each - l.start) l.buffer w.decode_buffered_partition.new.buffer c.buffered-buffered.result l.buffered w.decode_buffered_partition.new.buffered l.invariant.0 fit w.if-not-decode_buffered_partition.ensures l.invariant.2)
    ] in
    (read_skipped (Reads-joined method l.whole c.args.each (method_small c.args.partition_type)) c.len-bits.result c.len.result (map decoded (take (l.whole * c.args.each) after.buffer)) c.buffered-buffered.result after.buffered []
    c.len-bits.ensures.value c.len.ensures.value (so_far.so_far [])).fewer

pub returns-in_err-skip_bits-clause-read_failed : goal.returns-in_err-skip_bits-clause-read_failed
returns-in_err-skip_bits-clause-read_failed g c =
    on_err c.from_residual.result (never_incomplete c.len-bits.result c.len.result c.buffered-buffered.result c.len-bits.ensures.value c.buffered-buffered.ensures.is_buffer_of c.in_err-skip_bits.ensures.are_skipped)

pub returns-clause-few : goal.returns-clause-few
returns-clause-few g c = c.loop-whole.invariant.1

pub returns-clause-are_read : goal.returns-clause-are_read
returns-clause-are_read g c =
    let l = c.loop-whole in
    let after = c.loop-whole-test in
    let method = method_of c.args.partition_type in
    let fit : l.start ≤ length l.buffer = buffered_partitions_fit c.args.each l.whole c.args.most l.start (length l.buffer) l.invariant.0 l.invariant.1 (omega (arith, c.requires.capacity, l.auto.buffer)) in
    let so_far : BufferedPartitionsSoFar method c.args.each l.whole after.buffer c.buffered-buffered.result after.buffered = elim after.branch [
      | else-loop-whole-test w ↦ rw (w.buffer-is, w.buffered-is) l.invariant.2
      | then-loop-whole-test+then-not-decode_buffered_partition w ↦ rw (w.buffer-is, w.buffered-is)
          (buffered_partitions_stay method c.args.each l.whole l.start (l.start + c.args.each - l.start) l.buffer w.decode_buffered_partition.new.buffer c.buffered-buffered.result l.buffered w.decode_buffered_partition.new.buffered l.invariant.0 fit w.if-not-decode_buffered_partition.ensures l.invariant.2)
    ] in
    let samples = buffered_partitions_decoded method c.args.each l.whole after.buffer c.decode_zigzag.new.numbers c.buffered-buffered.result after.buffered (omega (arith, l.invariant.0)) (omega (arith, fit, l.invariant.0, after.auto.buffer)) c.decode_zigzag.ensures so_far in
    read_consumes (Reads-joined method l.whole c.args.each (method_small c.args.partition_type)) c.len-bits.result c.len.result _ c.buffered-buffered.result after.buffered
    c.len-bits.ensures.value c.len.ensures.value samples c.buffered-buffered.ensures.is_buffer_of c.in_ok-skip_bits.ensures.are_skipped
