use Rattle.std.proofs.Common.{[], take, rules, arith, w32, FitsSigned}
use Rattle.std.proofs.lemmas.Result.{err_from_is_err_and}
use Rattle.claxon_format.proofs.Residuals.{Reads-times}
use Rattle.claxon_input.proofs.ConsecutiveCalls.{exit, io_exit, failure_or_after}
use Rattle.claxon_input.proofs.FieldLoops.{times_end, times_err}
use Rattle.claxon_subframe.proofs.BufferedFields.{fields_skipped, fields_fit, filled_one}
use Rattle.claxon_subframe.proofs.SkippedBits.{read_skipped, never_incomplete}
use Rattle.claxon_subframe.proofs.subframe.buffered.read_values.Goals as goal

pub overflow_sub-consumed : goal.overflow_sub-consumed
overflow_sub-consumed g c =
    (read_skipped (Reads-times c.decode_buffered.result (g.met.C.ValueCode.reads c.args.code)) c.len-bits.result c.len.result (take c.decode_buffered.result c.decode_buffered.new.buffer) c.buffered-buffered.result c.decode_buffered.new.buffered []
    c.len-bits.ensures.value c.len.ensures.value (c.decode_buffered.ensures.are_read [])).fewer

pub returns-in_err-skip_bits : goal.returns-in_err-skip_bits
returns-in_err-skip_bits g c = record {
  are_read_by =
      io_exit _ (err_from_is_err_and c.from_residual.result c.from_residual.ensures.1)
      (failure_or_after _ c.loop-start.invariant.1.so_far (never_incomplete c.len-bits.result c.len.result c.buffered-buffered.result c.len-bits.ensures.value c.buffered-buffered.ensures.is_buffer_of c.in_err-skip_bits.ensures.are_skipped) (λ p q. absurd q));
}

pub returns-in_err-buffer : goal.returns-in_err-buffer
returns-in_err-buffer g c = record {
  are_read_by =
      let l = c.loop-start in
      let put = fields_skipped (g.met.C.ValueCode.reads c.args.code) c.len-bits.result c.len.result c.decode_buffered.result c.decode_buffered.new.buffer c.buffered-buffered.result c.decode_buffered.new.buffered c.len-bits.ensures.value c.len.ensures.value c.decode_buffered.ensures.are_read c.buffered-buffered.ensures.is_buffer_of l.invariant.0 c.decode_buffered.ensures.few c.decode_buffered.auto.buffer l.invariant.1 c.in_ok-skip_bits.ensures.are_skipped in
      exit _ (err_from_is_err_and c.from_residual-in_err-buffer.result c.from_residual-in_err-buffer.ensures.1) (times_err (omega arith) put c.in_err-buffer.ensures.gives);
}

pub loop-start-preserved-then-start-buffer : goal.loop-start-preserved-then-start-buffer
loop-start-preserved-then-start-buffer g c =
    let l = c.loop-start in
    let f : FitsSigned w32 c.in_ok-buffer.field-0 = search rules in
    let put = fields_skipped (g.met.C.ValueCode.reads c.args.code) c.len-bits.result c.len.result c.decode_buffered.result c.decode_buffered.new.buffer c.buffered-buffered.result c.decode_buffered.new.buffered c.len-bits.ensures.value c.len.ensures.value c.decode_buffered.ensures.are_read c.buffered-buffered.ensures.is_buffer_of l.invariant.0 c.decode_buffered.ensures.few c.decode_buffered.auto.buffer l.invariant.1 c.in_ok-skip_bits.ensures.are_skipped in
    filled_one c.in_ok-buffer.field-0 f (omega arith) put c.in_ok-buffer.ensures.gives

pub loop-start-preserved : goal.loop-start-preserved
loop-start-preserved g c =
    let l = c.loop-start in
    let ys = c.decode_buffered.new.buffer in
    let put = fields_skipped (g.met.C.ValueCode.reads c.args.code) c.len-bits.result c.len.result c.decode_buffered.result ys c.buffered-buffered.result c.decode_buffered.new.buffered c.len-bits.ensures.value c.len.ensures.value c.decode_buffered.ensures.are_read c.buffered-buffered.ensures.is_buffer_of l.invariant.0 c.decode_buffered.ensures.few c.decode_buffered.auto.buffer l.invariant.1 c.in_ok-skip_bits.ensures.are_skipped in
    (fields_fit l.start c.decode_buffered.result l.buffer ys l.invariant.0 c.decode_buffered.ensures.few c.decode_buffered.auto.buffer, put)

pub returns : goal.returns
returns g c = record { are_read_by = times_end (omega arith) c.loop-start.invariant.1 }
