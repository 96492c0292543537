use Rattle.std.proofs.Common.{◌∙◌, arith, length, rules}
use Rattle.std.proofs.lemmas.Grind.{common_steps}
use Rattle.std.proofs.lemmas.Result.{err_from_is_err_and}
use Rattle.claxon_input.proofs.ConsecutiveCalls.{consumes_then, exit, gives_after, io_exit, failure_or_known, consumes_map, stops_after}
use Rattle.claxon_subframe.proofs.RiceCodeShifts.{codes_stop, codes_then_decoded}
use Rattle.claxon_subframe.specs.SubframeFields.{method_of}
use Rattle.claxon_subframe.proofs.PartitionParameter.{escape_of, rice_parameter_of, partition_incomplete, partition_escaped, partition_rice}
use Rattle.claxon_subframe.proofs.subframe.decode_partition.Goals as goal

pub returns-in_err-read_leq_u8 : goal.returns-in_err-read_leq_u8
returns-in_err-read_leq_u8 g c = record {
  fills_buffer =
      io_exit _ (err_from_is_err_and c.from_residual.result c.from_residual.ensures.1)
      (failure_or_known _ c.in_err-read_leq_u8.ensures.is_read (λ t. partition_incomplete (method_of c.args.partition_type) _ (length c.args.buffer.now) _ c.parameter_bits-bits.ensures));
}

pub returns-then-parameter-escape : goal.returns-then-parameter-escape
returns-then-parameter-escape g c = record {
  fills_buffer =
      let escaped = escape_of c.args.partition_type c.parameter_bits-bits.result c.in_ok-read_leq_u8.field-0 c.parameter_bits-bits.ensures (omega arith) in
      gives_after _ c.decode_escape_partition.result _ (consumes_map _ c.in_ok-read_leq_u8.ensures.is_read (partition_escaped (method_of c.args.partition_type) _ (length c.args.buffer.now) _ c.parameter_bits-bits.ensures escaped)) c.decode_escape_partition.ensures.fills_buffer;
}

pub returns-in_err-read_values : goal.returns-in_err-read_values
returns-in_err-read_values g c = record {
  fills_buffer =
      let p = rice_parameter_of c.args.partition_type c.parameter_bits-bits.result c.from-parameter.result c.parameter_bits-bits.ensures (omega (arith, c.in_ok-read_leq_u8.ensures.value)) c.if-parameter-escape.false in
      let few = p.few in
      exit _ (err_from_is_err_and c.from_residual-in_err-read_values.result c.from_residual-in_err-read_values.ensures.1)
      (stops_after (consumes_map _ c.in_ok-read_leq_u8.ensures.is_read (λ e. partition_rice (method_of c.args.partition_type) _ (length c.args.buffer.now) _ c.parameter_bits-bits.ensures p.not_escape (rw c.from-parameter.ensures e)))
      (codes_stop c.from-parameter.result (length c.args.buffer.now) (grind arith)) c.in_err-read_values.ensures.are_read_by);
}

pub returns : goal.returns
returns g c = record {
  fills_buffer =
      let p = rice_parameter_of c.args.partition_type c.parameter_bits-bits.result c.from-parameter.result c.parameter_bits-bits.ensures (omega (arith, c.in_ok-read_leq_u8.ensures.value)) c.if-parameter-escape.false in
      let few = p.few in
      consumes_then _ c.in_ok-read_leq_u8.ensures.is_read c.in_ok-read_values.ensures.are_read_by (λ e f.
      partition_rice (method_of c.args.partition_type) _ (length c.args.buffer.now) _ c.parameter_bits-bits.ensures p.not_escape (rw c.from-parameter.ensures e)
      ∙ codes_then_decoded c.from-parameter.result (length c.args.buffer.now) _ (grind arith) f (search (rules, common_steps)));
}
