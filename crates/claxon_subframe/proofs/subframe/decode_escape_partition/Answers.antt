use Rattle.std.proofs.Common.{◌≡◌, ◌≢◌, pos, length, replicate, refl, rules, arith}
use Rattle.claxon_input.proofs.ConsecutiveCalls.{gives_after, consumes_map}
use Rattle.claxon_format.specs.read.Residual.{escaped_partition_at}
use Rattle.claxon_subframe.proofs.EscapedPartitions.{escaped_zero_bits, escaped_some_bits}
use Rattle.claxon_subframe.proofs.subframe.decode_escape_partition.Goals as goal

pub returns-then-width-eq0 : goal.returns-then-width-eq0
unfolding escaped_partition_at
returns-then-width-eq0 g c = record {
  fills_buffer =
      let filled : c.fill.new.self ≡ replicate (length c.args.buffer.now) (pos 0) = search rules in
      let none : c.in_ok-read_leq_u8.field-0 ≡ 0 = omega arith in
      consumes_map _ c.in_ok-read_leq_u8.ensures.is_read (λ p. rw (p, none, filled) (escaped_zero_bits (length c.args.buffer.now) _));
}

pub returns : goal.returns
unfolding escaped_partition_at
returns g c = record {
  fills_buffer =
      let some : c.in_ok-read_leq_u8.field-0 ≢ 0 = (λ e. absurd (omega arith)) in
      let same : c.from-width.result ≡ c.in_ok-read_leq_u8.field-0 = omega arith in
      gives_after _ c.decode_verbatim.result _ (consumes_map _ c.in_ok-read_leq_u8.ensures.is_read (λ p. rw (p, escaped_some_bits _ some) refl)) (rw same at c.decode_verbatim.ensures.are_read);
}
