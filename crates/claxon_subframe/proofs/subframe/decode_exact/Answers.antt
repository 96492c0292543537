use Rattle.std.proofs.Common.{◌≡◌, ◌-◌, ◌∙◌, ℕ, length, map, sym, ap, arith}
use Rattle.std.proofs.lemmas.Result.{err_from_is_err_and}
use Rattle.claxon_format.specs.Subframe.{scaled}
use Rattle.claxon_format.specs.read.Subframe.{subframe_body_at}
use Rattle.claxon_input.proofs.ConsecutiveCalls.{exit, gives_same}
use Rattle.claxon_subframe.specs.Buffer.{FillsBuffer}
use Rattle.claxon_subframe.specs.SubframeFields.{subframe_view, type_number}
use Rattle.claxon_subframe.proofs.ScaledSamples.{channel_consumes, channel_stops, scaled_none}
use Rattle.claxon_subframe.proofs.SubframeTypeNumbers.{constant_is, fixed_is, lpc_is, verbatim_is}
use Rattle.claxon_subframe.proofs.subframe.decode_exact.Goals as goal
use Rattle.claxon_subframe.proofs.subframe.decode_exact.Goals.{else-wasted-gt0, in-Constant, in-Fixed, in-Lpc, in-Verbatim, then-wasted-gt0}

pub returns-in_err-decode_lpc : goal.returns-in_err-decode_lpc
returns-in_err-decode_lpc g c = record {
  fills_buffer =
      let type = c.in_ok-header.header.sf_type in
      let bit_depth = c.args.bit_depth - c.in_ok-header.header.wasted_bits_per_sample in
      let samples : FillsBuffer g.R.ReadBytes.source (subframe_body_at bit_depth (length c.args.buffer.now) (type_number type)) c.read_subframe_header.new.input c.match-header.branch' c.match-header.input c.match-header.buffer =
      elim c.match-header.branch [
        | in-Constant w ↦ rw (w.input-is, w.buffer-is, w.branch'-is) (gives_same _ w.decode_constant.result _ _ _ _ (constant_is type bit_depth (length c.args.buffer.now) w.in-Constant.is) w.decode_constant.ensures.fills_buffer)
        | in-Verbatim w ↦ rw (w.input-is, w.buffer-is, w.branch'-is) (gives_same _ w.decode_verbatim.result _ _ _ _ (verbatim_is type bit_depth (length c.args.buffer.now) w.in-Verbatim.is) w.decode_verbatim.ensures.are_read)
        | in-Fixed w ↦ rw (w.input-is, w.buffer-is, w.branch'-is) (gives_same _ w.decode_fixed.result _ _ _ _ (fixed_is type bit_depth (length c.args.buffer.now) w.in-Fixed.order (rw w.in-Fixed.is at c.in_ok-header.header.fixed) w.in-Fixed.is) w.decode_fixed.ensures.fills_buffer)
        | in-Lpc w ↦ rw (w.input-is, w.buffer-is, w.branch'-is) (gives_same _ w.decode_lpc.result _ _ _ _ (lpc_is type bit_depth (length c.args.buffer.now) w.in-Lpc.order w.in-Lpc.is) w.decode_lpc.ensures.fills_buffer)
      ] in
      exit _ (err_from_is_err_and c.from_residual-in_err-decode_lpc.result c.from_residual-in_err-decode_lpc.ensures.1)
      (channel_stops c.args.bit_depth (length c.args.buffer.now) (subframe_view type c.in_ok-header.header.wasted_bits_per_sample) (omega arith) c.in_ok-header.ensures.gives (rw c.in_err-decode_lpc.was at samples));
}

pub returns : goal.returns
returns g c = record {
  fills_buffer =
      let type = c.in_ok-header.header.sf_type in
      let bit_depth = c.args.bit_depth - c.in_ok-header.header.wasted_bits_per_sample in
      let samples : FillsBuffer g.R.ReadBytes.source (subframe_body_at bit_depth (length c.args.buffer.now) (type_number type)) c.read_subframe_header.new.input c.match-header.branch' c.match-header.input c.match-header.buffer =
      elim c.match-header.branch [
        | in-Constant w ↦ rw (w.input-is, w.buffer-is, w.branch'-is) (gives_same _ w.decode_constant.result _ _ _ _ (constant_is type bit_depth (length c.args.buffer.now) w.in-Constant.is) w.decode_constant.ensures.fills_buffer)
        | in-Verbatim w ↦ rw (w.input-is, w.buffer-is, w.branch'-is) (gives_same _ w.decode_verbatim.result _ _ _ _ (verbatim_is type bit_depth (length c.args.buffer.now) w.in-Verbatim.is) w.decode_verbatim.ensures.are_read)
        | in-Fixed w ↦ rw (w.input-is, w.buffer-is, w.branch'-is) (gives_same _ w.decode_fixed.result _ _ _ _ (fixed_is type bit_depth (length c.args.buffer.now) w.in-Fixed.order (rw w.in-Fixed.is at c.in_ok-header.header.fixed) w.in-Fixed.is) w.decode_fixed.ensures.fills_buffer)
        | in-Lpc w ↦ rw (w.input-is, w.buffer-is, w.branch'-is) (gives_same _ w.decode_lpc.result _ _ _ _ (lpc_is type bit_depth (length c.args.buffer.now) w.in-Lpc.order w.in-Lpc.is) w.decode_lpc.ensures.fills_buffer)
      ] in
      channel_consumes c.args.bit_depth (length c.args.buffer.now) (subframe_view type c.in_ok-header.header.wasted_bits_per_sample) c.match-header.buffer c.if-wasted-gt0.buffer
      (omega arith) c.requires.max_bit_depth c.in_ok-header.ensures.gives (rw c.in_ok-decode_lpc.was at samples)
      (λ fits. elim c.if-wasted-gt0.branch [
        | then-wasted-gt0 w ↦ w.buffer-is ∙ w.restore_wasted_bits.ensures
        | else-wasted-gt0 w ↦
            (let none : c.in_ok-header.header.wasted_bits_per_sample ≡ 0 = omega (arith, w.if-wasted-gt0.false) in
            w.buffer-is ∙ sym (ap (λ (z : ℕ). map (scaled z) c.match-header.buffer) none ∙ scaled_none c.match-header.buffer fits))
      ]);
}
