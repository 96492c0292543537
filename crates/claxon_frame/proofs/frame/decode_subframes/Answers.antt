use Rattle.std.proofs.Common.{◌≡◌, ◌<◌, ◌*◌, length, sym, rules, arith}
use Rattle.std.specs.Prelude.{Result, Ok, Err, List, [], ℤ}
use Rattle.std.proofs.lemmas.Result.{err_from_is_err_and}
use Rattle.claxon_format.specs.read.Frame.{subframes_at}
use Rattle.claxon_input.proofs.ByteAlignment.{gives_through, name_through}
use Rattle.claxon_frame.specs.FrameHeader.{channels_of, subframe_bit_depths}
use Rattle.claxon_frame.proofs.SubframesInBuffer.{length-subframe_bit_depths, channels_begin, channels_next, channels_err, channels_end}
use Rattle.claxon_input.specs.declared.error.Error.{Error}
use Rattle.claxon_frame.specs.Block.{chunks}
use Rattle.claxon_frame.proofs.frame.decode_subframes.Goals as goal

pub loop-ch-init : goal.loop-ch-init
loop-ch-init g c =
    let header = c.args.header.now in
    let e : length c.args.buffer.now ≡ channels_of header.channel_assignment * c.from-size.result = rw c.from-size.ensures c.requires in
    channels_begin (subframe_bit_depths header.channel_assignment header.bit_depth) _ _ c.args.buffer.now _ (length-subframe_bit_depths header.channel_assignment header.bit_depth header.min_channels header.max_channels) e

pub returns-in_err-decode : goal.returns-in_err-decode
unfolding subframes_at
returns-in_err-decode g c = record {
  are_read =
      let p = err_from_is_err_and c.from_residual.result c.from_residual.ensures.1 in
      let lt : c.loop-ch.ch < channels_of c.args.header.now.channel_assignment = omega (arith, c.channels-ch-end.ensures) in
      let s = channels_err c.bit_depth-bit_depth.result lt (sym (c.bit_depth-bit_depth.ensures.is_subframe_bit_depth c.args.header.now.max_channels lt)) c.loop-ch.invariant c.in_err-decode.ensures.is_read in
      let none : List (List ℤ) = [] in
      let r : Result (Unit {0}) Error = Err c.in_err-decode.field-0.0 in
      let e = name_through g.R.ReadBytes.source c.args.input.now _ c.new-bits.result c.decode.new.input (λ x. none) r _ c.new-bits.ensures s in
      let k = gives_through g.R.ReadBytes.source c.args.input.now _ c.new-bits.result c.decode.new.input (λ x. none) r _ c.new-bits.ensures s in
      rw (p.1, p.2, ← c.from-size.ensures) (search (rules, e, k));
}

pub loop-ch-preserved : goal.loop-ch-preserved
loop-ch-preserved g c =
    let lt : c.loop-ch.ch < channels_of c.args.header.now.channel_assignment = omega (arith, c.channels-ch-end.ensures) in
    channels_next {ws = subframe_bit_depths c.args.header.now.channel_assignment c.args.header.now.bit_depth} c.bit_depth-bit_depth.result c.decode.new.buffer lt (sym (c.bit_depth-bit_depth.ensures.is_subframe_bit_depth c.args.header.now.max_channels lt)) c.loop-ch.invariant c.decode.auto.buffer c.in_ok-decode.ensures.is_read

pub returns : goal.returns
unfolding subframes_at
returns g c = record {
  are_read =
      let s = channels_end (omega (arith, c.channels-ch-end.ensures)) c.loop-ch.invariant in
      let r : Result (Unit {0}) Error = Ok tt in
      let channels = chunks (channels_of c.args.header.now.channel_assignment) c.from-size.result c.loop-ch.buffer in
      let e = name_through g.R.ReadBytes.source c.args.input.now _ c.new-bits.result c.loop-ch.bits (λ x. channels) r _ c.new-bits.ensures s in
      let k = gives_through g.R.ReadBytes.source c.args.input.now _ c.new-bits.result c.loop-ch.bits (λ x. channels) r _ c.new-bits.ensures s in
      rw (← c.from-size.ensures) (search (rules, e, k));
}
