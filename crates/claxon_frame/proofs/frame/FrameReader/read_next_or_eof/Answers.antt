use Rattle.std.proofs.Common.{[], refl}
use Rattle.claxon_format.proofs.FormatLaws.{frames_lossless, frames_unambiguous, plans_written}
use Rattle.claxon_frame.specs.DecodedFrame.{frame_answer}
use Rattle.claxon_frame.specs.FrameReader.{block_view, frame_stream}
use Rattle.claxon_frame.proofs.FrameSteps.{stream_is_bit_depth}
use Rattle.claxon_frame.proofs.FramePromises.{frame_promises, frame_eof_is_none, memory_is, when_out_of_memory}
use Rattle.claxon_frame.proofs.frame.FrameReader.read_next_or_eof.Goals as goal

pub returns : goal.returns
returns g c =
    let exact = c.read_frame_exact in
    let r = frame_answer exact.result in
    let is_bit_depth = stream_is_bit_depth c.args.self.now.stream in
    let p = frame_promises block_view _ is_bit_depth r _ _ exact.ensures.gives in
    rw c.without_info.ensures (record {
      is_sound = p.is_sound;
      is_complete = p.is_complete;
      none_is_eof = p.none_is_eof;
      eof_is_none = frame_eof_is_none block_view _ is_bit_depth r _ _ exact.ensures.gives _ exact.ensures.buffer_too_small;
      failure_is_err = p.failure_is_err;
      fault_is_sound = p.fault_is_sound;
      fault_is_complete = p.fault_is_complete;
      else_io_error = p.else_io_error;
      leaves_rest = p.leaves_rest;
      is_unambiguous = frames_unambiguous _ is_bit_depth;
      plans_write_frames = λ f header plans channels fits suits. (frames_lossless (frame_stream c.args.self.now) f header plans channels [] is_bit_depth fits suits).0;
      plans_have_bytes = λ f header plans channels fits suits. plans_written (frame_stream c.args.self.now) f header plans channels is_bit_depth fits suits;
      out_of_memory_after_header = memory_is _ _ r _ _ exact.ensures.buffer_too_small;
      max_capacity_is_enough = when_out_of_memory r exact.ensures.max_capacity;
      keeps_capacity = exact.ensures.keeps_capacity;
      stream = refl;
      has_samples = exact.ensures.has_samples;
      is_read = exact.ensures.gives;
    })
