use Rattle.std.proofs.Common.{refl}
use Rattle.std.specs.Prelude.{vec_capacity}
use Rattle.claxon_input.proofs.Promises.{leaves_rest}
use Rattle.claxon_frame.specs.FrameReader.{block_view, frame_stream}
use Rattle.claxon_frame.specs.StartedFrame.{started_view}
use Rattle.claxon_frame.proofs.FramePromises.{when_out_of_memory}
use Rattle.claxon_frame.proofs.FrameSteps.{stream_is_bit_depth}
use Rattle.claxon_frame.proofs.StartPromises.{nothing_consumed, rest_failure_is_err, rest_promises}
use Rattle.claxon_frame.proofs.StartedFrames.{rest_is}
use Rattle.claxon_frame.proofs.frame.FrameReader.read_rest.Goals as goal

pub returns : goal.returns
returns g c =
    let exact = c.read_rest_exact in
    let r = exact.result in
    let stream = frame_stream c.args.self.now in
    let started = started_view c.args.started in
    let p = rest_promises stream (stream_is_bit_depth c.args.self.now.stream) started r _ _ exact.ensures.gives in
    record {
      is_sound = λ header code. (p header code).is_sound;
      is_complete = λ header code. (p header code).is_complete;
      failure_is_err = rest_failure_is_err started r _ _ exact.ensures.gives;
      fault_is_sound = λ header code. (p header code).fault_is_sound;
      fault_is_complete = λ header code. (p header code).fault_is_complete;
      else_io_error = λ header code. (p header code).else_io_error;
      leaves_rest = leaves_rest block_view r _ _ _ exact.ensures.gives;
      reads_frame = λ header code s. rest_is stream started header s code;
      out_of_memory_keeps_bytes = λ m. nothing_consumed started (vec_capacity c.args.buffer) _ _ (when_out_of_memory r exact.ensures.too_small m);
      max_capacity_is_enough = when_out_of_memory r exact.ensures.max_capacity;
      keeps_capacity = exact.ensures.keeps_capacity;
      stream = refl;
      has_samples = exact.ensures.has_samples;
      is_said = exact.ensures.is_said;
      is_read = exact.ensures.gives;
    }
