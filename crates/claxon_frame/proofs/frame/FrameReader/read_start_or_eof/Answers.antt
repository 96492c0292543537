use Rattle.std.proofs.Common.{refl}
use Rattle.claxon_frame.specs.FrameReader.{frame_stream}
use Rattle.claxon_frame.proofs.StartPromises.{start_eof_is_none, start_never_out_of_memory, start_promises, starts_unambiguous}
use Rattle.claxon_frame.proofs.frame.FrameReader.read_start_or_eof.Goals as goal

pub returns : goal.returns
returns g c =
    let exact = c.read_started_or_eof in
    let stream = frame_stream c.args.self.now in
    let p = start_promises stream exact.result _ _ exact.ensures.is_read in
    record {
      stream = refl;
      is_sound = p.is_sound;
      is_complete = p.is_complete;
      is_unambiguous = starts_unambiguous stream;
      none_is_eof = p.none_is_eof;
      eof_is_none = start_eof_is_none stream exact.result _ _ exact.ensures.is_read;
      failure_is_err = p.failure_is_err;
      fault_is_sound = p.fault_is_sound;
      fault_is_complete = p.fault_is_complete;
      else_io_error = p.else_io_error;
      leaves_rest = p.leaves_rest;
      never_out_of_memory = start_never_out_of_memory stream exact.result _ _ exact.ensures.is_read;
      is_read = exact.ensures.is_read;
    }
