use Rattle.std.proofs.lemmas.Result.{err_from_is_err_and}
use Rattle.claxon_frame.specs.BlockInfo.{header_info_at}
use Rattle.claxon_frame.specs.FrameStart.{stream_format_view}
use Rattle.claxon_frame.specs.StartedFrame.{started_at, started_view}
use Rattle.claxon_input.proofs.FieldOrEof.{exit_or_eof, first_stops}
use Rattle.claxon_frame.proofs.BlockInfo.{info_consumes}
use Rattle.claxon_frame.proofs.FrameSteps.{start_consumes}
use Rattle.claxon_frame.proofs.StartedFrames.{started_stops_info}
use Rattle.claxon_frame.proofs.frame.info.read_block_info_or_eof.Goals as goal

pub returns-in_err-started-clause-is_read : goal.returns-in_err-started-clause-is_read
returns-in_err-started-clause-is_read g c =
    let stream = stream_format_view c.args.stream in
    exit_or_eof 2 (λ info. info) (header_info_at stream) (err_from_is_err_and c.from_residual.result c.from_residual.ensures.1)
    (first_stops 2 (started_at stream) (header_info_at stream) (started_stops_info stream) c.in_err-started.ensures.is_read)

pub returns-clause-is_read : goal.returns-clause-is_read
returns-clause-is_read g c =
    let stream = stream_format_view c.args.stream in
    let h = start_consumes stream (started_view c.in-Some.started) (rw c.in-Some.is at c.in_ok-started.ensures.is_read) in
    rw c.info.ensures.says (info_consumes stream h)
