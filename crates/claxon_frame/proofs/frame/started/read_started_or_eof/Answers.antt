use Rattle.std.proofs.Common.{rules}
use Rattle.std.specs.Prelude.{Result, Option, Ok, None, Some}
use Rattle.std.proofs.lemmas.Result.{err_from_is_err_and}
use Rattle.claxon_format.specs.read.Frame.{start_at}
use Rattle.claxon_input.specs.CrcUpdate.{update_crc16}
use Rattle.claxon_input.specs.State.{bytes_in}
use Rattle.claxon_input.specs.declared.error.Error.{Error}
use Rattle.claxon_input.proofs.FieldOrEof.{exit_or_eof, first_stops}
use Rattle.claxon_frame.specs.FrameStart.{start_view, stream_format_view}
use Rattle.claxon_frame.specs.StartedFrame.{started_at, started_view}
use Rattle.claxon_frame.specs.declared.frame.started.StartedFrame.{StartedFrame}
use Rattle.claxon_frame.proofs.CrcOverBorrow.{gives_or_eof_through}
use Rattle.claxon_frame.proofs.FrameSteps.{started_consumes}
use Rattle.claxon_frame.proofs.StartedFrames.{start_stops_started}
use Rattle.claxon_frame.proofs.frame.started.read_started_or_eof.Goals as goal

pub returns-in_err-header-clause-is_read : goal.returns-in_err-header-clause-is_read
returns-in_err-header-clause-is_read g c =
    let stream = stream_format_view c.args.stream in
    let h = exit_or_eof 2 started_view (started_at stream) (err_from_is_err_and c.from_residual.result c.from_residual.ensures.1) (first_stops 2 (start_at stream) (started_at stream) (start_stops_started stream) c.in_err-header.ensures.is_read) in
    let k = gives_or_eof_through update_crc16 g.R.ReadBytes.source c.args.input.now _ c.new-input.result c.read_frame_header_or_eof.new.input 2 started_view c.from_residual.result (started_at stream) c.new-input.ensures.source h in
    search (rules, k.0, k.1)

pub returns-in_default-clause-is_read : goal.returns-in_default-clause-is_read
returns-in_default-clause-is_read g c =
    let none : Result (Option StartedFrame) Error = Ok None in
    let k = gives_or_eof_through update_crc16 g.R.ReadBytes.source c.args.input.now _ c.new-input.result c.read_frame_header_or_eof.new.input 2 started_view none (started_at (stream_format_view c.args.stream)) c.new-input.ensures.source (rw c.in_default.is at c.in_ok-header.ensures.is_read) in
    search (rules, k.0, k.1)

pub returns-clause-is_read : goal.returns-clause-is_read
unfolding bytes_in
returns-clause-is_read g c =
    let stream = stream_format_view c.args.stream in
    let header = rw c.in-Some.is at c.in_ok-header.ensures.is_read in
    let h = started_consumes stream (start_view c.in-Some.header) _ _ c.value-crc.result _ _ c.new-input.ensures.state c.value-crc.ensures c.value-crc.type_inv header in
    let found : Result (Option StartedFrame) Error = Ok (Some (record { header = c.in-Some.header; crc = c.value-crc.result })) in
    let k = gives_or_eof_through update_crc16 g.R.ReadBytes.source c.args.input.now _ c.new-input.result c.read_frame_header_or_eof.new.input 2 started_view found (started_at stream) c.new-input.ensures.source h in
    search (rules, k.0, k.1)
