use Rattle.std.proofs.Common.{◌≡◌, ap}
use Rattle.std.specs.Prelude.{Err, vec_capacity}
use Rattle.std.proofs.lemmas.Result.{err_from_is_err_and}
use Rattle.claxon_format.specs.read.Frame.{frame_bytes_at}
use Rattle.claxon_input.specs.declared.error.Error.{Error}
use Rattle.claxon_input.proofs.FieldOrEof.{exit_no_memory_or_eof, first_stops}
use Rattle.claxon_frame.specs.DecodedFrame.{DecodedAnswer, frame_answer}
use Rattle.claxon_frame.specs.FrameReader.{block_view}
use Rattle.claxon_frame.specs.FrameStart.{stream_format_view}
use Rattle.claxon_frame.specs.StartedFrame.{RestAnswer, started_at, started_view}
use Rattle.claxon_frame.proofs.DecodedFrames.{info_at_start}
use Rattle.claxon_frame.proofs.FrameSteps.{buffer_too_small, frame_consumes, frame_gives, start_consumes}
use Rattle.claxon_frame.proofs.StartedFrames.{start_stops_frame}
use Rattle.claxon_frame.proofs.frame.read_frame_exact.Goals as goal

-- the Err of the block's answer
err_answer : {A : Type 0} {r : DecodedAnswer A} {e : Error} → (y : Error) × (r ≡ Err y) × (y ≡ e) → (y : Error) × (frame_answer r ≡ Err y) × (y ≡ e)
err_answer p = (p.0, ap frame_answer p.1, p.2)

pub returns-in_err-started-clause-gives : goal.returns-in_err-started-clause-gives
returns-in_err-started-clause-gives g c =
    let stream = stream_format_view c.args.stream in
    let p = err_answer (err_from_is_err_and c.from_residual.result c.from_residual.ensures.1) in
    exit_no_memory_or_eof 2 block_view (frame_bytes_at stream) p (first_stops 2 (started_at stream) (frame_bytes_at stream) (start_stops_frame stream) c.in_err-started.ensures.is_read)

pub returns-in_default-clause-gives : goal.returns-in_default-clause-gives
returns-in_default-clause-gives g c = rw c.in_default.is at c.in_ok-started.ensures.is_read

pub returns-in_err-block-clause-gives : goal.returns-in_err-block-clause-gives
returns-in_err-block-clause-gives g c =
    let stream = stream_format_view c.args.stream in
    let p = err_answer (err_from_is_err_and c.from_residual-in_err-block.result c.from_residual-in_err-block.ensures.1) in
    let started = rw c.in-Some.is at c.in_ok-started.ensures.is_read in
    let r : RestAnswer = Err c.in_err-block.field-0.0 in
    rw (p.1, p.2) (frame_gives stream (started_view c.in-Some.started) started block_view r _ c.in_err-block.ensures.gives)

pub returns-in_err-block-clause-buffer_too_small : goal.returns-in_err-block-clause-buffer_too_small
returns-in_err-block-clause-buffer_too_small g c =
    let stream = stream_format_view c.args.stream in
    let p = err_answer (err_from_is_err_and c.from_residual-in_err-block.result c.from_residual-in_err-block.ensures.1) in
    let started = rw c.in-Some.is at c.in_ok-started.ensures.is_read in
    rw (p.1, p.2) (λ m. buffer_too_small stream (started_view c.in-Some.started) started (vec_capacity c.args.buffer) (c.in_err-block.ensures.too_small m))

pub returns-clause-gives : goal.returns-clause-gives
returns-clause-gives g c =
    let started = rw c.in-Some.is at c.in_ok-started.ensures.is_read in
    frame_consumes (stream_format_view c.args.stream) (started_view c.in-Some.started) started c.in_ok-block.ensures.gives

pub returns-clause-info_is_read : goal.returns-clause-info_is_read
returns-clause-info_is_read g c =
    let stream = stream_format_view c.args.stream in
    let started = rw c.in-Some.is at c.in_ok-started.ensures.is_read in
    let v = started_view c.in-Some.started in
    let whole = frame_consumes stream v started c.in_ok-block.ensures.gives in
    rw c.info-info.ensures.says (info_at_start stream v.start (start_consumes stream v started) whole)
