use Rattle.std.proofs.Common.{refl, rules}
use Rattle.std.specs.Option.{option_map}
use Rattle.claxon.specs.FrameReader.{frame_input, stream_with}
use Rattle.claxon.proofs.SamplesInTurn.{reads_frame}
use Rattle.claxon.proofs.FramesInMemory.{slice_frame_promises, known_as, slice_bytes, slice_remains, slice_never_fails}
use Rattle.claxon_seek.proofs.AtStart.{frame_at_start}
use Rattle.claxon_seek.proofs.at_start.block_at_start.Goals as goal

pub returns : goal.returns
returns c =
    let e = c.read_next_or_eof-found.ensures in
    let old = c.frames_of-frames.result in
    let new = c.read_next_or_eof-found.new.self in
    let stream = option_map stream_with c.args.known in
    let remains = slice_remains old (frame_input old) c.args.bytes refl c.frames_of-frames.ensures.position c.frames_of-frames.ensures.inner in
    let reads = known_as {a = slice_bytes old} {b = slice_bytes new} c.frames_of-frames.ensures.stream (reads_frame _ e.is_sound e.is_complete e.none_is_eof e.eof_is_none e.failure_is_err e.fault_is_sound e.fault_is_complete e.else_io_error e.leaves_rest e.out_of_memory_after_header e.is_read) in
    let m = slice_frame_promises stream c.args.bytes.now (slice_bytes old) (slice_bytes new) remains (slice_never_fails old new) c.read_next_or_eof-found.result reads e.eof_is_none in
    record { at_start = frame_at_start c.args.bytes.now (slice_bytes old) (frame_input new) c.saturating_sub.result remains (search rules) stream c.read_next_or_eof-found.result reads.promises.is_sound m }
