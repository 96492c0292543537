use Rattle.std.proofs.Common.{refl, rules}
use Rattle.std.specs.Option.{option_map}
use Rattle.std.specs.Prelude.{vec_capacity}
use Rattle.claxon.specs.DecodedFrame.{frame_answer}
use Rattle.claxon.specs.FrameReader.{frame_input, stream_with}
use Rattle.claxon.proofs.FramesInMemory.{slice_bytes, slice_frame_promises, slice_never_fails, slice_remains}
use Rattle.claxon_stream.proofs.FramesAtStart.{decoded_at_start}
use Rattle.claxon_stream.proofs.at_start.frame_at_start.Goals as goal

pub returns-clause-at_start : goal.returns-clause-at_start
returns-clause-at_start c =
    let e = rw c.frames_of-frames.ensures.stream at c.read_next_with_info_or_eof-found.ensures in
    let old = c.frames_of-frames.result in
    let new = c.read_next_with_info_or_eof-found.new.self in
    let stream = option_map stream_with c.args.known in
    let bytes = c.args.bytes.now in
    let r = c.read_next_with_info_or_eof-found.result in
    let remains = slice_remains old (frame_input old) c.args.bytes refl c.frames_of-frames.ensures.position c.frames_of-frames.ensures.inner in
    let m = slice_frame_promises stream bytes (slice_bytes old) (slice_bytes new) remains (slice_never_fails old new) (frame_answer r) e.reads_frame e.eof_is_none in
    decoded_at_start stream bytes (slice_bytes old) (frame_input new) c.saturating_sub.result remains (search rules) (vec_capacity c.args.buffer) r e.is_sound e.fault_is_sound m e.out_of_memory_after_header
