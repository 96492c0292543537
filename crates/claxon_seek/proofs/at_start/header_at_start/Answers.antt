use Rattle.std.proofs.Common.{refl, rules}
use Rattle.std.specs.Option.{option_map}
use Rattle.claxon.specs.FrameReader.{frame_input, stream_with}
use Rattle.claxon.proofs.FramesInMemory.{slice_bytes, slice_remains, slice_never_fails}
use Rattle.claxon_seek.proofs.HeadersAtStart.{header_at_start, header_is_there, never_memory}
use Rattle.claxon_seek.proofs.at_start.header_at_start.Goals as goal

pub returns : goal.returns
returns c =
    let e = rw c.frames_of-frames.ensures.stream at c.read_start_or_eof-found.ensures in
    let old = c.frames_of-frames.result in
    let new = c.read_start_or_eof-found.new.self in
    let stream = option_map stream_with c.args.known in
    let r = c.read_start_or_eof-found.result in
    let len = c.saturating_sub-len.result in
    let remains = slice_remains old (frame_input old) c.args.bytes refl c.frames_of-frames.ensures.position c.frames_of-frames.ensures.inner in
    let never = slice_never_fails old new in
    rw c.with_length.ensures (record {
      at_start = header_at_start stream c.args.bytes.now (slice_bytes old) (frame_input new) len remains never r e.never_out_of_memory e.is_sound e.is_complete e.none_is_eof e.eof_is_none e.fault_is_sound e.fault_is_complete;
      is_there = header_is_there stream c.args.bytes.now (slice_bytes old) (frame_input new) len remains never r (search rules) e.is_sound;
      never_out_of_memory = never_memory r len e.never_out_of_memory;
    })
