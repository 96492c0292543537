use Rattle.std.proofs.Common.{inl, refl}
use Rattle.std.specs.Prelude.{vec_capacity}
use Rattle.claxon_stream.specs.FrameDecoder.{decoder_position}
use Rattle.claxon_stream.proofs.Notes.{none_of}
use Rattle.claxon_c.specs.HeldBytes.{frame_bytes, frame_end}
use Rattle.claxon_c.proofs.NextFrames.{larger_told, next_shown}
use Rattle.claxon_c.proofs.StreamCalls.{next_event}
use Rattle.claxon_c.proofs.frames.next_frame.Goals as goal

pub returns-in-Some : goal.returns-in-Some
returns-in-Some c =
    let there = rw (c.in-Some.is, c.held_from-rest.ensures, c.position-position.ensures, c.known_stream-known.ensures.is_known) at c.larger_header.ensures in
    record {
      next_frame = inl (record { status_is = refl; said = c.in-Some.said; header = there.0; larger = there.1; shows = c.from_header.ensures.shows_info; frames = refl }, refl);
      larger_is_told = λ larger. inl refl;
    }

pub returns : goal.returns
returns c =
    let info = c.args.info.now in
    let at = c.args.at in
    let bytes = c.args.bytes.now in
    let is_end = c.args.is_end in
    let frames = c.args.frames.now in
    let event = c.decode_next-event.result in
    let e = rw (c.bytes_of_a_frame-window.ensures, c.end_of_a_frame-ends.ensures, c.position-position.ensures) at c.decode_next-event.ensures in
    let window = frame_bytes at (decoder_position frames.decoder) bytes in
    let ends = frame_end at (decoder_position frames.decoder) bytes is_end in
    let new = c.decode_next-event.new.self in
    let fits = rw (none_of c.larger_header.result c.in_default.not-Some, c.held_from-rest.ensures, c.position-position.ensures, c.known_stream-known.ensures.is_known) at c.larger_header.ensures in
    let next = next_event info c.known_stream-known.result c.known_stream-known.ensures.is_known at window ends (vec_capacity c.new.result) frames.decoder event new e.is_sound e.is_of_stream e.frame_is_complete e.fault_is_complete e.end_is_complete e.cut_is_complete e.read_on_is_complete e.keeps_notes e.frame_is_timely e.fault_is_timely e.waste_is_in_vain e.fault_is_charged in
    record {
      next_frame = rw (c.needed_frames.ensures, c.needed_by.ensures, c.last_frame-last.ensures, c.position-position.ensures, c.position.ensures) (next_shown info at bytes is_end c.args.capacity frames new c.args.block.now c.block_or_status.new.block c.args.error.now c.block_or_status.new.error fits event c.block_or_status.result (rw (c.is_full.ensures, c.position-position.ensures) at c.block_or_status.ensures) next);
      larger_is_told = larger_told info at bytes is_end c.args.capacity frames new c.args.block.now c.block_or_status.new.block c.args.error.now c.block_or_status.new.error fits c.block_or_status.result;
    }
