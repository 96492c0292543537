use Rattle.std.proofs.Common.{Some, Ok, arith, refl}
use Rattle.std.proofs.lemmas.Result.{err_from_is_err_and}
use Rattle.claxon.specs.FrameReader.{stream_with}
use Rattle.claxon.proofs.SamplesInTurn.{reads_frame}
use Rattle.claxon.proofs.FramesInMemory.{slice_frame_promises, known_as, slice_bytes, slice_remains, slice_left, slice_never_fails}
use Rattle.claxon_uses.proofs.Packets.{packet_failed, packet_of_more, packet_whole, packet_without}
use Rattle.claxon_uses.proofs.frames.decode_packet.Goals as goal

pub returns-in_err-block : goal.returns-in_err-block
returns-in_err-block g c =
    let e = c.in_err-block.ensures in
    let old = c.with_streaminfo-frames.result in
    let new = c.read_next_or_eof.new.self in
    let remains = slice_remains old c.new.result c.args.packet c.with_streaminfo-frames.ensures.input c.new.ensures.position c.new.ensures.inner in
    let reads = known_as {a = slice_bytes old} {b = slice_bytes new} c.with_streaminfo-frames.ensures.stream (reads_frame _ e.is_sound e.is_complete e.none_is_eof e.eof_is_none e.failure_is_err e.fault_is_sound e.fault_is_complete e.else_io_error e.leaves_rest e.out_of_memory_after_header e.is_read) in
    let m = slice_frame_promises (Some (stream_with c.args.info)) c.args.packet.now (slice_bytes old) (slice_bytes new) remains (slice_never_fails old new) _ reads e.eof_is_none in
    let p = err_from_is_err_and c.from_residual.result c.from_residual.ensures.1 in
    let k = packet_failed (Some (stream_with c.args.info)) c.args.packet.now _ m in
    rw (p.1, p.2) (record { is_sound = k.sound; is_complete = k.complete; fault_is_sound = k.refused; fault_is_complete = k.named; out_of_memory_after_header = k.memory })

pub returns-in_default : goal.returns-in_default
returns-in_default g c =
    let e = c.in_ok-block.ensures in
    let old = c.with_streaminfo-frames.result in
    let new = c.read_next_or_eof.new.self in
    let remains = slice_remains old c.new.result c.args.packet c.with_streaminfo-frames.ensures.input c.new.ensures.position c.new.ensures.inner in
    let reads = known_as {a = slice_bytes old} {b = slice_bytes new} c.with_streaminfo-frames.ensures.stream (reads_frame _ e.is_sound e.is_complete e.none_is_eof e.eof_is_none e.failure_is_err e.fault_is_sound e.fault_is_complete e.else_io_error e.leaves_rest e.out_of_memory_after_header e.is_read) in
    let m = slice_frame_promises (Some (stream_with c.args.info)) c.args.packet.now (slice_bytes old) (slice_bytes new) remains (slice_never_fails old new) (Ok c.in_ok-block.field-0) reads e.eof_is_none in
    let k = packet_without (Some (stream_with c.args.info)) c.args.packet.now _ (rw c.in_default.is at m) refl in
    record { is_sound = k.sound; is_complete = k.complete; fault_is_sound = k.refused; fault_is_complete = k.named; out_of_memory_after_header = k.memory }

pub returns-then-position-slice : goal.returns-then-position-slice
returns-then-position-slice g c =
    let old = c.with_streaminfo-frames.result in
    let new = c.read_next_or_eof.new.self in
    let remains = slice_remains old c.new.result c.args.packet c.with_streaminfo-frames.ensures.input c.new.ensures.position c.new.ensures.inner in
    let left = slice_left new c.into_inner-cursor.result _ c.position.result c.into_inner-cursor.ensures c.get_ref-slice.ensures c.position.ensures in
    let e = c.in_ok-block.ensures in
    let reads = known_as {a = slice_bytes old} {b = slice_bytes new} c.with_streaminfo-frames.ensures.stream (rw c.in-Some.is at (reads_frame _ e.is_sound e.is_complete e.none_is_eof e.eof_is_none e.failure_is_err e.fault_is_sound e.fault_is_complete e.else_io_error e.leaves_rest e.out_of_memory_after_header e.is_read)) in
    let m = slice_frame_promises (Some (stream_with c.args.info)) c.args.packet.now (slice_bytes old) (slice_bytes new) remains (slice_never_fails old new) _ reads (rw c.in-Some.is at e.eof_is_none) in
    let k = packet_of_more (Some (stream_with c.args.info)) c.args.packet.now c.in-Some.block _ c.position.result (slice_bytes old) (slice_bytes new) remains left reads m (omega (arith, c.if-position-slice.true)) _ refl in
    record { is_sound = k.sound; is_complete = k.complete; fault_is_sound = k.refused; fault_is_complete = k.named; out_of_memory_after_header = k.memory }

pub returns : goal.returns
returns g c =
    let old = c.with_streaminfo-frames.result in
    let new = c.read_next_or_eof.new.self in
    let remains = slice_remains old c.new.result c.args.packet c.with_streaminfo-frames.ensures.input c.new.ensures.position c.new.ensures.inner in
    let left = slice_left new c.into_inner-cursor.result _ c.position.result c.into_inner-cursor.ensures c.get_ref-slice.ensures c.position.ensures in
    let e = c.in_ok-block.ensures in
    let reads = known_as {a = slice_bytes old} {b = slice_bytes new} c.with_streaminfo-frames.ensures.stream (rw c.in-Some.is at (reads_frame _ e.is_sound e.is_complete e.none_is_eof e.eof_is_none e.failure_is_err e.fault_is_sound e.fault_is_complete e.else_io_error e.leaves_rest e.out_of_memory_after_header e.is_read)) in
    let m = slice_frame_promises (Some (stream_with c.args.info)) c.args.packet.now (slice_bytes old) (slice_bytes new) remains (slice_never_fails old new) _ reads (rw c.in-Some.is at e.eof_is_none) in
    let k = packet_whole (Some (stream_with c.args.info)) c.args.packet.now c.in-Some.block _ c.position.result (slice_bytes old) (slice_bytes new) remains left reads m (omega (arith, c.if-position-slice.false)) in
    record { is_sound = k.sound; is_complete = k.complete; fault_is_sound = k.refused; fault_is_complete = k.named; out_of_memory_after_header = k.memory }
