use Rattle.std.proofs.Common.{◌≡◌, List, None, arith, refl, subst, ℕ}
use Rattle.std.proofs.lemmas.Grind.{common_steps}
use Rattle.std.proofs.lemmas.List.{take_all}
use Rattle.std.specs.Io.Cursor.{cursor_inner}
use Rattle.claxon.specs.Promises.{Remains}
use Rattle.claxon.proofs.SamplesInTurn.{reads_frame}
use Rattle.claxon.proofs.FramesInMemory.{slice_frame_promises, known_as, slice_bytes, slice_remains, slice_never_fails}
use Rattle.claxon_uses.proofs.frames.decode_one.Goals as goal

pub returns : goal.returns
returns g c =
    let e = c.read_next_or_eof.ensures in
    let old = c.new-frames.result in
    let new = c.read_next_or_eof.new.self in
    let slice = cursor_inner c.new.result in
    let whole : slice.now ≡ c.args.bytes.now = grind (arith, common_steps, take_all) in
    let remains = subst (λ (z : List ℕ). Remains (slice_bytes old) z) whole (slice_remains old c.new.result slice c.new-frames.ensures.input c.new.ensures.position refl) in
    let reads = known_as {a = slice_bytes old} {b = slice_bytes new} c.new-frames.ensures.stream (reads_frame _ e.is_sound e.is_complete e.none_is_eof e.eof_is_none e.failure_is_err e.fault_is_sound e.fault_is_complete e.else_io_error e.leaves_rest e.out_of_memory_after_header e.is_read) in
    let m = slice_frame_promises None c.args.bytes.now (slice_bytes old) (slice_bytes new) remains (slice_never_fails old new) c.read_next_or_eof.result reads e.eof_is_none in
    record { is_sound = m.sound; is_complete = m.complete; none_iff_eof = m.eof; fault_is_sound = m.fault; fault_is_complete = m.named; out_of_memory_after_header = m.memory }
