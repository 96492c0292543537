use Rattle.std.proofs.Common.{refl, ◌∙◌}
use Rattle.std.proofs.lemmas.Result.{err_from_is_err_and}
use Rattle.claxon_stream.proofs.Notes.{none_of}
use Rattle.claxon_seekable.specs.SourceFrames.{frames_position}
use Rattle.claxon_seekable.proofs.Tries.{answers, fails, is_nearer, starts}
use Rattle.claxon_seekable.proofs.frames.SourceFrames.next_event.Goals as goal

pub loop-event-init : goal.loop-event-init
loop-event-init g c =
    let old = c.args.self.now in
    let moved = rw c.position-position.ensures at c.move_to.ensures in
    let from = rw c.position-position.ensures at c.from_position-self.ensures in
    (starts c.args.known g.R.Read.remaining old.window (frames_position old) c.requires c.move_to.new.self c.forget_end.new.self old.decoder c.from_position-self.result moved c.forget_end.ensures from, refl)

pub returns-in_err-event : goal.returns-in_err-event
returns-in_err-event g c =
    let old = c.args.self.now in
    let now = c.loop-event.self in
    let new = c.try_next.new.self in
    let trying = c.loop-event.invariant in
    let gives = c.in_err-event.ensures in
    let p = err_from_is_err_and c.from_residual.result c.from_residual.ensures.1 in
    rw (p.1, p.2) (fails c.args.known g.R.Read.remaining old.window (frames_position old) now.window now.decoder trying.0 new.window new.decoder c.in_err-event.field-0.0 gives.0, gives.1 ∙ trying.1)

pub returns-in-Some : goal.returns-in-Some
returns-in-Some g c =
    let old = c.args.self.now in
    let now = c.loop-event.self in
    let new = c.try_next.new.self in
    let trying = c.loop-event.invariant in
    let gives = rw c.in-Some.is at c.in_ok-event.ensures in
    (answers c.args.known g.R.Read.remaining old.window (frames_position old) now.window now.decoder trying.0 new.window new.decoder c.in-Some.event gives.0, gives.1 ∙ trying.1)

pub loop-event-smaller : goal.loop-event-smaller
loop-event-smaller g c =
    let old = c.args.self.now in
    let now = c.loop-event.self in
    let new = c.try_next.new.self in
    let gives = rw (none_of c.in_ok-event.field-0 c.in_default.not-Some) at c.in_ok-event.ensures in
    is_nearer c.args.known g.R.Read.remaining old.window (frames_position old) now.window now.decoder c.loop-event.invariant.0 new.window new.decoder gives.0
