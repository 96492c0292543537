use Rattle.std.proofs.Common.{Ok, Err, refl, vec_capacity}
use Rattle.std.proofs.lemmas.Result.{err_from_is_err_and}
use Rattle.claxon_seekable.specs.Window.{has_end, held, place}
use Rattle.claxon_seekable.proofs.Tries.{complete_of, is_answer, sound_of, try_again, try_answers, try_fails, try_refused}
use Rattle.claxon_seekable.proofs.frames.SourceFrames.try_next.Goals as goal

pub returns-in_err-event : goal.returns-in_err-event
returns-in_err-event g c =
    let w = c.args.self.now.window in
    let error = c.in_err-event.field-0.0 in
    let capacity = vec_capacity c.args.buffer in
    let e = c.decode_next.new.self in
    let sound = sound_of c.args.known c.position.result (place w) c.held.result.now (held w) c.args.self.now.decoder (Err error) c.position.ensures c.held.ensures capacity c.has_end.result (has_end w) e c.has_end.ensures c.in_err-event.ensures.is_sound in
    let p = err_from_is_err_and c.from_residual.result c.from_residual.ensures.1 in
    rw (p.1, p.2) (try_refused c.args.known g.R.Read.remaining c.args.self.now.window c.args.self.now.decoder c.requires.here c.requires.right (vec_capacity c.args.buffer) c.decode_next.new.self c.in_err-event.field-0.0 sound, refl)

pub returns-in_default : goal.returns-in_default
returns-in_default g c =
    let event = c.in_ok-event.event in
    let w = c.args.self.now.window in
    let capacity = vec_capacity c.args.buffer in
    let e = c.decode_next.new.self in
    let sound = sound_of c.args.known c.position.result (place w) c.held.result.now (held w) c.args.self.now.decoder (Ok event) c.position.ensures c.held.ensures capacity c.has_end.result (has_end w) e c.has_end.ensures c.in_ok-event.ensures.is_sound in
    let complete = complete_of c.args.known c.position.result (place w) c.held.result.now (held w) c.args.self.now.decoder (Ok event) c.position.ensures c.held.ensures c.in_ok-event.ensures.frame_is_complete in
    (try_answers c.args.known g.R.Read.remaining c.args.self.now.window c.args.self.now.decoder c.requires.here c.requires.right (vec_capacity c.args.buffer) c.decode_next.new.self event sound complete (is_answer event c.in_default.not-ReadOn), refl)

pub returns-in_err-fill : goal.returns-in_err-fill
returns-in_err-fill g c =
    let sound = rw (c.in-ReadOn.is, c.held.ensures, c.position.ensures, c.has_end.ensures) at c.in_ok-event.ensures.is_sound in
    let keeps = rw (c.held.ensures, c.position.ensures, c.has_end.ensures) at c.in_ok-event.ensures.keeps_notes in
    let timely = rw (c.in-ReadOn.is, c.held.ensures, c.position.ensures, c.has_end.ensures) at c.in_ok-event.ensures.frame_is_timely in
    let p = err_from_is_err_and c.from_residual-in_err-fill.result c.from_residual-in_err-fill.ensures.1 in
    let filled = c.fill.ensures in
    rw (p.1, p.2) (
      try_fails c.args.known g.R.Read.remaining c.args.self.now.window c.args.self.now.decoder c.requires.here c.requires.right (vec_capacity c.args.buffer) c.decode_next.new.self c.in-ReadOn.needed sound keeps timely
          c.fill.new.self filled.reads_on filled.place filled.keeps_end_told c.in_err-fill.field-0.0 c.in_err-fill.ensures.is_counted,
      refl,
    )

pub returns : goal.returns
returns g c =
    let sound = rw (c.in-ReadOn.is, c.held.ensures, c.position.ensures, c.has_end.ensures) at c.in_ok-event.ensures.is_sound in
    let keeps = rw (c.held.ensures, c.position.ensures, c.has_end.ensures) at c.in_ok-event.ensures.keeps_notes in
    let timely = rw (c.in-ReadOn.is, c.held.ensures, c.position.ensures, c.has_end.ensures) at c.in_ok-event.ensures.frame_is_timely in
    let filled = c.fill.ensures in (
      try_again c.args.known g.R.Read.remaining c.args.self.now.window c.args.self.now.decoder c.requires.here c.requires.right (vec_capacity c.args.buffer) c.decode_next.new.self c.in-ReadOn.needed sound keeps timely
          c.fill.new.self filled.reads_on filled.place filled.keeps_end_told c.in_ok-fill.ensures.is_counted c.in_ok-fill.ensures.is_full,
      refl,
    )
