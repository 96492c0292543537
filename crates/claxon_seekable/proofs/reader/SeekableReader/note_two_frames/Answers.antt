use Rattle.std.proofs.lemmas.Result.{err_from_is_err_and}
use Rattle.claxon_seekable.proofs.Counts.{note_failed}
use Rattle.claxon_seekable.proofs.reader.SeekableReader.note_two_frames.Goals as goal

pub returns-in_err-next_event-clause-is_counted : goal.returns-in_err-next_event-clause-is_counted
returns-in_err-next_event-clause-is_counted g c =
    let p = err_from_is_err_and c.from_residual.result c.from_residual.ensures.1 in
    rw (p.1, p.2) (note_failed g.R.Read.remaining c.args.self.now c.loop.self c.next_event.new.self c.loop.invariant.0 c.loop.invariant.1 c.in_err-next_event.field-0.0 c.in_err-next_event.ensures.is)
