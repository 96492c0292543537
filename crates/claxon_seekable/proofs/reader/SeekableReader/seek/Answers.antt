use Rattle.std.proofs.Common.{Err, Some, subst}
use Rattle.std.proofs.lemmas.Result.{err_from_is_err_and}
use Rattle.claxon.specs.StreamInfos.{StreamInfo}
use Rattle.claxon_stream_seek.specs.Seeker.{sought_by}
use Rattle.claxon_seekable.specs.SourceFrames.{FindSays}
use Rattle.claxon_seekable.proofs.Seeks.{is_placed, seek_failed, starts_placed}
use Rattle.claxon_seekable.proofs.reader.SeekableReader.seek.Goals as goal

pub find-requires-clause-placed : goal.find-requires-clause-placed
find-requires-clause-placed g c = starts_placed c.new-seeker.result c.new-seeker.ensures.starts_right

pub returns-in_err-found-clause-is_counted : goal.returns-in_err-found-clause-is_counted
returns-in_err-found-clause-is_counted g c =
    let noted = c.note_first_frames.new.self in
    let measured = c.length.new.self in
    let error = c.in_err-found.field-0.0 in
    let sought = sought_by c.new-seeker.result in
    let new = record noted { frames = c.find.new.self } in
    let says = subst (λ (info : StreamInfo). FindSays (Some info) sought measured (Err error) c.find.new.self) c.streaminfo.ensures.value c.in_err-found.ensures.says in
    let p = err_from_is_err_and c.from_residual-in_err-found.result c.from_residual-in_err-found.ensures.1 in
    rw (p.1, p.2) (seek_failed c.args.self.now noted new measured sought c.in_ok-note_first_frames.ensures.is_counted c.in_ok-note_first_frames.ensures.keeps_stream c.in_ok-length.ensures.stay c.in_ok-length.ensures.is_counted error says)

pub go_to-requires : goal.go_to-requires
go_to-requires g c =
    let gives = rw c.in-Some.is at c.in_ok-found.ensures in
    is_placed (Some c.streaminfo.result) (sought_by c.new-seeker.result) c.find.new.self.window c.in-Some.found gives.says.2.1
