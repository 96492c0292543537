use Rattle.std.proofs.Common.{◌∙◌}
use Rattle.std.proofs.lemmas.Result.{err_from_is_err_and}
use Rattle.claxon_stream_seek.specs.Seeker.{sought_by}
use Rattle.claxon_seekable.proofs.Seeks.{find_found, find_refused}
use Rattle.claxon_seekable.proofs.frames.SourceFrames.find.Goals as goal

pub returns-in_err-answer : goal.returns-in_err-answer
returns-in_err-answer g c =
    let i = c.loop-answer.invariant in
    let found = rw (c.held.ensures, c.position.ensures) at ((c.in_err-answer.ensures.finds_held i.4).1) in
    let p = err_from_is_err_and c.from_residual.result c.from_residual.ensures.1 in
    rw (p.1, p.2) (find_refused c.args.known (sought_by c.loop-answer.seeker) (sought_by c.args.seeker) c.args.self.now _ i.0 i.1 (c.in_err-answer.ensures.is_counted.1 ∙ i.2.1) c.in_err-answer.field-0.0 found)

pub returns-in-Found : goal.returns-in-Found
returns-in-Found g c =
    let i = c.loop-answer.invariant in
    let finds = rw c.in-Found.is at c.in_ok-answer.ensures.finds_held in
    let found = rw (c.held.ensures, c.position.ensures) at ((finds i.4).1) in
    let counts = rw c.in-Found.is at c.in_ok-answer.ensures.is_counted in
    find_found c.args.known (sought_by c.loop-answer.seeker) (sought_by c.args.seeker) c.args.self.now _ i.0 i.1 (counts.1 ∙ i.2.1) i.3 c.in-Found.found found
