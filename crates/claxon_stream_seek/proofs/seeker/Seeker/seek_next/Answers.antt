use Rattle.std.proofs.Common.{sym, ap, subst, ◌∙◌}
use Rattle.std.specs.Prelude.{Option, Ok}
use Rattle.claxon_stream_seek.specs.Search.{HasPassed, answer_at}
use Rattle.claxon_stream_seek.specs.Seeker.{sought_by}
use Rattle.claxon_stream_seek.specs.Sought.{SeekEventIs}
use Rattle.claxon_stream_seek.specs.declared.event.SeekEvent.{SeekEvent}
use Rattle.claxon_stream_seek.specs.declared.search.ByteSearch.{ByteSearch}
use Rattle.claxon_stream_seek.specs.declared.sought.Sought.{Sought}
use Rattle.claxon_stream_seek.proofs.seeker.Seeker.seek_next.Goals as goal

pub returns-in-Some-2-clause-is_of_stream : goal.returns-in-Some-2-clause-is_of_stream
returns-in-Some-2-clause-is_of_stream c = λ stream stands h.
    let known = c.args.known in
    let after = c.go_by_headers.new.self in
    let kept = c.go_by_headers.ensures.keeps_search in
    let stays = c.try_likely.ensures.keeps_search in
    let said : SeekEventIs known (sought_by after) stream (Ok c.in-Some-2.answer) =
    subst (λ (o : Option SeekEvent). SeekEventIs known (sought_by after) stream (answer_at c.args.at c.args.bytes.now c.args.is_end (Ok o))) c.in-Some-2.is (c.in_ok-answer.ensures.is_of_stream stream stands) in (
      subst (λ (b : ByteSearch). HasPassed known stream b) (sym (stays ∙ kept)) h,
      subst (λ (s : Sought). SeekEventIs known s stream (Ok c.in-Some-2.answer)) (sym (ap (λ (b : ByteSearch). b.sought) stays)) said,
    )
