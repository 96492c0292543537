use Rattle.std.proofs.Common.{refl}
use Rattle.std.specs.Prelude.{Result, Ok, Err}
use Rattle.claxon.specs.Errors.{Error}
use Rattle.claxon_stream.specs.declared.event.FindEvent.{FindEvent}
use Rattle.claxon_stream.specs.declared.event.FindEvent.TheVariants.{Found, ReadOn}
use Rattle.claxon_c.proofs.StreamCalls.{find_of_held}
use Rattle.claxon_c.proofs.search.claxon_search_next.Goals as goal

pub returns-in-Ok-Found-clause-is_answered : goal.returns-in-Ok-Found-clause-is_answered
returns-in-Ok-Found-clause-is_answered c fits =
    let event : Result FindEvent Error = Ok (Found c.in-Ok-Found.position c.in-Ok-Found.frame) in
    let e = rw (c.in-Ok-Found.is, c.in-Ok-Found.field-0-is) at c.next_find.ensures in
    let next = find_of_held c.args.info.now c.known_stream.result c.known_stream.ensures.is_known c.args.at c.args.bytes.now c.args.is_end c.args.search.now.finder event c.next_find.new.finder e in
    (event, c.next_find.new.finder, next, (refl, c.needed_search.ensures, refl, c.from_header.ensures.shows_info))

pub returns-in-Ok-ReadOn-clause-is_answered : goal.returns-in-Ok-ReadOn-clause-is_answered
returns-in-Ok-ReadOn-clause-is_answered c fits =
    let event : Result FindEvent Error = Ok (ReadOn c.in-Ok-ReadOn.needed) in
    let e = rw (c.in-Ok-ReadOn.is, c.in-Ok-ReadOn.field-0-is) at c.next_find.ensures in
    let next = find_of_held c.args.info.now c.known_stream.result c.known_stream.ensures.is_known c.args.at c.args.bytes.now c.args.is_end c.args.search.now.finder event c.next_find.new.finder e in
    (event, c.next_find.new.finder, next, (refl, c.needed_search-in-Ok-ReadOn.ensures, refl, refl))

pub returns-in-Err-clause-is_answered : goal.returns-in-Err-clause-is_answered
returns-in-Err-clause-is_answered c fits =
    let event : Result FindEvent Error = Err c.in-Err.field-0 in
    let e = rw c.in-Err.is at c.next_find.ensures in
    let next = find_of_held c.args.info.now c.known_stream.result c.known_stream.ensures.is_known c.args.at c.args.bytes.now c.args.is_end c.args.search.now.finder event c.next_find.new.finder e in
    (event, c.next_find.new.finder, next, (refl, c.needed_search-in-Err.ensures, refl, refl))
