use Rattle.std.proofs.Common.{inl, inr, ◌*◌, ◌<◌, ◌≤◌, length, refl}
use Rattle.std.proofs.lemmas.Bool.{cases_lt, false≢true}
use Rattle.std.specs.Prelude.{Result, Ok, Err}
use Rattle.claxon.specs.Errors.{Error}
use Rattle.claxon.specs.Streams.{duration_of}
use Rattle.claxon_stream_seek.specs.declared.event.SeekEvent.{SeekEvent}
use Rattle.claxon_stream_seek.specs.declared.event.SeekEvent.TheVariants.{Found, NotFound, OverBudget, ReadOn}
use Rattle.claxon_c.proofs.StreamCalls.{next_seek}
use Rattle.claxon_c.proofs.seeker.next_sought.Goals as goal

pub returns-then-is_larger : goal.returns-then-is_larger
returns-then-is_larger c =
    let event : Result SeekEvent Error = Ok (Found c.in-Ok-Found.found) in
    let e = rw (c.in-Ok-Found.is, c.in-Ok-Found.field-0-is) at c.seek_next.ensures in
    let given = next_seek c.args.info.now c.known_stream.result c.known_stream.ensures.is_known c.args.at c.args.bytes.now c.args.is_end c.seeker-next.result event c.seek_next.new.self e.keeps_sought e.is_of_stream e.needs_more in
    let next = rw c.seeker-next.ensures at given in
    record { next_sought = (event, c.seek_next.new.self, next, (refl, c.if-is_larger.ensures.0 refl, refl, c.sought_block.ensures)) }

pub returns-else-is_larger : goal.returns-else-is_larger
returns-else-is_larger c =
    let event : Result SeekEvent Error = Ok (Found c.in-Ok-Found.found) in
    let e = rw (c.in-Ok-Found.is, c.in-Ok-Found.field-0-is) at c.seek_next.ensures in
    let given = next_seek c.args.info.now c.known_stream.result c.known_stream.ensures.is_known c.args.at c.args.bytes.now c.args.is_end c.seeker-next.result event c.seek_next.new.self e.keeps_sought e.is_of_stream e.needs_more in
    let next = rw c.seeker-next.ensures at given in
    let block = c.in-Ok-Found.found.frame.block in
    let larger : c.args.capacity < length block.channels * duration_of block.channels → ⊥ = λ p. false≢true (c.if-is_larger.ensures.1 p) in
    let fits : length block.channels * duration_of block.channels ≤ c.args.capacity = elim (cases_lt c.args.capacity (length block.channels * duration_of block.channels)) [ inl lt ↦ absurd (larger lt) | inr le ↦ le ] in
    record { next_sought = (c.in-Ok-Found.found, refl, record { next = c.seek_next.new.self; is_next = next; keeps = rw c.new-shown.ensures at c.seeker_with.ensures; fits = fits; shows = c.sought_block.ensures }) }

pub returns-in-Ok-NotFound : goal.returns-in-Ok-NotFound
returns-in-Ok-NotFound c =
    let event : Result SeekEvent Error = Ok NotFound in
    let e = rw (c.in-Ok-NotFound.is, c.in-Ok-NotFound.field-0-is) at c.seek_next.ensures in
    let given = next_seek c.args.info.now c.known_stream.result c.known_stream.ensures.is_known c.args.at c.args.bytes.now c.args.is_end c.seeker-next.result event c.seek_next.new.self e.keeps_sought e.is_of_stream e.needs_more in
    let next = rw c.seeker-next.ensures at given in
    record { next_sought = (event, c.seek_next.new.self, next, (refl, c.seeker_with-in-Ok-NotFound.ensures, refl)) }

pub returns-in-Ok-OverBudget : goal.returns-in-Ok-OverBudget
returns-in-Ok-OverBudget c =
    let event : Result SeekEvent Error = Ok OverBudget in
    let e = rw (c.in-Ok-OverBudget.is, c.in-Ok-OverBudget.field-0-is) at c.seek_next.ensures in
    let given = next_seek c.args.info.now c.known_stream.result c.known_stream.ensures.is_known c.args.at c.args.bytes.now c.args.is_end c.seeker-next.result event c.seek_next.new.self e.keeps_sought e.is_of_stream e.needs_more in
    let next = rw c.seeker-next.ensures at given in
    record { next_sought = (event, c.seek_next.new.self, next, (refl, c.seeker_with-in-Ok-OverBudget.ensures, refl)) }

pub returns-then-needed-gt-MAX_FRAME_BYTES : goal.returns-then-needed-gt-MAX_FRAME_BYTES
returns-then-needed-gt-MAX_FRAME_BYTES c =
    let event : Result SeekEvent Error = Ok (ReadOn c.in-Ok-ReadOn.needed) in
    let e = rw (c.in-Ok-ReadOn.is, c.in-Ok-ReadOn.field-0-is) at c.seek_next.ensures in
    let given = next_seek c.args.info.now c.known_stream.result c.known_stream.ensures.is_known c.args.at c.args.bytes.now c.args.is_end c.seeker-next.result event c.seek_next.new.self e.keeps_sought e.is_of_stream e.needs_more in
    let next = rw c.seeker-next.ensures at given in
    record { next_sought = (event, c.seek_next.new.self, next, (inr (c.if-needed-gt-MAX_FRAME_BYTES.true, refl, c.seeker_with-then-needed-gt-MAX_FRAME_BYTES.ensures), refl)) }

pub returns-else-needed-gt-MAX_FRAME_BYTES : goal.returns-else-needed-gt-MAX_FRAME_BYTES
returns-else-needed-gt-MAX_FRAME_BYTES c =
    let event : Result SeekEvent Error = Ok (ReadOn c.in-Ok-ReadOn.needed) in
    let e = rw (c.in-Ok-ReadOn.is, c.in-Ok-ReadOn.field-0-is) at c.seek_next.ensures in
    let given = next_seek c.args.info.now c.known_stream.result c.known_stream.ensures.is_known c.args.at c.args.bytes.now c.args.is_end c.seeker-next.result event c.seek_next.new.self e.keeps_sought e.is_of_stream e.needs_more in
    let next = rw c.seeker-next.ensures at given in
    record { next_sought = (event, c.seek_next.new.self, next, (inl (c.if-needed-gt-MAX_FRAME_BYTES.false, refl, c.seeker_with-in-Ok-ReadOn.ensures), refl)) }

pub returns-in-Err : goal.returns-in-Err
returns-in-Err c =
    let event : Result SeekEvent Error = Err c.in-Err.field-0 in
    let e = rw c.in-Err.is at c.seek_next.ensures in
    let given = next_seek c.args.info.now c.known_stream.result c.known_stream.ensures.is_known c.args.at c.args.bytes.now c.args.is_end c.seeker-next.result event c.seek_next.new.self e.keeps_sought e.is_of_stream e.needs_more in
    let next = rw c.seeker-next.ensures at given in
    record { next_sought = (event, c.seek_next.new.self, next, (refl, c.seeker_with-in-Err.ensures, refl)) }
