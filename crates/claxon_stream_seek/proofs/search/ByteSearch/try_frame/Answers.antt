use Rattle.std.specs.Prelude.{vec_capacity}
use Rattle.claxon_stream_seek.specs.Search.{IsTriedAt}
use Rattle.std.proofs.Common.{true, subst, Bool}
use Rattle.claxon_stream_seek.proofs.Passing.{answered, over}
use Rattle.claxon_stream_seek.proofs.search.ByteSearch.try_frame.Goals as goal

pub returns-then-not-is_worth_a_try-clause-is_at_byte : goal.returns-then-not-is_worth_a_try-clause-is_at_byte
returns-then-not-is_worth_a_try-clause-is_at_byte c =
    over c.args.at c.args.bytes.now c.args.is_end c.args.known c.args.self.now c.requires.inside c.args.info c.samples_of-samples.result c.samples_of-samples.ensures c.requires.there.0 c.requires.there.1
    c.is_worth_a_try.result c.is_worth_a_try.new.self c.is_worth_a_try.ensures c.if-not-is_worth_a_try.true

pub returns-clause-is_at_byte : goal.returns-clause-is_at_byte
returns-clause-is_at_byte c =
    let mid = c.is_worth_a_try.new.self in
    let worth : IsTriedAt c.samples_of-samples.result c.args.self.now true mid =
    subst (λ (b : Bool). IsTriedAt c.samples_of-samples.result c.args.self.now b mid) c.if-not-is_worth_a_try.false c.is_worth_a_try.ensures in
    answered c.args.at c.args.bytes.now c.args.is_end c.args.known c.args.self.now c.requires.inside c.args.info c.samples_of-samples.result c.samples_of-samples.ensures c.requires.there.0 c.requires.there.1
    mid worth (vec_capacity c.new.result) c.decode_next-event.new.self c.decode_next-event.result c.answer.result c.answer.new.self
    c.decode_next-event.ensures.is_sound c.decode_next-event.ensures.is_of_stream c.answer.ensures
