use Rattle.std.specs.Prelude.{vec_capacity}
use Rattle.claxon_stream_seek.proofs.Likely.{likely_is_held, likely_of_stream}
use Rattle.claxon_stream_seek.proofs.seeker.Seeker.try_likely.Goals as goal

pub returns-clause-is_of_stream : goal.returns-clause-is_of_stream
returns-clause-is_of_stream c = λ stream stands.
    likely_of_stream c.args.at c.args.bytes.now c.args.is_end c.args.known c.args.self.now c.position-position.result c.position-position.ensures c.if-position-self.false
    (vec_capacity c.new.result) c.decode_next-event.new.self c.decode_next-event.result c.likely_answer.result
    c.decode_next-event.ensures.is_sound c.decode_next-event.ensures.is_of_stream c.likely_answer.ensures.is_answered stream stands

pub returns-clause-is_held : goal.returns-clause-is_held
returns-clause-is_held c =
    likely_is_held c.args.at c.args.bytes.now c.args.is_end c.args.known c.args.self.now c.position-position.result c.position-position.ensures c.if-position-self.false
    (vec_capacity c.new.result) c.decode_next-event.new.self c.decode_next-event.result c.likely_answer.result
    c.decode_next-event.ensures.is_sound c.likely_answer.ensures.is_answered
