use Rattle.std.proofs.Common.{◌≡◌, true, false, sym, ◌∙◌}
use Rattle.claxon_verify.proofs.Tails.{ape_begins, stream_begins, tag_begins}
use Rattle.claxon_verify.proofs.trailing.BytesAfter.kind.Goals as goal

pub returns-then-is_id3v1 : goal.returns-then-is_id3v1
returns-then-is_id3v1 c = λ t tail. (tag_begins t c.args.self.first c.args.self.seen c.min.result tail.few c.min.ensures tail.first c.args.count).0 (c.is_id3v1.ensures.0 c.if-is_id3v1.true)

pub returns-then-is_ape : goal.returns-then-is_ape
returns-then-is_ape c = λ t tail. (ape_begins t c.args.self.first c.args.self.seen c.min.result tail.few c.min.ensures tail.first).0 (c.is_ape.ensures.0 c.if-is_ape.true)

pub returns-then-is_second_stream : goal.returns-then-is_second_stream
returns-then-is_second_stream c = λ t tail. (stream_begins t c.args.self.first c.args.self.seen c.min.result tail.few c.min.ensures tail.first).0 (c.is_second_stream.ensures.0 c.if-is_second_stream.true)

pub returns-else-self : goal.returns-else-self
returns-else-self c = λ t tail.
    let first = c.args.self.first in
    let seen = c.args.self.seen in (
      λ is. absurd (let e : false ≡ true = sym c.if-is_id3v1.false ∙ c.is_id3v1.ensures.1 ((tag_begins t first seen c.min.result tail.few c.min.ensures tail.first c.args.count).1 is) in cc),
      λ is. absurd (let e : false ≡ true = sym c.if-is_ape.false ∙ c.is_ape.ensures.1 ((ape_begins t first seen c.min.result tail.few c.min.ensures tail.first).1 is) in cc),
      λ is. absurd (let e : false ≡ true = sym c.if-is_second_stream.false ∙ c.is_second_stream.ensures.1 ((stream_begins t first seen c.min.result tail.few c.min.ensures tail.first).1 is) in cc),
      λ all. absurd (let e : false ≡ true = sym c.if-self.false ∙ tail.zeros.1 all in cc),
    )
