use Rattle.std.proofs.Common.{None, Some, refl}
use Rattle.std.proofs.lemmas.Bool.{false≢true}
use Rattle.std.specs.Option.{option_map}
use Rattle.claxon.specs.FrameReader.{stream_with}
use Rattle.claxon_c.proofs.HeadersAtStart.{header_of_ok, no_header_of_err, not_larger_there}
use Rattle.claxon_c.proofs.frames.larger_header.Goals as goal

pub returns-then-has_larger : goal.returns-then-has_larger
returns-then-has_larger c =
    let h = rw (c.in-Ok-Some.is, c.in-Ok-Some.field-0-is) at c.header_at_start.ensures.at_start in
    (rw c.info-said.ensures h.sound, c.if-has_larger.ensures.0 refl)

pub returns-else-has_larger : goal.returns-else-has_larger
returns-else-has_larger c =
    let stream = option_map stream_with c.args.known in
    let h = rw (c.in-Ok-Some.is, c.in-Ok-Some.field-0-is) at c.header_at_start.ensures.at_start in
    not_larger_there stream c.args.bytes.now c.args.capacity (Some c.info-said.result) (rw c.info-said.ensures h.sound) (λ larger. false≢true (c.if-has_larger.ensures.1 larger))

pub returns-in-Ok-None : goal.returns-in-Ok-None
returns-in-Ok-None c =
    let stream = option_map stream_with c.args.known in
    let h = rw (c.in-Ok-None.is, c.in-Ok-None.field-0-is) at c.header_at_start.ensures.at_start in
    not_larger_there stream c.args.bytes.now c.args.capacity None (header_of_ok stream c.args.bytes.now None h) (λ x. x)

pub returns-in-Err : goal.returns-in-Err
returns-in-Err c =
    let stream = option_map stream_with c.args.known in
    let h = rw c.in-Err.is at c.header_at_start.ensures.at_start in
    not_larger_there stream c.args.bytes.now c.args.capacity None (no_header_of_err stream c.args.bytes.now c.in-Err.field-0 h) (λ x. x)
