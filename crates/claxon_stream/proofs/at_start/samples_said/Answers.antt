use Rattle.std.proofs.Common.{inl, inr, refl}
use Rattle.claxon_stream.proofs.at_start.samples_said.Goals as goal

pub returns-in-Ok-Some : goal.returns-in-Ok-Some
returns-in-Ok-Some c =
    let h = rw (c.in-Ok-Some.is, c.in-Ok-Some.field-0-is) at c.header_at_start.ensures.at_start in
    record { are_said = inl (c.info-info.result, rw c.info-info.ensures h.sound, rw (c.from.ensures, c.from-in-Ok-Some.ensures) refl) }

pub returns-in-Ok-None : goal.returns-in-Ok-None
returns-in-Ok-None c =
    let h = rw (c.in-Ok-None.is, c.in-Ok-None.field-0-is) at c.header_at_start.ensures.at_start in
    record { are_said = inr (λ info begins. h.complete info begins, refl) }

pub returns-in-Err : goal.returns-in-Err
returns-in-Err c =
    let h = rw c.in-Err.is at c.header_at_start.ensures.at_start in
    record { are_said = inr (λ info begins. h.complete info begins, refl) }
