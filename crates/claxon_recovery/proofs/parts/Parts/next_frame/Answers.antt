use Rattle.std.proofs.Common.{◌∙◌, arith, inr}
use Rattle.std.proofs.lemmas.Result.{err_from_is_err_and}
use Rattle.claxon_recovery.proofs.NextFrames.{damage_more, frame_next, next_stops, none_next, too_many}
use Rattle.claxon_recovery.proofs.parts.Parts.next_frame.Goals as goal

pub returns-in_err-there-clause-err_is_excused : goal.returns-in_err-there-clause-err_is_excused
returns-in_err-there-clause-err_is_excused g c =
    let p = err_from_is_err_and c.from_residual.result c.from_residual.ensures.1 in
    rw (p.1, p.2) (next_stops c.loop.invariant.so_far c.next_part.new.self c.in_err-there.field-0.0 c.in_err-there.ensures.err_is_excused)

pub returns-in-Some-Frame-clause-is_there : goal.returns-in-Some-Frame-clause-is_there
returns-in-Some-Frame-clause-is_there g c =
    let there = rw (c.in-Some-Frame.is, c.in-Some-Frame.field-0-is) at c.in_ok-there.ensures.part_is_there in
    let counts = rw (c.in-Some-Frame.is, c.in-Some-Frame.field-0-is) at c.in_ok-there.ensures.unsearched_is_counted in
    frame_next c.loop.invariant.so_far c.next_part.new.self c.next_part.ensures.keeps_stream c.in-Some-Frame.there there.0 counts

pub returns-in-None-clause-is_there : goal.returns-in-None-clause-is_there
returns-in-None-clause-is_there g c =
    let there = rw c.in-None.is at c.in_ok-there.ensures.part_is_there in
    let counts = rw c.in-None.is at c.in_ok-there.ensures.unsearched_is_counted in
    none_next c.loop.invariant.so_far c.next_part.new.self c.next_part.ensures.keeps_stream there.0 counts

pub loop-preserved : goal.loop-preserved
loop-preserved g c =
    let there = rw (c.in-Some-Damage.is, c.in-Some-Damage.field-0-is) at c.in_ok-there.ensures.part_is_there in
    let counts = rw (c.in-Some-Damage.is, c.in-Some-Damage.field-0-is) at c.in_ok-there.ensures.unsearched_is_counted in
    record {
      so_far = damage_more c.loop.invariant.so_far c.next_part.new.self c.next_part.ensures.keeps_stream c.in-Some-Damage.field-0-0 there.0 there.1 counts;
      memory = c.next_part.ensures.memory_is_counted.granted (λ m. let k = c.in_ok-there.was in cc) ∙ c.loop.invariant.memory;
    }

pub returns-clause-err_is_excused : goal.returns-clause-err_is_excused
returns-clause-err_is_excused g c = inr (inr (too_many c.loop.invariant.so_far (omega arith)))
