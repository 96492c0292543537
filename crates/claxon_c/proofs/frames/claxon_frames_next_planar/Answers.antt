use Rattle.std.proofs.Common.{◌≡◌, inr, refl}
use Rattle.claxon_c.proofs.NextFrames.{waits_next}
use Rattle.claxon_c.proofs.frames.claxon_frames_next_planar.Goals as goal

pub returns-then-is_waiting-clause-is_answered : goal.returns-then-is_waiting-clause-is_answered
returns-then-is_waiting-clause-is_answered c fits =
    let waits = rw c.if-is_waiting.true at c.is_waiting.ensures in
    inr (inr (waits_next c.args.info.now c.args.at c.args.bytes.now c.args.is_end c.args.frames.now c.is_waiting.new.frames c.args.block.now c.args.error.now waits), refl)

pub returns-in-Ok-clause-larger_is_told : goal.returns-in-Ok-clause-larger_is_told
returns-in-Ok-clause-larger_is_told c fits larger =
    let same : c.is_waiting.new.frames ≡ c.args.frames.now = rw c.if-is_waiting.false at c.is_waiting.ensures in
    absurd ((rw same at c.in-Ok.ensures.larger_is_told) larger)

pub returns-in-Err-clause-is_answered : goal.returns-in-Err-clause-is_answered
returns-in-Err-clause-is_answered c fits =
    let same : c.is_waiting.new.frames ≡ c.args.frames.now = rw c.if-is_waiting.false at c.is_waiting.ensures in
    inr (rw same at c.in-Err.ensures.next_frame, refl)
