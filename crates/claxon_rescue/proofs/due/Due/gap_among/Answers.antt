use Rattle.std.proofs.Common.{◌≡◌, ◌+◌, arith, inl, inr, subst, sym, ℕ}
use Rattle.std.specs.Prelude.{◌⊎◌}
use Rattle.claxon_rescue.specs.Times.{FewBegin, frame_time}
use Rattle.claxon_rescue.proofs.due.Due.gap_among.Goals.{else-gap-gt0-via-then-gap-gt0+else-count_before-count_after, else-gap-gt0-via-else-gap-gt0}
use Rattle.claxon_rescue.proofs.due.Due.gap_among.Goals as goal

pub returns : goal.returns
returns c =
    let rules = c.args.rules.now in
    let due = c.args.self in
    let ahead = c.args.ahead.now in
    let time = frame_time rules due c.args.there.now.frame.info in
    let at = c.in_ok-gap.ensures.is_gap_before in
    let e : time ≡ due.sample + c.in_ok-gap.gap = at.1 in
    let kept : (time ≡ due.sample) ⊎ FewBegin rules due time ahead = elim c.else-gap-gt0.branch [
      | else-gap-gt0-via-then-gap-gt0+else-count_before-count_after w ↦
          let few : FewBegin rules due (due.sample + c.in_ok-gap.gap) ahead = omega (arith, w.if-count_before-count_after.false, w.count_before.ensures, w.count_after.ensures) in
          inr (subst (λ (t : ℕ). FewBegin rules due t ahead) (sym e) few)
      | else-gap-gt0-via-else-gap-gt0 w ↦ inl (omega (arith, e, w.if-gap-gt0.false))
    ] in
    record { is_gap_among = ((at.0, kept), e) }
