use Rattle.std.proofs.Common.{ℕ, List, ◌≡◌, ◌∙◌, ◌≤◌, ◌+◌, ap, drop, length, refl, sym, subst, inr, arith}
use Rattle.std.proofs.lemmas.Result.{err_from_is_err_and}
use Rattle.claxon_recovery.specs.AtStart.{EndsEarly}
use Rattle.claxon_recovery.specs.Kept.{most_kept}
use Rattle.claxon_recovery.specs.Parts.{parts_known}
use Rattle.claxon_recovery.specs.Window.{pending}
use Rattle.claxon_recovery.proofs.Charges.{counts_both}
use Rattle.claxon_recovery.proofs.Positions.{step_over_header, step_to_frame, step_up_to}
use Rattle.claxon_recovery.proofs.Reading.{fails_after}
use Rattle.claxon_recovery.proofs.Standing.{end_step, filled, long_count, long_step, past_step, same_next, stays_more}
use Rattle.claxon_recovery.proofs.parts.Parts.search.Goals as goal
use Rattle.claxon_recovery.proofs.parts.Parts.search.Goals.{then-not-is_full+else-at-len, else-not-is_full}

pub returns-in_err-is_full-clause-gives : goal.returns-in_err-is_full-clause-gives
returns-in_err-is_full-clause-gives g c =
    let p = err_from_is_err_and c.from_residual.result c.from_residual.ensures.1 in
    let failed = c.in_err-is_full.ensures.err in
    rw (p.1, p.2) (inr (record { is_io = failed.is_io; fails = fails_after c.loop-is_full.invariant.stays.reads failed.fails }))

pub returns-in-Frame-clause-gives : goal.returns-in-Frame-clause-gives
returns-in-Frame-clause-gives g c =
    let there = same_next c.known-known.ensures.known c.pending-bytes.ensures c.in-Frame.is c.in_ok-at.ensures.is_there in
    rw c.last_step.ensures (
      stays_more g.R.ReadBytes.source _ c.loop-is_full.self _ c.loop-is_full.invariant.stays c.loop-is_full.wanted _ c.in_ok-is_full.ensures.ok refl,
      omega (arith, there.1),
      λ e. absurd cc,
      λ known. step_to_frame _ _ _ c.in-Frame.at there.0 (omega (arith, there.1)) there.2,
    )

pub returns-in-OverBudget-clause-gives : goal.returns-in-OverBudget-clause-gives
returns-in-OverBudget-clause-gives g c =
    let there = same_next c.known-known.ensures.known c.pending-bytes.ensures c.in-OverBudget.is c.in_ok-at.ensures.is_there in
    rw c.passed_step.ensures (
      stays_more g.R.ReadBytes.source _ c.loop-is_full.self _ c.loop-is_full.invariant.stays c.loop-is_full.wanted _ c.in_ok-is_full.ensures.ok refl,
      omega (arith, there.1),
      λ e. omega arith,
      λ known. step_over_header _ _ _ c.in-OverBudget.at there.0 (omega (arith, there.1)) there.2,
    )

pub returns-in-Undecided-clause-gives : goal.returns-in-Undecided-clause-gives
returns-in-Undecided-clause-gives g c =
    let there = same_next c.known-known.ensures.known c.pending-bytes.ensures c.in-Undecided.is c.in_ok-at.ensures.is_there in
    let end = c.if-at-len.true ∙ ap length c.pending-bytes.ensures in
    rw c.last_step-in-Undecided.ensures (
      stays_more g.R.ReadBytes.source _ c.loop-is_full.self _ c.loop-is_full.invariant.stays c.loop-is_full.wanted _ c.in_ok-is_full.ensures.ok refl,
      there.1,
      λ e. absurd cc,
      λ known. end_step g.R.ReadBytes.source _ c.loop-is_full.self (record c.loop-is_full.self { window = c.fill.new.self; most = c.fill.ensures.most ∙ c.loop-is_full.self.most }) c.loop-is_full.invariant.stays c.loop-is_full.wanted _ c.in_ok-is_full.ensures.ok _ c.in-Undecided.at c.if-not-is_full.true end there.0 known,
    )

pub returns-in-Undecided-2-clause-gives : goal.returns-in-Undecided-2-clause-gives
returns-in-Undecided-2-clause-gives g c =
    let there = same_next c.known-known.ensures.known c.pending-bytes.ensures c.in-Undecided.is c.in_ok-at.ensures.is_there in
    let full = c.if-not-is_full-2.true in
    let few : c.in-Undecided.at + 1 ≤ length (pending c.fill.new.self) = elim c.if-not-is_full.branch [
      | then-not-is_full+else-at-len w ↦ (let size = ap length c.pending-bytes.ensures in omega (arith, w.if-at-len.false, size, there.1))
      | else-not-is_full w ↦ absurd (let other = w.if-not-is_full.false in cc)
    ] in
    rw c.searched_step.ensures (
      stays_more g.R.ReadBytes.source _ c.loop-is_full.self _ c.loop-is_full.invariant.stays c.loop-is_full.wanted _ c.in_ok-is_full.ensures.ok refl,
      few,
      λ e. omega arith,
      λ known. past_step g.R.ReadBytes.source _ c.loop-is_full.self (record c.loop-is_full.self { window = c.fill.new.self; most = c.fill.ensures.most ∙ c.loop-is_full.self.most }) c.loop-is_full.invariant.stays c.loop-is_full.wanted _ c.in_ok-is_full.ensures.ok _ c.in-Undecided.at full there.0 there.1 there.2 known,
    )

pub returns-in-Undecided-3-clause-gives : goal.returns-in-Undecided-3-clause-gives
returns-in-Undecided-3-clause-gives g c =
    let there = same_next c.known-known.ensures.known c.pending-bytes.ensures c.in-Undecided.is c.in_ok-at.ensures.is_there in
    rw c.searched_step-in-Undecided-3.ensures (
      stays_more g.R.ReadBytes.source _ c.loop-is_full.self _ c.loop-is_full.invariant.stays c.loop-is_full.wanted _ c.in_ok-is_full.ensures.ok refl,
      there.1,
      λ e. omega (arith, c.if-at-gt0.true),
      λ known. step_up_to _ _ _ c.in-Undecided.at there.0 there.1,
    )

pub returns-in-Undecided-4-clause-gives : goal.returns-in-Undecided-4-clause-gives
returns-in-Undecided-4-clause-gives g c =
    let there = same_next c.known-known.ensures.known c.pending-bytes.ensures c.in-Undecided.is c.in_ok-at.ensures.is_there in
    let full = c.if-not-is_full-2.false in
    let most = c.if-wanted-most.true ∙ c.most_kept-most.ensures.is in
    let zero : c.in-Undecided.at ≡ 0 = omega (arith, c.if-at-gt0.false) in
    rw c.passed_step-in-Undecided-4.ensures (
      stays_more g.R.ReadBytes.source _ c.loop-is_full.self _ c.loop-is_full.invariant.stays c.loop-is_full.wanted _ c.in_ok-is_full.ensures.ok refl,
      long_count g.R.ReadBytes.source _ c.loop-is_full.self (record c.loop-is_full.self { window = c.fill.new.self; most = c.fill.ensures.most ∙ c.loop-is_full.self.most }) c.loop-is_full.invariant.stays c.loop-is_full.wanted _ c.in_ok-is_full.ensures.ok (parts_known c.args.self.now) c.in-Undecided.at full most zero,
      λ e. omega arith,
      λ known. long_step g.R.ReadBytes.source _ c.loop-is_full.self (record c.loop-is_full.self { window = c.fill.new.self; most = c.fill.ensures.most ∙ c.loop-is_full.self.most }) c.loop-is_full.invariant.stays c.loop-is_full.wanted _ c.in_ok-is_full.ensures.ok _ c.in-Undecided.at full most zero there.0 there.1 there.2,
    )

pub loop-is_full-preserved : goal.loop-is_full-preserved
loop-is_full-preserved g c = record {
  stays = stays_more g.R.ReadBytes.source _ c.loop-is_full.self _ c.loop-is_full.invariant.stays c.loop-is_full.wanted _ c.in_ok-is_full.ensures.ok refl;
  memory = c.next_frame.ensures.memory_is_counted.granted (λ m. let k = c.in_ok-at.was in cc) ∙ c.loop-is_full.invariant.memory;
  same = c.loop-is_full.invariant.same;
  least = (let some = c.most_kept-most.ensures.least in omega (arith, c.min-wanted.ensures, c.loop-is_full.invariant.least, some));
  most = (let most = c.most_kept-most.ensures.is in omega (arith, c.min-wanted.ensures, most));
  counted = counts_both 0 _ _ _ c.loop-is_full.invariant.counted (rw c.in-Undecided.is at c.in_ok-at.ensures.is_counted);
}

pub fill-requires : goal.fill-requires
fill-requires g c = subst (λ (k : ℕ). c.loop-is_full.wanted ≤ k) (sym (c.loop-is_full.self.most ∙ ap most_kept c.loop-is_full.invariant.same)) c.loop-is_full.invariant.most

pub pass_long-requires : goal.pass_long-requires
pass_long-requires g c =
    let there = rw c.in-Undecided.is at c.in_ok-at.ensures.is_there in
    let zero : c.in-Undecided.at ≡ 0 = omega (arith, c.if-at-gt0.false) in
    let n = filled g.R.ReadBytes.source c.loop-is_full.wanted c.loop-is_full.self.window c.fill.new.self _ c.in_ok-is_full.ensures.ok c.if-not-is_full-2.false in
    let most = c.if-wanted-most.true ∙ c.most_kept-most.ensures.is ∙ ap most_kept (sym c.known-known.ensures.known) in
    let long = subst (λ (l : List ℕ). c.loop-is_full.wanted ≤ length l) (sym c.pending-bytes.ensures) n in
    (subst (λ (k : ℕ). EndsEarly c.known-known.result (drop k c.pending-bytes.result.now)) zero there.2, subst (λ (k : ℕ). k ≤ length c.pending-bytes.result.now) most long)

pub returns-in-Frame-clause-is_counted : goal.returns-in-Frame-clause-is_counted
returns-in-Frame-clause-is_counted g c = rw c.last_step.ensures (counts_both 0 _ _ _ c.loop-is_full.invariant.counted (rw c.in-Frame.is at c.in_ok-at.ensures.is_counted))

pub returns-in-OverBudget-clause-is_counted : goal.returns-in-OverBudget-clause-is_counted
returns-in-OverBudget-clause-is_counted g c = rw c.passed_step.ensures (counts_both 1 _ _ _ c.loop-is_full.invariant.counted (rw c.in-OverBudget.is at c.in_ok-at.ensures.is_counted))

pub returns-in-Undecided-clause-is_counted : goal.returns-in-Undecided-clause-is_counted
returns-in-Undecided-clause-is_counted g c = rw c.last_step-in-Undecided.ensures (counts_both 0 _ _ _ c.loop-is_full.invariant.counted (rw c.in-Undecided.is at c.in_ok-at.ensures.is_counted))

pub returns-in-Undecided-2-clause-is_counted : goal.returns-in-Undecided-2-clause-is_counted
returns-in-Undecided-2-clause-is_counted g c = rw c.searched_step.ensures (counts_both 0 _ _ _ c.loop-is_full.invariant.counted (rw c.in-Undecided.is at c.in_ok-at.ensures.is_counted))

pub returns-in-Undecided-3-clause-is_counted : goal.returns-in-Undecided-3-clause-is_counted
returns-in-Undecided-3-clause-is_counted g c = rw c.searched_step-in-Undecided-3.ensures (counts_both 0 _ _ _ c.loop-is_full.invariant.counted (rw c.in-Undecided.is at c.in_ok-at.ensures.is_counted))

pub returns-in-Undecided-4-clause-is_counted : goal.returns-in-Undecided-4-clause-is_counted
returns-in-Undecided-4-clause-is_counted g c = rw c.passed_step-in-Undecided-4.ensures (counts_both 1 _ _ _ (counts_both 0 _ _ _ c.loop-is_full.invariant.counted (rw c.in-Undecided.is at c.in_ok-at.ensures.is_counted)) c.pass_long.ensures.unsearched)
