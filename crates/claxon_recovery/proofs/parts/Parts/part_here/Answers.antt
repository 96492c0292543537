use Rattle.std.proofs.Common.{ℕ, List, ◌≤◌, ◌∙◌, ap, length, refl, sym, subst, inr, arith}
use Rattle.std.proofs.lemmas.Bool.Decides.{nat_tests}
use Rattle.std.proofs.lemmas.Result.{err_from_is_err_and}
use Rattle.claxon_recovery.specs.Kept.{most_kept}
use Rattle.claxon_recovery.specs.Parts.{parts_known}
use Rattle.claxon_recovery.specs.Window.{bytes_left, pending, window_source}
use Rattle.claxon_recovery.proofs.Charges.{counts_both, counts_cause}
use Rattle.claxon_recovery.proofs.Reading.{fails_after}
use Rattle.claxon_recovery.proofs.Standing.{cause_longer, cut_here, filled, long_here, same_answer, stays_more}
use Rattle.claxon_recovery.proofs.parts.Parts.part_here.Goals as goal

pub returns-in_err-is_full-clause-gives : goal.returns-in_err-is_full-clause-gives
returns-in_err-is_full-clause-gives g c =
    let p = err_from_is_err_and c.from_residual.result c.from_residual.ensures.1 in
    let failed = c.in_err-is_full.ensures.err in
    rw (p.1, p.2) (inr (record { is_io = failed.is_io; fails = fails_after c.loop-is_full.invariant.stays.reads failed.fails }))

pub returns-in-Found-clause-gives : goal.returns-in-Found-clause-gives
returns-in-Found-clause-gives g c = (
  stays_more g.R.ReadBytes.source _ c.loop-is_full.self _ c.loop-is_full.invariant.stays c.loop-is_full.wanted _ c.in_ok-is_full.ensures.ok refl,
  same_answer c.known-known.ensures.known c.pending-bytes.ensures c.in-Found.is c.in_ok-len.ensures.is_there,
)

pub returns-in-NoFrame-clause-gives : goal.returns-in-NoFrame-clause-gives
returns-in-NoFrame-clause-gives g c = (
  stays_more g.R.ReadBytes.source _ c.loop-is_full.self _ c.loop-is_full.invariant.stays c.loop-is_full.wanted _ c.in_ok-is_full.ensures.ok refl,
  (let some : 1 ≤ length (pending c.fill.new.self) = grind (arith, nat_tests, c.is_empty.ensures, c.if-is_empty.false, c.pending-bytes.ensures) in some),
  λ known. cause_longer (parts_known c.args.self.now) c.in-NoFrame.cause (pending c.fill.new.self) (bytes_left (g.R.ReadBytes.source (window_source c.fill.new.self))) (same_answer c.known-known.ensures.known c.pending-bytes.ensures c.in-NoFrame.is c.in_ok-len.ensures.is_there),
)

pub returns-in-Undecided-clause-gives : goal.returns-in-Undecided-clause-gives
returns-in-Undecided-clause-gives g c = (
  stays_more g.R.ReadBytes.source _ c.loop-is_full.self _ c.loop-is_full.invariant.stays c.loop-is_full.wanted _ c.in_ok-is_full.ensures.ok refl,
  (let some : 1 ≤ length (pending c.fill.new.self) = grind (arith, nat_tests, c.is_empty.ensures, c.if-is_empty.false, c.pending-bytes.ensures) in some),
  λ known. cut_here g.R.ReadBytes.source _ c.loop-is_full.self (record c.loop-is_full.self { window = c.fill.new.self; most = c.fill.ensures.most ∙ c.loop-is_full.self.most }) c.loop-is_full.invariant.stays c.loop-is_full.wanted _ c.in_ok-is_full.ensures.ok (parts_known c.args.self.now) c.if-not-is_full.true
      (same_answer c.known-known.ensures.known c.pending-bytes.ensures c.in-Undecided.is c.in_ok-len.ensures.is_there) known,
)

pub returns-in-Undecided-2-clause-gives : goal.returns-in-Undecided-2-clause-gives
returns-in-Undecided-2-clause-gives g c = (
  stays_more g.R.ReadBytes.source _ c.loop-is_full.self _ c.loop-is_full.invariant.stays c.loop-is_full.wanted _ c.in_ok-is_full.ensures.ok refl,
  (let some : 1 ≤ length (pending c.fill.new.self) = grind (arith, nat_tests, c.is_empty.ensures, c.if-is_empty.false, c.pending-bytes.ensures) in some),
  λ known. long_here g.R.ReadBytes.source _ c.loop-is_full.self (record c.loop-is_full.self { window = c.fill.new.self; most = c.fill.ensures.most ∙ c.loop-is_full.self.most }) c.loop-is_full.invariant.stays c.loop-is_full.wanted _ c.in_ok-is_full.ensures.ok (parts_known c.args.self.now) c.if-not-is_full.false (c.if-wanted-most.true ∙ c.most_kept-most.ensures.is)
      (same_answer c.known-known.ensures.known c.pending-bytes.ensures c.in-Undecided.is c.in_ok-len.ensures.is_there),
)

pub fill-requires : goal.fill-requires
fill-requires g c = subst (λ (k : ℕ). c.loop-is_full.wanted ≤ k) (sym (c.loop-is_full.self.most ∙ ap most_kept c.loop-is_full.invariant.same)) c.loop-is_full.invariant.most

pub pass_long-requires : goal.pass_long-requires
pass_long-requires g c =
    let n = filled g.R.ReadBytes.source c.loop-is_full.wanted c.loop-is_full.self.window c.fill.new.self _ c.in_ok-is_full.ensures.ok c.if-not-is_full.false in
    let most = c.if-wanted-most.true ∙ c.most_kept-most.ensures.is ∙ ap most_kept (sym c.known-known.ensures.known) in
    let long = subst (λ (l : List ℕ). c.loop-is_full.wanted ≤ length l) (sym c.pending-bytes.ensures) n in
    (rw c.in-Undecided.is at c.in_ok-len.ensures.is_there, subst (λ (k : ℕ). k ≤ length c.pending-bytes.result.now) most long)

pub returns-in-Found-clause-is_counted : goal.returns-in-Found-clause-is_counted
returns-in-Found-clause-is_counted g c = counts_both 0 _ _ _ c.loop-is_full.invariant.counted c.in_ok-len.ensures.searched

pub returns-in-NoFrame-clause-is_counted : goal.returns-in-NoFrame-clause-is_counted
returns-in-NoFrame-clause-is_counted g c = counts_cause c.known-known.result c.in-NoFrame.cause c.pending-bytes.result.now _ _ (rw c.in-NoFrame.is at c.in_ok-len.ensures.is_there) (counts_both 0 _ _ _ c.loop-is_full.invariant.counted c.in_ok-len.ensures.searched)

pub returns-in-Undecided-clause-is_counted : goal.returns-in-Undecided-clause-is_counted
returns-in-Undecided-clause-is_counted g c = counts_both 0 _ _ _ c.loop-is_full.invariant.counted c.in_ok-len.ensures.searched

pub returns-in-Undecided-2-clause-is_counted : goal.returns-in-Undecided-2-clause-is_counted
returns-in-Undecided-2-clause-is_counted g c = counts_both 1 _ _ _ (counts_both 0 _ _ _ c.loop-is_full.invariant.counted c.in_ok-len.ensures.searched) c.pass_long.ensures.unsearched

pub loop-is_full-preserved : goal.loop-is_full-preserved
loop-is_full-preserved g c = record {
  stays = stays_more g.R.ReadBytes.source _ c.loop-is_full.self _ c.loop-is_full.invariant.stays c.loop-is_full.wanted _ c.in_ok-is_full.ensures.ok refl;
  memory = c.frame_at_start.ensures.memory_is_counted.granted (λ m. let k = c.in_ok-len.was in cc) ∙ c.loop-is_full.invariant.memory;
  same = c.loop-is_full.invariant.same;
  least = (let some = c.most_kept-most.ensures.least in omega (arith, c.min-wanted.ensures, c.loop-is_full.invariant.least, some));
  most = (let most = c.most_kept-most.ensures.is in omega (arith, c.min-wanted.ensures, most));
  counted = counts_both 0 _ _ _ c.loop-is_full.invariant.counted c.in_ok-len.ensures.searched;
}
