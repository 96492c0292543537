use Rattle.std.proofs.lemmas.Result.{err_from_is_err_and}
use Rattle.claxon_recovery.specs.Budget.{unsearched_positions}
use Rattle.claxon_recovery.specs.Steps.{first_step, step_unsearched}
use Rattle.claxon_recovery.proofs.Charges.{counts_both, damage_counts, same_count}
use Rattle.claxon_recovery.proofs.PartsGiven.{damage_part, end_part, frame_part, frame_within, stops_after}
use Rattle.claxon_recovery.proofs.parts.Parts.next_part_exact.Goals as goal

pub frame-requires : goal.frame-requires
frame-requires g c = let here = rw c.in-Frame.is at c.in_ok-len.ensures.gives in frame_within g.R.ReadBytes.source c.args.self.now c.part_here.new.self here.0 c.in-Frame.len c.in-Frame.frame here.1

pub returns-in-Frame-clause-gives : goal.returns-in-Frame-clause-gives
returns-in-Frame-clause-gives g c =
    let here = rw c.in-Frame.is at c.in_ok-len.ensures.gives in
    rw c.frame.ensures.is_there (frame_part g.R.ReadBytes.source c.args.self.now c.part_here.new.self here.0 c.in-Frame.len c.in-Frame.frame here.1 c.frame.new.self c.frame.ensures.passes)

pub damage-requires : goal.damage-requires
damage-requires g c = let here = rw c.in-NoFrame.is at c.in_ok-len.ensures.gives in here.1

pub returns-in_ok-damage-in-NoFrame-clause-gives : goal.returns-in_ok-damage-in-NoFrame-clause-gives
returns-in_ok-damage-in-NoFrame-clause-gives g c =
    let here = rw c.in-NoFrame.is at c.in_ok-len.ensures.gives in
    damage_part g.R.ReadBytes.source c.args.self.now c.part_here.new.self here.0 c.damage.new.self c.in-NoFrame.cause c.part_here.ensures.keeps_stream here.2 c.in_ok-damage-in-NoFrame.field-0 c.in_ok-damage-in-NoFrame.ensures.gives

pub returns-in_err-damage-in-NoFrame-clause-gives : goal.returns-in_err-damage-in-NoFrame-clause-gives
returns-in_err-damage-in-NoFrame-clause-gives g c =
    let here = rw c.in-NoFrame.is at c.in_ok-len.ensures.gives in
    let r = c.from_residual-in_err-damage-in-NoFrame in
    let p = err_from_is_err_and r.result r.ensures.1 in
    rw (p.1, p.2) (stops_after g.R.ReadBytes.source c.args.self.now c.part_here.new.self here.0 c.damage.new.self c.in_err-damage-in-NoFrame.field-0.0 c.in_err-damage-in-NoFrame.ensures.gives)

pub returns-in-End-clause-gives : goal.returns-in-End-clause-gives
returns-in-End-clause-gives g c =
    let here = rw c.in-End.is at c.in_ok-len.ensures.gives in
    end_part g.R.ReadBytes.source c.args.self.now c.part_here.new.self here.0 here.1 here.2

pub returns-in-Frame-clause-is_counted : goal.returns-in-Frame-clause-is_counted
returns-in-Frame-clause-is_counted g c = counts_both 0 _ _ _ (rw c.in-Frame.is at c.in_ok-len.ensures.is_counted) (same_count _ _ c.frame.ensures.passes.searched)

pub returns-in_ok-damage-in-NoFrame-clause-is_counted : goal.returns-in_ok-damage-in-NoFrame-clause-is_counted
returns-in_ok-damage-in-NoFrame-clause-is_counted g c =
    damage_counts (unsearched_positions c.args.self.now.budget) (unsearched_positions c.part_here.new.self.budget) (unsearched_positions c.damage.new.self.budget) (step_unsearched (first_step c.in-NoFrame.cause) 0) c.in_ok-damage-in-NoFrame.field-0.unsearched (rw c.in-NoFrame.is at c.in_ok-len.ensures.is_counted) c.in_ok-damage-in-NoFrame.ensures.is_counted
