use Rattle.std.proofs.Common.{◌∙◌, subst, arith}
use Rattle.claxon_seek.proofs.Searches.{rest_is}
use Rattle.claxon_recovery.specs.AtStart.{BeginsWithStreamFrame, EndsEarly, NoFrameWhateverFollows}
use Rattle.claxon_recovery.proofs.Beginnings.{shown_is_none}
use Rattle.claxon_recovery.proofs.Charges.{counts_both}
use Rattle.claxon_recovery.proofs.Positions.{ends_at_end, one_more}
use Rattle.claxon_recovery.proofs.search.next_frame.Goals as goal

pub loop-position-preserved-then-shows_no_header : goal.loop-position-preserved-then-shows_no_header
loop-position-preserved-then-shows_no_header c =
    let info = c.args.known in
    let bytes = c.args.bytes.now in
    let at = c.loop-position.position in
    record {
      none = one_more info bytes at c.loop-position.invariant.none (subst (NoFrameWhateverFollows info) (rest_is bytes at) (shown_is_none info _ (c.shows_no_header.ensures.no_header c.if-shows_no_header.true)));
      memory = c.loop-position.invariant.memory;
      counted = c.loop-position.invariant.counted;
    }

pub returns-in-Whole-clause-is_there : goal.returns-in-Whole-clause-is_there
returns-in-Whole-clause-is_there c = (
  c.loop-position.invariant.none,
  c.loop-position-test.true,
  subst (BeginsWithStreamFrame c.args.known) (rest_is c.args.bytes.now c.loop-position.position) (rw c.in-Whole.is at c.in_ok-try_frame.ensures.is_there),
)

pub loop-position-preserved : goal.loop-position-preserved
loop-position-preserved c =
    let info = c.args.known in
    let bytes = c.args.bytes.now in
    let at = c.loop-position.position in
    record {
      none = one_more info bytes at c.loop-position.invariant.none (subst (NoFrameWhateverFollows info) (rest_is bytes at) (rw c.in-NoFrame.is at c.in_ok-try_frame.ensures.is_there));
      memory = c.try_frame.ensures.memory_is_counted.granted (λ m. let k = c.in_ok-try_frame.was in cc) ∙ c.loop-position.invariant.memory;
      counted = counts_both 0 _ _ _ c.loop-position.invariant.counted (rw c.in-NoFrame.is at c.in_ok-try_frame.ensures.is_counted);
    }

pub returns-in-Cut-clause-is_there : goal.returns-in-Cut-clause-is_there
returns-in-Cut-clause-is_there c = (
  c.loop-position.invariant.none,
  omega (arith, c.loop-position-test.true),
  subst (EndsEarly c.args.known) (rest_is c.args.bytes.now c.loop-position.position) (rw c.in-Cut.is at c.in_ok-try_frame.ensures.is_there),
)

pub returns-clause-is_there : goal.returns-clause-is_there
returns-clause-is_there c = (
  λ at before. c.loop-position.invariant.none at (omega (arith, before, c.loop-position-test.false)),
  omega arith,
  ends_at_end c.args.known c.args.bytes.now,
)

pub returns-in-Whole-clause-is_counted : goal.returns-in-Whole-clause-is_counted
returns-in-Whole-clause-is_counted c = counts_both 0 _ _ _ c.loop-position.invariant.counted (rw c.in-Whole.is at c.in_ok-try_frame.ensures.is_counted)

pub returns-in-Cut-clause-is_counted : goal.returns-in-Cut-clause-is_counted
returns-in-Cut-clause-is_counted c = counts_both 0 _ _ _ c.loop-position.invariant.counted (rw c.in-Cut.is at c.in_ok-try_frame.ensures.is_counted)

pub returns-in-Unpaid-clause-is_counted : goal.returns-in-Unpaid-clause-is_counted
returns-in-Unpaid-clause-is_counted c = counts_both 1 _ _ _ c.loop-position.invariant.counted (rw c.in-Unpaid.is at c.in_ok-try_frame.ensures.is_counted)
