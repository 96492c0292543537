use Rattle.std.proofs.Common.{sym}
use Rattle.claxon_recovery.proofs.parts.Parts.take.Goals as goal

pub returns-then-step-clause-takes : goal.returns-then-step-clause-takes
returns-then-step-clause-takes g c = λ t unsearched h. rw (sym c.count-count.ensures, c.if-step.true) (rw c.pending.ensures at (c.with_unsearched.ensures _ _ (c.with-passed.ensures t unsearched h)))

pub returns-else-step-clause-takes : goal.returns-else-step-clause-takes
returns-else-step-clause-takes g c = λ t unsearched h. rw (sym c.count-count.ensures, c.if-step.false) (rw c.pending.ensures at (c.with-passed.ensures t unsearched h))
