use Rattle.claxon_recovery.proofs.Beginnings.{fault_is_none, fault_of_header, other_is_none}
use Rattle.claxon_recovery.proofs.Charges.{counts_both, granted, over_budget, rest_searched, tried_counts, tried_there}
use Rattle.claxon_recovery.proofs.search.try_frame.Goals as goal

pub returns-in-Err-Other-clause-is_there : goal.returns-in-Err-Other-clause-is_there
returns-in-Err-Other-clause-is_there c = other_is_none c.args.known c.in-Err-Other.field-0-0 c.args.bytes.now (rw c.in-Err-Other.field-0-is at c.in-Err-Other.ensures.stands)

pub returns-in-Err-Faulty-clause-is_there : goal.returns-in-Err-Faulty-clause-is_there
returns-in-Err-Faulty-clause-is_there c = fault_is_none c.args.known c.requires _ c.args.bytes.now (fault_of_header c.args.known _ c.args.bytes.now (rw c.in-Err-Faulty.field-0-is at c.in-Err-Faulty.ensures.stands))

pub returns-then-not-request-clause-is_there : goal.returns-then-not-request-clause-is_there
returns-then-not-request-clause-is_there c = (_, c.in-Ok.ensures.stands.0, (over_budget _ c.request.result _ _ c.if-not-request.true c.request.ensures.is_answered).0)

pub returns-then-not-request-clause-is_counted : goal.returns-then-not-request-clause-is_counted
returns-then-not-request-clause-is_counted c = (over_budget _ c.request.result _ _ c.if-not-request.true c.request.ensures.is_answered).1

pub returns-clause-is_there : goal.returns-clause-is_there
returns-clause-is_there c = rw c.tried_of.ensures (tried_there c.args.known c.requires c.args.bytes.now _ _ c.in_ok-rest.rest c.in-Ok.ensures.stands.0 c.in_ok-rest.ensures.stands)

pub returns-clause-is_counted : goal.returns-clause-is_counted
returns-clause-is_counted c = rw c.tried_of.ensures (tried_counts c.in_ok-rest.rest c.args.budget.now c.charged_rest.new.budget (counts_both 0 _ _ _ (granted _ c.request.result _ _ c.if-not-request.false c.request.ensures.is_answered) (rest_searched _ _ c.in_ok-rest.rest _ _ c.in_ok-rest.ensures.is_charged)))
