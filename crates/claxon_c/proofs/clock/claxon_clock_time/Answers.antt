use Rattle.claxon_c.proofs.clock.claxon_clock_time.Goals as goal

pub returns-in-Some-clause-is_exact : goal.returns-in-Some-clause-is_exact
returns-in-Some-clause-is_exact c = rw (c.clock-told.ensures, c.said-said.ensures, c.in-Some.is) at c.time.ensures.is_exact

pub returns-in-Some-clause-is_known : goal.returns-in-Some-clause-is_known
returns-in-Some-clause-is_known c = rw (c.clock-told.ensures, c.said-said.ensures, c.in-Some.is) at c.time.ensures.is_known

pub returns-in-Some-clause-is_in_order : goal.returns-in-Some-clause-is_in_order
returns-in-Some-clause-is_in_order c = rw (c.clock-told.ensures, c.said-said.ensures, c.in-Some.is) at c.time.ensures.is_in_order

pub returns-in-None-clause-is_known : goal.returns-in-None-clause-is_known
returns-in-None-clause-is_known c = rw (c.clock-told.ensures, c.said-said.ensures, c.in-None.is) at c.time.ensures.is_known
