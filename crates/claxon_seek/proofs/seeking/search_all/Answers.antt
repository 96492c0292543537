use Rattle.std.proofs.Common.{◌∙◌}
use Rattle.std.proofs.lemmas.Result.{err_from_is_err_and}
use Rattle.claxon_seek.proofs.BlockMemories.{error_counts, last_counts, none_requested}
use Rattle.claxon_seek.proofs.BlockSearches.{first_refused, first_will_do, gives_there, header_is_inside, memory_there, stopped_there}
use Rattle.claxon_seek.proofs.seeking.search_all.Goals as goal

pub returns-in_err-found : goal.returns-in_err-found
returns-in_err-found c =
    let a = c.args in
    let p = err_from_is_err_and c.from_residual.result c.from_residual.ensures.1 in
    let g = rw c.in_err-found.was at c.find.ensures.gives in
    record { memory_is_counted = rw (p.1, p.2) (error_counts c.find.result c.in_err-found.field-0.0 c.in_err-found.was c.find.ensures.memory_is_counted); gives = rw (p.1, p.2) (first_refused a.known a.bytes.now a.first_frame a.sample a.budget c.find.new.budget c.in_err-found.field-0.0 g); is_decoded = rw p.1 tt }

pub block_there-requires-clause-inside : goal.block_there-requires-clause-inside
block_there-requires-clause-inside c =
    let a = c.args in
    let g = rw (c.in_ok-found.was, c.in-OverBudget.is) at c.find.ensures.gives in
    header_is_inside a.known a.bytes.now c.in-OverBudget.position a.sample g.1.last g.1.header

pub returns-in_err-found-in-OverBudget : goal.returns-in_err-found-in-OverBudget
returns-in_err-found-in-OverBudget c =
    let a = c.args in
    let g = rw (c.in_ok-found.was, c.in-OverBudget.is) at c.find.ensures.gives in
    let r = c.from_residual-in_err-found-in-OverBudget in
    let p = err_from_is_err_and r.result r.ensures.1 in
    let there = rw c.in_err-found-in-OverBudget.was at c.block_there.ensures.there in
    record { memory_is_counted = rw (p.1, p.2) (last_counts _ (c.find.ensures.memory_is_counted.granted (λ m. let k = c.in_ok-found.was in cc)) (error_counts c.block_there.result c.in_err-found-in-OverBudget.field-0.0 c.in_err-found-in-OverBudget.was c.block_there.ensures.memory_is_counted)); gives = rw (p.1, p.2) (memory_there a.known a.bytes.now c.in-OverBudget.position a.sample a.first_frame a.budget g.1.after_from c.in_err-found-in-OverBudget.field-0.0 there); is_decoded = rw p.1 tt }

-- a frame begins at the header that is over budget
pub returns-in-Some : goal.returns-in-Some
returns-in-Some c =
    let a = c.args in
    let g = rw (c.in_ok-found.was, c.in-OverBudget.is) at c.find.ensures.gives in
    let there = rw (c.in_ok-found-in-OverBudget.was, c.in-Some.is) at c.block_there.ensures.there in
    record { memory_is_counted = none_requested _ (c.block_there.ensures.memory_is_counted.granted (λ m. let k = c.in_ok-found-in-OverBudget.was in cc) ∙ c.find.ensures.memory_is_counted.granted (λ m. let k = c.in_ok-found.was in cc)) (λ m. cc); gives = gives_there a.known a.bytes.now c.in-OverBudget.position a.sample a.first_frame a.budget g.1.after_from c.in-Some.found there; is_decoded = there.2 }

pub returns-in-None : goal.returns-in-None
returns-in-None c =
    let a = c.args in
    let g = rw (c.in_ok-found.was, c.in-OverBudget.is) at c.find.ensures.gives in
    let there = rw (c.in_ok-found-in-OverBudget.was, c.in-None.is) at c.block_there.ensures.there in
    record { memory_is_counted = none_requested _ (c.block_there.ensures.memory_is_counted.granted (λ m. let k = c.in_ok-found-in-OverBudget.was in cc) ∙ c.find.ensures.memory_is_counted.granted (λ m. let k = c.in_ok-found.was in cc)) (λ m. cc); gives = stopped_there a.known a.bytes.now c.in-OverBudget.position a.sample a.first_frame a.budget c.find.new.budget g there; is_decoded = tt }

-- the search came to its end
pub returns-in_default : goal.returns-in_default
returns-in_default c =
    let a = c.args in
    let g = rw c.in_ok-found.was at c.find.ensures.gives in
    record { memory_is_counted = none_requested _ (c.find.ensures.memory_is_counted.granted (λ m. let k = c.in_ok-found.was in cc)) (λ m. cc); gives = first_will_do a.known a.bytes.now a.first_frame a.sample a.budget c.find.new.budget c.in_ok-found.found c.in_default.not-OverBudget g; is_decoded = rw c.in_ok-found.was at c.find.ensures.is_decoded }
