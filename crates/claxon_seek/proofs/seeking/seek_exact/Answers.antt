use Rattle.std.proofs.lemmas.Result.{err_from_is_err_and}
use Rattle.claxon_seek.proofs.BlockMemories.{error_counts, none_requested}
use Rattle.claxon_seek.proofs.BlockSearches.{gives_there, memory_there}
use Rattle.claxon_seek.proofs.seeking.seek_exact.Goals as goal

-- headers lead to the frame
pub returns-in-Some-2 : goal.returns-in-Some-2
returns-in-Some-2 c =
    let a = c.args in
    let there = rw (c.in_ok-found.was, c.in-Some-2.is) at c.block_there.ensures.there in
    record {
      gives = gives_there a.known a.bytes.now c.in-Some.position a.sample a.first_frame a.budget (rw c.in-Some.is at c.likely_position.ensures.at_least) c.in-Some-2.found there;
      is_decoded = there.2;
      memory_is_counted = none_requested _ (c.block_there.ensures.memory_is_counted.granted (λ m. let k = c.in_ok-found.was in cc)) (λ m. cc);
    }

pub returns-in_err-found : goal.returns-in_err-found
returns-in_err-found c =
    let a = c.args in
    let p = err_from_is_err_and c.from_residual.result c.from_residual.ensures.1 in
    let there = rw c.in_err-found.was at c.block_there.ensures.there in
    let gives = memory_there a.known a.bytes.now c.in-Some.position a.sample a.first_frame a.budget (rw c.in-Some.is at c.likely_position.ensures.at_least) c.in_err-found.field-0.0 there in
    record { memory_is_counted = rw (p.1, p.2) (error_counts c.block_there.result c.in_err-found.field-0.0 c.in_err-found.was c.block_there.ensures.memory_is_counted); gives = rw (p.1, p.2) gives; is_decoded = rw p.1 tt }
