use Rattle.claxon_seek.specs.SeekBlock.{searched}
use Rattle.claxon_seek.proofs.BlockMemories.{searched_counts}
use Rattle.claxon_seek.proofs.FindCalls.{budget_is_spent, first_is_found, found_is_first, none_is_not_found, not_found_is_none, out_of_memory_after_header, stops_over_budget, undecided_is_first}
use Rattle.claxon_seek.proofs.find.find_frame.Goals as goal

pub returns : goal.returns
returns c =
    let a = c.args in
    let r = searched c.find.result in
    let left = c.find.new.budget in
    let g = c.find.ensures.gives in
    rw c.without_block.ensures (record {
      found_is_first = found_is_first a.known a.bytes.now a.from a.budget.now r left g;
      first_is_found = first_is_found a.known a.bytes.now a.from a.budget.now r left g;
      not_found_is_none = not_found_is_none a.known a.bytes.now a.from a.budget.now r left g;
      none_is_not_found = none_is_not_found a.known a.bytes.now a.from a.budget.now r left g;
      stops_over_budget = stops_over_budget a.known a.bytes.now a.from a.budget.now r left g;
      undecided_is_first = undecided_is_first a.known a.bytes.now a.from a.budget.now r left g;
      budget_is_spent = budget_is_spent a.known a.bytes.now a.from a.budget.now r left g;
      out_of_memory_after_header = out_of_memory_after_header a.known a.bytes.now a.from a.budget.now r left g;
      memory_is_counted = searched_counts c.find.result c.find.ensures.memory_is_counted;
    })
