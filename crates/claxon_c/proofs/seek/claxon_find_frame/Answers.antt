use Rattle.std.proofs.Common.{refl}
use Rattle.claxon_c.proofs.SeekCalls.{found, not_found, refused, stopped}
use Rattle.claxon_c.proofs.seek.claxon_find_frame.Goals as goal

pub returns-in-Found : goal.returns-in-Found
returns-in-Found c =
    let e = rw c.in-Found.is at c.in-Ok.ensures in
    let f = e.found_is_first in
    let k = found c.args.info.now c.args.bytes.now c.args.at.now c.args.budget.now c.find_frame.new.budget c.args.block.now c.from_header.result c.known_stream.result c.known_stream.ensures.is_known c.in-Found.frame (f.0, f.1, f.2, e.budget_is_spent) c.from_header.ensures.shows_info in
    record { found_is_first = k.found_is_first; first_is_found = k.first_is_found; no_more_is_none = k.no_more_is_none; none_is_no_more = k.none_is_no_more; undecided_is_first = k.undecided_is_first; is_search_status = k.is_search_status; stops_over_budget = k.stops_over_budget; budget_is_spent = k.budget_is_spent; out_of_memory_after_header = k.out_of_memory_after_header; block_is_kept = k.block_is_kept; search_is_kept = k.search_is_kept }

pub returns-in-NotFound : goal.returns-in-NotFound
returns-in-NotFound c =
    let e = rw c.in-NotFound.is at c.in-Ok.ensures in
    let u = e.undecided_is_first in
    let k = not_found c.args.info.now c.args.bytes.now c.args.at.now c.args.budget.now c.find_frame.new.budget c.args.block.now c.args.block.now c.known_stream.result c.known_stream.ensures.is_known c.in-NotFound.undecided (e.not_found_is_none, e.budget_is_spent, u.0, u.1, u.2) in
    record { found_is_first = k.found_is_first; first_is_found = k.first_is_found; no_more_is_none = k.no_more_is_none; none_is_no_more = k.none_is_no_more; undecided_is_first = k.undecided_is_first; is_search_status = k.is_search_status; stops_over_budget = k.stops_over_budget; budget_is_spent = k.budget_is_spent; out_of_memory_after_header = k.out_of_memory_after_header; block_is_kept = k.block_is_kept; search_is_kept = k.search_is_kept }

pub returns-in-OverBudget : goal.returns-in-OverBudget
returns-in-OverBudget c =
    let e = rw c.in-OverBudget.is at c.in-Ok.ensures in
    let s = e.stops_over_budget c.in-OverBudget.position refl in
    let k = stopped c.args.info.now c.args.bytes.now c.args.at.now c.args.budget.now c.find_frame.new.budget c.args.block.now c.args.block.now c.known_stream.result c.known_stream.ensures.is_known c.in-OverBudget.position (s.0, s.1, e.budget_is_spent) in
    record { found_is_first = k.found_is_first; first_is_found = k.first_is_found; no_more_is_none = k.no_more_is_none; none_is_no_more = k.none_is_no_more; undecided_is_first = k.undecided_is_first; is_search_status = k.is_search_status; stops_over_budget = k.stops_over_budget; budget_is_spent = k.budget_is_spent; out_of_memory_after_header = k.out_of_memory_after_header; block_is_kept = k.block_is_kept; search_is_kept = k.search_is_kept }

pub returns-in_default : goal.returns-in_default
returns-in_default c =
    let k = refused c.args.info.now c.args.bytes.now c.args.at.now c.args.budget.now c.find_frame.new.budget c.args.block.now c.args.block.now c.known_stream.result c.known_stream.ensures.is_known c.in_default.field-0 c.in_default.ensures.out_of_memory_after_header in
    record { found_is_first = k.found_is_first; first_is_found = k.first_is_found; no_more_is_none = k.no_more_is_none; none_is_no_more = k.none_is_no_more; undecided_is_first = k.undecided_is_first; is_search_status = k.is_search_status; stops_over_budget = k.stops_over_budget; budget_is_spent = k.budget_is_spent; out_of_memory_after_header = k.out_of_memory_after_header; block_is_kept = k.block_is_kept; search_is_kept = k.search_is_kept }
