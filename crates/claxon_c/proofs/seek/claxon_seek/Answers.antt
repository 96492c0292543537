use Rattle.std.proofs.Common.{refl}
use Rattle.claxon_c.proofs.SeekCalls.{seek_found, seek_not_found, seek_refused, seek_stopped}
use Rattle.claxon_c.proofs.seek.claxon_seek.Goals as goal

pub returns-in-Ok-Found : goal.returns-in-Ok-Found
returns-in-Ok-Found c =
    let e = rw (c.in-Ok-Found.is, c.in-Ok-Found.field-0-is) at c.seek.ensures in
    let k = seek_found c.args.info.now c.args.bytes.now c.args.sample c.args.budget c.args.at.now c.args.block.now c.from_header.result c.known_stream-known.result c.known_stream-known.ensures.is_known c.in-Ok-Found.found e.is_sound c.from_header.ensures.shows_info in
    record { is_sound = k.is_sound; is_complete = k.is_complete; no_more_is_none = k.no_more_is_none; none_is_no_more = k.none_is_no_more; is_search_status = k.is_search_status; stops_over_budget = k.stops_over_budget; no_more_fits_budget = k.no_more_fits_budget; out_of_memory_after_header = k.out_of_memory_after_header; is_kept = k.is_kept }

pub returns-in-Ok-NotFound : goal.returns-in-Ok-NotFound
returns-in-Ok-NotFound c =
    let e = rw (c.in-Ok-NotFound.is, c.in-Ok-NotFound.field-0-is) at c.seek.ensures in
    let k = seek_not_found c.args.info.now c.args.bytes.now c.args.sample c.args.budget c.args.at.now c.args.block.now c.args.block.now c.known_stream-known.result c.known_stream-known.ensures.is_known c.in-Ok-NotFound.field-0-0 (e.not_found_is_none, e.not_found_fits_budget, e.undecided_is_first) in
    record { is_sound = k.is_sound; is_complete = k.is_complete; no_more_is_none = k.no_more_is_none; none_is_no_more = k.none_is_no_more; is_search_status = k.is_search_status; stops_over_budget = k.stops_over_budget; no_more_fits_budget = k.no_more_fits_budget; out_of_memory_after_header = k.out_of_memory_after_header; is_kept = k.is_kept }

pub returns-in-Ok-OverBudget : goal.returns-in-Ok-OverBudget
returns-in-Ok-OverBudget c =
    let e = rw (c.in-Ok-OverBudget.is, c.in-Ok-OverBudget.field-0-is) at c.seek.ensures in
    let s = e.stops_over_budget c.in-Ok-OverBudget.field-0-0 refl in
    let k = seek_stopped c.args.info.now c.args.bytes.now c.args.sample c.args.budget c.args.at.now c.args.block.now c.args.block.now c.known_stream-known.result c.known_stream-known.ensures.is_known c.in-Ok-OverBudget.field-0-0 s in
    record { is_sound = k.is_sound; is_complete = k.is_complete; no_more_is_none = k.no_more_is_none; none_is_no_more = k.none_is_no_more; is_search_status = k.is_search_status; stops_over_budget = k.stops_over_budget; no_more_fits_budget = k.no_more_fits_budget; out_of_memory_after_header = k.out_of_memory_after_header; is_kept = k.is_kept }

pub returns-in-Err : goal.returns-in-Err
returns-in-Err c =
    let k = seek_refused c.args.info.now c.args.bytes.now c.args.sample c.args.budget c.args.at.now c.args.block.now c.args.block.now c.known_stream-known.result c.known_stream-known.ensures.is_known c.in-Err.field-0 c.in-Err.ensures.out_of_memory_after_header in
    record { is_sound = k.is_sound; is_complete = k.is_complete; no_more_is_none = k.no_more_is_none; none_is_no_more = k.none_is_no_more; is_search_status = k.is_search_status; stops_over_budget = k.stops_over_budget; no_more_fits_budget = k.no_more_fits_budget; out_of_memory_after_header = k.out_of_memory_after_header; is_kept = k.is_kept }
