use Rattle.std.proofs.Common.{Option, Some, drop, refl, rules, subst}
use Rattle.claxon.specs.StreamInfos.{StreamInfo}
use Rattle.claxon_seek.specs.Find.{WantedFrame}
use Rattle.claxon_seek.specs.SeekBlock.{HasBlock}
use Rattle.claxon_c.proofs.SeekBlockCalls.{block_given, channels_said, duration_said, ends_inside, nothing_given}
use Rattle.claxon_c.proofs.SeekCalls.{seek_not_found, seek_refused, seek_stopped}
use Rattle.claxon_c.proofs.seek.claxon_seek_block.Goals as goal

pub give-requires-clause-channels : goal.give-requires-clause-channels
give-requires-clause-channels c =
    let e = rw (c.in-Ok-Found.is, c.in-Ok-Found.field-0-is) at c.seek_block.ensures in
    channels_said c.known_stream.result c.args.bytes.now c.args.sample c.in-Ok-Found.found e.is_sound.1 e.is_decoded

pub give-requires-clause-duration : goal.give-requires-clause-duration
give-requires-clause-duration c =
    let e = rw (c.in-Ok-Found.is, c.in-Ok-Found.field-0-is) at c.seek_block.ensures in
    duration_said c.known_stream.result c.args.bytes.now c.args.sample c.in-Ok-Found.found e.is_sound.1 e.is_decoded

pub give-requires-clause-inside : goal.give-requires-clause-inside
give-requires-clause-inside c =
    let e = rw (c.in-Ok-Found.is, c.in-Ok-Found.field-0-is) at c.seek_block.ensures in
    let inside = ends_inside c.known_stream.result c.args.bytes.now c.args.sample c.in-Ok-Found.found e.is_sound.1 e.is_decoded in
    search (rules, inside)

pub returns-in-Ok-Found : goal.returns-in-Ok-Found
returns-in-Ok-Found c =
    let a = c.args in
    let bytes = a.bytes.now in
    let found = c.in-Ok-Found.found in
    let same = c.known_stream.ensures.is_known in
    let e = rw (c.in-Ok-Found.is, c.in-Ok-Found.field-0-is) at c.seek_block.ensures in
    let wanted = subst (λ (k : Option StreamInfo). WantedFrame k (Some a.sample) (drop found.frame.position bytes) found.frame.block) same e.is_sound.1 in
    let there = subst (λ (k : Option StreamInfo). HasBlock k bytes found) same e.is_decoded in
    let new = c.give.new in
    let k = block_given a.info.now bytes a.sample a.budget a.at.now a.block.now a.samples.now found e.is_sound.0 wanted there new.block new.samples c.give.result new.at c.give.ensures.is_given in
    record { is_sound = k.is_sound; is_too_large = k.is_too_large; is_complete = k.is_complete; no_more_is_none = k.no_more_is_none; none_is_no_more = k.none_is_no_more; is_seek_block_status = k.is_seek_block_status; stops_over_budget = k.stops_over_budget; no_more_fits_budget = k.no_more_fits_budget; out_of_memory_after_header = k.out_of_memory_after_header; is_kept = k.is_kept }

pub returns-in-Ok-NotFound : goal.returns-in-Ok-NotFound
returns-in-Ok-NotFound c =
    let a = c.args in
    let e = rw (c.in-Ok-NotFound.is, c.in-Ok-NotFound.field-0-is) at c.seek_block.ensures in
    let none = seek_not_found a.info.now a.bytes.now a.sample a.budget a.at.now a.block.now a.block.now c.known_stream.result c.known_stream.ensures.is_known c.in-Ok-NotFound.field-0-0 (e.not_found_is_none, e.not_found_fits_budget, e.undecided_is_first) in
    let k = nothing_given a.info.now a.bytes.now a.sample a.budget a.at.now a.block.now a.samples.now _ (λ is. absurd cc) (λ is. absurd cc) none in
    record { is_sound = k.is_sound; is_too_large = k.is_too_large; is_complete = k.is_complete; no_more_is_none = k.no_more_is_none; none_is_no_more = k.none_is_no_more; is_seek_block_status = k.is_seek_block_status; stops_over_budget = k.stops_over_budget; no_more_fits_budget = k.no_more_fits_budget; out_of_memory_after_header = k.out_of_memory_after_header; is_kept = k.is_kept }

pub returns-in-Ok-OverBudget : goal.returns-in-Ok-OverBudget
returns-in-Ok-OverBudget c =
    let a = c.args in
    let e = rw (c.in-Ok-OverBudget.is, c.in-Ok-OverBudget.field-0-is) at c.seek_block.ensures in
    let s = e.stops_over_budget c.in-Ok-OverBudget.field-0-0 refl in
    let stopped = seek_stopped a.info.now a.bytes.now a.sample a.budget a.at.now a.block.now a.block.now c.known_stream.result c.known_stream.ensures.is_known c.in-Ok-OverBudget.field-0-0 s in
    let k = nothing_given a.info.now a.bytes.now a.sample a.budget a.at.now a.block.now a.samples.now _ (λ is. absurd cc) (λ is. absurd cc) stopped in
    record { is_sound = k.is_sound; is_too_large = k.is_too_large; is_complete = k.is_complete; no_more_is_none = k.no_more_is_none; none_is_no_more = k.none_is_no_more; is_seek_block_status = k.is_seek_block_status; stops_over_budget = k.stops_over_budget; no_more_fits_budget = k.no_more_fits_budget; out_of_memory_after_header = k.out_of_memory_after_header; is_kept = k.is_kept }

pub returns-in-Err : goal.returns-in-Err
returns-in-Err c =
    let a = c.args in
    let refused = seek_refused a.info.now a.bytes.now a.sample a.budget a.at.now a.block.now a.block.now c.known_stream.result c.known_stream.ensures.is_known c.in-Err.field-0 c.in-Err.ensures.out_of_memory_after_header in
    let k = nothing_given a.info.now a.bytes.now a.sample a.budget a.at.now a.block.now a.samples.now _ (λ is. absurd cc) (λ is. absurd cc) refused in
    record { is_sound = k.is_sound; is_too_large = k.is_too_large; is_complete = k.is_complete; no_more_is_none = k.no_more_is_none; none_is_no_more = k.none_is_no_more; is_seek_block_status = k.is_seek_block_status; stops_over_budget = k.stops_over_budget; no_more_fits_budget = k.no_more_fits_budget; out_of_memory_after_header = k.out_of_memory_after_header; is_kept = k.is_kept }
