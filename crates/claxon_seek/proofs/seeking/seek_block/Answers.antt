use Rattle.claxon_seek.specs.SeekBlock.{searched}
use Rattle.claxon_seek.proofs.FindCalls.{seek_is_complete, seek_is_sound, seek_none_is_not_found, seek_not_found_fits_budget, seek_not_found_is_none, seek_out_of_memory, seek_stops_over_budget, seek_undecided_is_first}
use Rattle.claxon_seek.proofs.seeking.seek_block.Goals as goal

pub returns : goal.returns
returns c =
    let a = c.args in
    let r = searched c.seek_exact.result in
    let g = c.seek_exact.ensures.gives in
    record {
      is_decoded = c.seek_exact.ensures.is_decoded;
      is_sound = seek_is_sound a.known a.bytes.now a.first_frame a.sample a.budget r g;
      is_complete = seek_is_complete a.known a.bytes.now a.first_frame a.sample a.budget r g;
      not_found_is_none = seek_not_found_is_none a.known a.bytes.now a.first_frame a.sample a.budget r g;
      none_is_not_found = seek_none_is_not_found a.known a.bytes.now a.first_frame a.sample a.budget r g;
      undecided_is_first = seek_undecided_is_first a.known a.bytes.now a.first_frame a.sample a.budget r g;
      not_found_fits_budget = seek_not_found_fits_budget a.known a.bytes.now a.first_frame a.sample a.budget r g;
      stops_over_budget = seek_stops_over_budget a.known a.bytes.now a.first_frame a.sample a.budget r g;
      out_of_memory_after_header = seek_out_of_memory a.known a.bytes.now a.first_frame a.sample a.budget r g;
      memory_is_counted = c.seek_exact.ensures.memory_is_counted;
    }
