use Rattle.claxon_c.specs.NextBlock.{PlanarArePut}
use Rattle.claxon_c.proofs.BlockCalls.{given, not_given}
use Rattle.claxon_c.proofs.next_block.claxon_next_block_planar.Goals as goal

pub returns-in-Ok : goal.returns-in-Ok
returns-in-Ok c =
    let n = c.next_block.new in
    let k = given PlanarArePut c.args.info.now c.args.bytes.now c.args.at.now c.args.samples.now c.args.block.now n.block c.args.error.now n.error c.in-Ok.found n.at c.put_planar.new.samples c.in-Ok.ensures.next_block c.put_planar.ensures.are_put in
    record { is_sound = k.sound; is_shown = k.shown_is; header_is_shown = k.header; are_planar = k.samples; is_complete = k.complete; too_small_iff_larger = k.too_small; fault_is_sound = k.fault; fault_is_complete = k.named; header_fault_is_complete = k.header_named; no_more_iff_eof = k.eof; else_io_error = k.io; out_of_memory_after_header = k.memory; text_is_reported = k.text; position_is_kept = k.kept; block_is_kept = k.block_kept; text_is_kept = k.text_kept }

pub returns-in-Err : goal.returns-in-Err
returns-in-Err c =
    let n = c.next_block.new in
    let k = not_given PlanarArePut c.args.info.now c.args.bytes.now c.args.at.now c.args.samples.now c.args.block.now n.block c.args.error.now n.error c.in-Err.status n.at c.in-Err.ensures.next_block in
    record { is_sound = k.sound; is_shown = k.shown_is; header_is_shown = k.header; are_planar = k.samples; is_complete = k.complete; too_small_iff_larger = k.too_small; fault_is_sound = k.fault; fault_is_complete = k.named; header_fault_is_complete = k.header_named; no_more_iff_eof = k.eof; else_io_error = k.io; out_of_memory_after_header = k.memory; text_is_reported = k.text; position_is_kept = k.kept; block_is_kept = k.block_kept; text_is_kept = k.text_kept }
