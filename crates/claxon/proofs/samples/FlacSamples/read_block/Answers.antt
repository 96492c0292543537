use Rattle.std.proofs.Common.{◌≡◌, Ok, Err, Option, sym, ap, ◌∙◌, rules}
use Rattle.std.proofs.lemmas.Result.{err_from_is_err_and}
use Rattle.claxon_input.specs.declared.error.Error.{Error}
use Rattle.claxon_frame.specs.Block.{BlockValue}
use Rattle.claxon.proofs.SamplesInTurn.{reads_frame, reads_as}
use Rattle.claxon.proofs.samples.FlacSamples.read_block.Goals as goal

pub returns-in_err-block-clause-is_read : goal.returns-in_err-block-clause-is_read
returns-in_err-block-clause-is_read g c =
    let e = c.read_next_or_eof.ensures in
    let p = err_from_is_err_and c.from_residual.result c.from_residual.ensures.1 in
    rw p.1 (reads_as (c.in_err-block.was ∙ ap (λ (z : Error). Err z) (sym p.2)) (reads_frame _ e.is_sound e.is_complete e.none_is_eof e.eof_is_none e.failure_is_err e.fault_is_sound e.fault_is_complete e.else_io_error e.leaves_rest e.out_of_memory_after_header e.is_read))

pub returns-in-Some-clause-is_read : goal.returns-in-Some-clause-is_read
returns-in-Some-clause-is_read g c =
    let e = c.read_next_or_eof.ensures in
    reads_as (c.in_ok-block.was ∙ ap (λ (z : Option BlockValue). Ok z) c.in-Some.is) (reads_frame _ e.is_sound e.is_complete e.none_is_eof e.eof_is_none e.failure_is_err e.fault_is_sound e.fault_is_complete e.else_io_error e.leaves_rest e.out_of_memory_after_header e.is_read)

pub returns-in-None-clause-is_read : goal.returns-in-None-clause-is_read
returns-in-None-clause-is_read g c =
    let e = c.read_next_or_eof.ensures in
    reads_as (c.in_ok-block.was ∙ ap (λ (z : Option BlockValue). Ok z) c.in-None.is) (reads_frame _ e.is_sound e.is_complete e.none_is_eof e.eof_is_none e.failure_is_err e.fault_is_sound e.fault_is_complete e.else_io_error e.leaves_rest e.out_of_memory_after_header e.is_read)

pub returns-in-None-clause-none_left : goal.returns-in-None-clause-none_left
returns-in-None-clause-none_left g c = search rules

pub returns-in-Some-clause-more : goal.returns-in-Some-clause-more
returns-in-Some-clause-more g c = search rules

pub returns-in-Some-clause-left : goal.returns-in-Some-clause-left
returns-in-Some-clause-left g c = search rules

pub returns-in_err-block-clause-out_of_memory_for_larger_block : goal.returns-in_err-block-clause-out_of_memory_for_larger_block
returns-in_err-block-clause-out_of_memory_for_larger_block g c out =
    let p = err_from_is_err_and c.from_residual.result c.from_residual.ensures.1 in
    let same : c.into_buffer.result.cap ≡ c.args.self.now.block.capacity = search rules in
    rw (← same) (c.read_next_or_eof.ensures.out_of_memory_after_header (c.in_err-block.was ∙ ap (λ (z : Error). Err z) (sym p.2) ∙ rw p.1 at out))

pub returns-in_err-block-clause-max_capacity_is_enough : goal.returns-in_err-block-clause-max_capacity_is_enough
returns-in_err-block-clause-max_capacity_is_enough g c = search rules

pub returns-in-Some-clause-keeps_capacity : goal.returns-in-Some-clause-keeps_capacity
returns-in-Some-clause-keeps_capacity g c = search rules
