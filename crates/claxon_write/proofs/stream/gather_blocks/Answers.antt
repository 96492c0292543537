use Rattle.std.proofs.Common.{◌≤◌, ◌+◌, ◌^◌, Ok, Option, refl, ap, ◌∙◌, arith, rules, vec_capacity}
use Rattle.std.proofs.lemmas.Result.{err_from_is_err_and}
use Rattle.claxon.specs.Block.{BlockValue}
use Rattle.claxon.specs.FrameReader.{frame_bytes}
use Rattle.claxon.proofs.SamplesInTurn.{reads_frame}
use Rattle.claxon.proofs.Loans.{reads_loans}
use Rattle.claxon_write.proofs.Gathering.{gathered_memory, reads_with, gathered_none, gathered_as, gathered_more, gathered_end, gathered_fault, gathered_limit, gathered_fails}
use Rattle.claxon_write.proofs.stream.gather_blocks.Goals as goal

pub loop-block-init : goal.loop-block-init
loop-block-init g c = record { reference = refl; unflushed = refl; stream = refl; loans = refl; so_far = gathered_none (vec_capacity c.new-buffer.result) (frame_bytes g.R.ReadBytes.source c.args.frames.now) c.args.output.now }

pub loop-block-preserved : goal.loop-block-preserved
loop-block-preserved g c =
    let e = c.read_next_or_eof.ensures in
    let v = c.loop-block.invariant in
    let reads = reads_with v.stream (c.in-Ok-Some.is ∙ ap (λ (z : Option BlockValue). Ok z) c.in-Ok-Some.field-0-is) (reads_frame _ e.is_sound e.is_complete e.none_is_eof e.eof_is_none e.failure_is_err e.fault_is_sound e.fault_is_complete e.else_io_error e.leaves_rest e.out_of_memory_after_header e.is_read) in
    let kept = rw (c.in-Ok-Some.is ∙ ap (λ (z : Option BlockValue). Ok z) c.in-Ok-Some.field-0-is) at e.keeps_capacity in
    record {
      reference = c.in_ok-put_block.ensures.same_writer ∙ v.reference;
      unflushed = c.in_ok-put_block.ensures.is_unflushed ∙ v.unflushed;
      stream = e.stream ∙ v.stream;
      loans = reads_loans reads ∙ v.loans;
      so_far = gathered_as {n = c.loop-block.count + c.len.result} (omega (arith, c.from.ensures, c.in-Some.ensures)) (gathered_more c.in-Ok-Some.block c.len.ensures v.so_far reads c.in_ok-put_block.ensures.is_sound (rw c.into_buffer-buffer.ensures.capacity kept));
    }

pub returns-in-Ok-None-clause-is_sound : goal.returns-in-Ok-None-clause-is_sound
returns-in-Ok-None-clause-is_sound g c =
    let e = c.read_next_or_eof.ensures in
    let v = c.loop-block.invariant in
    gathered_end v.so_far (reads_with v.stream (c.in-Ok-None.is ∙ ap (λ (z : Option BlockValue). Ok z) c.in-Ok-None.field-0-is) (reads_frame _ e.is_sound e.is_complete e.none_is_eof e.eof_is_none e.failure_is_err e.fault_is_sound e.fault_is_complete e.else_io_error e.leaves_rest e.out_of_memory_after_header e.is_read))

pub returns-in-Err-clause-is_sound : goal.returns-in-Err-clause-is_sound
returns-in-Err-clause-is_sound g c =
    let e = c.read_next_or_eof.ensures in
    let v = c.loop-block.invariant in
    let k = gathered_fault v.so_far (reads_with v.stream c.in-Err.is (reads_frame _ e.is_sound e.is_complete e.none_is_eof e.eof_is_none e.failure_is_err e.fault_is_sound e.fault_is_complete e.else_io_error e.leaves_rest e.out_of_memory_after_header e.is_read)) in
    search rules

pub returns-in-Err-clause-out_of_memory_for_larger_block : goal.returns-in-Err-clause-out_of_memory_for_larger_block
returns-in-Err-clause-out_of_memory_for_larger_block g c =
    let v = c.loop-block.invariant in
    λ out. gathered_memory v.stream c.read_next_or_eof.ensures.out_of_memory_after_header c.in-Err.is v.so_far out

pub returns-in-Err-clause-fault_is_sound : goal.returns-in-Err-clause-fault_is_sound
returns-in-Err-clause-fault_is_sound g c = search rules

pub returns-in_default-clause-is_sound : goal.returns-in_default-clause-is_sound
returns-in_default-clause-is_sound g c =
    let e = c.read_next_or_eof.ensures in
    let v = c.loop-block.invariant in
    let reads = reads_with v.stream (c.in-Ok-Some.is ∙ ap (λ (z : Option BlockValue). Ok z) c.in-Ok-Some.field-0-is) (reads_frame _ e.is_sound e.is_complete e.none_is_eof e.eof_is_none e.failure_is_err e.fault_is_sound e.fault_is_complete e.else_io_error e.leaves_rest e.out_of_memory_after_header e.is_read) in
    let many : 2 ^ 64 ≤ c.loop-block.count + c.len.result = omega (arith, c.from.ensures, c.in_default.ensures) in
    gathered_limit c.in-Ok-Some.block refl c.len.ensures many v.so_far reads

pub returns-in_err-put_block-clause-fault_is_sound : goal.returns-in_err-put_block-clause-fault_is_sound
returns-in_err-put_block-clause-fault_is_sound g c =
    let e = c.read_next_or_eof.ensures in
    let v = c.loop-block.invariant in
    let reads = reads_with v.stream (c.in-Ok-Some.is ∙ ap (λ (z : Option BlockValue). Ok z) c.in-Ok-Some.field-0-is) (reads_frame _ e.is_sound e.is_complete e.none_is_eof e.eof_is_none e.failure_is_err e.fault_is_sound e.fault_is_complete e.else_io_error e.leaves_rest e.out_of_memory_after_header e.is_read) in
    let p = err_from_is_err_and c.from_residual.result c.from_residual.ensures.1 in
    rw (p.1, p.2) (gathered_fails c.in-Ok-Some.block v.so_far reads c.in_err-put_block.ensures.fault_is_sound (c.in_err-put_block.ensures.is_unflushed ∙ v.unflushed))

pub returns-in-Ok-None-clause-loans : goal.returns-in-Ok-None-clause-loans
returns-in-Ok-None-clause-loans g c =
    let e = c.read_next_or_eof.ensures in
    reads_loans (reads_frame _ e.is_sound e.is_complete e.none_is_eof e.eof_is_none e.failure_is_err e.fault_is_sound e.fault_is_complete e.else_io_error e.leaves_rest e.out_of_memory_after_header e.is_read) ∙ c.loop-block.invariant.loans

pub returns-in-Err-clause-loans : goal.returns-in-Err-clause-loans
returns-in-Err-clause-loans g c =
    let e = c.read_next_or_eof.ensures in
    reads_loans (reads_frame _ e.is_sound e.is_complete e.none_is_eof e.eof_is_none e.failure_is_err e.fault_is_sound e.fault_is_complete e.else_io_error e.leaves_rest e.out_of_memory_after_header e.is_read) ∙ c.loop-block.invariant.loans

pub returns-in_default-clause-loans : goal.returns-in_default-clause-loans
returns-in_default-clause-loans g c =
    let e = c.read_next_or_eof.ensures in
    reads_loans (reads_frame _ e.is_sound e.is_complete e.none_is_eof e.eof_is_none e.failure_is_err e.fault_is_sound e.fault_is_complete e.else_io_error e.leaves_rest e.out_of_memory_after_header e.is_read) ∙ c.loop-block.invariant.loans

pub returns-in_err-put_block-clause-loans : goal.returns-in_err-put_block-clause-loans
returns-in_err-put_block-clause-loans g c =
    let e = c.read_next_or_eof.ensures in
    reads_loans (reads_frame _ e.is_sound e.is_complete e.none_is_eof e.eof_is_none e.failure_is_err e.fault_is_sound e.fault_is_complete e.else_io_error e.leaves_rest e.out_of_memory_after_header e.is_read) ∙ c.loop-block.invariant.loans
