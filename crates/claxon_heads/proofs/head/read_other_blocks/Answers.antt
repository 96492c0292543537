use Rattle.std.proofs.Common.{Bool, Option, arith, refl}
use Rattle.std.proofs.lemmas.Result.{err_from_is_err_and}
use Rattle.claxon_format.specs.Fault.{TooManyBlocks, fault_text}
use Rattle.claxon_input.proofs.Faults.{stops_fault}
use Rattle.claxon_input.proofs.Memory.{exit_with_memory}
use Rattle.claxon_heads.specs.StreamHead.{NeedsMemory, NeedsMemoryAfterBlocks}
use Rattle.claxon_heads.specs.declared.head.Seen.{Seen}
use Rattle.claxon_heads.specs.declared.head.UnsupportedBlock.{UnsupportedBlock}
use Rattle.claxon_heads.proofs.StreamHeads.{blocks_done, blocks_next, blocks_stop, blocks_too_many, memory_later, needs_after_blocks}
use Rattle.claxon_heads.proofs.head.read_other_blocks.Goals as goal

pub returns-in_err-is_last-clause-out_of_memory : goal.returns-in_err-is_last-clause-out_of_memory
returns-in_err-is_last-clause-out_of_memory g c =
    memory_later NeedsMemory NeedsMemoryAfterBlocks (err_from_is_err_and c.from_residual.result c.from_residual.ensures.1) c.loop-most.invariant.read.before c.in_err-is_last.ensures.out_of_memory (λ p needs. needs_after_blocks _ _ p needs)

pub returns-in_err-is_last-clause-gives : goal.returns-in_err-is_last-clause-gives
returns-in_err-is_last-clause-gives g c =
    exit_with_memory (λ (x : Option UnsupportedBlock). x) (λ (x : Bool × Seen). x) _ (err_from_is_err_and c.from_residual.result c.from_residual.ensures.1)
    (blocks_stop (omega (arith, c.loop-most-test.true)) c.loop-most.invariant.read) c.in_err-is_last.ensures.gives

pub returns-then-is_last-clause-gives : goal.returns-then-is_last-clause-gives
returns-then-is_last-clause-gives g c = blocks_done c.in_ok-is_last.is_last c.in_ok-is_last.next (omega (arith, c.loop-most-test.true)) c.if-is_last.true c.loop-most.invariant.read c.in_ok-is_last.ensures.gives

pub loop-most-preserved : goal.loop-most-preserved
loop-most-preserved g c = record { read = blocks_next c.in_ok-is_last.is_last c.in_ok-is_last.next (omega (arith, c.loop-most-test.true)) c.if-is_last.false c.loop-most.invariant.read c.in_ok-is_last.ensures.gives }

pub returns-clause-gives : goal.returns-clause-gives
unfolding fault_text
returns-clause-gives g c = stops_fault TooManyBlocks refl refl (refl, refl) (blocks_too_many (omega (arith, c.loop-most-test.false)) c.loop-most.invariant.read)
