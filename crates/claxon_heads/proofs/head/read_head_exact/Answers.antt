use Rattle.std.proofs.Common.{Option, refl}
use Rattle.std.proofs.lemmas.Result.{err_from_is_err_and}
use Rattle.claxon_format.specs.Fault.{StreaminfoMissing, fault_text}
use Rattle.claxon_format.specs.Heads.{stream_marker}
use Rattle.claxon_input.proofs.ConsecutiveCalls.{consumes_map, consumes_none}
use Rattle.claxon_input.proofs.Faults.{stops_fault}
use Rattle.claxon_input.proofs.Memory.{exit_no_memory, exit_with_memory}
use Rattle.claxon_heads.specs.StreamHead.{HeadNeedsMemory, NeedsMemory, NeedsMemoryAfterBlocks, found_block_view, found_head_view}
use Rattle.claxon_heads.specs.declared.head.UnsupportedBlock.{UnsupportedBlock}
use Rattle.claxon_heads.proofs.StreamHeads.{begun_missing, begun_short, begun_stops, begun_whole, first_stops, head_begun, marker_stops, memory_later, needs_after_first, needs_after_marker}
use Rattle.claxon_heads.proofs.head.read_head_exact.Goals as goal

pub returns-in_err-read_marker-clause-gives : goal.returns-in_err-read_marker-clause-gives
returns-in_err-read_marker-clause-gives g c = exit_no_memory found_head_view (err_from_is_err_and c.from_residual.result c.from_residual.ensures.1) (consumes_none _ _ (marker_stops _)) c.in_err-read_marker.ensures.gives

pub returns-in_err-is_last-clause-out_of_memory : goal.returns-in_err-is_last-clause-out_of_memory
returns-in_err-is_last-clause-out_of_memory g c =
    memory_later NeedsMemory HeadNeedsMemory (err_from_is_err_and c.from_residual-in_err-is_last.result c.from_residual-in_err-is_last.ensures.1) c.in_ok-read_marker.ensures.gives c.in_err-is_last.ensures.out_of_memory (λ p needs. needs_after_marker _ _ p needs)

pub returns-in_err-is_last-clause-gives : goal.returns-in_err-is_last-clause-gives
returns-in_err-is_last-clause-gives g c =
    exit_with_memory found_head_view (found_block_view {A = g.row.A.Denot}) _ (err_from_is_err_and c.from_residual-in_err-is_last.result c.from_residual-in_err-is_last.ensures.1)
    (consumes_map _ c.in_ok-read_marker.ensures.gives (λ p. first_stops stream_marker _ _ p)) c.in_err-is_last.ensures.gives

pub returns-in_default-clause-gives : goal.returns-in_default-clause-gives
unfolding fault_text
returns-in_default-clause-gives g c =
    let is = rw c.in_default.is at c.info_of.ensures.is_info in
    stops_fault StreaminfoMissing refl refl (refl, refl) (begun_missing is (head_begun c.in_ok-read_marker.ensures.gives c.in_ok-is_last.ensures.gives))

pub returns-then-is_last-clause-gives : goal.returns-then-is_last-clause-gives
returns-then-is_last-clause-gives g c =
    let is = rw c.in-Some.is at c.info_of.ensures.is_info in
    begun_short c.in-Some.info is c.if-is_last.true (head_begun c.in_ok-read_marker.ensures.gives c.in_ok-is_last.ensures.gives)

pub returns-in_err-unsupported-clause-out_of_memory : goal.returns-in_err-unsupported-clause-out_of_memory
returns-in_err-unsupported-clause-out_of_memory g c =
    memory_later NeedsMemoryAfterBlocks HeadNeedsMemory (err_from_is_err_and c.from_residual-in_err-unsupported.result c.from_residual-in_err-unsupported.ensures.1)
    (head_begun c.in_ok-read_marker.ensures.gives c.in_ok-is_last.ensures.gives).begun c.in_err-unsupported.ensures.out_of_memory (λ p needs. needs_after_first (found_block_view (c.in_ok-is_last.is_last, c.in_ok-is_last.first)) _ _ p needs)

pub returns-in_err-unsupported-clause-gives : goal.returns-in_err-unsupported-clause-gives
returns-in_err-unsupported-clause-gives g c =
    let is = rw c.in-Some.is at c.info_of.ensures.is_info in
    exit_with_memory found_head_view (λ (x : Option UnsupportedBlock). x) _ (err_from_is_err_and c.from_residual-in_err-unsupported.result c.from_residual-in_err-unsupported.ensures.1)
    (begun_stops c.in-Some.info is c.if-is_last.false (head_begun c.in_ok-read_marker.ensures.gives c.in_ok-is_last.ensures.gives)) c.in_err-unsupported.ensures.gives

pub returns-clause-gives : goal.returns-clause-gives
returns-clause-gives g c =
    let is = rw c.in-Some.is at c.info_of.ensures.is_info in
    begun_whole c.in-Some.info c.in_ok-unsupported.unsupported is c.if-is_last.false (head_begun c.in_ok-read_marker.ensures.gives c.in_ok-is_last.ensures.gives) c.in_ok-unsupported.ensures.gives
