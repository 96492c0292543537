use Rattle.std.proofs.Common.{Bool, Err, ap}
use Rattle.std.proofs.lemmas.Result.{err_from_is_err_and}
use Rattle.claxon_input.specs.declared.error.Error.{Error}
use Rattle.claxon_input.specs.State.{bytes_in}
use Rattle.claxon_input.proofs.ConsecutiveCalls.{consumes_none, consumes_then, consumes_map}
use Rattle.claxon_metadata.specs.MetadataBlock.{metadata_block_view}
use Rattle.claxon.specs.ReadHead.{found_view, other_view}
use Rattle.claxon_metadata.specs.declared.metadata.MetadataBlock.{MetadataBlock}
use Rattle.claxon.proofs.HeadMemory.{never_out_of_memory_without_allocation, out_of_memory_here}
use Rattle.claxon.proofs.HeadParts.{other_done, other_stops, other_tested}
use Rattle.claxon_input.proofs.Memory.{exit_no_memory, exit_with_memory}
use Rattle.claxon.proofs.head.read_other_block.Goals as goal

pub returns-in_err-is_last-clause-out_of_memory_after_block_header : goal.returns-in_err-is_last-clause-out_of_memory_after_block_header
returns-in_err-is_last-clause-out_of_memory_after_block_header g c = out_of_memory_here (bytes_in g.R.ReadBytes.source c.args.input.now) (err_from_is_err_and c.from_residual.result c.from_residual.ensures.1) (λ q. c.in_err-is_last.ensures.out_of_memory_after_block_header (ap (λ (z : Error). Err z) q))

pub returns-in_err-is_last-clause-gives : goal.returns-in_err-is_last-clause-gives
returns-in_err-is_last-clause-gives g c =
    exit_with_memory (other_view {A = g.row.A.Denot}) (λ (found : Bool × MetadataBlock g.row.A.Denot). metadata_block_view found.0 found.1) _ (err_from_is_err_and c.from_residual.result c.from_residual.ensures.1)
    (consumes_none _ _ (other_stops (found_view c.args.found) _)) c.in_err-is_last.ensures.is_read

pub returns-in_err-comments_with-clause-out_of_memory_after_block_header : goal.returns-in_err-comments_with-clause-out_of_memory_after_block_header
returns-in_err-comments_with-clause-out_of_memory_after_block_header g c out_of_memory is_known =
    let here = bytes_in g.R.ReadBytes.source c.args.input.now in
    absurd (never_out_of_memory_without_allocation (err_from_is_err_and c.from_residual-in_err-comments_with.result c.from_residual-in_err-comments_with.ensures.1) (c.in_err-comments_with.ensures.are_found here) out_of_memory)

pub returns-in_err-comments_with-clause-gives : goal.returns-in_err-comments_with-clause-gives
returns-in_err-comments_with-clause-gives g c =
    exit_no_memory (other_view {A = g.row.A.Denot}) (err_from_is_err_and c.from_residual-in_err-comments_with.result c.from_residual-in_err-comments_with.ensures.1)
    (consumes_map _ c.in_ok-is_last.ensures.is_read (λ p. other_tested (found_view c.args.found) _ _ _ p)) (c.in_err-comments_with.ensures.are_found _)

pub returns-clause-gives : goal.returns-clause-gives
returns-clause-gives g c =
    consumes_then _ c.in_ok-is_last.ensures.is_read (c.in_ok-comments_with.ensures.are_found _) (λ p q. other_done (found_view c.args.found) _ _ _ _ _ p q)
