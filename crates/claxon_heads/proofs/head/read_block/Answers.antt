use Rattle.std.proofs.lemmas.Result.{err_from_is_err_and}
use Rattle.claxon_format.proofs.Metadata.{Reads-block_header}
use Rattle.claxon_input.proofs.ConsecutiveCalls.{consumes_map, consumes_none, consumes_then}
use Rattle.claxon_input.proofs.Memory.{exit_no_memory, exit_with_memory}
use Rattle.claxon_heads.specs.StreamHead.{NeedsMemory, found_block_view, found_content_view, header_read}
use Rattle.claxon_heads.proofs.StreamHeads.{block_done, content_stops, header_stops, memory_later, needs_after_header}
use Rattle.claxon_metadata.specs.MetadataBlock.{MayRunOutOfMemory}
use Rattle.claxon_heads.proofs.head.read_block.Goals as goal

pub returns-in_err-header-clause-gives : goal.returns-in_err-header-clause-gives
returns-in_err-header-clause-gives g c = exit_no_memory (found_block_view {A = g.row.A.Denot}) (err_from_is_err_and c.from_residual.result c.from_residual.ensures.1) (consumes_none _ _ (header_stops _)) c.in_err-header.ensures.gives

pub returns-in_err-block-clause-out_of_memory : goal.returns-in_err-block-clause-out_of_memory
returns-in_err-block-clause-out_of_memory g c =
    memory_later (MayRunOutOfMemory c.in_ok-header.header.block_type c.in_ok-header.header.length) NeedsMemory (err_from_is_err_and c.from_residual-in_err-block.result c.from_residual-in_err-block.ensures.1) c.in_ok-header.ensures.gives c.in_err-block.ensures.out_of_memory
    (λ p may. needs_after_header (header_read c.in_ok-header.header) _ _ (let t = Reads-block_header.takes _ (header_read c.in_ok-header.header) _ p in (t.0, t.1, t.2)) may)

pub returns-in_err-block-clause-gives : goal.returns-in_err-block-clause-gives
returns-in_err-block-clause-gives g c =
    exit_with_memory (found_block_view {A = g.row.A.Denot}) (found_content_view {A = g.row.A.Denot}) _ (err_from_is_err_and c.from_residual-in_err-block.result c.from_residual-in_err-block.ensures.1)
    (consumes_map _ c.in_ok-header.ensures.gives (λ p. content_stops (header_read c.in_ok-header.header) _ _ p)) c.in_err-block.ensures.gives

pub returns-clause-gives : goal.returns-clause-gives
returns-clause-gives g c = consumes_then _ c.in_ok-header.ensures.gives c.in_ok-block.ensures.gives (λ p q. block_done (header_read c.in_ok-header.header) (found_content_view c.in_ok-block.block) _ _ _ p q)
