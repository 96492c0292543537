use Rattle.std.proofs.Common.{◌≡◌, Err, sym, ap, ◌∙◌, arith, rules}
use Rattle.std.proofs.lemmas.Result.{err_from_is_err_and}
use Rattle.claxon_format.proofs.Metadata.{Reads-block_header}
use Rattle.claxon_input.specs.declared.error.Error.{Error}
use Rattle.claxon_input.specs.declared.error.Error.TheVariants.{OutOfMemory}
use Rattle.claxon_metadata.specs.MetadataBlock.{header_view}
use Rattle.claxon_metadata.proofs.ContentByType.{header_is}
use Rattle.claxon_format.specs.read.MetadataBlocks.{block_at}
use Rattle.claxon_metadata.proofs.metadata.read_metadata_block_and_flag.Goals as goal

pub returns-in_err-block-clause-out_of_memory_after_block_header : goal.returns-in_err-block-clause-out_of_memory_after_block_header
returns-in_err-block-clause-out_of_memory_after_block_header g c out_of_memory known =
    let e = err_from_is_err_and c.from_residual-in_err-block.result c.from_residual-in_err-block.ensures.1 in
    let both : Err e.0 ≡ Err OutOfMemory = sym e.1 ∙ out_of_memory in
    let same : e.0 ≡ OutOfMemory = cc both in
    let read = c.in_ok-header.ensures.gives.known known in
    let again = ap (λ (z : Error). Err z) (sym e.2 ∙ same) in
    let may = c.in_err-block.ensures.out_of_memory_after_lengths in
    let t = Reads-block_header.takes _ (header_view c.in_ok-header.header) _ read.is in
    (header_view c.in_ok-header.header, t.0, _, t.1, (may.0 again, λ four. may.1 four again read.known), t.2)

pub returns-in_err-header-clause-at_most_block_is_consumed : goal.returns-in_err-header-clause-at_most_block_is_consumed
returns-in_err-header-clause-at_most_block_is_consumed g c h x rest code remains = omega (arith, c.in_err-header.ensures.at_most_is_consumed)

pub returns-in_err-block-clause-at_most_block_is_consumed : goal.returns-in_err-block-clause-at_most_block_is_consumed
returns-in_err-block-clause-at_most_block_is_consumed g c h x rest code remains =
    let same = header_is _ h x rest code remains.are (c.in_ok-header.ensures.gives.known remains.known).is in
    omega (arith, same, c.in_ok-header.ensures.at_most_is_consumed, c.in_err-block.ensures.at_most_is_consumed)

pub returns-clause-at_most_block_is_consumed : goal.returns-clause-at_most_block_is_consumed
returns-clause-at_most_block_is_consumed g c h x rest code remains =
    let same = header_is _ h x rest code remains.are (c.in_ok-header.ensures.gives.known remains.known).is in
    omega (arith, same, c.in_ok-header.ensures.at_most_is_consumed, c.in_ok-block.ensures.at_most_is_consumed)

pub returns-clause-out_of_memory_after_block_header : goal.returns-clause-out_of_memory_after_block_header
returns-clause-out_of_memory_after_block_header g c = search rules

pub returns-clause-is_read : goal.returns-clause-is_read
unfolding block_at
returns-clause-is_read g c = search rules
