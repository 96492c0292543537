use Rattle.std.proofs.Common.{◌≡◌, arith, ◌∙◌, refl}
use Rattle.std.proofs.lemmas.Result.{err_from_is_err_and}
use Rattle.claxon_format.specs.read.MetadataBlocks.{body_at, application_at}
use Rattle.claxon_format.specs.Fault.{fault_text, BlockType}
use Rattle.claxon_input.proofs.ByteFields.{consumes_skipped, failure_or_skipped, most_taken}
use Rattle.claxon_input.proofs.ConsecutiveCalls.{consumes_none, consumes_map, io_exit, gives_or_out_of_memory_after, gives_never_out_of_memory, failure_or_known}
use Rattle.claxon_metadata.specs.MetadataBlock.{content_view}
use Rattle.claxon_metadata.specs.VorbisComment.{comment_view}
use Rattle.claxon_input.proofs.Faults.{stops_fault}
use Rattle.claxon_metadata.proofs.ContentByType.{stops_with, body_info, body_application, body_comment, body_invalid, IsSkipped, body_skipped}
use Rattle.claxon_input.proofs.Memory.{exit_no_memory, exit_with_memory}
use Rattle.claxon_metadata.proofs.metadata.read_metadata_block_exact.Goals as goal

pub returns-in_ok-read_streaminfo_block-in-0-clause-is_read : goal.returns-in_ok-read_streaminfo_block-in-0-clause-is_read
returns-in_ok-read_streaminfo_block-in-0-clause-is_read g c =
    consumes_map _ c.in_ok-read_streaminfo_block-in-0.ensures.is_read (λ p. body_info c.args.block_type c.args.length _ c.in-0.is ∙ rw p refl)

pub returns-in_err-read_streaminfo_block-in-0-clause-is_read : goal.returns-in_err-read_streaminfo_block-in-0-clause-is_read
returns-in_err-read_streaminfo_block-in-0-clause-is_read g c =
    exit_no_memory content_view (err_from_is_err_and c.from_residual.result c.from_residual.ensures.1)
    (consumes_none _ _ (stops_with _ (body_info c.args.block_type c.args.length _ c.in-0.is))) c.in_err-read_streaminfo_block-in-0.ensures.is_read

pub returns-in-127-clause-is_read : goal.returns-in-127-clause-is_read
unfolding fault_text
returns-in-127-clause-is_read g c = stops_fault BlockType refl refl (refl, refl) (consumes_none _ _ (body_invalid c.args.block_type c.args.length _ c.in-127.is))

pub returns-in_ok-skip-in_default-clause-is_read : goal.returns-in_ok-skip-in_default-clause-is_read
returns-in_ok-skip-in_default-clause-is_read g c =
    let other : IsSkipped c.args.block_type = record { not_info = omega arith; not_application = omega arith; not_comment = omega arith; not_invalid = omega arith } in
    consumes_map _ (consumes_skipped g.R.ReadBytes.source c.args.length c.in_ok-skip-in_default.ensures.are_skipped) (λ p. body_skipped c.args.block_type c.args.length _ other ∙ rw (p, c.skipped_block.ensures.value) refl)

pub returns-in_ok-skip-in_default-clause-at_most_is_consumed : goal.returns-in_ok-skip-in_default-clause-at_most_is_consumed
returns-in_ok-skip-in_default-clause-at_most_is_consumed g c = most_taken g.R.ReadBytes.source c.args.length (omega (arith, c.in_ok-skip-in_default.ensures.are_skipped.1)) c.in_ok-skip-in_default.ensures.are_skipped.2

pub returns-in_err-skip-in_default-clause-is_read : goal.returns-in_err-skip-in_default-clause-is_read
returns-in_err-skip-in_default-clause-is_read g c =
    let other : IsSkipped c.args.block_type = record { not_info = omega arith; not_application = omega arith; not_comment = omega arith; not_invalid = omega arith } in
    gives_never_out_of_memory _ _ _ _ _ (io_exit _ (err_from_is_err_and c.from_residual-in_err-skip-in_default.result c.from_residual-in_err-skip-in_default.ensures.1)
    (failure_or_known _ (failure_or_skipped g.R.ReadBytes.source c.args.length c.in_err-skip-in_default.ensures.failure_or_eof) (λ t q. body_skipped c.args.block_type c.args.length _ other ∙ rw q refl)))

pub returns-in-2-clause-is_read : goal.returns-in-2-clause-is_read
returns-in-2-clause-is_read g c =
    gives_or_out_of_memory_after content_view c.read_application_block.result _
    (consumes_none _ (λ s m. body_at c.args.block_type c.args.length s ≡ application_at c.args.length m) (body_application c.args.block_type c.args.length _ c.in-2.is)) c.read_application_block.ensures.gives

pub returns-in_err-comment-in-4-clause-is_read : goal.returns-in_err-comment-in-4-clause-is_read
returns-in_err-comment-in-4-clause-is_read g c =
    exit_with_memory content_view (comment_view {A = g.row.A.Denot}) _ (err_from_is_err_and c.from_residual-in_err-comment-in-4.result c.from_residual-in_err-comment-in-4.ensures.1)
    (consumes_none _ _ (stops_with _ (body_comment c.args.block_type c.args.length _ c.in-4.is))) c.in_err-comment-in-4.ensures.is_read

pub returns-in_ok-comment-in-4-clause-is_read : goal.returns-in_ok-comment-in-4-clause-is_read
returns-in_ok-comment-in-4-clause-is_read g c =
    consumes_map _ c.in_ok-comment-in-4.ensures.is_read (λ p. body_comment c.args.block_type c.args.length _ c.in-4.is ∙ rw p refl)
