use Rattle.std.proofs.Common.{◌≡◌, Bool, true, false, Err, refl, ap, arith, rules}
use Rattle.std.proofs.lemmas.Result.{err_from_is_err_and}
use Rattle.std.proofs.lemmas.Grind.{common_steps}
use Rattle.claxon_format.specs.Fault.{fault_text, StreaminfoMissing}
use Rattle.claxon_format.specs.Heads.{stream_marker, streaminfo_ends_head}
use Rattle.claxon_input.specs.declared.error.Error.{Error}
use Rattle.claxon_input.proofs.ConsecutiveCalls.{consumes_none, consumes_map, consumes_then}
use Rattle.claxon_metadata.specs.MetadataBlock.{metadata_block_view}
use Rattle.claxon.specs.ReadHead.{found_view, head_view, options_view}
use Rattle.claxon_metadata.specs.declared.metadata.MetadataBlock.{MetadataBlock}
use Rattle.claxon_input.proofs.Faults.{stops_fault}
use Rattle.claxon.proofs.HeadMemory.{never_out_of_memory_without_allocation, out_of_memory_after_marker, out_of_memory_after_first}
use Rattle.claxon.proofs.HeadParts.{marker_stops, first_stops, no_streaminfo, head_begun, begun_short, begun_stops, begun_with, begun_without}
use Rattle.claxon_input.proofs.Memory.{exit_no_memory, exit_with_memory}
use Rattle.claxon.proofs.head.read_head_exact.Goals as goal

pub returns-in_err-read_stream_header-clause-gives : goal.returns-in_err-read_stream_header-clause-gives
returns-in_err-read_stream_header-clause-gives g c =
    exit_no_memory (head_view {A = g.row.A.Denot}) (err_from_is_err_and c.from_residual.result c.from_residual.ensures.1) (consumes_none _ _ (marker_stops (options_view c.args.options) _)) c.in_err-read_stream_header.ensures.gives

pub returns-in_err-read_stream_header-clause-out_of_memory_after_header : goal.returns-in_err-read_stream_header-clause-out_of_memory_after_header
returns-in_err-read_stream_header-clause-out_of_memory_after_header g c out_of_memory is_known =
    absurd (never_out_of_memory_without_allocation (err_from_is_err_and c.from_residual.result c.from_residual.ensures.1) c.in_err-read_stream_header.ensures.gives out_of_memory)

pub returns-in_err-is_last-clause-out_of_memory_after_header : goal.returns-in_err-is_last-clause-out_of_memory_after_header
returns-in_err-is_last-clause-out_of_memory_after_header g c =
    out_of_memory_after_marker _ _ (err_from_is_err_and c.from_residual-in_err-is_last.result c.from_residual-in_err-is_last.ensures.1) c.in_ok-read_stream_header.ensures.gives (λ q. c.in_err-is_last.ensures.out_of_memory_after_block_header (ap (λ (z : Error). Err z) q))

pub returns-in_err-is_last-clause-gives : goal.returns-in_err-is_last-clause-gives
returns-in_err-is_last-clause-gives g c =
    exit_with_memory (head_view {A = g.row.A.Denot}) (λ (found : Bool × MetadataBlock g.row.A.Denot). metadata_block_view found.0 found.1) _ (err_from_is_err_and c.from_residual-in_err-is_last.result c.from_residual-in_err-is_last.ensures.1)
    (consumes_map _ c.in_ok-read_stream_header.ensures.gives (λ p. first_stops (options_view c.args.options) stream_marker _ _ p)) c.in_err-is_last.ensures.is_read

pub returns-in_default-clause-gives : goal.returns-in_default-clause-gives
unfolding fault_text
returns-in_default-clause-gives g c =
    stops_fault StreaminfoMissing refl refl (refl, refl)
    (consumes_then _ c.in_ok-read_stream_header.ensures.gives c.in_ok-is_last.ensures.is_read (λ p q. no_streaminfo (options_view c.args.options) stream_marker c.in_ok-is_last.is_last c.in_ok-is_last.first _ _ _ c.in_default.not-StreamInfo p q))

pub returns-then-is_last-clause-gives : goal.returns-then-is_last-clause-gives
returns-then-is_last-clause-gives g c =
    let ends : streaminfo_ends_head (options_view c.args.options) c.in_ok-is_last.is_last ≡ true = search rules in
    begun_short (options_view c.args.options) ends (head_begun c.in-StreamInfo.info c.in-StreamInfo.is c.in_ok-read_stream_header.ensures.gives c.in_ok-is_last.ensures.is_read)

pub returns-in_err-comment-clause-out_of_memory_after_header : goal.returns-in_err-comment-clause-out_of_memory_after_header
returns-in_err-comment-clause-out_of_memory_after_header g c =
    out_of_memory_after_first _ _ _ _ (err_from_is_err_and c.from_residual-in_err-comment.result c.from_residual-in_err-comment.ensures.1)
    c.in_ok-read_stream_header.ensures.gives c.in_ok-is_last.ensures.is_read (λ q. c.in_err-comment.ensures.out_of_memory_after_blocks (ap (λ (z : Error). Err z) q))

pub returns-in_err-comment-clause-gives : goal.returns-in_err-comment-clause-gives
returns-in_err-comment-clause-gives g c =
    let goes_on : streaminfo_ends_head (options_view c.args.options) c.in_ok-is_last.is_last ≡ false = search rules in
    exit_with_memory (head_view {A = g.row.A.Denot}) (found_view {A = g.row.A.Denot}) _ (err_from_is_err_and c.from_residual-in_err-comment.result c.from_residual-in_err-comment.ensures.1)
    (begun_stops (options_view c.args.options) goes_on (head_begun c.in-StreamInfo.info c.in-StreamInfo.is c.in_ok-read_stream_header.ensures.gives c.in_ok-is_last.ensures.is_read))
    c.in_err-comment.ensures.gives

pub returns-then-options-2-clause-gives : goal.returns-then-options-2-clause-gives
returns-then-options-2-clause-gives g c =
    let goes_on : streaminfo_ends_head (options_view c.args.options) c.in_ok-is_last.is_last ≡ false = search rules in
    begun_with (options_view c.args.options) (found_view c.in_ok-comment.comment) goes_on c.if-options-2.true
    (head_begun c.in-StreamInfo.info c.in-StreamInfo.is c.in_ok-read_stream_header.ensures.gives c.in_ok-is_last.ensures.is_read) c.in_ok-comment.ensures.gives

pub returns-else-options-2-clause-gives : goal.returns-else-options-2-clause-gives
returns-else-options-2-clause-gives g c =
    let goes_on : streaminfo_ends_head (options_view c.args.options) c.in_ok-is_last.is_last ≡ false = search rules in
    begun_without (options_view c.args.options) (found_view c.in_ok-comment.comment) goes_on c.if-options-2.false
    (head_begun c.in-StreamInfo.info c.in-StreamInfo.is c.in_ok-read_stream_header.ensures.gives c.in_ok-is_last.ensures.is_read) c.in_ok-comment.ensures.gives

pub returns-in_default-clause-has_bounds : goal.returns-in_default-clause-has_bounds
returns-in_default-clause-has_bounds g c = grind (arith, common_steps)

pub returns-in_default-clause-has_separator_indices : goal.returns-in_default-clause-has_separator_indices
returns-in_default-clause-has_separator_indices g c = grind (arith, common_steps)

pub returns-in_default-clause-out_of_memory_after_header : goal.returns-in_default-clause-out_of_memory_after_header
returns-in_default-clause-out_of_memory_after_header g c = grind (arith, common_steps)

pub returns-then-is_last-clause-has_bounds : goal.returns-then-is_last-clause-has_bounds
returns-then-is_last-clause-has_bounds g c = grind (arith, common_steps)

pub returns-then-is_last-clause-has_separator_indices : goal.returns-then-is_last-clause-has_separator_indices
returns-then-is_last-clause-has_separator_indices g c = grind (arith, common_steps)

pub returns-then-is_last-clause-out_of_memory_after_header : goal.returns-then-is_last-clause-out_of_memory_after_header
returns-then-is_last-clause-out_of_memory_after_header g c = grind (arith, common_steps)

pub returns-then-options-2-clause-has_bounds : goal.returns-then-options-2-clause-has_bounds
returns-then-options-2-clause-has_bounds g c = grind (arith, common_steps)

pub returns-then-options-2-clause-has_separator_indices : goal.returns-then-options-2-clause-has_separator_indices
returns-then-options-2-clause-has_separator_indices g c = grind (arith, common_steps)

pub returns-then-options-2-clause-out_of_memory_after_header : goal.returns-then-options-2-clause-out_of_memory_after_header
returns-then-options-2-clause-out_of_memory_after_header g c = grind (arith, common_steps)

pub returns-else-options-2-clause-has_bounds : goal.returns-else-options-2-clause-has_bounds
returns-else-options-2-clause-has_bounds g c = grind (arith, common_steps)

pub returns-else-options-2-clause-has_separator_indices : goal.returns-else-options-2-clause-has_separator_indices
returns-else-options-2-clause-has_separator_indices g c = grind (arith, common_steps)

pub returns-else-options-2-clause-out_of_memory_after_header : goal.returns-else-options-2-clause-out_of_memory_after_header
returns-else-options-2-clause-out_of_memory_after_header g c = grind (arith, common_steps)

pub returns-else-options-2-clause-has_comment_if_read : goal.returns-else-options-2-clause-has_comment_if_read
returns-else-options-2-clause-has_comment_if_read g c = search rules
