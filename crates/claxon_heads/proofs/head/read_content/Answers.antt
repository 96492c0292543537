use Rattle.std.proofs.Common.{◌≡◌, ◌<◌, ◌^◌, ℕ, ap, ◌∙◌}
use Rattle.std.proofs.lemmas.Result.{err_from_is_err_and}
use Rattle.claxon_input.proofs.ByteFields.{consumes_whole, failure_or_whole}
use Rattle.claxon_input.proofs.ConsecutiveCalls.{consumes_map, gives_never_out_of_memory, io_exit}
use Rattle.claxon_metadata.specs.MetadataBlock.{content_view}
use Rattle.claxon_heads.specs.StreamHead.{found_content_at, found_content_view, left_at}
use Rattle.claxon_heads.specs.BytesRead.{counted_bytes, position_of}
use Rattle.claxon_heads.specs.declared.bytes_read.BytesRead.{BytesRead}
use Rattle.claxon_heads.proofs.StreamHeads.{content_read, ends_in_it, fault_before, named_fault, other_fault, passes_over}
use Rattle.claxon_heads.proofs.head.read_content.Goals as goal

pub returns-in-Ok-clause-gives : goal.returns-in-Ok-clause-gives
returns-in-Ok-clause-gives g c = consumes_map _ c.in-Ok.ensures.is_read (λ p. content_read c.args.block_type c.args.length (content_view c.in-Ok.block) _ _ p)

pub returns-in_default-clause-gives : goal.returns-in_default-clause-gives
returns-in_default-clause-gives g c =
    let tells = rw c.in_default.is at c.unsupported_by.ensures.tells_why in
    other_fault (content_view {A = g.row.A.Denot}) (found_content_view {A = g.row.A.Denot}) c.args.block_type c.args.length c.in-Err.error _ _ tells c.in-Err.ensures.is_read

pub returns-in_err-skip-clause-gives : goal.returns-in_err-skip-clause-gives
returns-in_err-skip-clause-gives g c =
    let why = c.in-Some.is in
    let tells = rw why at c.unsupported_by.ensures.tells_why in
    let of_bytes = rw why at c.unsupported_by.ensures.is_error_of_bytes in
    let source = g.R.ReadBytes.source in
    let a = c.args.input.now in
    let b = c.read_metadata_block.new.input in
    let start : c.value-start.result.bytes ≡ position_of a = ap (λ (p : BytesRead). p.bytes) c.value-start.ensures in
    let end : c.value.result.bytes ≡ position_of b = ap (λ (p : BytesRead). p.bytes) c.value.ensures in
    let fits : position_of a < 2 ^ 64 = rw start at c.left_at-left.ensures.fits in
    let left : c.left_at-left.result ≡ left_at c.args.length (position_of a) (position_of b) = c.left_at-left.ensures.is_left ∙ ap (λ (n : ℕ). left_at c.args.length n c.value.result.bytes) start ∙ ap (λ (n : ℕ). left_at c.args.length (position_of a) n) end in
    let fault = named_fault (content_view {A = g.row.A.Denot}) c.in-Err.error _ _ _ of_bytes.0 of_bytes.1 c.in-Err.ensures.is_read in
    let before = fault_before source a b c.args.block_type c.args.length c.left_at-left.result c.in-Err.error fits c.ranges.length.fits c.in-Err.ensures.at_most_is_consumed left fault in
    gives_never_out_of_memory (found_content_view {A = g.row.A.Denot}) c.from_residual.result (found_content_at c.args.block_type c.args.length) (counted_bytes source a) (counted_bytes source c.skip.new.self)
    (io_exit (found_content_view {A = g.row.A.Denot}) (err_from_is_err_and c.from_residual.result c.from_residual.ensures.1) (ends_in_it tells before (failure_or_whole _ c.left_at-left.result c.in_err-skip.ensures.failure_or_eof)))

pub returns-clause-gives : goal.returns-clause-gives
returns-clause-gives g c =
    let why = c.in-Some.is in
    let tells = rw why at c.unsupported_by.ensures.tells_why in
    let of_bytes = rw why at c.unsupported_by.ensures.is_error_of_bytes in
    let source = g.R.ReadBytes.source in
    let a = c.args.input.now in
    let b = c.read_metadata_block.new.input in
    let start : c.value-start.result.bytes ≡ position_of a = ap (λ (p : BytesRead). p.bytes) c.value-start.ensures in
    let end : c.value.result.bytes ≡ position_of b = ap (λ (p : BytesRead). p.bytes) c.value.ensures in
    let fits : position_of a < 2 ^ 64 = rw start at c.left_at-left.ensures.fits in
    let left : c.left_at-left.result ≡ left_at c.args.length (position_of a) (position_of b) = c.left_at-left.ensures.is_left ∙ ap (λ (n : ℕ). left_at c.args.length n c.value.result.bytes) start ∙ ap (λ (n : ℕ). left_at c.args.length (position_of a) n) end in
    let fault = named_fault (content_view {A = g.row.A.Denot}) c.in-Err.error _ _ _ of_bytes.0 of_bytes.1 c.in-Err.ensures.is_read in
    let before = fault_before source a b c.args.block_type c.args.length c.left_at-left.result c.in-Err.error fits c.ranges.length.fits c.in-Err.ensures.at_most_is_consumed left fault in
    let skipped = c.in_ok-skip.ensures.are_skipped in
    passes_over tells before (consumes_whole _ c.left_at-left.result skipped.0 skipped.1 skipped.2)
