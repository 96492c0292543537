use Rattle.std.proofs.Common.{ℕ, String, Vec, arith, refl, rules, string_bytes}
use Rattle.std.proofs.lemmas.Grind.{common_steps}
use Rattle.std.proofs.lemmas.Result.{err_from_is_err_and}
use Rattle.claxon_format.specs.Fault.{VendorLong, fault_text}
use Rattle.claxon_format.specs.read.Comments.{vendor_length_at}
use Rattle.claxon_input.proofs.ConsecutiveCalls.{consumes_then, consumes_map, consumes_none}
use Rattle.claxon_input.proofs.Memory.{exit_no_memory, exit_with_memory}
use Rattle.claxon_metadata.specs.VorbisComment.{comment_view}
use Rattle.claxon_metadata.specs.TagEntries.{entries_view}
use Rattle.claxon_metadata.proofs.ContentByType.{has_vendor_length}
use Rattle.claxon_metadata.proofs.CommentParts.{comment_whole, count_stops, entries_err, length_stops, vendor_stops}
use Rattle.claxon_metadata.proofs.metadata.comment.read_vorbis_comment_block.Goals as goal

pub returns-in_err-vendor_length-clause-is_read : goal.returns-in_err-vendor_length-clause-is_read
unfolding vendor_length_at fault_text
returns-in_err-vendor_length-clause-is_read g c =
    exit_no_memory (comment_view {A = g.row.A.Denot}) (err_from_is_err_and c.from_residual.result c.from_residual.ensures.1) (consumes_none _ _ (length_stops _ (omega arith) (omega arith))) (c.in_err-vendor_length.ensures.is_read VendorLong (refl, refl) refl)

pub returns-in_err-vendor-clause-is_read : goal.returns-in_err-vendor-clause-is_read
unfolding vendor_length_at fault_text
returns-in_err-vendor-clause-is_read g c =
    exit_with_memory (comment_view {A = g.row.A.Denot}) (λ (text : String g.row.A.Denot). string_bytes text) _ (err_from_is_err_and c.from_residual-in_err-vendor.result c.from_residual-in_err-vendor.ensures.1)
    (consumes_map _ (c.in_ok-vendor_length.ensures.is_read VendorLong (refl, refl) refl) (λ p. vendor_stops _ (omega arith) (omega arith) _ _ p)) c.in_err-vendor.ensures.gives

pub returns-in_err-count-clause-is_read : goal.returns-in_err-count-clause-is_read
unfolding vendor_length_at fault_text
returns-in_err-count-clause-is_read g c =
    exit_no_memory (comment_view {A = g.row.A.Denot}) (err_from_is_err_and c.from_residual-in_err-count.result c.from_residual-in_err-count.ensures.1)
    (consumes_then _ (c.in_ok-vendor_length.ensures.is_read VendorLong (refl, refl) refl) c.in_ok-vendor.ensures.gives (λ p q. count_stops _ (omega arith) (omega arith) _ _ _ _ p q)) c.in_err-count.ensures.gives

pub returns-in_err-comments-clause-is_read : goal.returns-in_err-comments-clause-is_read
unfolding vendor_length_at fault_text
returns-in_err-comments-clause-is_read g c =
    exit_with_memory (comment_view {A = g.row.A.Denot}) (λ (comments : Vec (String g.row.A.Denot × ℕ) g.row.A.Denot). entries_view comments.items) _ (err_from_is_err_and c.from_residual-in_err-comments.result c.from_residual-in_err-comments.ensures.1)
    (entries_err (omega arith) (omega arith) (c.in_ok-vendor_length.ensures.is_read VendorLong (refl, refl) refl) c.in_ok-vendor.ensures.gives c.in_ok-count.ensures.gives) c.in_err-comments.ensures.gives

pub returns-in_err-vendor-clause-out_of_memory_after_vendor_length : goal.returns-in_err-vendor-clause-out_of_memory_after_vendor_length
unfolding vendor_length_at fault_text
returns-in_err-vendor-clause-out_of_memory_after_vendor_length g c out_of_memory known = has_vendor_length _ _ _ _ ((c.in_ok-vendor_length.ensures.is_read VendorLong (refl, refl) refl).known known).is

pub returns-in_err-comments-clause-out_of_memory_after_vendor_length : goal.returns-in_err-comments-clause-out_of_memory_after_vendor_length
unfolding vendor_length_at fault_text
returns-in_err-comments-clause-out_of_memory_after_vendor_length g c out_of_memory known = has_vendor_length _ _ _ _ ((c.in_ok-vendor_length.ensures.is_read VendorLong (refl, refl) refl).known known).is

pub returns-then-length-lt8-clause-at_most_is_consumed : goal.returns-then-length-lt8-clause-at_most_is_consumed
returns-then-length-lt8-clause-at_most_is_consumed g c = grind (arith, common_steps)

pub returns-then-length-gt-MAX_BLOCK_LENGTH-clause-at_most_is_consumed : goal.returns-then-length-gt-MAX_BLOCK_LENGTH-clause-at_most_is_consumed
returns-then-length-gt-MAX_BLOCK_LENGTH-clause-at_most_is_consumed g c = grind (arith, common_steps)

pub returns-in_err-vendor_length-clause-at_most_is_consumed : goal.returns-in_err-vendor_length-clause-at_most_is_consumed
returns-in_err-vendor_length-clause-at_most_is_consumed g c = grind (arith, common_steps)

pub returns-in_err-vendor-clause-at_most_is_consumed : goal.returns-in_err-vendor-clause-at_most_is_consumed
returns-in_err-vendor-clause-at_most_is_consumed g c = grind (arith, common_steps)

pub returns-in_err-count-clause-at_most_is_consumed : goal.returns-in_err-count-clause-at_most_is_consumed
returns-in_err-count-clause-at_most_is_consumed g c = grind (arith, common_steps)

pub returns-in_err-comments-clause-at_most_is_consumed : goal.returns-in_err-comments-clause-at_most_is_consumed
returns-in_err-comments-clause-at_most_is_consumed g c = grind (arith, common_steps)

pub returns-clause-at_most_is_consumed : goal.returns-clause-at_most_is_consumed
returns-clause-at_most_is_consumed g c = grind (arith, common_steps)

pub returns-clause-is_read : goal.returns-clause-is_read
unfolding vendor_length_at fault_text
returns-clause-is_read g c =
    comment_whole c.args.length (omega arith) (omega arith) (c.in_ok-vendor_length.ensures.is_read VendorLong (refl, refl) refl) c.in_ok-vendor.ensures.gives c.in_ok-count.ensures.gives c.in_ok-comments.ensures.gives

pub returns-in_err-vendor_length-clause-out_of_memory_after_vendor_length : goal.returns-in_err-vendor_length-clause-out_of_memory_after_vendor_length
unfolding vendor_length_at fault_text
returns-in_err-vendor_length-clause-out_of_memory_after_vendor_length g c =
    let k = c.in_err-vendor_length.ensures.is_read VendorLong (refl, refl) refl in
    search rules
