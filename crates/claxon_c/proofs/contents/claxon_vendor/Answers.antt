use Rattle.std.proofs.Common.{inl, inr, refl, rules, ◌≡◌, length}
use Rattle.std.specs.Prelude.{string_bytes}
use Rattle.claxon.specs.MetadataBlocks.{Comments}
use Rattle.claxon_c.specs.Contents.{comment_type}
use Rattle.claxon_c.proofs.ContentCalls.{comment_begins, comment_content, content_fault, content_io, content_io_ok, content_memory, content_named, content_out_of_memory, no_content_fault, vendor_complete, vendor_sound}
use Rattle.claxon_c.proofs.Reports.{just_error, text_reported}
use Rattle.claxon_c.proofs.contents.claxon_vendor.Goals as goal

pub returns-in-Ok : goal.returns-in-Ok
returns-in-Ok c =
    let content = c.args.content.now in
    let found = c.in-Ok.found in
    let old = c.args.error.now in
    let h = c.in-Ok.ensures.is_read in
    let count-is : c.len.result ≡ length (string_bytes found.vendor) = search rules in
    let tags-are : c.len-in-Ok.result ≡ length found.comments.items = search rules in
    record {
      is_sound = vendor_sound content found c.len.result c.len-in-Ok.result h count-is tags-are;
      is_complete = vendor_complete content found c.len.result c.len-in-Ok.result h count-is tags-are;
      fault_is_sound = λ says. absurd (elim says [ inl p ↦ absurd cc | inr p ↦ absurd cc ]);
      fault_is_complete = no_content_fault comment_content comment_type content 0 old old found h;
      else_io_error = content_io_ok comment_content comment_type content 0 old old found h;
      out_of_memory_after_lengths = λ is. absurd cc;
      text_is_reported = (λ is. absurd cc, λ is. absurd cc);
      vendor_is_kept = λ no. absurd (no refl);
    }

pub returns-in-Err : goal.returns-in-Err
returns-in-Err c =
    let content = c.args.content.now in
    let status = c.report.result in
    let old = c.args.error.now in
    let new = c.report.new.output in
    let e = c.in-Err.fault in
    let h = c.in-Err.ensures.is_read in
    let reported = c.report.ensures.is_reported in
    record {
      is_sound = λ says. absurd ((just_error status old new e reported).0 says);
      is_complete = λ d code. inr (content_out_of_memory comment_content comment_type content status old new e h reported (Comments d) (comment_begins d content code));
      fault_is_sound = content_fault comment_content comment_type content status old new e h reported;
      fault_is_complete = content_named comment_content comment_type content status old new e h reported;
      else_io_error = content_io comment_content comment_type content status old new e h reported;
      out_of_memory_after_lengths = content_memory comment_content comment_type content status old new e h reported;
      text_is_reported = text_reported status old new e reported;
      vendor_is_kept = λ no. refl;
    }
