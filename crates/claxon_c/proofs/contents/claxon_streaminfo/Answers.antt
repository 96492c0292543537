use Rattle.std.proofs.Common.{arith, inl, inr, refl, ◌≡◌}
use Rattle.claxon.specs.MetadataBlocks.{Info}
use Rattle.claxon_c.specs.Contents.{streaminfo_type}
use Rattle.claxon_c.specs.Status.{out_of_memory}
use Rattle.claxon_c.proofs.ContentCalls.{content_fault, content_io, content_io_ok, content_memory, content_named, content_out_of_memory, info_content, no_content_fault, no_streaminfo_memory, shows_streaminfo, streaminfo_begins, streaminfo_complete, streaminfo_sound}
use Rattle.claxon_c.proofs.Reports.{just_error, text_reported}
use Rattle.claxon_c.proofs.contents.claxon_streaminfo.Goals as goal

pub returns-in-Ok : goal.returns-in-Ok
returns-in-Ok c =
    let content = c.args.content.now in
    let found = c.in-Ok.found in
    let old = c.args.error.now in
    let h = c.in-Ok.ensures.is_read in
    let shows = shows_streaminfo found c.new.result _ _ c.new.ensures.shows (omega arith) (omega arith) c.in-Ok.ensures.bounds in
    record {
      is_sound = streaminfo_sound content found c.new.result h shows;
      is_complete = streaminfo_complete content found c.new.result h shows;
      fault_is_sound = λ says. absurd (elim says [ inl p ↦ absurd cc | inr p ↦ absurd cc ]);
      fault_is_complete = no_content_fault info_content streaminfo_type content 0 old old found h;
      else_io_error = content_io_ok info_content streaminfo_type content 0 old old found h;
      never_out_of_memory = λ is. absurd cc;
      text_is_reported = (λ is. absurd cc, λ is. absurd cc);
      info_is_kept = λ no. absurd (no refl);
    }

pub returns-in-Err : goal.returns-in-Err
returns-in-Err c =
    let content = c.args.content.now in
    let status = c.report.result in
    let old = c.args.error.now in
    let new = c.report.new.output in
    let e = c.in-Err.fault in
    let h = c.in-Err.ensures.is_read in
    let reported = c.report.ensures.is_reported in
    let memory : status ≡ out_of_memory → ⊥ = λ is. no_streaminfo_memory content (content_memory info_content streaminfo_type content status old new e h reported is) in
    record {
      is_sound = λ says. absurd ((just_error status old new e reported).0 says);
      is_complete = λ i code. absurd (memory (content_out_of_memory info_content streaminfo_type content status old new e h reported (Info i) (streaminfo_begins i content code)));
      fault_is_sound = content_fault info_content streaminfo_type content status old new e h reported;
      fault_is_complete = content_named info_content streaminfo_type content status old new e h reported;
      else_io_error = content_io info_content streaminfo_type content status old new e h reported;
      never_out_of_memory = memory;
      text_is_reported = text_reported status old new e reported;
      info_is_kept = λ no. refl;
    }
