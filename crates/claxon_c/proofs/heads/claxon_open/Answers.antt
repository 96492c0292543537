use Rattle.std.proofs.Common.{inl, inr, refl, Global, subst, rules, ◌≡◌}
use Rattle.std.specs.Prelude.{Option}
use Rattle.claxon.specs.Heads.{Head}
use Rattle.claxon.specs.StreamInfos.{StreamInfo}
use Rattle.claxon.specs.VorbisComments.{VorbisComment}
use Rattle.claxon.specs.ReadHead.{head_view}
use Rattle.claxon_c.specs.HeadCalls.{ShowsHead}
use Rattle.claxon_c.proofs.HeadCalls.{head_at_first_frame, head_fault, head_io, head_io_ok, head_memory, head_named, head_out_of_memory, no_head_fault, same_head, shows_head}
use Rattle.claxon_c.proofs.Reports.{just_error, text_reported}
use Rattle.claxon_c.proofs.heads.claxon_open.Goals as goal

pub returns-in-Ok : goal.returns-in-Ok
returns-in-Ok c =
    let view = head_view {A = Global} in
    let bytes = c.args.bytes.now in
    let taken = c.head_at_start.new.taken in
    let old = c.args.error.now in
    let z : StreamInfo × Option (VorbisComment Global) = (c.in-Ok.found, c.in-Ok.comment) in
    let h = c.in-Ok.ensures.at_start in
    let first : c.new.result.first_frame ≡ taken = search rules in
    let shows = shows_head c.in-Ok.found c.in-Ok.comment c.new.result c.count_tags.result taken c.new.ensures.shows c.count_tags.ensures h.bounds in
    record {
      is_sound = λ says. (view z, head_at_first_frame c.in-Ok.found c.in-Ok.comment bytes c.new.result taken h first, shows);
      is_complete = λ head begins. inl (refl, subst (λ (x : Head). ShowsHead x c.new.result.first_frame c.new.result) (same_head view bytes taken 0 old old z h head begins) shows);
      fault_is_sound = λ says. absurd (elim says [ inl p ↦ absurd cc | inr p ↦ absurd cc ]);
      fault_is_complete = no_head_fault view bytes taken 0 old old z h;
      else_io_error = head_io_ok view bytes taken 0 old old z h;
      out_of_memory_after_header = λ is. absurd cc;
      text_is_reported = (λ is. absurd cc, λ is. absurd cc);
      info_is_kept = λ no. absurd (no refl);
    }

pub returns-in-Err : goal.returns-in-Err
returns-in-Err c =
    let view = head_view {A = Global} in
    let bytes = c.args.bytes.now in
    let taken = c.head_at_start.new.taken in
    let status = c.report.result in
    let old = c.args.error.now in
    let new = c.report.new.output in
    let e = c.in-Err.fault in
    let h = c.in-Err.ensures.at_start in
    let reported = c.report.ensures.is_reported in
    record {
      is_sound = λ says. absurd ((just_error status old new e reported).0 says);
      is_complete = λ head begins. inr (head_out_of_memory view bytes taken status old new e h reported head begins);
      fault_is_sound = head_fault view bytes taken status old new e h reported;
      fault_is_complete = head_named view bytes taken status old new e h reported;
      else_io_error = head_io view bytes taken status old new e h reported;
      out_of_memory_after_header = head_memory view bytes taken status old new e h reported;
      text_is_reported = text_reported status old new e reported;
      info_is_kept = λ no. refl;
    }
