use Rattle.std.proofs.Common.{inl, rules, false}
use Rattle.std.proofs.lemmas.Result.{err_from_is_err_and}
use Rattle.claxon.specs.State.{bytes_in}
use Rattle.claxon_verify.proofs.FramesVerified.{frames_counted, frames_stop, frames_to_tail, frames_trailed, frames_verified}
use Rattle.claxon_verify.proofs.frames.verify_frames.Goals as goal

pub returns-clause-is_sound : goal.returns-clause-is_sound
returns-clause-is_sound g c =
    let source = g.R.ReadBytes.source in
    let r = c.report_of.ensures in
    let walk = c.in_ok-walked.field-0 in
    frames_verified (bytes_in source c.args.input.now) c.report_of.result (record { info_is = r.info; unsupported = r.unsupported; frames = r.frames; samples = r.samples; kept = r.kept; sizes = r.sizes; md5_is = r.md5_is_judged; md5_shown = r.md5_is_shown; notes = r.notes }) _ (search rules)
    (frames_counted source c.in_ok-parts.ensures.begins (search rules) false walk c.in_ok-walked.ensures.ok)

pub returns-clause-trailing_is_told : goal.returns-clause-trailing_is_told
returns-clause-trailing_is_told g c =
    let source = g.R.ReadBytes.source in
    let r = c.report_of.ensures in
    let walk = c.in_ok-walked.field-0 in
    frames_trailed (bytes_in source c.args.input.now) c.report_of.result (record { info_is = r.info; unsupported = r.unsupported; frames = r.frames; samples = r.samples; kept = r.kept; sizes = r.sizes; md5_is = r.md5_is_judged; md5_shown = r.md5_is_shown; notes = r.notes }) _ (search rules)
    (frames_to_tail source c.in_ok-parts.ensures.begins (search rules) false walk c.in_ok-walked.ensures.tail) r.trailing

pub returns-in_err-parts-clause-fault_is_sound : goal.returns-in_err-parts-clause-fault_is_sound
returns-in_err-parts-clause-fault_is_sound g c =
    let p = err_from_is_err_and c.from_residual.result c.from_residual.ensures.1 in
    rw (p.1, p.2) (inl c.in_err-parts.ensures.err)

pub returns-in_err-walked-clause-fault_is_sound : goal.returns-in_err-walked-clause-fault_is_sound
returns-in_err-walked-clause-fault_is_sound g c =
    let p = err_from_is_err_and c.from_residual-in_err-walked.result c.from_residual-in_err-walked.ensures.1 in
    rw (p.1, p.2) (frames_stop g.R.ReadBytes.source c.in_ok-parts.ensures.begins (search rules) c.walk_parts-walked.new.parts c.in_err-walked.field-0.0 c.in_err-walked.ensures.err _ (λ same. search rules))
