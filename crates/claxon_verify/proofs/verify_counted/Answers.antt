use Rattle.std.proofs.Common.{inl, inr, ap, refl, sym, ◌∙◌}
use Rattle.std.proofs.lemmas.Result.{err_from_is_err_and}
use Rattle.claxon.specs.StreamInfos.{StreamInfo}
use Rattle.claxon_heads.specs.BytesRead.{counted_bytes, position_of}
use Rattle.claxon_verify.proofs.Noted.{noted_stream}
use Rattle.claxon_heads.proofs.Positions.{front_from_start}
use Rattle.claxon_verify.proofs.Verified.{all_counted, counted_places, head_consumed, no_head, few_kept, not_counted}
use Rattle.claxon_command_line.proofs.Showing.{started_quietly}
use Rattle.claxon_verify.proofs.FramesTrailed.{frames_told}
use Rattle.claxon_verify.proofs.verify_counted.Goals as goal

pub returns-clause-promises : goal.returns-clause-promises
returns-clause-promises g c =
    let e = c.in_ok-info.ensures in
    let source = g.R.ReadBytes.source in
    let a = counted_bytes source c.args.input.now in
    let m = counted_bytes source c.read_head.new.input in
    let b = counted_bytes source c.walk_frames.new.input in
    let h = head_consumed a m (c.in_ok-info.info, c.in_ok-info.unsupported) (position_of c.read_head.new.input) e.is_read e.has_bounds (front_from_start source c.args.input.now c.read_head.new.input c.requires e.is_read) in
    let r = c.report_of.ensures in
    all_counted b h c.args.computes_md5 c.in_ok-info.info c.in_ok-walk.walk c.report_of.result refl r.unsupported c.in_ok-walk.ensures.ok r.info r.frames r.samples r.kept r.sizes r.md5_is_judged r.md5_is_shown c.in_ok-info.unsupported r.unsupported r.is_right

pub returns-clause-places_are_counted : goal.returns-clause-places_are_counted
returns-clause-places_are_counted g c =
    let e = c.in_ok-info.ensures in
    let source = g.R.ReadBytes.source in
    let a = counted_bytes source c.args.input.now in
    let m = counted_bytes source c.read_head.new.input in
    let b = counted_bytes source c.walk_frames.new.input in
    let h = head_consumed a m (c.in_ok-info.info, c.in_ok-info.unsupported) (position_of c.read_head.new.input) e.is_read e.has_bounds (front_from_start source c.args.input.now c.read_head.new.input c.requires e.is_read) in
    let r = c.report_of.ensures in
    counted_places b h c.args.computes_md5 c.in_ok-info.info c.in_ok-walk.walk c.report_of.result refl r.unsupported c.in_ok-walk.ensures.ok r.info r.frames r.samples r.kept r.sizes r.md5_is_judged r.md5_is_shown c.in_ok-info.unsupported r.unsupported r.is_right

pub returns-clause-notes_are_exact : goal.returns-clause-notes_are_exact
returns-clause-notes_are_exact g c =
    let e = c.in_ok-info.ensures in
    let source = g.R.ReadBytes.source in
    let a = counted_bytes source c.args.input.now in
    let m = counted_bytes source c.read_head.new.input in
    let b = counted_bytes source c.walk_frames.new.input in
    let h = head_consumed a m (c.in_ok-info.info, c.in_ok-info.unsupported) (position_of c.read_head.new.input) e.is_read e.has_bounds (front_from_start source c.args.input.now c.read_head.new.input c.requires e.is_read) in
    let r = c.report_of.ensures in
    noted_stream b h c.in_ok-info.info c.in_ok-walk.walk c.report_of.result refl c.in_ok-walk.ensures.notes (record { frames_are = r.frames; samples_are = r.samples; kept = r.kept; sizes_are = r.sizes }) c.in_ok-walk.walk.sizes.changed r.notes

pub returns-clause-keeps_at_most : goal.returns-clause-keeps_at_most
returns-clause-keeps_at_most g c = let most = c.in_ok-walk.ensures.few in few_kept most.0 most.1 c.report_of.ensures.few

pub returns-clause-loans : goal.returns-clause-loans
returns-clause-loans g c = c.in_ok-walk.ensures.loans ∙ c.in_ok-info.ensures.is_read.loans

pub returns-clause-is_quiet : goal.returns-clause-is_quiet
returns-clause-is_quiet g c is =
    started_quietly c.in_ok-info.info.samples c.args.progress.now c.start.new.self c.walk_frames.new.progress c.start.ensures.total_is_set c.walk_frames.ensures.stays_quiet
    (elim is [ inl none ↦ inl none | inr none ↦ inr (ap (λ (i : StreamInfo). i.samples) (sym c.report_of.ensures.info) ∙ none) ])

pub returns-in_err-info-clause-promises : goal.returns-in_err-info-clause-promises
returns-in_err-info-clause-promises g c =
    let e = c.in_err-info.ensures in
    let p = err_from_is_err_and c.from_residual.result c.from_residual.ensures.1 in
    rw (p.1, p.2) (no_head _ _ c.args.computes_md5 c.in_err-info.field-0.0 e.is_read e.out_of_memory)

pub returns-in_err-walk-clause-promises : goal.returns-in_err-walk-clause-promises
returns-in_err-walk-clause-promises g c =
    let e = c.in_ok-info.ensures in
    let source = g.R.ReadBytes.source in
    let a = counted_bytes source c.args.input.now in
    let m = counted_bytes source c.read_head.new.input in
    let b = counted_bytes source c.walk_frames.new.input in
    let h = head_consumed a m (c.in_ok-info.info, c.in_ok-info.unsupported) (position_of c.read_head.new.input) e.is_read e.has_bounds (front_from_start source c.args.input.now c.read_head.new.input c.requires e.is_read) in
    let p = err_from_is_err_and c.from_residual-in_err-walk.result c.from_residual-in_err-walk.ensures.1 in
    rw (p.1, p.2) (not_counted b h c.args.computes_md5 c.in_err-walk.field-0.0 c.in_err-walk.ensures.err)

pub returns-clause-trailing_is_told : goal.returns-clause-trailing_is_told
returns-clause-trailing_is_told g c =
    let e = c.in_ok-info.ensures in
    let source = g.R.ReadBytes.source in
    let a = counted_bytes source c.args.input.now in
    let m = counted_bytes source c.read_head.new.input in
    let b = counted_bytes source c.walk_frames.new.input in
    let h = head_consumed a m (c.in_ok-info.info, c.in_ok-info.unsupported) (position_of c.read_head.new.input) e.is_read e.has_bounds (front_from_start source c.args.input.now c.read_head.new.input c.requires e.is_read) in
    let r = c.report_of.ensures in
    frames_told b h c.args.computes_md5 c.in_ok-info.info c.in_ok-walk.walk c.report_of.result refl r.unsupported c.in_ok-walk.ensures.tail r.info r.frames r.samples r.kept r.sizes r.md5_is_judged r.md5_is_shown c.in_ok-info.unsupported r.unsupported r.is_right r.trailing
