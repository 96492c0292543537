use Rattle.std.proofs.Common.{◌≡◌, ◌<◌, ◌^◌, ℕ, ap, refl, rules, subst}
use Rattle.std.proofs.lemmas.Result.{err_from_is_err_and}
use Rattle.claxon_heads.specs.BytesRead.{counted_bytes, position_of}
use Rattle.claxon_heads.specs.declared.bytes_read.BytesRead.{BytesRead}
use Rattle.claxon_verify.proofs.PartsStopped.{head_stops, memory_stops, parts_stop}
use Rattle.claxon_verify.proofs.PartsVerified.{CountsParts, counts_from, parts_verified}
use Rattle.claxon_verify.proofs.Verified.{head_consumed}
use Rattle.claxon_heads.proofs.Positions.{front_from_start}
use Rattle.claxon_verify.proofs.PartsTrailed.{CountsToTail, tail_from, trailing_told}
use Rattle.claxon_verify.proofs.parts.verify_counted_parts.Goals as goal

pub returns-clause-is_sound : goal.returns-clause-is_sound
returns-clause-is_sound g c =
    let e = c.in_ok-info.ensures in
    let source = g.R.ReadBytes.source in
    let a = counted_bytes source c.args.input.now in
    let m = counted_bytes source c.read_head.new.input in
    let start = position_of c.read_head.new.input in
    let h = head_consumed a m (c.in_ok-info.info, c.in_ok-info.unsupported) start e.is_read e.has_bounds (front_from_start source c.args.input.now c.read_head.new.input c.requires e.is_read) in
    let r = c.report_of.ensures in
    let info = c.in_ok-info.info in
    let walk = c.in_ok-walked.field-0 in
    let at : c.value-start.result.bytes ≡ start = ap (λ (p : BytesRead). p.bytes) c.value-start.ensures in
    let from = counts_from source c.args.computes_md5 info c.value-start.result.bytes _ c.in_ok-parts.parts walk c.in_ok-parts.ensures.begins c.in_ok-walked.ensures.ok in
    let walks = subst (λ (n : ℕ). CountsParts c.args.computes_md5 info n m walk) at from in
    let fits = c.walk_parts-walked.ensures.fits in
    parts_verified h c.args.computes_md5 info walk c.report_of.result refl r.unsupported (subst (λ (n : ℕ). n < 2 ^ 64) at fits) walks r.info r.frames r.samples r.kept r.sizes r.md5_is_judged r.md5_is_shown c.in_ok-info.unsupported r.unsupported r.is_right walk.sizes.changed r.notes

pub returns-in_err-info-clause-fault_is_sound : goal.returns-in_err-info-clause-fault_is_sound
returns-in_err-info-clause-fault_is_sound g c =
    let e = c.in_err-info.ensures in
    let p = err_from_is_err_and c.from_residual.result c.from_residual.ensures.1 in
    rw (p.1, p.2) (head_stops _ _ c.in_err-info.field-0.0 e.is_read e.out_of_memory)

pub returns-in_err-parts-clause-fault_is_sound : goal.returns-in_err-parts-clause-fault_is_sound
returns-in_err-parts-clause-fault_is_sound g c =
    let e = c.in_ok-info.ensures in
    let source = g.R.ReadBytes.source in
    let a = counted_bytes source c.args.input.now in
    let m = counted_bytes source c.read_head.new.input in
    let h = head_consumed a m (c.in_ok-info.info, c.in_ok-info.unsupported) (position_of c.read_head.new.input) e.is_read e.has_bounds (front_from_start source c.args.input.now c.read_head.new.input c.requires e.is_read) in
    let p = err_from_is_err_and c.from_residual-in_err-parts.result c.from_residual-in_err-parts.ensures.1 in
    rw (p.1, p.2) (λ known. memory_stops h known c.in_err-parts.field-0.0 c.in_err-parts.ensures.err)

pub returns-in_err-walked-clause-fault_is_sound : goal.returns-in_err-walked-clause-fault_is_sound
returns-in_err-walked-clause-fault_is_sound g c =
    let e = c.in_ok-info.ensures in
    let source = g.R.ReadBytes.source in
    let a = counted_bytes source c.args.input.now in
    let m = counted_bytes source c.read_head.new.input in
    let start = position_of c.read_head.new.input in
    let h = head_consumed a m (c.in_ok-info.info, c.in_ok-info.unsupported) start e.is_read e.has_bounds (front_from_start source c.args.input.now c.read_head.new.input c.requires e.is_read) in
    let at : c.value-start.result.bytes ≡ start = ap (λ (p : BytesRead). p.bytes) c.value-start.ensures in
    let p = err_from_is_err_and c.from_residual-in_err-walked.result c.from_residual-in_err-walked.ensures.1 in
    rw (p.1, p.2) (λ known. parts_stop source _ h e.is_read.loans known c.in_ok-info.info refl _ at c.walk_parts-walked.ensures.fits c.in_ok-parts.parts c.walk_parts-walked.new.parts c.in_ok-parts.ensures.begins c.in_err-walked.field-0.0 c.in_err-walked.ensures.err _ (λ same. search rules))

pub returns-clause-trailing_is_told : goal.returns-clause-trailing_is_told
returns-clause-trailing_is_told g c =
    let e = c.in_ok-info.ensures in
    let source = g.R.ReadBytes.source in
    let a = counted_bytes source c.args.input.now in
    let m = counted_bytes source c.read_head.new.input in
    let start = position_of c.read_head.new.input in
    let h = head_consumed a m (c.in_ok-info.info, c.in_ok-info.unsupported) start e.is_read e.has_bounds (front_from_start source c.args.input.now c.read_head.new.input c.requires e.is_read) in
    let r = c.report_of.ensures in
    let info = c.in_ok-info.info in
    let walk = c.in_ok-walked.field-0 in
    let at : c.value-start.result.bytes ≡ start = ap (λ (p : BytesRead). p.bytes) c.value-start.ensures in
    let from = tail_from source c.args.computes_md5 info c.value-start.result.bytes _ c.in_ok-parts.parts walk c.in_ok-parts.ensures.begins c.in_ok-walked.ensures.tail in
    let walks = subst (λ (n : ℕ). CountsToTail c.args.computes_md5 info n m walk) at from in
    let fits = c.walk_parts-walked.ensures.fits in
    trailing_told h c.args.computes_md5 info walk c.report_of.result refl r.unsupported (subst (λ (n : ℕ). n < 2 ^ 64) at fits) walks r.info r.frames r.samples r.kept r.sizes r.md5_is_judged r.md5_is_shown c.in_ok-info.unsupported r.unsupported r.is_right walk.sizes.changed r.notes r.trailing
