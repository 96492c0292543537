use Rattle.std.proofs.Common.{rules, refl, inl, sym, ap, ◌∙◌}
use Rattle.std.proofs.lemmas.Result.{err_from_is_err_and}
use Rattle.claxon.specs.FlacReader.{flac_head}
use Rattle.claxon.specs.Opening.{flac_bytes, unread}
use Rattle.claxon_write.proofs.Runs.{prefixes, opened_complete, opened_fault_complete, ran, head_fault, not_opened_complete, not_opened_fault_complete, stopped}
use Rattle.claxon_write.proofs.stream.run.Goals as goal

pub returns-clause-is_sound : goal.returns-clause-is_sound
returns-clause-is_sound g c =
    let same = c.into_inner.ensures.is_writer_of.same_reference ∙ (c.write_samples-outcome.ensures.same_writer ∙ c.new-output.ensures.is_new_output.writer_is.same_reference) in
    let e = sym same in
    let k = ran g.W.Write.contents (flac_head c.in_ok-flac.flac) (unread (g.R.Read.remaining c.args.input)) (flac_bytes g.R.Read.remaining c.in_ok-flac.flac) _ (g.W.Write.contents c.args.output.now) c.new-output.result c.write_samples-outcome.new.output
    c.in_ok-flac.ensures.is_sound (ap g.W.Write.contents c.new-output.ensures.is_new_output.writer_is.writer) c.new-output.ensures.is_new_output.none_pending c.write_samples-outcome.result c.write_samples-outcome.ensures.is_sound in
    let w = c.into_inner.ensures.is_writer_of.writer in
    let j = rw (← w) at k in
    search rules

pub returns-clause-fault_is_sound : goal.returns-clause-fault_is_sound
returns-clause-fault_is_sound g c =
    let same = c.into_inner.ensures.is_writer_of.same_reference ∙ (c.write_samples-outcome.ensures.same_writer ∙ c.new-output.ensures.is_new_output.writer_is.same_reference) in
    let e = sym same in
    let k = stopped g.W.Write.contents (flac_head c.in_ok-flac.flac) (unread (g.R.Read.remaining c.args.input)) (flac_bytes g.R.Read.remaining c.in_ok-flac.flac) _ (g.W.Write.contents c.args.output.now) c.new-output.result c.write_samples-outcome.new.output
    c.in_ok-flac.ensures.is_sound (ap g.W.Write.contents c.new-output.ensures.is_new_output.writer_is.writer) c.new-output.ensures.is_new_output.none_pending c.write_samples-outcome.result c.write_samples-outcome.ensures.fault_is_sound in
    let w = c.into_inner.ensures.is_writer_of.writer in
    let j = rw (← w) at k in
    search rules

pub returns-clause-writes_prefix : goal.returns-clause-writes_prefix
returns-clause-writes_prefix g c =
    let same = c.into_inner.ensures.is_writer_of.same_reference ∙ (c.write_samples-outcome.ensures.same_writer ∙ c.new-output.ensures.is_new_output.writer_is.same_reference) in
    let e = sym same in
    let k = prefixes g.W.Write.contents (flac_head c.in_ok-flac.flac) (unread (g.R.Read.remaining c.args.input)) (flac_bytes g.R.Read.remaining c.in_ok-flac.flac) _ (g.W.Write.contents c.args.output.now) c.new-output.result c.write_samples-outcome.new.output
    c.in_ok-flac.ensures.is_sound (ap g.W.Write.contents c.new-output.ensures.is_new_output.writer_is.writer) c.new-output.ensures.is_new_output.none_pending c.write_samples-outcome.result c.write_samples-outcome.ensures.fault_is_sound in
    let w = c.into_inner.ensures.is_writer_of.writer in
    let j = rw (← w) at k in
    search rules

pub returns-clause-is_complete : goal.returns-clause-is_complete
returns-clause-is_complete g c =
    let k = opened_complete g.R.Read.remaining c.args.input c.in_ok-flac.flac c.write_samples-outcome.new.flac c.write_samples-outcome.result c.new-output.result c.write_samples-outcome.new.output c.in_ok-flac.ensures.is_complete
    c.write_samples-outcome.ensures.is_complete in
    search rules

pub returns-clause-fault_is_complete : goal.returns-clause-fault_is_complete
returns-clause-fault_is_complete g c =
    let k = opened_fault_complete g.R.Read.remaining c.args.input c.in_ok-flac.flac c.write_samples-outcome.new.flac c.write_samples-outcome.result c.new-output.result c.write_samples-outcome.new.output c.in_ok-flac.ensures.is_complete
    c.write_samples-outcome.ensures.fault_is_complete c.in_ok-flac.ensures.fault_is_complete in
    search rules

pub returns-in_err-flac-clause-fault_is_sound : goal.returns-in_err-flac-clause-fault_is_sound
returns-in_err-flac-clause-fault_is_sound g c =
    let p = err_from_is_err_and c.from_residual.result c.from_residual.ensures.1 in
    rw (p.1, p.2) (head_fault (unread (g.R.Read.remaining c.args.input)) (g.W.Write.contents c.args.output.now) _ c.in_err-flac.ensures.fault_is_sound)

pub returns-in_err-flac-clause-writes_prefix : goal.returns-in_err-flac-clause-writes_prefix
returns-in_err-flac-clause-writes_prefix g c =
    let p = err_from_is_err_and c.from_residual.result c.from_residual.ensures.1 in
    rw (p.1, p.2) (record { written = λ known. inl refl })

pub returns-in_err-flac-clause-is_complete : goal.returns-in_err-flac-clause-is_complete
returns-in_err-flac-clause-is_complete g c =
    let p = err_from_is_err_and c.from_residual.result c.from_residual.ensures.1 in
    rw (p.1, p.2) (not_opened_complete g.R.Read.remaining c.args.input _ c.in_err-flac.ensures.is_complete)

pub returns-in_err-flac-clause-fault_is_complete : goal.returns-in_err-flac-clause-fault_is_complete
returns-in_err-flac-clause-fault_is_complete g c =
    let p = err_from_is_err_and c.from_residual.result c.from_residual.ensures.1 in
    rw (p.1, p.2) (not_opened_fault_complete g.R.Read.remaining c.args.input _ c.in_err-flac.ensures.is_complete c.in_err-flac.ensures.fault_is_complete)
