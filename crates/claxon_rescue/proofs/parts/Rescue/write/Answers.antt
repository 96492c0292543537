use Rattle.std.proofs.Common.{inl}
use Rattle.std.proofs.lemmas.Result.{err_from_is_err_and}
use Rattle.claxon_rescue.proofs.RescuedFiles.{end_failed, written_file}
use Rattle.claxon_rescue.proofs.parts.Rescue.write.Goals as goal

pub returns-clause-is_sound : goal.returns-clause-is_sound
returns-clause-is_sound g c = written_file g.R.ReadBytes.source g.W.Write.contents c.args.rules.now c.args.start c.args.parts.now c.put_parts-outcome.new.parts c.args.wav.now c.put_parts-outcome.new.wav c.finish-finished.new.self g.W.Seek.stream_position c.args.self.now c.put_parts-outcome.new.self c.finish-finished.result c.in_ok-outcome.ensures.is_sound c.finish-finished.ensures.is_sound c.finish-finished.ensures.flushes

pub returns-clause-fault_is_sound : goal.returns-clause-fault_is_sound
returns-clause-fault_is_sound g c = end_failed g.R.ReadBytes.source g.W.Write.contents c.args.rules.now c.args.start c.args.parts.now c.put_parts-outcome.new.parts c.args.wav.now c.put_parts-outcome.new.wav c.finish-finished.new.self c.finish-finished.result c.finish-finished.ensures.fault_is_sound c.finish-finished.ensures.tries_to_end

pub returns-in_err-outcome-clause-fault_is_sound : goal.returns-in_err-outcome-clause-fault_is_sound
returns-in_err-outcome-clause-fault_is_sound g c =
    let p = err_from_is_err_and c.from_residual.result c.from_residual.ensures.1 in
    rw (p.1, p.2) (record { put = c.put_parts-outcome.new.wav; tries = c.finish-finished.ensures.tries_to_end; why = inl c.in_err-outcome.ensures.fault_is_sound })
