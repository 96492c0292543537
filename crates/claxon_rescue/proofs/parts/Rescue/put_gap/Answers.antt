use Rattle.std.proofs.Common.{refl}
use Rattle.std.proofs.lemmas.Result.{err_from_is_err_and}
use Rattle.claxon_wav.specs.Convert.{PutsSamples}
use Rattle.claxon_rescue.specs.Rescue.{gap_blocks}
use Rattle.claxon_rescue.proofs.Gaps.{gap_filled, gap_noted, gap_skipped, gap_stops, no_gap}
use Rattle.claxon_rescue.proofs.parts.Rescue.put_gap.Goals.{then-rules+in_ok-put_silence, else-rules}
use Rattle.claxon_rescue.proofs.parts.Rescue.put_gap.Goals as goal

pub returns-then-start_sample-sample-clause-is_sound : goal.returns-then-start_sample-sample-clause-is_sound
returns-then-start_sample-sample-clause-is_sound g c = no_gap c.args.rules.now c.args.self.now c.args.wav.now c.args.sample c.args.byte c.if-start_sample-sample.true

pub returns-in_err-put_silence-clause-fault_is_sound : goal.returns-in_err-put_silence-clause-fault_is_sound
returns-in_err-put_silence-clause-fault_is_sound g c =
    let p = err_from_is_err_and c.from_residual.result c.from_residual.ensures.1 in
    rw (p.1, p.2) (gap_stops g.W.Write.contents c.args.rules.now c.args.self.now.due c.args.wav.now c.put_silence.new.self c.args.sample c.if-start_sample-sample.false c.if-rules.true c.requires.is_file_of c.in_err-put_silence.field-0.0 c.in_err-put_silence.ensures.fault_is_sound c.in_err-put_silence.ensures.fault_keeps)

pub returns-clause-is_sound : goal.returns-clause-is_sound
returns-clause-is_sound g c =
    let rules = c.args.rules.now in
    let old = c.args.self.now in
    let more = c.if-start_sample-sample.false in
    let puts : PutsSamples g.W.Write.contents (gap_blocks rules old.due c.args.sample) c.args.wav.now c.if-rules.wav = elim c.if-rules.branch [
      | then-rules+in_ok-put_silence w ↦ rw w.wav-is (gap_filled rules old.due c.args.wav.now w.put_silence.new.self c.args.sample more w.if-rules.true c.requires.is_file_of w.in_ok-put_silence.ensures.is_sound w.in_ok-put_silence.ensures.same_header w.in_ok-put_silence.ensures.unflushed)
      | else-rules w ↦ rw w.wav-is (gap_skipped rules old.due c.args.wav.now c.args.sample w.if-rules.false)
    ] in
    gap_noted rules old _ c.args.wav.now c.if-rules.wav c.args.sample c.args.byte more refl refl refl c.note.ensures.notes_range puts
