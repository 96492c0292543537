use Rattle.std.proofs.Common.{rules, subst, sym, ◌∙◌}
use Rattle.std.proofs.lemmas.Result.{err_from_is_err_and}
use Rattle.claxon.specs.FlacReader.{flac_streaminfo}
use Rattle.claxon.specs.MetadataBlock.{info_view}
use Rattle.claxon.specs.Opening.{flac_bytes}
use Rattle.claxon.specs.StreamInfos.{StreamInfo}
use Rattle.claxon_write.specs.WriteSamples.{flac_stream}
use Rattle.claxon_blocks.specs.Md5Verdict.{Md5IsJudged}
use Rattle.claxon_wav.proofs.Converting.{input_explained, judged}
use Rattle.claxon_wav.proofs.Planned.{none_begun, planned_other, planned_stream, planned_unknown, same_layout_begun, with_header}
use Rattle.claxon_wav.proofs.SampleCounts.{counted}
use Rattle.claxon_wav.proofs.conversion.write_stream.Goals as goal

pub returns-clause-is_sound : goal.returns-clause-is_sound
returns-clause-is_sound g c =
    let all = c.in_ok-convert_to_stream.ensures.is_sound in
    let tells = subst (λ (i : StreamInfo). Md5IsJudged (info_view i) c.convert_to_stream.new.md5 c.judge_md5.result) c.streaminfo-info.ensures.value c.judge_md5.ensures.md5_is_judged in
    let none = none_begun g.W.Write.contents c.args.plan.announced c.new-wav.result c.start_planned.new.wav c.in_ok-start_planned.ensures.is_sound in
    let count = counted g.W.Write.contents all.blocks c.start_planned.new.wav all.put c.convert_to_stream.new.wav all.puts none all.written_is all.layout_is in (
      all.blocks,
      all.all,
      c.samples-written.ensures ∙ count,
      judged c.args.plan.computes_md5 (flac_streaminfo c.args.flac.now) all.blocks c.new_hasher-md5.result c.convert_to_stream.new.md5 c.judge_md5.result c.new_hasher-md5.ensures.has_hashed_bytes all.hashes tells,
    )

pub returns-clause-writes_stream : goal.returns-clause-writes_stream
returns-clause-writes_stream g c =
    let all = c.in_ok-convert_to_stream.ensures.is_sound in
    let fresh = c.new-wav.ensures.is_new_writer in
    let same = c.into_output.ensures.is_output_of.same_reference ∙ (c.in_ok-convert_to_stream.ensures.same_output ∙ (c.in_ok-start_planned.ensures.same_output ∙ fresh.counts.same_reference)) in
    let e = sym same in
    let begins = c.in_ok-start_planned.ensures.is_sound in
    let known = planned_stream g.W.Write.contents c.args.plan all.blocks c.new-wav.result c.start_planned.new.wav c.convert_to_stream.new.wav fresh.layout_is begins all.file in
    let unknown = planned_unknown g.W.Write.contents c.args.plan all.blocks c.new-wav.result c.start_planned.new.wav c.convert_to_stream.new.wav fresh.layout_is begins all.unknown in
    let w = c.into_output.ensures.is_output_of.writer in
    let j = rw (← w, fresh.counts.writer) at known in
    let k = rw (← w, fresh.counts.writer) at unknown in (
      all.blocks,
      all.all,
      search rules,
      search rules,
      λ n some differ. with_header
          (planned_other g.W.Write.contents c.args.plan all.blocks c.new-wav.result c.start_planned.new.wav c.convert_to_stream.new.wav fresh.layout_is n begins all.other some differ)
          (λ header appends. let l = rw (← w, fresh.counts.writer) at appends in search rules),
    )

pub returns-in_err-convert_to_stream-clause-fault_is_sound : goal.returns-in_err-convert_to_stream-clause-fault_is_sound
returns-in_err-convert_to_stream-clause-fault_is_sound g c =
    let p = err_from_is_err_and c.from_residual-in_err-convert_to_stream.result c.from_residual-in_err-convert_to_stream.ensures.1 in
    let fresh = c.new-wav.ensures.is_new_writer in
    let begins = c.in_ok-start_planned.ensures.is_sound in
    let said = input_explained (flac_stream c.args.flac.now) (flac_bytes g.R.Read.remaining c.args.flac.now) (flac_bytes g.R.Read.remaining c.convert_to_stream.new.flac) c.start_planned.new.wav c.convert_to_stream.new.wav c.args.plan.layout (same_layout_begun g.W.Write.contents c.args.plan.announced c.new-wav.result c.start_planned.new.wav begins ∙ fresh.layout_is) (none_begun g.W.Write.contents c.args.plan.announced c.new-wav.result c.start_planned.new.wav begins) c.in_err-convert_to_stream.field-0.0 c.in_err-convert_to_stream.ensures.fault_is_sound in
    rw (p.1, p.2) said
