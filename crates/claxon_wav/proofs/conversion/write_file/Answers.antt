use Rattle.std.proofs.Common.{rules, subst, sym, ◌∙◌}
use Rattle.std.proofs.lemmas.Result.{err_from_is_err_and}
use Rattle.claxon.specs.FlacReader.{flac_streaminfo}
use Rattle.claxon.specs.MetadataBlock.{info_view}
use Rattle.claxon.specs.Opening.{flac_bytes}
use Rattle.claxon.specs.StreamInfos.{StreamInfo}
use Rattle.claxon_write.specs.WriteSamples.{flac_stream}
use Rattle.claxon_blocks.specs.Md5Verdict.{Md5IsJudged}
use Rattle.claxon_wav.proofs.Converting.{input_explained, judged}
use Rattle.claxon_wav.proofs.Planned.{corrected_file, planned_file}
use Rattle.claxon_wav.proofs.SampleCounts.{counted}
use Rattle.claxon_wav.proofs.conversion.write_file.Goals as goal

pub returns-clause-is_sound : goal.returns-clause-is_sound
returns-clause-is_sound g c =
    let all = c.in_ok-convert.ensures.is_sound in
    let tells = subst (λ (i : StreamInfo). Md5IsJudged (info_view i) c.convert.new.md5 c.judge_md5.result) c.streaminfo-info.ensures.value c.judge_md5.ensures.md5_is_judged in
    let begins = c.in_ok-start.ensures.is_sound in
    let count = counted g.W.Write.contents all.blocks c.start.new.self all.put c.convert.new.wav all.puts begins.writes.none_so_far all.right.written_is all.right.layout_is in (
      all.blocks,
      all.all,
      c.samples-samples.ensures ∙ count,
      judged c.args.plan.computes_md5 (flac_streaminfo c.args.flac.now) all.blocks c.new_hasher-md5.result c.convert.new.md5 c.judge_md5.result c.new_hasher-md5.ensures.has_hashed_bytes all.hashes tells,
    )

pub returns-clause-writes_file : goal.returns-clause-writes_file
returns-clause-writes_file g c =
    let all = c.in_ok-convert.ensures.is_sound in
    let fresh = c.new-wav.ensures.is_new_writer in
    let same = c.into_output.ensures.is_output_of.same_reference ∙ (c.in_ok-convert.ensures.same_output ∙ (c.in_ok-start.ensures.same_output ∙ fresh.counts.same_reference)) in
    let e = sym same in
    let k = planned_file g.W.Write.contents c.args.plan all.blocks c.new-wav.result c.start.new.self c.convert.new.wav fresh.layout_is c.unwrap_or.result c.unwrap_or.ensures c.in_ok-start.ensures.is_sound all.file in
    let w = c.into_output.ensures.is_output_of.writer in
    let j = rw (← w, fresh.counts.writer) at k in
    let n = corrected_file g.W.Write.contents c.args.plan all.blocks c.new-wav.result c.start.new.self c.convert.new.wav fresh.layout_is g.W.Seek.stream_position all.put c.unwrap_or.result c.unwrap_or.ensures c.in_ok-start.ensures.is_sound all.puts all.ends in
    let m = rw (← w, fresh.counts.writer) at n in
    (all.blocks, all.all, search rules, search rules)

pub returns-in_err-convert-clause-fault_is_sound : goal.returns-in_err-convert-clause-fault_is_sound
returns-in_err-convert-clause-fault_is_sound g c =
    let p = err_from_is_err_and c.from_residual-in_err-convert.result c.from_residual-in_err-convert.ensures.1 in
    let fresh = c.new-wav.ensures.is_new_writer in
    let begins = c.in_ok-start.ensures.is_sound in
    let said = input_explained (flac_stream c.args.flac.now) (flac_bytes g.R.Read.remaining c.args.flac.now) (flac_bytes g.R.Read.remaining c.convert.new.flac) c.start.new.self c.convert.new.wav c.args.plan.layout (begins.writes.layout_is ∙ fresh.layout_is) begins.writes.none_so_far c.in_err-convert.field-0.0 c.in_err-convert.ensures.fault_is_sound in
    rw (p.1, p.2) said
