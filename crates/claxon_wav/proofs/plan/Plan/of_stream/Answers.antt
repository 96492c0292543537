use Rattle.std.proofs.Common.{Option, subst, ℕ, arith}
use Rattle.std.proofs.lemmas.Grind.{common_steps}
use Rattle.std.specs.Prelude.{Err, Result}
use Rattle.std.proofs.lemmas.Result.{err_from_is_err_and}
use Rattle.claxon.specs.StreamInfos.{StreamInfo}
use Rattle.claxon_wav.specs.AnnouncedSize.{IsAnnounced}
use Rattle.claxon_wav.specs.WaveFile.{IsLayoutOf}
use Rattle.claxon_wav.specs.declared.error.Error.{Error}
use Rattle.claxon_wav.proofs.plan.Plan.of_stream.Goals as goal

pub returns-in_err-announced-clause-fault_is_sound : goal.returns-in_err-announced-clause-fault_is_sound
returns-in_err-announced-clause-fault_is_sound g c =
    let p = err_from_is_err_and c.from_residual.result c.from_residual.ensures.1 in
    let info = c.streaminfo-info.ensures.value in
    let layout = c.new-layout.result in
    let layout_is = subst (λ (i : StreamInfo). IsLayoutOf i.channels i.bits_per_sample i.sample_rate c.channel_mask.result layout) info c.new-layout.ensures.is_layout_of in
    let none = subst (λ (i : StreamInfo). IsAnnounced layout i.samples (let size : Result (Option ℕ) Error = Err c.in_err-announced.field-0.0 in size)) info c.in_err-announced.ensures.is_announced in
    rw (p.1, p.2) (layout, record { mask = c.channel_mask.result; mask_is = c.channel_mask.ensures; layout_is = layout_is }, none)

pub returns-clause-is_sound : goal.returns-clause-is_sound
returns-clause-is_sound g c = grind (arith, common_steps)
