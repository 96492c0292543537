-- How a stream is converted.
use Rattle.std.specs.Prelude.{◌≡◌, ℕ, Bool, Err, IfErr, IfOk, Ok, Option, Result}
use Rattle.claxon.specs.FlacReader.{flac_streaminfo, tags_of}
use Rattle.claxon.specs.declared.reader.FlacReader.{FlacReader}
use Rattle.claxon_wav.specs.AnnouncedSize.{IsAnnounced}
use Rattle.claxon_wav.specs.ChannelMask.{IsMaskOfTags, mask_values}
use Rattle.claxon_wav.specs.WaveFile.{IsLayoutOf}
use Rattle.claxon_wav.specs.declared.error.Error.{Error}
use Rattle.claxon_wav.specs.declared.header.Layout.{Layout}
use Rattle.claxon_wav.specs.declared.plan.Plan.{Plan}

-- The layout has the channels, the bits per sample and the sample rate that the streaminfo says,
-- and the channel mask of the tag, if it names one.
pub record IsLayoutOfStream {R A : Type 0} (flac : FlacReader R A) (layout : Layout) : Type 0 where
  pub mask : Option ℕ
  pub mask_is : IsMaskOfTags (mask_values (tags_of flac)) mask
  pub layout_is :
      IsLayoutOf (flac_streaminfo flac).channels (flac_streaminfo flac).bits_per_sample
      (flac_streaminfo flac).sample_rate mask layout

-- It has that layout, announces as many samples as the streaminfo says, and computes the MD5 sum if
-- that is wanted.
pub record IsPlanOf {R A : Type 0} (flac : FlacReader R A) (computes_md5 : Bool) (plan : Plan) :
    Type 0 where
  pub layout : IsLayoutOfStream flac plan.layout
  pub announced :
      IsAnnounced plan.layout (flac_streaminfo flac).samples
      (let size : Result (Option ℕ) Error = Ok plan.announced in size)
  pub computes_md5_is : plan.computes_md5 ≡ computes_md5

-- An Ok is such a plan.
abbrev pub PlanIsSound : {R A : Type 0} → FlacReader R A → Bool → Result Plan Error → Type 0
PlanIsSound flac computes_md5 r = IfOk r (IsPlanOf flac computes_md5)

-- An Err says that no WAV file of that layout holds as many samples.
abbrev pub PlanFaultIsSound : {R A : Type 0} → FlacReader R A → Result Plan Error → Type 0
PlanFaultIsSound flac r =
    IfErr r (λ error. (layout : Layout) × IsLayoutOfStream flac layout
    × IsAnnounced layout (flac_streaminfo flac).samples
    (let size : Result (Option ℕ) Error = Err error in size))
