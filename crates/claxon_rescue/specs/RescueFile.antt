-- The clauses of writing a damaged stream to a file.
use Rattle.std.specs.Prelude.{
  ◌≡◌,
  ◌≢◌,
  ◌/◌,
  ◌<◌,
  ℕ,
  Bool,
  IfOk,
  List,
  [],
  length,
  Option,
  Some,
  Result,
  unwrap_or,
}
use Rattle.std.specs.Io.KnownBytes.{Appends}
use Rattle.claxon.specs.Frame.{Block}
use Rattle.claxon.specs.MetadataBlock.{info_view}
use Rattle.claxon.specs.Source.{Source}
use Rattle.claxon.specs.StreamInfos.{StreamInfo}
use Rattle.claxon_blocks.specs.Md5Verdict.{HasHashedBytes, Md5IsJudged}
use Rattle.claxon_blocks.specs.declared.md5_verdict.Md5Verdict.{Md5Verdict}
use Rattle.claxon_blocks.specs.declared.md5_verdict.Md5Verdict.TheVariants.{NotComputed}
use Rattle.claxon_recovery.specs.Parts.{SourceIsKnown, parts_known, unread}
use Rattle.claxon_recovery.specs.declared.part.Part.{Part}
use Rattle.claxon_recovery.specs.declared.parts.Parts.{Parts}
use Rattle.claxon_wav.specs.Conversion.{
  CorrectsHeader,
  IsVerdictOn,
  first_size,
  planned_bytes,
  total_duration,
}
use Rattle.claxon_wav.specs.DataSize.{max_data_size}
use Rattle.claxon_rescue.specs.Losses.{HasNoted, missing_in}
use Rattle.claxon_rescue.specs.RescuedStream.{AreParts, Rescues}
use Rattle.claxon_rescue.specs.Times.{first_due}
use Rattle.claxon_rescue.specs.Waiting.{waiting_frames}
use Rattle.claxon_wav.specs.WaveFile.{block_align, wave_file}
use Rattle.claxon_wav.specs.declared.error.Error.{Error}
use Rattle.claxon_wav.specs.declared.header.Layout.{Layout}
use Rattle.claxon_wav.specs.declared.plan.Plan.{Plan}
use Rattle.claxon_rescue.specs.declared.rescue.RescueOptions.{RescueOptions}
use Rattle.claxon_rescue.specs.declared.rescue.Rescued.{Rescued}
use Rattle.claxon_rescue.specs.declared.due.Rules.{Rules}
use Rattle.claxon_rescue.specs.declared.losses.LostRange.{LostRange}
use Rattle.claxon_rescue.specs.declared.parts.Rescue.{Rescue}

-- Where frames stand: no more samples are expected than the streaminfo says or, where it doesn't,
-- than a WAV file holds.
abbrev pub rules_of : StreamInfo → Layout → RescueOptions → Rules
rules_of info layout options = record {
  info = info;
  limit = unwrap_or info.samples (max_data_size / block_align layout);
  fills_gaps = options.fills_gaps;
}

-- The plan is for such a stream.
pub record IsPlanFor (info : StreamInfo) (plan : Plan) : Type 0 where
  pub channels_are : plan.layout.channels ≡ info.channels
  pub valid_bits_are : plan.layout.valid_bits ≡ info.bits_per_sample

-- Nothing was rescued so far.
pub record BeginsRescue (plan : Plan) (options : RescueOptions) (rescue : Rescue) : Type 0 where
  pub due_is : rescue.due ≡ first_due options.start
  pub none_wait : waiting_frames rescue.waiting ≡ []
  pub noted : HasNoted options.max_ranges [] rescue.losses
  pub hashed : HasHashedBytes plan.computes_md5 [] rescue.md5

-- That was rescued, after so many samples were written.
pub record IsRescued (rescue : Rescue) (samples : ℕ) (info : StreamInfo) (rescued : Rescued) :
    Type 0 where
  pub samples_are : rescued.conversion.samples ≡ samples
  pub losses_are : rescued.losses ≡ rescue.losses
  pub judged : Md5IsJudged (info_view info) rescue.md5 rescued.conversion.md5

-- The verdict is on the samples of these blocks, if it is wanted and none are missing.
pub record IsVerdictOnRescue (computes_md5 : Bool) (info : StreamInfo) (lost : List LostRange)
    (blocks : List Block) (verdict : Md5Verdict) : Type 0 where
  pub whole : missing_in lost ≡ 0 → IsVerdictOn computes_md5 (info_view info) blocks verdict
  pub torn : 0 < missing_in lost → verdict ≡ NotComputed

-- A complete WAV file of the plan's layout was written, with the blocks that are rescued of the
-- stream's parts, after what the file contained, if its header announced as many bytes; else its
-- header was corrected. It is said what is lost.
pub record IsRescuedTo {R W : Type 0} (source : R → Source ℕ) (contents : W → Option (List ℕ))
    (position : W → Option ℕ) (info : StreamInfo) (plan : Plan) (options : RescueOptions)
    (input : Parts R) (old new : W) (rescued : Rescued) : Type 0 where
  pub parts : List Part
  pub blocks : List Block
  pub lost : List LostRange
  pub are_parts : SourceIsKnown source input
      → AreParts info options.start (unread source input) parts []
  pub rescues : Rescues (rules_of info plan.layout options) options.start parts blocks lost
  pub samples_are : rescued.conversion.samples ≡ total_duration blocks
  pub verdict : IsVerdictOnRescue plan.computes_md5 info lost blocks rescued.conversion.md5
  pub noted : HasNoted options.max_ranges lost rescued.losses
  pub right : first_size plan ≡ length (planned_bytes plan blocks)
      → Appends (contents old) (contents new) (wave_file plan.layout (planned_bytes plan blocks))
  pub wrong : first_size plan ≢ length (planned_bytes plan blocks)
      → CorrectsHeader contents position plan.layout (first_size plan) (planned_bytes plan blocks)
      (contents old) (contents new)

-- An Ok did so, with the streaminfo of the parts.
abbrev pub RescuesTo : {R W : Type 0} → (R → Source ℕ) → (W → Option (List ℕ)) → (W → Option ℕ)
    → Plan → RescueOptions → Parts R → W → Result Rescued Error → W → Type 0
RescuesTo source contents position plan options input old result new =
    IfOk result (λ rescued.
    (info : StreamInfo) → parts_known input ≡ Some info
    → IsRescuedTo source contents position info plan options input old new rescued)
