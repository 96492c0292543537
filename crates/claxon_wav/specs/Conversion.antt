-- A whole stream, converted.
use Rattle.std.specs.Prelude.{
  ◌≡◌,
  ◌≢◌,
  ℕ,
  Bool,
  IfErr,
  IfOk,
  IfSome,
  List,
  ◌++◌,
  length,
  None,
  OnOk,
  Option,
  Result,
  Some,
  false,
  true,
  unwrap_or,
}
use Rattle.std.specs.Io.KnownBytes.{Appends}
use Rattle.std.specs.List.{sum_by}
use Rattle.claxon.specs.FlacReader.{flac_streaminfo}
use Rattle.claxon.specs.Frame.{Block}
use Rattle.claxon.specs.MetadataBlock.{info_view}
use Rattle.claxon.specs.Opening.{flac_bytes}
use Rattle.claxon.specs.SampleRuns.{samples_of}
use Rattle.claxon.specs.Streaminfo.{Streaminfo}
use Rattle.claxon.specs.Streams.{duration_of}
use Rattle.claxon.specs.declared.reader.FlacReader.{FlacReader}
use Rattle.claxon_md5.specs.WholeBytes.{whole_bytes_of_samples}
use Rattle.claxon_write.specs.WriteSamples.{flac_stream}
use Rattle.claxon_wav.specs.Convert.{ExplainsInput, IsWholeStream, packed_blocks}
use Rattle.claxon_wav.specs.WaveFile.{IsHeader, pad, unknown_header, wave_file}
use Rattle.claxon_blocks.specs.Md5Verdict.{IsMd5Verdict}
use Rattle.claxon_blocks.specs.declared.md5_verdict.Md5Verdict.{Md5Verdict}
use Rattle.claxon_blocks.specs.declared.md5_verdict.Md5Verdict.TheVariants.{NotComputed}
use Rattle.claxon_wav.specs.declared.conversion.Conversion.{Conversion}
use Rattle.claxon_wav.specs.declared.header.Layout.{Layout}
use Rattle.claxon_wav.specs.declared.plan.Plan.{Plan}
use Rattle.claxon_wav.specs.declared.error.Error.{Error}

-- whether the MD5 sum is computed
abbrev pub plan_computes_md5 : Plan → Bool
plan_computes_md5 plan = plan.computes_md5

-- The verdict is on the samples of these blocks, if it is wanted.
abbrev pub IsVerdictOn : Bool → Streaminfo → List Block → Md5Verdict → Type 0
IsVerdictOn false info blocks verdict = verdict ≡ NotComputed
IsVerdictOn true info blocks verdict =
    IsMd5Verdict info (whole_bytes_of_samples info.bit_depth (samples_of blocks)) verdict

-- the number of samples per channel of blocks
abbrev pub total_duration : List Block → ℕ
total_duration blocks = sum_by (λ b. duration_of b.channels) blocks

-- An Ok has the number of samples per channel of all blocks up to the end of the stream, and the
-- verdict on their samples.
abbrev pub ConversionIsSound : {R A : Type 0} → Bool → (R → Option (List ℕ)) → FlacReader R A
    → Result Conversion Error → Type 0
ConversionIsSound computes_md5 remaining flac r =
    IfOk r (λ conversion. (blocks : List Block)
    × IsWholeStream (flac_stream flac) blocks (flac_bytes remaining flac)
    × (conversion.samples ≡ total_duration blocks)
    × IsVerdictOn computes_md5 (info_view (flac_streaminfo flac)) blocks conversion.md5)

-- An Err says why the stream wasn't converted to a file of this layout; `OutOfMemory`, and a failed
-- call of the output, say nothing of it.
abbrev pub ConversionFaultIsSound : {R A : Type 0} → Layout → (R → Option (List ℕ))
    → Result Conversion Error → FlacReader R A → FlacReader R A → Type 0
ConversionFaultIsSound layout remaining r before after =
    IfErr r (ExplainsInput (flac_stream before) (flac_bytes remaining before)
    (flac_bytes remaining after) layout 0)

-- ---- the output

-- the bytes of the samples of blocks in this plan's layout
abbrev pub planned_bytes : Plan → List Block → List ℕ
planned_bytes plan blocks = packed_blocks plan.layout.valid_bits blocks

-- As many bytes as the plan announces are those of the samples.
abbrev pub AnnouncesAll : Plan → List Block → Type 0
AnnouncesAll plan blocks = plan.announced ≡ Some (length (planned_bytes plan blocks))

-- the number of bytes that the first header of a file announces
abbrev pub first_size : Plan → ℕ
first_size plan = unwrap_or plan.announced 0

-- The header was corrected: after what the file contained came a header of this layout for so many
-- bytes, these bytes and a pad byte, and then, after a seek to the start where the position is
-- known, the header for these bytes.
pub record CorrectsHeader {W : Type 0} (contents : W → Option (List ℕ)) (position : W → Option ℕ)
    (layout : Layout) (size : ℕ) (bytes : List ℕ) (before after : Option (List ℕ)) : Type 0 where
  pub first : List ℕ
  pub is_first : IsHeader layout size first
  pub padded : W
  pub put : Appends before (contents padded) (first ++ bytes ++ pad (length bytes))
  pub start : W
  pub at_start : IfSome (position padded) (λ _. position start ≡ Some 0)
  pub last : List ℕ
  pub is_last : IsHeader layout (length bytes) last
  pub written : Appends (contents start) after last

-- After an Ok the file has, after what it contained, a complete WAV file of the plan's layout with
-- the samples of all blocks up to the end of the stream, if its header announced as many bytes.
-- Else its header was corrected.
abbrev pub WritesFile : {R A W : Type 0} → Plan → (W → Option (List ℕ)) → (W → Option ℕ)
    → (R → Option (List ℕ)) → FlacReader R A → Result Conversion Error → W → W → Type 0
WritesFile plan contents position remaining flac r old new =
    OnOk r ((blocks : List Block)
    × IsWholeStream (flac_stream flac) blocks (flac_bytes remaining flac)
    × (first_size plan ≡ length (planned_bytes plan blocks)
    → Appends (contents old) (contents new) (wave_file plan.layout (planned_bytes plan blocks)))
    × (first_size plan ≢ length (planned_bytes plan blocks)
    → CorrectsHeader contents position plan.layout (first_size plan) (planned_bytes plan blocks)
    (contents old) (contents new)))

-- The same of an output that can't seek, whose header stays as it is. Where the plan announces no
-- number of bytes, it is that for an unknown one.
abbrev pub WritesStream : {R A : Type 0} → Plan → (R → Option (List ℕ)) → FlacReader R A
    → Result Conversion Error → Option (List ℕ) → Option (List ℕ) → Type 0
WritesStream plan remaining flac r before after =
    OnOk r ((blocks : List Block)
    × IsWholeStream (flac_stream flac) blocks (flac_bytes remaining flac)
    × (AnnouncesAll plan blocks
    → Appends before after (wave_file plan.layout (planned_bytes plan blocks)))
    × (plan.announced ≡ None
    → Appends before after (unknown_header plan.layout ++ planned_bytes plan blocks))
    × ((announced : ℕ) → plan.announced ≡ Some announced
    → announced ≢ length (planned_bytes plan blocks)
    → (header : List ℕ) × IsHeader plan.layout announced header
    × Appends before after (header ++ planned_bytes plan blocks)))
