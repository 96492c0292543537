-- What is said of a stream that was verified, and the exit status.
use Rattle.std.specs.Prelude.{
  ◌≡◌,
  ◌↔◌,
  ◌⊎◌,
  ◌==◌,
  ◌&&◌,
  ℕ,
  Bool,
  true,
  false,
  List,
  ◌++◌,
  codes,
  if◌then◌else◌,
  decimal,
  Option,
  None,
  Some,
  Result,
  IsSome,
  IsTrue,
}
use Rattle.std.specs.declared.alloc.AllocError.{AllocError}
use Rattle.std.specs.declared.io.ErrorKind.TheVariants.{BrokenPipe, UnexpectedEof}
use Rattle.std.specs.declared.string.String.{String}
use Rattle.std.specs.IoError.{error_kind}
use Rattle.claxon.specs.Codes.{when◌then◌else◌}
use Rattle.claxon.specs.Error.{IsFault}
use Rattle.claxon.specs.Errors.{Error}
use Rattle.claxon.specs.Errors.TheVariants.{FormatError, IoError, OutOfMemory, Unsupported}
use Rattle.claxon.specs.Fault.{
  Id3Header,
  SampleRate as SampleRateFault,
  ShiftNegative,
  SideTooWide,
  StreamMarker,
}
use Rattle.claxon.specs.StreamInfos.{StreamInfo}
use Rattle.claxon_command_line.specs.Messages.{ErrorTextIsSound}
use Rattle.claxon_command_line.specs.Text.{IsText, count_text}
use Rattle.claxon_verdict.specs.declared.text.SaidBy.{SaidBy}
use Rattle.claxon_verdict.specs.declared.text.SaidBy.TheVariants.{FirstFrame, Streaminfo}
use Rattle.claxon_verdict.specs.declared.verdict.Outcome.{Outcome}
use Rattle.claxon_verdict.specs.declared.verdict.Outcome.TheVariants.{
  NotSupported as SomeNotSupported,
  Right as AllRight,
  Wrong as SomeWrong,
}
use Rattle.claxon_verdict.specs.declared.verdict.Verdict.{Verdict}
use Rattle.claxon_verdict.specs.declared.verdict.Verdict.TheVariants.{
  NotRead,
  NotSupported,
  Right,
  Wrong,
}
use Rattle.claxon_blocks.specs.declared.frames.FrameError.{FrameError}
use Rattle.claxon_command_line.specs.declared.messages.Part.TheVariants.{Frame, Head}
use Rattle.claxon.specs.MetadataBlock.{or_zero}
use Rattle.claxon_report.specs.Report.{NothingIsWrong}
use Rattle.claxon_report.specs.declared.report.BlockSizes.{BlockSizes}
use Rattle.claxon_report.specs.declared.place.Damage.{Damage}
use Rattle.claxon_report.specs.declared.place.Damage.TheVariants.{
  Beyond,
  BitDepth,
  BlockingStrategy,
  Channels,
  Fault as NotDecoded,
  Missing,
  OutOfOrder,
  Repeated,
  SampleRate,
  WideSample,
}
use Rattle.claxon_report.specs.declared.place.Place.{Place}
use Rattle.claxon_report.specs.declared.place.Gap.{Gap}
use Rattle.claxon_report.specs.declared.report.Report.{Report}
use Rattle.claxon_heads.specs.declared.head.UnsupportedBlock.{UnsupportedBlock}
use Rattle.claxon_heads.specs.declared.head.UnsupportedBlock.TheVariants.{
  BytesLeft,
  FieldName,
  LargeApplication,
  LargeComments,
  NoSeparator,
  NotUtf8,
  SecondComments,
}
use Rattle.claxon_report.specs.declared.report.Trailing.{Trailing}
use Rattle.claxon_report.specs.declared.report.Trailing.TheVariants.{
  Ape,
  Id3v1,
  Other,
  SecondStream,
  Zeros,
}

-- ---- what is said of a file

-- An error of reading a file, or of memory, and not of its bytes.
abbrev pub IsUnread : Error → Type 0
IsUnread (IoError cause) = error_kind cause ≡ UnexpectedEof → ⊥
IsUnread (FormatError text) = ⊥
IsUnread (Unsupported text) = ⊥
IsUnread OutOfMemory = Unit {0}

-- A write failed because nobody reads the pipe any more.
abbrev pub IsBrokenPipe : Error → Type 0
IsBrokenPipe (IoError cause) = error_kind cause ≡ BrokenPipe
IsBrokenPipe error = ⊥

-- an error that names a feature as unsupported
abbrev pub is_unsupported_feature : Error → Bool
is_unsupported_feature (Unsupported text) = true
is_unsupported_feature error = false

-- A head that the format allows and the decoder refuses: one with an ID3v2 tag in front, with a
-- sample rate of 0 or above 655,350 Hz, or with a feature that it names as unsupported.
abbrev pub IsUnsupportedHead : Error → Type 0
IsUnsupportedHead error = IsFault Id3Header error
    ⊎ (IsFault SampleRateFault error ⊎ (is_unsupported_feature error ≡ true))

-- A file is wrong if an error of its bytes isn't one of these.
abbrev pub ErrorVerdictIsSound : Error → Verdict → Type 0
ErrorVerdictIsSound error Right = ⊥
ErrorVerdictIsSound error Wrong = (IsUnread error → ⊥) × (IsUnsupportedHead error → ⊥)
ErrorVerdictIsSound error (NotSupported reason) = (IsUnread error → ⊥) × IsUnsupportedHead error
ErrorVerdictIsSound error NotRead = IsUnread error

-- A frame that the format allows and the decoder refuses: one of a stream of 32 bits, with the code
-- for these or a side channel of one bit more.
abbrev pub IsUnsupportedFrame : StreamInfo → FrameError → Type 0
IsUnsupportedFrame info fault =
    (info.bits_per_sample ≡ 32) × (IsTrue fault.is_32_bit ⊎ IsFault SideTooWide fault.error)

abbrev pub IsUnsupportedDamage : StreamInfo → Damage → Type 0
IsUnsupportedDamage info (NotDecoded fault) = IsUnsupportedFrame info fault
IsUnsupportedDamage info damage = ⊥

-- The first place is such a frame.
abbrev pub FirstIsUnsupported : StreamInfo → Option Place → Type 0
FirstIsUnsupported info None = ⊥
FirstIsUnsupported info (Some place) = IsUnsupportedDamage info place.damage

-- A read failed there.
abbrev pub IsUnreadDamage : Damage → Type 0
IsUnreadDamage (NotDecoded fault) = IsUnread fault.error
IsUnreadDamage damage = ⊥

-- The first place is a failed read.
abbrev pub FirstIsUnread : Option Place → Type 0
FirstIsUnread None = ⊥
FirstIsUnread (Some place) = IsUnreadDamage place.damage

-- Nothing is wrong with the frames, their number and their MD5 sum.
abbrev pub HasSoundFrames : {A : Type 0} → Report A → Type 0
HasSoundFrames report = NothingIsWrong report.found (or_zero report.info.samples) report.md5

-- Nothing else is wrong than that a metadata block isn't supported.
abbrev pub JustBlockIsUnsupported : {A : Type 0} → Report A → Type 0
JustBlockIsUnsupported report = IsSome report.unsupported × HasSoundFrames report

-- A stream that isn't right is not read if its first place is a failed read, not supported if that
-- is such a frame or nothing is wrong but a metadata block that isn't supported, and else wrong.
abbrev pub ReportVerdictIsSound : {A : Type 0} → Report A → Verdict → Type 0
ReportVerdictIsSound report Right = report.is_right ≡ true
ReportVerdictIsSound report Wrong =
    (report.is_right ≡ false) × (FirstIsUnread report.found.places.first → ⊥)
    × (FirstIsUnsupported report.info report.found.places.first → ⊥)
    × (JustBlockIsUnsupported report → ⊥)
ReportVerdictIsSound report (NotSupported reason) =
    (report.is_right ≡ false) × (FirstIsUnread report.found.places.first → ⊥)
    × (FirstIsUnsupported report.info report.found.places.first ⊎ JustBlockIsUnsupported report)
ReportVerdictIsSound report NotRead =
    (report.is_right ≡ false) × FirstIsUnread report.found.places.first

-- what isn't supported of a metadata block
abbrev pub block_reason : UnsupportedBlock → List ℕ
block_reason SecondComments = codes "a second Vorbis comment block"
block_reason NotUtf8 = codes "a tag or vendor string that isn't UTF-8"
block_reason NoSeparator = codes "a tag without '='"
block_reason FieldName = codes "a tag's name with a byte other than 0x20 to 0x7d"
block_reason BytesLeft = codes "bytes after the last tag"
block_reason LargeComments = codes "Vorbis comment blocks larger than 10 MiB"
block_reason LargeApplication = codes "application blocks larger than 10 MiB"

-- ---- the exit status

-- what a file adds to it
abbrev pub outcome_of : Verdict → Outcome
outcome_of Right = AllRight
outcome_of Wrong = SomeWrong
outcome_of (NotSupported reason) = SomeNotSupported
outcome_of NotRead = SomeWrong

-- One file that is wrong or can't be read is enough, and all are right only together.
pub record IsWorst (one other all : Outcome) : Type 0 where
  pub wrong : (all ≡ SomeWrong) ↔ ((one ≡ SomeWrong) ⊎ (other ≡ SomeWrong))
  pub right : (all ≡ AllRight) ↔ ((one ≡ AllRight) × (other ≡ AllRight))

abbrev pub status_of : Outcome → ℕ
status_of AllRight = 0
status_of SomeWrong = 1
status_of SomeNotSupported = 3

-- ---- what is wrong, as text

-- Of a head an Ok says that the file isn't FLAC where its first bytes aren't those of a stream, or
-- else has the error's text.
pub record HeadErrorTextIsSound {A : Type 0} (error : Error) (r : Result (String A) AllocError)
    : Type 0 where
  pub other_file : IsFault StreamMarker error → IsText (codes "not a FLAC file") r
  pub else_error_text : (IsFault StreamMarker error → ⊥) → ErrorTextIsSound Head error r

-- Of a frame an Ok says that a shift is negative, which the format forbids (RFC 9639, section
-- 9.2.6), or else has the error's text.
pub record FrameTextIsSound {A : Type 0} (error : Error) (r : Result (String A) AllocError)
    : Type 0 where
  pub negative_shift : IsFault ShiftNegative error
      → IsText (codes "Ill-formed FLAC stream: negative linear predictor coefficient shift") r
  pub else_error_text : (IsFault ShiftNegative error → ⊥) → ErrorTextIsSound Frame error r

-- The same, or that 32-bit samples aren't supported where the frame is refused for them.
abbrev pub FrameErrorTextIsSound : {A : Type 0} → FrameError → Result (String A) AllocError → Type 0
FrameErrorTextIsSound fault r =
    when fault.is_32_bit then IsText (codes "32-bit samples are not supported") r
    else FrameTextIsSound fault.error r

-- frames, or samples where the block size is variable
abbrev pub counted_thing : Bool → List ℕ
counted_thing is_variable = if is_variable then codes "sample" else codes "frame"

-- how many there are, and what they are
abbrev pub gap_text : Gap → List ℕ → List ℕ
gap_text gap what =
    count_text gap.count (counted_thing gap.is_variable) ++ codes " "
    ++ (if gap.count == 1 then codes "is" else codes "are") ++ what

-- that a sample doesn't fit in the bit depth
abbrev pub wide_text : SaidBy → List ℕ
wide_text Streaminfo = codes "a sample has more bits than the streaminfo says"
wide_text FirstFrame = codes "a sample has more bits than those of the first frame"

-- what is wrong, where nothing is counted
abbrev pub other_damage : SaidBy → Damage → List ℕ
other_damage by BlockingStrategy = codes "the blocking strategy differs from the first frame's"
other_damage by Repeated = codes "frames are repeated"
other_damage by OutOfOrder = codes "frames are out of order"
other_damage by WideSample = wide_text by
other_damage by Beyond = codes "frames after the streaminfo's last sample"
other_damage by damage = codes ""

-- what a frame says, and then the number that it should have
abbrev pub but_text : List ℕ → SaidBy → ℕ → List ℕ
but_text what Streaminfo expected =
    what ++ (codes ", but the streaminfo says " ++ decimal expected)
but_text what FirstFrame expected =
    what ++ (codes ", but the first frame has " ++ decimal expected)

-- An Ok says what is wrong, and what the streaminfo says or the first frame has.
abbrev pub DamageTextIsSound : {A : Type 0} → StreamInfo → SaidBy → Damage
    → Result (String A) AllocError → Type 0
DamageTextIsSound info by (NotDecoded fault) r = FrameErrorTextIsSound fault r
DamageTextIsSound info by (Channels count) r =
    IsText (but_text (count_text count (codes "channel")) by info.channels) r
DamageTextIsSound info by (BitDepth count) r =
    IsText (but_text (count_text count (codes "bit") ++ codes " per sample") by
    info.bits_per_sample) r
DamageTextIsSound info by (SampleRate rate) r =
    IsText (but_text (decimal rate ++ codes " Hz") by info.sample_rate) r
DamageTextIsSound info by (Missing gap) r = IsText (gap_text gap (codes " missing")) r
DamageTextIsSound info by damage r = IsText (other_damage by damage) r

-- No frame is decoded there.
abbrev pub is_not_decoded : Damage → Bool
is_not_decoded (NotDecoded fault) = true
is_not_decoded damage = false

-- A place is a head that is wrong: it begins at the first byte, where no frame is decoded.
abbrev pub is_head : SaidBy → Place → Bool
is_head Streaminfo place = false
is_head FirstFrame place = is_not_decoded place.damage && place.start_byte == 0

-- An Ok says of a place that it is the head, or else what is wrong there.
abbrev pub PlaceTextIsSound : {A : Type 0} → StreamInfo → SaidBy → Place
    → Result (String A) AllocError → Type 0
PlaceTextIsSound info by place r =
    when is_head by place then IsText (codes "the head") r
    else DamageTextIsSound info by place.damage r

-- what is noted of a fixed block size that changes
abbrev pub size_note : BlockSizes → List ℕ
size_note sizes =
    codes "the fixed block size changes from " ++ decimal sizes.first
    ++ (codes " to " ++ decimal sizes.other)

-- what is noted of a metadata block that isn't supported
abbrev pub unsupported_note : UnsupportedBlock → List ℕ
unsupported_note why = codes "not supported: " ++ block_reason why

-- what a tag or zeros after the last frame are
abbrev pub trailing_name : Trailing → List ℕ
trailing_name Id3v1 = codes ": an ID3v1 tag"
trailing_name Ape = codes ": an APE tag"
trailing_name Zeros = codes ": zeros"
trailing_name SecondStream = codes ": a second stream begins"
trailing_name Other = codes ""

-- so many bytes after the last frame
abbrev pub trailing_text : ℕ → Trailing → List ℕ
trailing_text bytes trailing =
    count_text bytes (codes "byte") ++ codes " after the last frame" ++ trailing_name trailing
