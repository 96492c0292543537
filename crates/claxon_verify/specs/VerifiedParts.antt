-- Streams that are verified by their parts: frames, and the damage between them.
use Rattle.std.specs.Prelude.{◌≡◌, ◌⊎◌, ◌==◌, ◌&&◌, ◌↔◌, ℕ, ◌+◌, ◌%◌, ◌^◌, Bool, false, true, codes, IfOk, IsTrue, List, [], ◌∷◌, ◌++◌, length, map, None, Result, Ok, Err, Some}
use Rattle.std.specs.List.{sum_by}
use Rattle.claxon.specs.DecodedFrame.{FrameValue, decoded_view}
use Rattle.claxon.specs.Error.{IsIo}
use Rattle.claxon.specs.Errors.{Error}
use Rattle.claxon.specs.Errors.TheVariants.{FormatError, IoError, OutOfMemory, Unsupported}
use Rattle.claxon.specs.MetadataBlock.{info_view}
use Rattle.claxon.specs.Source.{Source}
use Rattle.claxon.specs.State.{State, RemainingIsKnown}
use Rattle.claxon.specs.StreamInfos.{StreamInfo}
use Rattle.claxon.specs.Streaminfo.{Streaminfo}
use Rattle.claxon_blocks.specs.Frames.{IsOf32Bits}
use Rattle.claxon_blocks.specs.Md5Verdict.{HasHashedBytes}
use Rattle.claxon_blocks.specs.declared.frames.FrameError.{FrameError}
use Rattle.claxon_blocks.specs.declared.frames.first_bytes.FirstBytes.{FirstBytes}
use Rattle.claxon_recovery.specs.Parts.{SourceIsKnown, parts_position, unread}
use Rattle.claxon_recovery.specs.Runs.{AreAnswered, AreSearched, part_start}
use Rattle.claxon_recovery.specs.declared.part.Cause.{Cause}
use Rattle.claxon_recovery.specs.declared.part.Cause.TheVariants.{
  Cut,
  Fault,
  OtherFormat,
  TooLong,
}
use Rattle.claxon_recovery.specs.declared.part.Damage.{Damage as DamagePart}
use Rattle.claxon_recovery.specs.declared.part.Part.{Part}
use Rattle.claxon_recovery.specs.declared.part.Part.TheVariants.{
  Frame as IsFrame,
  Damage as IsDamage,
}
use Rattle.claxon_recovery.specs.declared.parts.Parts.{Parts}
use Rattle.claxon_report.specs.Kept.{AreKept, KeepsPlaces}
use Rattle.claxon_verify.specs.Notes.{
  NoneGoesOn,
  NotesFrame,
  bytes_between,
  other_block_size,
  other_frame_size,
}
use Rattle.claxon_report.specs.Places.{FoundPart, list_of, places_of, scan_part}
use Rattle.claxon_verify.specs.RightStream.{bytes_of_frames, frame_duration}
use Rattle.claxon_heads.specs.StreamHead.{FoundHead, FoundHeadCode}
use Rattle.claxon_verify.specs.Verify.{
  Counts,
  FrameIs,
  IsRight,
  Md5Is,
  ReportValue,
  changed_size,
  report_view,
  sum_of,
}
use Rattle.claxon_verify.specs.Walk.{AddsFrame, IsCounted, IsFailedRead}
use Rattle.claxon_report.specs.declared.due.FoundFrame.{FoundFrame}
use Rattle.claxon_report.specs.declared.report.Notes.{Notes}
use Rattle.claxon_report.specs.declared.report.Report.{Report}
use Rattle.claxon_verify.specs.declared.walk.Walk.{Walk}

-- ---- what is found

-- the frames among parts
abbrev pub part_frames : List Part → List FrameValue
part_frames [] = []
part_frames (IsFrame there ∷ parts) = decoded_view there.frame ∷ part_frames parts
part_frames (IsDamage damage ∷ parts) = part_frames parts

abbrev pub is_cut : Cause → Bool
is_cut Cut = true
is_cut (Fault e) = false
is_cut (OtherFormat block) = false
is_cut TooLong = false

-- whether damage is one byte, at which the stream ends
abbrev pub is_byte_left : DamagePart → Bool
is_byte_left damage = is_cut damage.cause && (damage.end == (damage.start + 1) % 2 ^ 64)

-- The error says that a frame is too long.
abbrev pub SaysTooLong : Error → Type 0
SaysTooLong (FormatError text) =
    text.now ≡ codes "the frame has more bytes than one of the largest block size"
SaysTooLong (IoError cause) = ⊥
SaysTooLong (Unsupported text) = ⊥
SaysTooLong OutOfMemory = ⊥

-- This is found where no frame of the stream begins for a cause: the decoder's error; the frame of
-- another format, of which the header is known; or an error that says that the stream ends there,
-- or that the frame is too long.
abbrev pub IsWhy : Cause → FirstBytes → Result FoundFrame FrameError → Type 0
IsWhy (Fault e) first (Err why) =
    (why.error ≡ e) × (IsTrue why.is_32_bit ↔ IsOf32Bits e first)
IsWhy (OtherFormat block) first (Ok frame) = frame.header ≡ block
IsWhy Cut first (Err why) =
    IsIo why.error × (IsFailedRead why.error → ⊥) × (why.is_32_bit ≡ false)
IsWhy TooLong first (Err why) = SaysTooLong why.error × (why.is_32_bit ≡ false)
IsWhy _ first _ = ⊥

-- This is found of a part: what is known of a frame, or why none is decoded.
abbrev pub IsFound : Streaminfo → Part → Result FoundFrame FrameError → Type 0
IsFound info (IsFrame there) (Ok found) = FrameIs info (decoded_view there.frame) found
IsFound info (IsFrame there) (Err why) = ⊥
IsFound info (IsDamage damage) what = IsWhy damage.cause damage.first what

-- whether nothing is found of it: one byte, at which the stream ends
abbrev pub is_passed : Part → Bool
is_passed (IsFrame there) = false
is_passed (IsDamage damage) = is_byte_left damage

-- This is found of a part, and where it begins.
abbrev pub FoundOf : Streaminfo → Part → List FoundPart → Type 0
FoundOf info part found =
    ((is_passed part ≡ true) × (found ≡ []))
    ⊎ ((is_passed part ≡ false) × ((what : Result FoundFrame FrameError) × IsFound info part what
    × (found ≡ record { start = part_start part; what = what } ∷ [])))

-- This is found of parts, one after another.
abbrev pub FoundAre : Streaminfo → List Part → List FoundPart → Type 0
FoundAre info [] found = found ≡ []
FoundAre info (part ∷ parts) found =
    (here : List FoundPart) × (more : List FoundPart) × FoundOf info part here
    × FoundAre info parts more × (found ≡ here ++ more)

-- ---- what is noted

-- the sizes of the frames among parts
abbrev pub part_sizes : List Part → List ℕ
part_sizes [] = []
part_sizes (IsFrame there ∷ parts) = bytes_between there.start there.end ∷ part_sizes parts
part_sizes (IsDamage damage ∷ parts) = part_sizes parts

-- whether the last part is one byte, at which the stream ends
abbrev pub ends_in_byte : List Part → Bool
ends_in_byte [] = false
ends_in_byte (part ∷ []) = is_passed part
ends_in_byte (part ∷ next ∷ parts) = ends_in_byte (next ∷ parts)

-- The notes are those of these parts, of which this was found. A byte is left where no place goes
-- on at it. No read failed.
pub record NotesOfParts (info : Streaminfo) (parts : List Part) (found : List FoundPart)
    (notes : Notes) : Type 0 where
  pub block_size : notes.has_other_block_size
      ≡ other_block_size info (map frame_duration (part_frames parts))
  pub frame_size : notes.has_other_frame_size ≡ other_frame_size info (part_sizes parts)
  pub byte_left : IsTrue notes.has_byte_left
      ↔ ((ends_in_byte parts ≡ true) × NoneGoesOn info found)
  pub none_failed : notes.has_failed_read ≡ false

-- ---- what is counted

-- s, of which the first byte is at the position `start`, has parts as `next_part` answers them, and
-- these were counted. The places are those of what was found.
pub record PartsCounted (info : StreamInfo) (start : ℕ) (s : List ℕ) (counts : Counts) : Type 0
  where
    pub parts : List Part
    pub are : AreAnswered (Some info) start s parts
    pub found : List FoundPart
    pub found_are : FoundAre (info_view info) parts found
    pub frames : counts.frames ≡ length (part_frames parts)
    pub samples : counts.samples ≡ sum_by frame_duration (part_frames parts)
    pub sizes : counts.sizes ≡ changed_size (part_frames parts)
    pub end : ℕ
    pub end_is : end ≡ (start + length s) % 2 ^ 64
    pub kept : AreKept (places_of (info_view info) end found) counts.first counts.more
        counts.left_out

-- s is a head and parts up to the end, and the report and its notes are about them. The notes say
-- whether each position of damage was searched.
pub record IsOfParts (computes_md5 : Bool) (s : List ℕ) (report : ReportValue) (notes : Notes)
    : Type 0 where
  pub head : FoundHead
  pub front : List ℕ
  pub bytes : List ℕ
  pub code : FoundHeadCode head front
  pub joined : s ≡ front ++ bytes
  pub shown : StreamInfo
  pub shown_is : info_view shown ≡ head.info
  pub info : report.info ≡ head.info
  pub unsupported : report.unsupported ≡ head.unsupported
  pub start : ℕ
  pub start_is : start ≡ length front % 2 ^ 64
  pub counted : PartsCounted shown start bytes report.counts
  pub md5_is : Md5Is computes_md5 head.info (part_frames counted.parts) report.md5
  pub sum_is : report.sum ≡ sum_of computes_md5 head.info (part_frames counted.parts)
  pub right : IsRight report
  pub searched : (notes.has_unsearched ≡ false) ↔ AreSearched counted.parts
  pub noted : NotesOfParts head.info counted.parts counted.found notes

-- The report is about the remaining bytes.
abbrev pub PartsReportIsSound : {A : Type 0} → Bool → State ℕ → Result (Report A) Error → Type 0
PartsReportIsSound computes_md5 old result =
    IfOk result (λ report.
    RemainingIsKnown old
    → IsOfParts computes_md5 old.remaining (report_view report) report.found.notes)

-- ---- the walk

-- Damage more was found. Of one byte, at which the stream ends, there is no place.
pub record AddsDamage {A : Type 0} (info : Streaminfo) (damage : DamagePart) (old new : Walk A)
    : Type 0 where
  pub frames_are : new.frames ≡ old.frames
  pub samples_are : new.samples ≡ old.samples
  pub sizes_are : new.sizes ≡ old.sizes
  pub md5_is : new.md5 ≡ old.md5
  pub end_is : new.end ≡ damage.end
  pub searched : (new.notes.has_unsearched ≡ false)
      ↔ ((old.notes.has_unsearched ≡ false) × (damage.unsearched ≡ 0))
  pub passes : is_byte_left damage ≡ true → (new.scan ≡ old.scan) × (new.places ≡ old.places)
  pub what : Result FoundFrame FrameError
  pub why : is_byte_left damage ≡ false → IsWhy damage.cause damage.first what
      × (new.scan ≡ (scan_part info old.scan damage.start what).scan)
      × KeepsPlaces (list_of (scan_part info old.scan damage.start what).place) old.places
      new.places

-- It was noted: one byte, at which the stream ends, is left where no place goes on.
pub record NotesDamage {A : Type 0} (damage : DamagePart) (old new : Walk A) : Type 0 where
  pub block_size : new.notes.has_other_block_size ≡ old.notes.has_other_block_size
  pub short : new.is_short ≡ old.is_short
  pub frame_size : new.notes.has_other_frame_size ≡ old.notes.has_other_frame_size
  pub byte_left : IsTrue new.notes.has_byte_left
      ↔ ((is_byte_left damage ≡ true) × (old.scan.begun ≡ None))
  pub failed_read : new.notes.has_failed_read ≡ old.notes.has_failed_read

-- A part more was found.
abbrev pub AddsPart : {A : Type 0} → Streaminfo → Part → Walk A → Walk A → Type 0
AddsPart info (IsFrame there) old new =
    AddsFrame info there.frame there.start old new × (new.end ≡ there.end)
    × NotesFrame info there.frame there.start there.end old new
AddsPart info (IsDamage damage) old new =
    AddsDamage info damage old new × NotesDamage damage old new

-- What was unread has such parts, and they were counted; the samples of their frames were hashed;
-- it is known whether each position of damage was searched; and they were noted.
abbrev pub WalksParts : {R A : Type 0} → (R → Source ℕ) → Bool → StreamInfo → Parts R → Walk A
    → Type 0
WalksParts source computes_md5 info old walk =
    SourceIsKnown source old
    → (counts : Counts) → IsCounted walk (info_view info).samples counts
    → (counted : PartsCounted info (parts_position old) (unread source old) counts)
    × HasHashedBytes computes_md5
    (bytes_of_frames (info_view info).bit_depth (part_frames counted.parts)) walk.md5
    × ((walk.notes.has_unsearched ≡ false) ↔ AreSearched counted.parts)
    × NotesOfParts (info_view info) counted.parts counted.found walk.notes
