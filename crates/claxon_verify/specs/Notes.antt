-- What is unusual in a stream, but not wrong: the notes of a report.
use Rattle.std.specs.Prelude.{
  ◌≡◌,
  ◌≢◌,
  ◌==◌,
  ◌&&◌,
  ◌||◌,
  ◌⊎◌,
  ◌↔◌,
  ◌+◌,
  ◌-◌,
  ◌%◌,
  ◌^◌,
  ℕ,
  Bool,
  false,
  nat_lt,
  not,
  List,
  [],
  ◌∷◌,
  ◌++◌,
  length,
  map,
  Option,
  None,
  Some,
  IfOk,
  IsErrAnd,
  IsTrue,
  Ok,
  Err,
  Result,
}
use Rattle.std.specs.List.{list_any}
use Rattle.claxon.specs.DecodedFrames.{DecodedFrame}
use Rattle.claxon.specs.Errors.{Error}
use Rattle.claxon.specs.Frame.{StreamFormat}
use Rattle.claxon.specs.Gives.{ReadFailedIn}
use Rattle.claxon.specs.State.{State, RemainingIsKnown}
use Rattle.claxon.specs.Streaminfo.{Streaminfo}
use Rattle.claxon.specs.Streams.{duration_of, stream_of}
use Rattle.claxon_report.specs.Places.{FoundPart, begun_scan, scan_parts}
use Rattle.claxon_verify.specs.RightStream.{frame_duration}
use Rattle.claxon_heads.specs.StreamHead.{FoundHead, FoundHeadCode}
use Rattle.claxon_verify.specs.Verify.{
  Counted,
  Counts,
  FrameOrFault,
  FrameOrFaultBytes,
  frames_of,
  report_view,
}
use Rattle.claxon_verify.specs.Walk.{IsCounted, IsFailedRead}
use Rattle.claxon_report.specs.declared.report.Notes.{Notes}
use Rattle.claxon_report.specs.declared.report.Report.{Report}
use Rattle.claxon_verify.specs.declared.walk.Walk.{Walk}

-- ---- block sizes (RFC 9639, sections 8.2 and 9.1)

-- whether a block size is below the streaminfo's minimum
abbrev pub is_small_block : Streaminfo → ℕ → Bool
is_small_block info size = nat_lt size info.min_block_size

-- whether it is above the maximum
abbrev pub is_large_block : Streaminfo → ℕ → Bool
is_large_block info size = nat_lt info.max_block_size size

-- all but the last
abbrev pub but_last : List ℕ → List ℕ
but_last [] = []
but_last (size ∷ []) = []
but_last (size ∷ next ∷ sizes) = size ∷ but_last (next ∷ sizes)

-- whether one of these block sizes is above the maximum, or one but the last is below the minimum
abbrev pub other_block_size : Streaminfo → List ℕ → Bool
other_block_size info sizes =
    list_any (is_large_block info) sizes || list_any (is_small_block info) (but_last sizes)

-- ---- frame sizes: numbers of bytes, modulo 2^64 (section 8.2)

-- whether a frame size is below the streaminfo's minimum, or above the maximum, unless that is 0
abbrev pub is_other_frame_size : Streaminfo → ℕ → Bool
is_other_frame_size info size =
    nat_lt size info.min_frame_size
    || (not (info.max_frame_size == 0) && nat_lt info.max_frame_size size)

-- whether one of these frame sizes is
abbrev pub other_frame_size : Streaminfo → List ℕ → Bool
other_frame_size info sizes = list_any (is_other_frame_size info) sizes

-- how many bytes there are from one position to another
abbrev pub bytes_between : ℕ → ℕ → ℕ
bytes_between start end = (end + (2 ^ 64 - start)) % 2 ^ 64

-- the size of a frame with these bytes; a fault has none
abbrev pub frame_size_of : FrameOrFault → List ℕ → List ℕ
frame_size_of (Ok frame) t = length t % 2 ^ 64 ∷ []
frame_size_of (Err f) t = []

-- s is these frames and faults and then r, and the frames have these sizes.
abbrev pub FrameSizes : Option StreamFormat → List ℕ → List FrameOrFault → List ℕ → List ℕ
    → Type 0
FrameSizes stream s [] r sizes = (s ≡ r) × (sizes ≡ [])
FrameSizes stream s (part ∷ parts) r sizes =
    (t : List ℕ) × (m : List ℕ) × (more : List ℕ) × FrameOrFaultBytes stream part t
    × (s ≡ t ++ m) × FrameSizes stream m parts r more × (sizes ≡ frame_size_of part t ++ more)

-- ---- the end

-- No place goes on after what was found.
abbrev pub NoneGoesOn : Streaminfo → List FoundPart → Type 0
NoneGoesOn info found =
    (scan_parts info (record { scan = begun_scan; places = [] }) found).scan.begun ≡ None

-- What was found at the end is an error that says that a read of the source failed.
abbrev pub SaysFailedRead : List FoundPart → Type 0
SaysFailedRead [] = ⊥
SaysFailedRead (part ∷ parts) = IsErrAnd part.what (λ e. IsFailedRead e.error)

-- ---- the notes of a stream

-- The notes are those of what was counted. A byte is left where the stream doesn't end inside a
-- frame, something is left of it, and no place goes on there. Nothing has to be searched.
pub record NotesAre {failed : Type 0} {stream : Option StreamFormat} {info : Streaminfo} {start : ℕ}
    {s : List ℕ} {counts : Counts} (counted : Counted failed stream info start s counts)
    (notes : Notes) : Type 0 where
  pub block_size : notes.has_other_block_size
      ≡ other_block_size info (map frame_duration (frames_of counted.parts))
  pub sizes : List ℕ
  pub sizes_are : FrameSizes stream s counted.parts counted.rest sizes
  pub frame_size : notes.has_other_frame_size ≡ other_frame_size info sizes
  pub byte_left : IsTrue notes.has_byte_left
      ↔ ((counted.is_cut ≡ false) × (counted.rest ≢ []) × NoneGoesOn info counted.found)
  pub failed_read : IsTrue notes.has_failed_read ↔ SaysFailedRead counted.last
  pub searched : notes.has_unsearched ≡ false

-- s is a head, frames and faults up to the end, which were counted, and the notes are theirs.
pub record IsNoted (failed : Type 0) (s : List ℕ) (counts : Counts) (notes : Notes) : Type 0 where
  pub head : FoundHead
  pub front : List ℕ
  pub bytes : List ℕ
  pub code : FoundHeadCode head front
  pub joined : s ≡ front ++ bytes
  pub counted : Counted failed (Some (stream_of head.info)) head.info (length front) bytes counts
  pub notes_are : NotesAre counted notes

-- Each of these notes of the report is there exactly where it is so.
abbrev pub NotesAreExact : {A : Type 0} → State ℕ → Result (Report A) Error → State ℕ → Type 0
NotesAreExact old result new =
    IfOk result (λ report.
    RemainingIsKnown old
    → IsNoted (ReadFailedIn old new) old.remaining (report_view report).counts report.found.notes)

-- ---- the walk

-- Nothing was noted so far.
pub record NothingNoted {A : Type 0} (walk : Walk A) : Type 0 where
  pub block_size : walk.notes.has_other_block_size ≡ false
  pub short : walk.is_short ≡ false
  pub frame_size : walk.notes.has_other_frame_size ≡ false
  pub byte_left : walk.notes.has_byte_left ≡ false
  pub failed_read : walk.notes.has_failed_read ≡ false
  pub searched : walk.notes.has_unsearched ≡ false

-- The notes after a frame more, with such a block size, from one position to another. The block
-- before it counts as one that isn't the last.
pub record NotesSizes (info : Streaminfo) (is_short : Bool) (size start end : ℕ) (old new : Notes)
    : Type 0 where
  pub block_size : new.has_other_block_size
      ≡ ((old.has_other_block_size || is_short) || is_large_block info size)
  pub frame_size : new.has_other_frame_size
      ≡ (old.has_other_frame_size || is_other_frame_size info (bytes_between start end))
  pub byte_left : new.has_byte_left ≡ false
  pub failed_read : new.has_failed_read ≡ old.has_failed_read
  pub searched : new.has_unsearched ≡ old.has_unsearched

-- One frame more was noted, from one position to another.
pub record NotesFrame {A B : Type 0} (info : Streaminfo) (frame : DecodedFrame B) (start end : ℕ)
    (old new : Walk A) : Type 0 where
  pub sizes : NotesSizes info old.is_short (duration_of frame.block.channels) start end old.notes
      new.notes
  pub short : new.is_short ≡ is_small_block info (duration_of frame.block.channels)

-- One fault more was noted, with this error.
pub record NotesFault {A : Type 0} (error : Error) (old new : Walk A) : Type 0 where
  pub block_size : new.notes.has_other_block_size ≡ old.notes.has_other_block_size
  pub short : new.is_short ≡ old.is_short
  pub frame_size : new.notes.has_other_frame_size ≡ old.notes.has_other_frame_size
  pub byte_left : new.notes.has_byte_left ≡ old.notes.has_byte_left
  pub failed_read : IsTrue new.notes.has_failed_read
      ↔ (IsTrue old.notes.has_failed_read ⊎ IsFailedRead error)
  pub searched : new.notes.has_unsearched ≡ old.notes.has_unsearched

-- The bytes that are left, from one position to another, were noted.
pub record NotesEnd {A : Type 0} (start end : ℕ) (old new : Walk A) : Type 0 where
  pub block_size : new.notes.has_other_block_size ≡ old.notes.has_other_block_size
  pub frame_size : new.notes.has_other_frame_size ≡ old.notes.has_other_frame_size
  pub byte_left : IsTrue new.notes.has_byte_left ↔ ((start ≢ end) × (old.scan.begun ≡ None))
  pub failed_read : new.notes.has_failed_read ≡ old.notes.has_failed_read
  pub searched : new.notes.has_unsearched ≡ old.notes.has_unsearched

-- The remaining bytes, which begin at the byte `start` of the stream, were counted so, and the
-- notes are those of what was counted.
abbrev pub WalkIsNoted : {A : Type 0} → Option StreamFormat → Streaminfo → ℕ → State ℕ → State ℕ
    → Walk A → Type 0
WalkIsNoted stream info start old new walk =
    RemainingIsKnown old
    → (counts : Counts) → IsCounted walk info.samples counts
    → (counted : Counted (ReadFailedIn old new) stream info start old.remaining counts)
    × NotesAre counted walk.notes
