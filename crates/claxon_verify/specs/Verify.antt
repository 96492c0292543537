-- What is found in a stream: frames and faults, one after another, counted to its end.
use Rattle.std.specs.Prelude.{◌≡◌, ◌≢◌, ◌==◌, ◌⊎◌, ◌↔◌, ◌<◌, ◌≤◌, ◌+◌, ◌%◌, ◌^◌, ℕ, Bool, false, true, List, [], ◌∷◌, ◌++◌, codes, if◌then◌else◌, length, map, Option, None, Some, IfErr, IfOk, IsErrAnd, IsOkAnd, IsTrue, Ok, Err, Result}
use Rattle.std.specs.List.{sum_by}
use Rattle.claxon.specs.DecodedFrame.{FrameValue, FrameWithHeader}
use Rattle.claxon.specs.Error.{IsFault, IsIo}
use Rattle.claxon.specs.Fault.{Fault}
use Rattle.claxon.specs.Frame.{FrameBytesFault, StreamFormat}
use Rattle.claxon.specs.FrameReader.{HeaderOfLargerBlock}
use Rattle.claxon.specs.Gives.{ReadFailedIn}
use Rattle.claxon.specs.MetadataBlock.{info_view}
use Rattle.claxon.specs.Prefix.{BeginsWith}
use Rattle.claxon.specs.Promises.{HasNeither, IsOutOfMemory}
use Rattle.claxon.specs.State.{State, RemainingIsKnown}
use Rattle.claxon.specs.Streaminfo.{Streaminfo}
use Rattle.claxon.specs.Streams.{stream_of}
use Rattle.claxon.specs.Errors.{Error}
use Rattle.claxon.specs.Errors.TheVariants.{OutOfMemory, Unsupported}
use Rattle.claxon_blocks.specs.Frames.{Is32BitFault, IsNotWhole}
use Rattle.claxon_blocks.specs.Md5Verdict.{IsMd5Verdict}
use Rattle.claxon_verify.specs.RightStream.{
  IsRightStream,
  FitsBitDepth,
  bytes_of_frames,
  frame_duration,
}
use Rattle.claxon_report.specs.Kept.{AreKept}
use Rattle.claxon_report.specs.Places.{FoundPart, list_of, places_of, unnamed}
use Rattle.claxon_heads.specs.StreamHead.{
  FoundHead,
  FoundHeadCode,
  FoundHeadFault,
  HeadNeedsMemory,
}
use Rattle.claxon_blocks.specs.declared.frames.FrameError.{FrameError}
use Rattle.claxon_report.specs.declared.due.FoundFrame.{FoundFrame}
use Rattle.claxon_command_line.specs.declared.progress.Progress.{Progress}
use Rattle.claxon_report.specs.declared.report.BlockSizes.{BlockSizes}
use Rattle.claxon_report.specs.declared.report.Found.{Found}
use Rattle.claxon_md5.specs.Md5.{md5}
use Rattle.claxon_blocks.specs.declared.md5_verdict.Md5Verdict.{Md5Verdict}
use Rattle.claxon_blocks.specs.declared.md5_verdict.Md5Verdict.TheVariants.{NotComputed, Wrong}
use Rattle.claxon_report.specs.declared.place.Place.{Place}
use Rattle.claxon_report.specs.declared.place.Places.{Places}
use Rattle.claxon_report.specs.declared.report.Report.{Report}
use Rattle.claxon_heads.specs.declared.head.UnsupportedBlock.{UnsupportedBlock}

-- ---- frames and faults

-- a frame, or a fault
abbrev pub FrameOrFault : Type 0
FrameOrFault = Result FrameValue Fault

-- its bytes
abbrev pub FrameOrFaultBytes : Option StreamFormat → FrameOrFault → List ℕ → Type 0
FrameOrFaultBytes stream (Ok frame) t = FrameWithHeader stream frame t
FrameOrFaultBytes stream (Err f) t = FrameBytesFault stream f t

-- s is these frames and faults, one after another, and then r
abbrev pub FramesAndFaults : Option StreamFormat → List ℕ → List FrameOrFault → List ℕ → Type 0
FramesAndFaults stream s [] r = s ≡ r
FramesAndFaults stream s (part ∷ parts) r =
    (t : List ℕ) × (m : List ℕ) × FrameOrFaultBytes stream part t × (s ≡ t ++ m)
    × FramesAndFaults stream m parts r

-- ---- how many there are

abbrev pub frame_count_of : FrameOrFault → ℕ
frame_count_of (Ok frame) = 1
frame_count_of (Err f) = 0

abbrev pub fault_count_of : FrameOrFault → ℕ
fault_count_of (Ok frame) = 0
fault_count_of (Err f) = 1

-- of each channel
abbrev pub sample_count_of : FrameOrFault → ℕ
sample_count_of (Ok frame) = frame_duration frame
sample_count_of (Err f) = 0

-- the frames among them
abbrev pub frames_of : List FrameOrFault → List FrameValue
frames_of [] = []
frames_of (Ok frame ∷ parts) = frame ∷ frames_of parts
frames_of (Err f ∷ parts) = frames_of parts

-- They are too many to be counted: they have 2^64 samples, or there are 2^64 - 1 of them.
abbrev pub AreTooMany : List FrameOrFault → Type 0
AreTooMany parts =
    (2 ^ 64 ≤ sum_by sample_count_of parts)
    ⊎ (2 ^ 64 ≤ sum_by frame_count_of parts + sum_by fault_count_of parts + 1)

-- Such numbers can be counted.
abbrev pub CanBeCounted : List FrameOrFault → Type 0
CanBeCounted parts =
    (sum_by sample_count_of parts < 2 ^ 64)
    × (sum_by frame_count_of parts + sum_by fault_count_of parts + 1 < 2 ^ 64)

-- ---- block sizes

-- this block size, and that of the first of these frames which has another one; the last frame
-- doesn't count
abbrev pub sizes_from : ℕ → List FrameValue → Option BlockSizes
sizes_from size [] = None
sizes_from size (frame ∷ []) = None
sizes_from size (frame ∷ next ∷ frames) =
    if frame_duration frame == size then sizes_from size (next ∷ frames)
    else Some (record { first = size; other = frame_duration frame })

-- the block size of the first frame and the first other one, where the block size is fixed; the
-- last frame may have any (section 9.1)
abbrev pub changed_size : List FrameValue → Option BlockSizes
changed_size [] = None
changed_size (first ∷ frames) =
    if first.info.is_variable then None
    else sizes_from (frame_duration first) (first ∷ frames)

-- ---- the end. `failed` says that a read of the source failed.

-- Fewer than two bytes are left, or a frame that isn't whole.
abbrev pub EndsAt : Type 0 → Option StreamFormat → Bool → List ℕ → Type 0
EndsAt failed stream false rest = length rest < 2
EndsAt failed stream true rest = IsNotWhole stream rest ⊎ failed

-- ---- what was found

-- This is known of the frame: its header, how many samples of each channel it has, and whether
-- these fit in the bit depth of the streaminfo.
pub record FrameIs (info : Streaminfo) (frame : FrameValue) (found : FoundFrame) : Type 0 where
  pub header : found.header ≡ frame.info
  pub duration : found.duration ≡ frame_duration frame
  pub fits : IsTrue found.fits ↔ FitsBitDepth info frame

-- This is known of the frame or fault with which m begins. Of a fault it is the error that names
-- it, and says exactly where it is so that the frame is refused because its samples have 32 bits.
abbrev pub PartIs : Streaminfo → FrameOrFault → List ℕ → Result FoundFrame FrameError → Type 0
PartIs info (Ok frame) m (Ok found) = FrameIs info frame found
PartIs info (Err f) m (Err e) = IsFault f e.error × (IsTrue e.is_32_bit ↔ Is32BitFault m e.error)
PartIs info _ m _ = ⊥

-- s, which begins at the byte `start` of the stream, is these frames and faults and then r, and
-- this was found: where each begins, and what it is.
abbrev pub PartsFound : Option StreamFormat → Streaminfo → ℕ → List ℕ → List FrameOrFault → List ℕ
    → List FoundPart → Type 0
PartsFound stream info start s [] r found = (s ≡ r) × (found ≡ [])
PartsFound stream info start s (part ∷ parts) r found =
    (t : List ℕ) × (m : List ℕ) × (here : FoundPart) × (more : List FoundPart)
    × FrameOrFaultBytes stream part t × (s ≡ t ++ m) × (here.start ≡ start % 2 ^ 64)
    × PartIs info part s here.what
    × PartsFound stream info (start + length t) m parts r more × (found ≡ here ∷ more)

-- At the end nothing more was found, or a frame that isn't whole, or a read failed there.
abbrev pub LastFound : Bool → ℕ → List ℕ → List FoundPart → Type 0
LastFound false start rest found = found ≡ []
LastFound true start rest found =
    (here : FoundPart) × (e : FrameError) × (found ≡ here ∷ []) × (here.start ≡ start % 2 ^ 64)
    × (here.what ≡ Err e) × IsIo e.error × (IsTrue e.is_32_bit ↔ Is32BitFault rest e.error)

-- what was counted: frames, samples of each channel; the places that are kept and how many are left
-- out; and the block sizes, where a fixed one changes
pub record Counts : Type 0 where
  pub frames : ℕ
  pub samples : ℕ
  pub first : Option Place
  pub more : List Place
  pub left_out : ℕ
  pub sizes : Option BlockSizes

-- s, which begins at the byte `start` of the stream, is frames and faults up to the end, and these
-- were counted. The places are those of what was found. Where a frame isn't whole at the end, it
-- isn't known how many of its bytes were read.
pub record Counted (failed : Type 0) (stream : Option StreamFormat) (info : Streaminfo) (start : ℕ)
    (s : List ℕ) (counts : Counts) : Type 0 where
  pub parts : List FrameOrFault
  pub is_cut : Bool
  pub front : List ℕ
  pub rest : List ℕ
  pub joined : s ≡ front ++ rest
  pub parts_are : FramesAndFaults stream s parts rest
  pub ends : EndsAt failed stream is_cut rest
  pub fit : CanBeCounted parts
  pub frames : counts.frames ≡ sum_by frame_count_of parts
  pub samples : counts.samples ≡ sum_by sample_count_of parts
  pub sizes : counts.sizes ≡ changed_size (frames_of parts)
  pub found : List FoundPart
  pub last : List FoundPart
  pub found_are : PartsFound stream info start s parts rest found
  pub last_is : LastFound is_cut (start + length front) rest last
  pub end : ℕ
  pub end_is : is_cut ≡ false → end ≡ (start + length s) % 2 ^ 64
  pub kept : AreKept (places_of info end (found ++ last)) counts.first counts.more counts.left_out

-- how many places there are, kept and left out
abbrev pub place_count : {A : Type 0} → Places A → ℕ
place_count places = length (list_of places.first ++ places.more.items) + places.left_out

-- all places
abbrev pub all_places : {failed : Type 0} {stream : Option StreamFormat} {info : Streaminfo}
    {start : ℕ} {s : List ℕ} {counts : Counts} → Counted failed stream info start s counts
    → List Place
all_places {info = info} counted = places_of info counted.end (counted.found ++ counted.last)

-- ---- a whole stream

-- The verdict is on the samples of these frames, if it is wanted.
abbrev pub Md5Is : Bool → Streaminfo → List FrameValue → Md5Verdict → Type 0
Md5Is false info frames verdict = verdict ≡ NotComputed
Md5Is true info frames verdict = IsMd5Verdict info (bytes_of_frames info.bit_depth frames) verdict

-- the MD5 sum of the samples of these frames, if it is wanted
abbrev pub sum_of : Bool → Streaminfo → List FrameValue → Option (List ℕ)
sum_of false info frames = None
sum_of true info frames = Some (md5 (bytes_of_frames info.bit_depth frames))

-- a report, as its callers see it: the streaminfo, what isn't supported of the metadata, what was
-- counted, what became of the MD5 sum, that sum, and whether the stream is right
pub record ReportValue : Type 0 where
  pub info : Streaminfo
  pub unsupported : Option UnsupportedBlock
  pub counts : Counts
  pub md5 : Md5Verdict
  pub sum : Option (List ℕ)
  pub is_right : Bool

abbrev pub report_view : {A : Type 0} → Report A → ReportValue
report_view report = record {
  info = info_view report.info;
  unsupported = report.unsupported;
  counts = record {
    frames = report.found.frames;
    samples = report.found.samples;
    first = report.found.places.first;
    more = report.found.places.more.items;
    left_out = report.found.places.left_out;
    sizes = report.found.notes.changed_block_size;
  };
  md5 = report.md5;
  sum = report.computed_md5;
  is_right = report.is_right;
}

-- A stream is right where all of its metadata is supported, there is no place, there are as many
-- samples as the streaminfo says, where it doesn't say 0, and the MD5 sum isn't another one.
abbrev pub IsRight : ReportValue → Type 0
IsRight report =
    IsTrue report.is_right ↔ ((report.unsupported ≡ None) × (report.counts.first ≡ None)
    × ((report.info.samples ≡ 0) ⊎ (report.info.samples ≡ report.counts.samples))
    × (report.md5 ≢ Wrong))

-- s is a head, frames and faults up to the end, and the report is about them.
pub record IsVerified (failed : Type 0) (computes_md5 : Bool) (s : List ℕ) (report : ReportValue)
    : Type 0 where
  pub head : FoundHead
  pub front : List ℕ
  pub bytes : List ℕ
  pub code : FoundHeadCode head front
  pub joined : s ≡ front ++ bytes
  pub info : report.info ≡ head.info
  pub unsupported : report.unsupported ≡ head.unsupported
  pub counted : Counted failed (Some (stream_of head.info)) head.info (length front) bytes
      report.counts
  pub md5_is : Md5Is computes_md5 head.info (frames_of counted.parts) report.md5
  pub sum_is : report.sum ≡ sum_of computes_md5 head.info (frames_of counted.parts)
  pub right : IsRight report

-- s begins with a head, frames and faults, and then such bytes.
pub record HasFramesAndFaults (s : List ℕ)
    (P : Option StreamFormat → List FrameOrFault → List ℕ → Type 0) : Type 0 where
  pub head : FoundHead
  pub front : List ℕ
  pub bytes : List ℕ
  pub parts : List FrameOrFault
  pub left : List ℕ
  pub code : FoundHeadCode head front
  pub joined : s ≡ front ++ bytes
  pub parts_are : FramesAndFaults (Some (stream_of head.info)) bytes parts left
  pub what : P (Some (stream_of head.info)) parts left

-- ---- what is too much to be counted

-- the error that says so
abbrev pub IsTooMany : Error → Type 0
IsTooMany (Unsupported text) =
    text.now ≡ codes "more than 18446744073709551615 frames, faults or samples"
IsTooMany _ = ⊥

-- ---- what was counted

-- s begins with frames and faults, and then such bytes.
abbrev pub BeginsWithFramesAndFaults : Option StreamFormat → List ℕ
    → (List FrameOrFault → List ℕ → Type 0) → Type 0
BeginsWithFramesAndFaults stream s P =
    (parts : List FrameOrFault) × (left : List ℕ) × FramesAndFaults stream s parts left
    × P parts left

-- The error is `OutOfMemory` after frames and faults and the header of a frame, or says that more
-- remain than can be counted, and so it is.
abbrev pub StopsCounting : Option StreamFormat → State ℕ → Error → Type 0
StopsCounting stream old e =
    ((e ≡ OutOfMemory) × (RemainingIsKnown old → BeginsWithFramesAndFaults stream old.remaining
    (λ parts left. BeginsWith (HeaderOfLargerBlock stream 0) left)))
    ⊎ (IsTooMany e × (RemainingIsKnown old → BeginsWithFramesAndFaults stream old.remaining
    (λ parts left. AreTooMany parts)))

-- ---- the contract of the call

-- Both are of the same places, of which each may keep others.
pub record SamePlaces (a b : Counts) : Type 0 where
  pub left_of_a : List Place
  pub left_of_b : List Place
  pub same : map unnamed (list_of a.first ++ (a.more ++ left_of_a))
      ≡ map unnamed (list_of b.first ++ (b.more ++ left_of_b))
  pub left_out_of_a : a.left_out ≡ length left_of_a % 2 ^ 64
  pub left_out_of_b : b.left_out ≡ length left_of_b % 2 ^ 64

-- Both say the same.
pub record SameReport (a b : ReportValue) : Type 0 where
  pub info : a.info ≡ b.info
  pub unsupported : a.unsupported ≡ b.unsupported
  pub frames : a.counts.frames ≡ b.counts.frames
  pub samples : a.counts.samples ≡ b.counts.samples
  pub places : SamePlaces a.counts b.counts
  pub sizes : a.counts.sizes ≡ b.counts.sizes
  pub md5_is : a.md5 ≡ b.md5
  pub sum_is : a.sum ≡ b.sum
  pub is_right : a.is_right ≡ b.is_right

-- `old` and `new` are the input before and after the call.
module _ {A : Type 0} (old : State ℕ) (result : Result (Report A) Error) (new : State ℕ) where
  -- Memory was refused, or a read of the source failed.
  abbrev pub IsExcused : Type 0
  IsExcused = IsOutOfMemory result ⊎ ReadFailedIn old new

  -- An Err is `OutOfMemory`; an `IoError` where the bytes begin with neither a head nor a fault of
  -- one, or the source failed; or it says that there are more frames and faults than can be
  -- counted, or names a fault of a head, and so it is.
  abbrev pub VerifyFaultIsSound : Type 0
  VerifyFaultIsSound =
      IfErr result (λ e. (e ≡ OutOfMemory) ⊎ ((IsIo e × (RemainingIsKnown old
      → HasNeither FoundHeadCode FoundHeadFault old.remaining ⊎ ReadFailedIn old new))
      ⊎ (RemainingIsKnown old
      → (IsTooMany e × HasFramesAndFaults old.remaining (λ stream parts left. AreTooMany parts))
      ⊎ ((f : Fault) × IsFault f e × BeginsWith (FoundHeadFault f) old.remaining))))

  -- A fault of a head that they begin with is named, or memory or the source failed.
  abbrev pub VerifyHeadFaultIsComplete : Type 0
  VerifyHeadFaultIsComplete =
      (f : Fault) → RemainingIsKnown old → BeginsWith (FoundHeadFault f) old.remaining
      → IsErrAnd result (IsFault f) ⊎ IsExcused

  -- `OutOfMemory` is returned only after the header of a metadata block, or of a frame.
  abbrev pub VerifyOutOfMemoryAfterHeader : Type 0
  VerifyOutOfMemoryAfterHeader =
      IsOutOfMemory result → RemainingIsKnown old
      → HeadNeedsMemory old.remaining
      ⊎ HasFramesAndFaults old.remaining (λ stream parts left.
      BeginsWith (HeaderOfLargerBlock stream 0) left)

module _ {A : Type 0} (computes_md5 : Bool) (old : State ℕ) (result : Result (Report A) Error)
    (new : State ℕ) where
  -- The report is about the remaining bytes.
  abbrev pub VerifyIsSound : Type 0
  VerifyIsSound =
      IfOk result (λ report.
      RemainingIsKnown old
      → IsVerified (ReadFailedIn old new) computes_md5 old.remaining (report_view report))

  -- For each stream that can be counted its report is returned, or memory or the source failed.
  abbrev pub VerifyIsComplete : Type 0
  VerifyIsComplete =
      (report : ReportValue) → RemainingIsKnown old
      → (is : IsVerified ⊥ computes_md5 old.remaining report) → CanBeCounted is.counted.parts
      → IsOkAnd result (λ answer. SameReport (report_view answer) report) ⊎ IsExcused old result new

  -- `is_right` is true only of a right stream.
  abbrev pub RightIsSound : Type 0
  RightIsSound =
      IfOk result (λ report. IsTrue report.is_right → RemainingIsKnown old
      → IsRightStream computes_md5 old.remaining)

  -- It is true of each right stream that can be counted, or memory or the source failed.
  abbrev pub RightIsComplete : Type 0
  RightIsComplete =
      RemainingIsKnown old → (stream : IsRightStream computes_md5 old.remaining)
      → sum_by frame_duration stream.frames < 2 ^ 64 → length stream.frames + 1 < 2 ^ 64
      → IsOkAnd result (λ report. IsTrue report.is_right) ⊎ IsExcused old result new

  -- all of it
  pub record VerifyPromises : Type 0 where
    pub sound : VerifyIsSound
    pub complete : VerifyIsComplete
    pub right : RightIsSound
    pub right_complete : RightIsComplete
    pub fault : VerifyFaultIsSound old result new
    pub named : VerifyHeadFaultIsComplete old result new
    pub memory : VerifyOutOfMemoryAfterHeader old result new

-- With those that are left out the places are all.
abbrev pub PlacesAreCounted : {A : Type 0} → Bool → State ℕ → Result (Report A) Error → State ℕ
    → Type 0
PlacesAreCounted computes_md5 old result new =
    IfOk result (λ report. RemainingIsKnown old
    → (verified : IsVerified (ReadFailedIn old new) computes_md5 old.remaining (report_view report))
    × (place_count report.found.places % 2 ^ 64 ≡ length (all_places verified.counted) % 2 ^ 64))

-- No more places are kept after the first.
abbrev pub KeepsAtMost : {A : Type 0} → ℕ → Result (Report A) Error → Type 0
KeepsAtMost more result = IfOk result (λ report. length report.found.places.more.items ≤ more)

-- Nothing is written where the line has no label, or the streaminfo doesn't say how many samples
-- there are.
abbrev pub VerifyIsQuiet : {A E : Type 0} → Result (Report A) Error → Progress E
    → Progress E → Type 0
VerifyIsQuiet result old new =
    (old.label ≡ None) ⊎ IsOkAnd result (λ report. report.info.samples ≡ None)
    → new.errors.now ≡ old.errors.now
