-- What stands after the last frame.
use Rattle.std.specs.Prelude.{All, ◌≡◌, ◌≢◌, ◌⊎◌, ◌↔◌, ◌<◌, ◌≤◌, ◌+◌, ◌%◌, ◌^◌, ℕ, Bool, false, IfOk, IsTrue, List, [], ◌∷◌, ◌++◌, codes, length, take, Option, None, Some, Result}
use Rattle.claxon.specs.Bits.{bits_of}
use Rattle.claxon.specs.Error.{IsFault}
use Rattle.claxon.specs.Errors.{Error}
use Rattle.claxon.specs.Fault.{SyncMissing}
use Rattle.claxon.specs.Frame.{StreamFormat}
use Rattle.claxon.specs.Gives.{ReadFailedIn}
use Rattle.claxon.specs.MetadataBlock.{info_view}
use Rattle.claxon.specs.Source.{Source}
use Rattle.claxon.specs.State.{State, RemainingIsKnown}
use Rattle.claxon.specs.StreamInfos.{StreamInfo}
use Rattle.claxon.specs.Streaminfo.{Streaminfo}
use Rattle.claxon_blocks.specs.FirstBytes.{AreFirst, AreZeros, kept_of}
use Rattle.claxon_blocks.specs.Md5Verdict.{HasHashedBytes}
use Rattle.claxon_blocks.specs.declared.frames.FrameError.{FrameError}
use Rattle.claxon_blocks.specs.declared.frames.first_bytes.FirstBytes.{FirstBytes}
use Rattle.claxon_recovery.specs.Parts.{SourceIsKnown, parts_position, unread}
use Rattle.claxon_recovery.specs.Passed.{AreFirstOf}
use Rattle.claxon_recovery.specs.Runs.{AreSearched}
use Rattle.claxon_recovery.specs.declared.part.Part.{Part}
use Rattle.claxon_recovery.specs.declared.part.Part.TheVariants.{
  Frame as IsFrame,
  Damage as IsDamage,
}
use Rattle.claxon_recovery.specs.declared.parts.Parts.{Parts}
use Rattle.claxon_verify.specs.Notes.{bytes_between}
use Rattle.claxon_report.specs.Places.{FoundPart, begun_scan, scan_parts}
use Rattle.claxon_verify.specs.RightStream.{bytes_of_frames}
use Rattle.claxon_verify.specs.Verify.{Counted, Counts, IsVerified, frames_of, report_view}
use Rattle.claxon_verify.specs.VerifiedParts.{
  IsOfParts,
  NotesOfParts,
  PartsCounted,
  part_frames,
}
use Rattle.claxon_verify.specs.Walk.{IsCounted, IsFailedRead}
use Rattle.claxon_report.specs.declared.due.Due.{Due}
use Rattle.claxon_report.specs.declared.place.Damage.{Damage}
use Rattle.claxon_report.specs.declared.place.Damage.TheVariants.{
  Beyond,
  BitDepth,
  BlockingStrategy,
  Channels,
  Fault,
  Missing,
  OutOfOrder,
  Repeated,
  SampleRate,
  WideSample,
}
use Rattle.claxon_report.specs.declared.report.Report.{Report}
use Rattle.claxon_report.specs.declared.report.Trailing.{Trailing}
use Rattle.claxon_report.specs.declared.report.Trailing.TheVariants.{
  Ape,
  Id3v1,
  Other,
  SecondStream,
  Zeros,
}
use Rattle.claxon_report.specs.declared.scan.Begun.{Begun}
use Rattle.claxon_report.specs.declared.scan.Scan.{Scan}
use Rattle.claxon_verify.specs.declared.trailing.BytesAfter.{BytesAfter}
use Rattle.claxon_verify.specs.declared.walk.ByteRange.{ByteRange}
use Rattle.claxon_verify.specs.declared.walk.Walk.{Walk}

-- ---- what bytes are

-- each is a byte
abbrev pub AreBytes : List ℕ → Type 0
AreBytes = All (λ byte. byte < 256)

-- So many bytes are an ID3v1 tag.
abbrev pub IsId3v1 : ℕ → List ℕ → Type 0
IsId3v1 count t = (count ≡ 128) × (take 3 t ≡ codes "TAG")

-- They begin with an APE tag.
abbrev pub IsApe : List ℕ → Type 0
IsApe t = take 8 t ≡ codes "APETAGEX"

-- They begin with a second stream: the marker, and the header of a streaminfo, which may be the
-- last block.
abbrev pub IsSecondStream : List ℕ → Type 0
IsSecondStream t =
    (take 8 t ≡ codes "fLaC" ++ (0 ∷ 0 ∷ 0 ∷ 34 ∷ []))
    ⊎ (take 8 t ≡ codes "fLaC" ++ (0x80 ∷ 0 ∷ 0 ∷ 34 ∷ []))

-- So many bytes are this. By their first byte no two of the first four are the same bytes.
abbrev pub IsKind : ℕ → List ℕ → Trailing → Type 0
IsKind count t Id3v1 = IsId3v1 count t
IsKind count t Ape = IsApe t
IsKind count t SecondStream = IsSecondStream t
IsKind count t Zeros = AreZeros t
IsKind count t Other =
    (IsId3v1 count t → ⊥) × (IsApe t → ⊥) × (IsSecondStream t → ⊥) × (AreZeros t → ⊥)

-- ---- where bytes stand after the last frame

-- The samples that the streaminfo says end there; where it doesn't say how many there are, the
-- error names the fault that there is no sync code.
abbrev pub IsAfterSamples : Option ℕ → Due → Error → Type 0
IsAfterSamples (Some samples) due error = due.sample ≡ samples
IsAfterSamples None due error = IsFault SyncMissing error

-- What is wrong there is a fault after these samples, and not a failed read.
abbrev pub IsFaultAfter : Option ℕ → Due → Damage → Type 0
IsFaultAfter samples due (Fault why) =
    IsAfterSamples samples due why.error × (IsFailedRead why.error → ⊥)
IsFaultAfter samples due (Channels n) = ⊥
IsFaultAfter samples due (BitDepth n) = ⊥
IsFaultAfter samples due (SampleRate n) = ⊥
IsFaultAfter samples due BlockingStrategy = ⊥
IsFaultAfter samples due (Missing gap) = ⊥
IsFaultAfter samples due Repeated = ⊥
IsFaultAfter samples due OutOfOrder = ⊥
IsFaultAfter samples due WideSample = ⊥
IsFaultAfter samples due Beyond = ⊥

-- A place goes on that begins so.
abbrev pub EndsWithFault : Option ℕ → Scan → Type 0
EndsWithFault samples scan =
    (begun : Begun) × (scan.begun ≡ Some begun) × IsFaultAfter samples scan.due begun.damage

-- These are the bytes of s from this position on. s begins at the position `start`.
pub record IsFrom (start : ℕ) (s : List ℕ) (position : ℕ) (t : List ℕ) : Type 0 where
  pub front : List ℕ
  pub joined : s ≡ front ++ t
  pub position_is : position ≡ (start + length front) % 2 ^ 64

-- None is said exactly where no such place goes on at the end. Else it is what the bytes are from
-- the first one of the place on, or a read failed.
abbrev pub TrailingIs : Type 0 → Option ℕ → Scan → ℕ → List ℕ → ℕ → Option Trailing → Type 0
TrailingIs failed samples scan start s end None = EndsWithFault samples scan → ⊥
TrailingIs failed samples scan start s end (Some kind) =
    (begun : Begun) × (scan.begun ≡ Some begun) × IsFaultAfter samples scan.due begun.damage
    × (t : List ℕ) × IsFrom start s begun.byte t
    × (IsKind (bytes_between begun.byte end) t kind ⊎ failed)

-- the scan of what was found
abbrev pub scan_of : Streaminfo → List FoundPart → Scan
scan_of info found = (scan_parts info (record { scan = begun_scan; places = [] }) found).scan

-- ---- the contract of `verify_parts`

-- What is said of bytes after the last frame is so, by the parts of which the report is.
abbrev pub PartsTrailingIsTold : {A : Type 0} → Bool → State ℕ → Result (Report A) Error → Type 0
PartsTrailingIsTold computes_md5 old result =
    IfOk result (λ report.
    RemainingIsKnown old → AreBytes old.remaining
    → (is : IsOfParts computes_md5 old.remaining (report_view report)
    report.found.notes)
    × TrailingIs ⊥ report.info.samples (scan_of (info_view is.shown) is.counted.found) is.start
    is.bytes is.counted.end report.trailing)

-- ---- the contract of `verify`

-- What is said of bytes after the last frame is so, by what was found. Where a frame isn't whole at
-- the end, the bytes are counted up to the last one that was read.
abbrev pub TrailingIsTold : {A : Type 0} → Bool → State ℕ → Result (Report A) Error
    → State ℕ → Type 0
TrailingIsTold computes_md5 old result new =
    IfOk result (λ report.
    RemainingIsKnown old → AreBytes old.remaining
    → (is : IsVerified (ReadFailedIn old new) computes_md5 old.remaining (report_view report))
    × TrailingIs (ReadFailedIn old new) report.info.samples
    (scan_of is.head.info (is.counted.found ++ is.counted.last)) (length is.front) is.bytes
    is.counted.end report.trailing)

-- ---- what is kept of bytes

-- The first eight of t are kept, or those before a byte of 255, that one, and any after it: no
-- bytes that are looked for have one.
abbrev pub AreKeptOf : List ℕ → List ℕ → Type 0
AreKeptOf t kept =
    (kept ≡ take 8 t)
    ⊎ ((before : List ℕ) × (after : List ℕ) × (others : List ℕ) × (t ≡ before ++ 255 ∷ after)
    × (kept ≡ before ++ 255 ∷ others))

-- This is kept of t.
pub record IsOfTail (t : List ℕ) (after : BytesAfter) : Type 0 where
  pub few : after.seen ≤ 8
  pub first : AreKeptOf t (take after.seen after.first)
  pub zeros : IsTrue after.are_zeros ↔ AreZeros t

-- These bytes more are kept.
abbrev pub KeepsMore : List ℕ → BytesAfter → BytesAfter → Type 0
KeepsMore more old new = (t : List ℕ) → IsOfTail t old → IsOfTail (t ++ more) new

-- So are all bytes of which these are the first, and each is 0 or not.
abbrev pub KeepsAll : FirstBytes → Bool → BytesAfter → BytesAfter → Type 0
KeepsAll first are_zeros old new =
    (more : List ℕ) → AreBytes more → AreFirstOf first more → (IsTrue are_zeros ↔ AreZeros more)
    → KeepsMore more old new

-- These two bytes are the first that are kept. Bytes are the same that have the same bits.
abbrev pub AreFirstTwo : FirstBytes → List ℕ → Type 0
AreFirstTwo first t =
    (length t ≡ 2) × (2 ≤ length (kept_of first)) × (bits_of (take 2 (kept_of first)) ≡ bits_of t)

-- So are two bytes of which these are the first.
abbrev pub KeepsTwo : FirstBytes → BytesAfter → BytesAfter → Type 0
KeepsTwo first old new =
    (more : List ℕ) → AreBytes more → AreFirstTwo first more → KeepsMore more old new

-- So are those of a frame, of which the first byte is 255.
abbrev pub KeepsAFrame : BytesAfter → BytesAfter → Type 0
KeepsAFrame old new = (others : List ℕ) → KeepsMore (255 ∷ others) old new

-- What is left has such bytes and then n: two that have no sync code, or they begin with 255. Of
-- the fault that there is none the first are kept.
abbrev pub IsOfFault : FrameError → List ℕ → List ℕ → Type 0
IsOfFault fault more n =
    (IsFault SyncMissing fault.error × (length more ≡ 2) × AreFirst fault.first (more ++ n) n)
    ⊎ ((others : List ℕ) × (more ≡ 255 ∷ others)
    × (IsFault SyncMissing fault.error → AreFirst fault.first (more ++ n) n))

-- So are those of a fault.
abbrev pub KeepsFault : FrameError → BytesAfter → BytesAfter → Type 0
KeepsFault fault old new =
    (more : List ℕ) → (n : List ℕ) → AreBytes (more ++ n) → IsOfFault fault more n
    → KeepsMore more old new

-- These are the bytes from one position to another, which are none, or this one.
abbrev pub IsLast : ByteRange → ℕ → List ℕ → Type 0
IsLast span last [] = span.start ≡ span.end
IsLast span last (byte ∷ others) = (span.start ≢ span.end) × (last ≡ byte) × (others ≡ [])

-- So are the last ones, fewer than two.
abbrev pub KeepsLast : ByteRange → ℕ → BytesAfter → BytesAfter → Type 0
KeepsLast span last old new = (more : List ℕ) → IsLast span last more → KeepsMore more old new

-- It is what so many bytes are of which this is kept.
abbrev pub TellsKind : ℕ → BytesAfter → Trailing → Type 0
TellsKind count after kind = (t : List ℕ) → IsOfTail t after → IsKind count t kind

-- Bytes more are kept where a place goes on. Else none are.
abbrev pub KeepsIfBegun : Option Begun → List ℕ → BytesAfter → BytesAfter → Type 0
KeepsIfBegun None more old new = IsOfTail [] new
KeepsIfBegun (Some begun) more old new = KeepsMore more old new

-- So are those of a frame.
abbrev pub KeepsFrame : Option Begun → BytesAfter → BytesAfter → Type 0
KeepsFrame begun old new = (others : List ℕ) → KeepsIfBegun begun (255 ∷ others) old new

-- So are bytes of which these are the first, and each is 0 or not.
abbrev pub KeepsBytes : Option Begun → FirstBytes → Bool → BytesAfter → BytesAfter → Type 0
KeepsBytes begun first are_zeros old new =
    (more : List ℕ) → AreBytes more → AreFirstOf first more → (IsTrue are_zeros ↔ AreZeros more)
    → KeepsIfBegun begun more old new

-- So are those of a part.
abbrev pub KeepsPart : Option Begun → Part → BytesAfter → BytesAfter → Type 0
KeepsPart begun (IsFrame there) old new = KeepsFrame begun old new
KeepsPart begun (IsDamage damage) old new = KeepsBytes begun damage.first damage.are_zeros old new

-- ---- the walk

-- The bytes of s up to m were found, and m is at the position `at`. Those from the place on that
-- goes on are kept.
pub record TailOf (start : ℕ) (s : List ℕ) (at : ℕ) (m : List ℕ) (begun : Option Begun)
    (after : BytesAfter) : Type 0 where
  pub front : List ℕ
  pub tail : List ℕ
  pub joined : s ≡ front ++ (tail ++ m)
  pub at_is : at ≡ (start + length front + length tail) % 2 ^ 64
  pub kept : IsOfTail tail after
  pub none : begun ≡ None → tail ≡ []
  pub place : (place : Begun) → begun ≡ Some place
      → place.byte ≡ (start + length front) % 2 ^ 64

-- The bytes from the place on that goes on at the end are kept, or a read failed.
abbrev pub EndsWithTail : Type 0 → ℕ → List ℕ → Option Begun → BytesAfter → Type 0
EndsWithTail failed start s begun after =
    (place : Begun) → begun ≡ Some place
    → (t : List ℕ) × IsFrom start s place.byte t × (IsOfTail t after ⊎ failed)

-- This is said of the bytes that are kept.
abbrev pub TrailingOf : {A : Type 0} → Option ℕ → Walk A → Option Trailing → Type 0
TrailingOf samples walk None = EndsWithFault samples walk.scan → ⊥
TrailingOf samples walk (Some kind) =
    (begun : Begun) × (walk.scan.begun ≡ Some begun)
    × IsFaultAfter samples walk.scan.due begun.damage
    × TellsKind (bytes_between begun.byte walk.end) walk.after kind

-- What was unread has such parts, as of `WalksParts`; the scan is that of what was found, and the
-- bytes from the place on that goes on at the end are kept.
abbrev pub WalksPartsToTail : {R A : Type 0} → (R → Source ℕ) → Bool → StreamInfo → Parts R
    → Walk A → Type 0
WalksPartsToTail source computes_md5 info old walk =
    SourceIsKnown source old
    → (counts : Counts) → IsCounted walk (info_view info).samples counts
    → (counted : PartsCounted info (parts_position old) (unread source old) counts)
    × HasHashedBytes computes_md5
    (bytes_of_frames (info_view info).bit_depth (part_frames counted.parts)) walk.md5
    × ((walk.notes.has_unsearched ≡ false) ↔ AreSearched counted.parts)
    × NotesOfParts (info_view info) counted.parts counted.found walk.notes
    × (walk.scan ≡ scan_of (info_view info) counted.found) × (walk.end ≡ counted.end)
    × (AreBytes (unread source old)
    → EndsWithTail ⊥ (parts_position old) (unread source old) walk.scan.begun walk.after)

-- The remaining bytes are counted so, as of `WalksToEnd`; the scan is that of what was found, and
-- the bytes from the place on that goes on at the end are kept.
abbrev pub WalksToTail : {A : Type 0} → Bool → Option StreamFormat → Streaminfo → ℕ → State ℕ
    → State ℕ → Walk A → Type 0
WalksToTail computes_md5 stream info start old new walk =
    RemainingIsKnown old
    → (counts : Counts) → IsCounted walk info.samples counts
    → (counted : Counted (ReadFailedIn old new) stream info start old.remaining counts)
    × HasHashedBytes computes_md5 (bytes_of_frames info.bit_depth (frames_of counted.parts))
    walk.md5
    × (walk.scan ≡ scan_of info (counted.found ++ counted.last)) × (walk.end ≡ counted.end)
    × (AreBytes old.remaining
    → EndsWithTail (ReadFailedIn old new) start old.remaining walk.scan.begun walk.after)
