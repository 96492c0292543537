-- What is found in a stream, frame by frame.
use Rattle.std.specs.Prelude.{◌≡◌, ◌≢◌, ◌==◌, ◌⊎◌, ℕ, ◌<◌, ◌≤◌, ◌+◌, ◌^◌, Bool, if◌then◌else◌, List, [], ◌∷◌, ◌++◌, Option, None, Some}
use Rattle.std.specs.IoError.{error_kind}
use Rattle.std.specs.declared.io.ErrorKind.TheVariants.{UnexpectedEof}
use Rattle.claxon.specs.Codes.{when◌then◌else◌}
use Rattle.claxon.specs.BlockInfos.{BlockInfo}
use Rattle.claxon.specs.DecodedFrame.{FrameValue, decoded_view}
use Rattle.claxon.specs.DecodedFrames.{DecodedFrame}
use Rattle.claxon.specs.Errors.{Error}
use Rattle.claxon.specs.Errors.TheVariants.{FormatError, IoError, OutOfMemory, Unsupported}
use Rattle.claxon.specs.Streaminfo.{Streaminfo}
use Rattle.claxon.specs.Frame.{StreamFormat}
use Rattle.claxon.specs.Gives.{ReadFailedIn}
use Rattle.claxon.specs.State.{State, RemainingIsKnown}
use Rattle.claxon.specs.Streams.{duration_of}
use Rattle.claxon_blocks.specs.HashBlock.{HashesToo}
use Rattle.claxon_blocks.specs.Md5Verdict.{HasHashedBytes}
use Rattle.claxon_report.specs.Kept.{AreKept, Keeps, KeepsPlaces}
use Rattle.claxon_report.specs.Places.{begun_scan, damaged, list_of, places_at, scan_frame}
use Rattle.claxon_verify.specs.RightStream.{bytes_of_frames, frame_duration}
use Rattle.claxon_verify.specs.Verify.{
  Counted,
  Counts,
  FrameIs,
  IsTooMany,
  changed_size,
  frames_of,
}
use Rattle.claxon_blocks.specs.declared.frames.FrameError.{FrameError}
use Rattle.claxon_report.specs.declared.due.FoundFrame.{FoundFrame}
use Rattle.claxon_report.specs.declared.report.BlockSizes.{BlockSizes}
use Rattle.claxon_report.specs.declared.place.Damage.TheVariants.{Fault}
use Rattle.claxon_report.specs.declared.place.Place.{Place}
use Rattle.claxon_verify.specs.declared.sizes.SizesSoFar.{SizesSoFar}
use Rattle.claxon_verify.specs.declared.walk.Walk.{Walk}

-- the first of two, if there is one, or the second
abbrev pub or_else : {A : Type 0} → Option A → Option A → Option A
or_else None second = second
or_else (Some first) second = Some first

-- A read of the source failed: the error isn't one of the bytes.
abbrev pub IsFailedRead : Error → Type 0
IsFailedRead (IoError cause) = error_kind cause ≢ UnexpectedEof
IsFailedRead (FormatError text) = ⊥
IsFailedRead (Unsupported text) = ⊥
IsFailedRead OutOfMemory = ⊥

-- ---- block sizes

-- the block size of the last of these frames
abbrev pub last_size : FrameValue → List FrameValue → ℕ
last_size frame [] = frame_duration frame
last_size frame (next ∷ frames) = last_size next frames

-- the block size of the first frame and a later one, where these differ and it is fixed
abbrev pub differing_sizes : Bool → ℕ → ℕ → Option BlockSizes
differing_sizes is_variable first later =
    if is_variable then None
    else if later == first then None
    else Some (record { first = first; other = later })

-- These are the block sizes of such frames.
abbrev pub AreSizesOf : List FrameValue → SizesSoFar → Type 0
AreSizesOf [] sizes = (sizes.first ≡ None) × (sizes.changed ≡ None)
AreSizesOf (first ∷ frames) sizes =
    (sizes.first ≡ Some (frame_duration first)) × (sizes.is_variable ≡ first.info.is_variable)
    × (sizes.last ≡ last_size first frames) × (sizes.changed ≡ changed_size (first ∷ frames))

-- After those of any frames, that of one frame more is there, with this header and duration.
abbrev pub AddsSize : BlockInfo → ℕ → SizesSoFar → SizesSoFar → Type 0
AddsSize header duration old new =
    (frames : List FrameValue) (frame : FrameValue) → frame.info ≡ header
    → frame_duration frame ≡ duration → AreSizesOf frames old
    → AreSizesOf (frames ++ frame ∷ []) new

-- ---- the walk

-- Nothing was found so far, and so many places are kept after the first.
pub record BeginsWalk {A : Type 0} (computes_md5 : Bool) (more : ℕ) (walk : Walk A) : Type 0 where
  pub frames_are : walk.frames ≡ 0
  pub samples_are : walk.samples ≡ 0
  pub scan_is : walk.scan ≡ begun_scan
  pub keeps : Keeps [] walk.places
  pub more_is : walk.places.more ≡ more
  pub none : walk.places.places.more.items ≡ []
  pub no_size : AreSizesOf [] walk.sizes
  pub hasher : HasHashedBytes computes_md5 [] walk.md5

-- This is known of a decoded frame.
abbrev pub IsFound : {B : Type 0} → Streaminfo → DecodedFrame B → FoundFrame → Type 0
IsFound info frame found = FrameIs info (decoded_view frame) found

-- One frame more, which begins at this byte, was found.
pub record AddsFrame {A B : Type 0} (info : Streaminfo) (frame : DecodedFrame B) (byte : ℕ)
    (old new : Walk A) : Type 0 where
  pub frames_are : new.frames ≡ old.frames + 1
  pub samples_are : new.samples ≡ old.samples + duration_of frame.block.channels
  pub frames_fit : new.frames < 2 ^ 64
  pub samples_fit : new.samples < 2 ^ 64
  pub found : FoundFrame
  pub is_found : IsFound info frame found
  pub scan_is : new.scan ≡ (scan_frame info byte found old.scan).scan
  pub places : KeepsPlaces (list_of (scan_frame info byte found old.scan).place) old.places
      new.places
  pub sizes : AddsSize frame.info (duration_of frame.block.channels) old.sizes new.sizes
  pub hashes : HashesToo info.bit_depth frame.block old.md5 new.md5

-- One fault more, from this byte up to the end, was found.
pub record AddsFault {A : Type 0} (fault : FrameError) (byte end : ℕ) (old new : Walk A) : Type 0
  where
    pub frames_are : new.frames ≡ old.frames
    pub samples_are : new.samples ≡ old.samples
    pub scan_is : new.scan ≡ damaged byte (Fault fault) old.scan
    pub places_are : new.places ≡ old.places
    pub end_is : new.end ≡ end
    pub sizes_are : new.sizes ≡ old.sizes
    pub md5_is : new.md5 ≡ old.md5

-- The walk is at its end, at this byte: all else is as before.
pub record EndsWalk {A : Type 0} (end : ℕ) (old new : Walk A) : Type 0 where
  pub frames_are : new.frames ≡ old.frames
  pub samples_are : new.samples ≡ old.samples
  pub scan_is : new.scan ≡ old.scan
  pub places_are : new.places ≡ old.places
  pub end_is : new.end ≡ end
  pub sizes_are : new.sizes ≡ old.sizes
  pub md5_is : new.md5 ≡ old.md5

-- The error says that one frame more is too much, and it is.
abbrev pub ExceedsCount : {A B : Type 0} → DecodedFrame B → Walk A → Error → Type 0
ExceedsCount frame walk e =
    IsTooMany e
    × ((2 ^ 64 ≤ walk.frames + 1) ⊎ (2 ^ 64 ≤ walk.samples + duration_of frame.block.channels))

-- ---- a walk to the end

-- The walk was counted so: its places are these, and those that end with the stream.
pub record IsCounted {A : Type 0} (walk : Walk A) (samples : ℕ) (counts : Counts) : Type 0 where
  pub frames_are : counts.frames ≡ walk.frames
  pub samples_are : counts.samples ≡ walk.samples
  pub kept : (all : List Place) → Keeps all walk.places
      → AreKept (places_at walk.end samples (record { scan = walk.scan; places = all }))
      counts.first counts.more counts.left_out
  pub sizes_are : counts.sizes ≡ walk.sizes.changed

-- The remaining bytes, which begin at the byte `start` of the stream, are counted so, and the
-- samples of their frames were hashed.
abbrev pub WalksToEnd : {A : Type 0} → Bool → Option StreamFormat → Streaminfo → ℕ → State ℕ
    → State ℕ → Walk A → Type 0
WalksToEnd computes_md5 stream info start old new walk =
    RemainingIsKnown old
    → (counts : Counts) → IsCounted walk info.samples counts
    → (counted : Counted (ReadFailedIn old new) stream info start old.remaining counts)
    × HasHashedBytes computes_md5 (bytes_of_frames info.bit_depth (frames_of counted.parts))
    walk.md5
