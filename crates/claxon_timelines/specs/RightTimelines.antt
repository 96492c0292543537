-- Where the frames of a right stream stand, in bytes and in time.
use Rattle.std.specs.Prelude.{
  ◌≡◌,
  ◌≢◌,
  ℕ,
  ◌+◌,
  ◌^◌,
  ◌<◌,
  Bool,
  true,
  List,
  [],
  ◌∷◌,
  length,
  slice_get,
  take,
  Option,
  None,
  Some,
  IfSome,
}
use Rattle.std.specs.List.{sum_by}
use Rattle.claxon.specs.DecodedFrame.{FrameValue}
use Rattle.claxon.specs.Frame.{StreamFormat}
use Rattle.claxon.specs.MetadataBlock.{info_view}
use Rattle.claxon.specs.StreamInfos.{StreamInfo}
use Rattle.claxon.specs.Streaminfo.{Streaminfo}
use Rattle.claxon.specs.Streams.{stream_of}
use Rattle.claxon_verify.specs.RightStream.{
  DecodedFrames,
  IsRightStream,
  frame_duration,
  strategy_after,
}
use Rattle.claxon_verify.specs.Verify.{changed_size}
use Rattle.claxon_stream_seek.specs.Timeline.{
  AreTogether,
  IsSteady,
  IsTimeline,
  Placed,
  begins_at,
}

-- where these frames stand, one after another, of which the first begins at the byte `at`
abbrev pub placed_frames : (stream : Option StreamFormat) → ℕ → (s : List ℕ)
    → (frames : List FrameValue) → (r : List ℕ) → DecodedFrames stream s frames r → List Placed
placed_frames stream at s [] r are = []
placed_frames stream at s (frame ∷ frames) r are =
    record { at = at; end = at + length are.0; info = frame.info }
    ∷ placed_frames stream (at + length are.0) are.1 frames r are.4

-- where the frames of a right stream stand, after its head
abbrev pub frames_placed : {computes_md5 : Bool} {s : List ℕ} → IsRightStream computes_md5 s
    → List Placed
frames_placed right =
    placed_frames (Some (stream_of right.head.info)) (length right.front) right.bytes right.frames
    right.rest right.frames_are

-- The block size is fixed: that of all frames but the last, and the streaminfo's, if that has one.
pub record HasOneBlockSize (info : Streaminfo) (frames : List FrameValue) : Type 0 where
  pub fixed : strategy_after frames ≢ Some true
  pub same : changed_size frames ≡ None
  pub said : info.min_block_size ≡ info.max_block_size → 1 < length frames
      → IfSome (slice_get frames 0) (λ first. frame_duration first ≡ info.min_block_size)

-- The frames of a right stream are a timeline without gaps. Each begins at as many samples as those
-- before it have.
abbrev pub RightStreamsAreTimelines : Type 0
RightStreamsAreTimelines = (computes_md5 : Bool) (s : List ℕ)
    → (right : IsRightStream computes_md5 s)
    → sum_by frame_duration right.frames < 2 ^ 64
    → IsTimeline (frames_placed right) × AreTogether (frames_placed right)
    × ((i : ℕ) → begins_at (frames_placed right) i ≡ sum_by frame_duration (take i right.frames))

-- Where the block size of a right stream is fixed it is steady, so that the clock tells the time of
-- each frame by its number.
abbrev pub RightStreamsAreSteady : Type 0
RightStreamsAreSteady = (computes_md5 : Bool) (s : List ℕ)
    → (right : IsRightStream computes_md5 s) (info : StreamInfo) → info_view info ≡ right.head.info
    → HasOneBlockSize right.head.info right.frames → IsSteady (frames_placed right) (Some info)
