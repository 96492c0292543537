-- What a right stream is: a head, and frames that agree with it and with one another.
use Rattle.std.specs.Prelude.{
  All,
  ◌≡◌,
  ◌⊎◌,
  ℕ,
  ◌<◌,
  ℤ,
  Bool,
  true,
  if◌then◌else◌,
  List,
  [],
  ◌∷◌,
  ◌++◌,
  flat_map,
  length,
  Option,
  None,
  Some,
  IfSome,
}
use Rattle.std.specs.List.{sum_by}
use Rattle.claxon.specs.Bits.{FitsIn}
use Rattle.claxon.specs.BlockInfos.{BlockInfo}
use Rattle.claxon.specs.DecodedFrame.{FrameValue, FrameWithHeader}
use Rattle.claxon.specs.Frame.{StreamFormat}
use Rattle.claxon.specs.Heads.{Head, HeadCode}
use Rattle.claxon.specs.Streaminfo.{Streaminfo}
use Rattle.claxon.specs.Streams.{duration_of, interleave, stream_of, with_samples}
use Rattle.claxon_md5.specs.Md5.{md5}
use Rattle.claxon_md5.specs.WholeBytes.{whole_bytes_of_samples}
use Rattle.claxon_blocks.specs.Md5Verdict.{no_md5}

-- ---- frames, one after another

-- s is these frames, one after another, and then r
abbrev pub DecodedFrames : Option StreamFormat → List ℕ → List FrameValue → List ℕ → Type 0
DecodedFrames stream s [] r = s ≡ r
DecodedFrames stream s (frame ∷ frames) r =
    (t : List ℕ) × (m : List ℕ) × FrameWithHeader stream frame t × (s ≡ t ++ m)
    × DecodedFrames stream m frames r

-- the number of samples of each channel of a frame
abbrev pub frame_duration : FrameValue → ℕ
frame_duration frame = duration_of frame.block.channels

-- ---- what a frame says of itself

-- The channels and the bit depth are those of the streaminfo, and the sample rate is, where the
-- header gives one.
abbrev pub AgreesWithInfo : Streaminfo → BlockInfo → Type 0
AgreesWithInfo info frame =
    (frame.channels ≡ info.channels) × (frame.bit_depth ≡ info.bit_depth)
    × IfSome frame.sample_rate (λ rate. rate ≡ info.rate)

-- whether the block size is variable in the frame after these: all frames of a stream have the
-- blocking strategy of the first (section 9.1)
abbrev pub strategy_after : List FrameValue → Option Bool
strategy_after [] = None
strategy_after (first ∷ frames) = Some first.info.is_variable

-- how many frames there are, or how many samples of each channel they have
abbrev pub number_of : Bool → List FrameValue → ℕ
number_of is_variable frames =
    if is_variable then sum_by frame_duration frames else length frames

-- the coded number of the frame after these: how many frames come before it, or how many samples
-- of each channel where the block size is variable (section 9.1.5)
abbrev pub number_after : List FrameValue → ℕ
number_after [] = 0
number_after (first ∷ frames) = number_of first.info.is_variable (first ∷ frames)

-- The frame has this blocking strategy, if there is one.
abbrev pub HasStrategy : Option Bool → BlockInfo → Type 0
HasStrategy strategy frame = IfSome strategy (λ is_variable. frame.is_variable ≡ is_variable)

-- Each sample of each channel fits in the bit depth of the streaminfo.
abbrev pub FitsBitDepth : Streaminfo → FrameValue → Type 0
FitsBitDepth info frame = All (All (FitsIn info.bit_depth)) frame.block.channels

-- The frame is the next one: it agrees with the streaminfo, has this blocking strategy and this
-- coded number, and its samples fit.
abbrev pub IsNext : Streaminfo → Option Bool → ℕ → FrameValue → Type 0
IsNext info strategy number frame =
    AgreesWithInfo info frame.info × HasStrategy strategy frame.info
    × (frame.info.number ≡ number) × FitsBitDepth info frame

-- It is the next one after these.
abbrev pub IsNextAfter : Streaminfo → List FrameValue → FrameValue → Type 0
IsNextAfter info before = IsNext info (strategy_after before) (number_after before)

-- Each of the frames is the next one after these and those before it.
abbrev pub AreNextAfter : Streaminfo → List FrameValue → List FrameValue → Type 0
AreNextAfter info before [] = Unit {0}
AreNextAfter info before (frame ∷ frames) =
    IsNextAfter info before frame × AreNextAfter info (before ++ frame ∷ []) frames

-- Each of the frames is the next one after those before it.
abbrev pub AreInOrder : Streaminfo → List FrameValue → Type 0
AreInOrder info frames = AreNextAfter info [] frames

-- ---- the number of samples, and their MD5 sum

-- the samples of frames, interleaved, those of one frame after those of another
abbrev pub samples_of_frames : List FrameValue → List ℤ
samples_of_frames frames = flat_map (λ frame. interleave frame.block.channels) frames

-- the bytes of the samples of frames, each in the fewest whole bytes that hold the bit depth
abbrev pub bytes_of_frames : ℕ → List FrameValue → List ℕ
bytes_of_frames bit_depth frames = whole_bytes_of_samples bit_depth (samples_of_frames frames)

-- The frames have as many samples of each channel as the streaminfo says, where it doesn't say 0,
-- which stands for an unknown number.
abbrev pub HasSampleCount : Streaminfo → List FrameValue → Type 0
HasSampleCount info frames = (info.samples ≡ 0) ⊎ (info.samples ≡ sum_by frame_duration frames)

-- Their samples have the MD5 sum of the streaminfo, where it has one (section 8.2).
abbrev pub HasMd5 : Streaminfo → List FrameValue → Type 0
HasMd5 info frames = (info.md5 ≡ no_md5) ⊎ (info.md5 ≡ md5 (bytes_of_frames info.bit_depth frames))

-- ---- the stream

-- s is a head and frames, and then fewer than two bytes. The frames are in order, and have as many
-- samples as the streaminfo says, and its MD5 sum if that is computed.
pub record IsRightStream (computes_md5 : Bool) (s : List ℕ) : Type 0 where
  pub head : Head
  pub front : List ℕ
  pub bytes : List ℕ
  pub frames : List FrameValue
  pub rest : List ℕ
  pub code : HeadCode (with_samples true) head front
  pub joined : s ≡ front ++ bytes
  pub frames_are : DecodedFrames (Some (stream_of head.info)) bytes frames rest
  pub few : length rest < 2
  pub in_order : AreInOrder head.info frames
  pub samples : HasSampleCount head.info frames
  pub md5_is : computes_md5 ≡ true → HasMd5 head.info frames
