-- The parts of a frame header in the code (RFC 9639, section 9.1).
use Rattle.std.specs.Prelude.{
  ◌≡◌,
  ◌<◌,
  ◌≤◌,
  ℕ,
  ◌+◌,
  ◌-◌,
  List,
  get_or,
  Bool,
  true,
  false,
  if◌then◌else◌,
  ◌==◌,
  Option,
  Some,
  None,
}
use Rattle.claxon_format.specs.Header.{bit_depth_of_code}
use Rattle.claxon_format.specs.Stereo.{bit_depths}
use Rattle.claxon_frame.specs.declared.frame.header.parts.BlockingStrategy.{BlockingStrategy}
use Rattle.claxon_frame.specs.declared.frame.header.parts.BlockingStrategy.TheVariants.{
  Fixed,
  Variable,
}
use Rattle.claxon_frame.specs.declared.frame.header.parts.BlockTime.{BlockTime}
use Rattle.claxon_frame.specs.declared.frame.header.parts.BlockTime.TheVariants.{
  FrameNumber,
  SampleNumber,
}
use Rattle.claxon_frame.specs.declared.frame.header.parts.BlockSize.{BlockSize}
use Rattle.claxon_frame.specs.declared.frame.header.parts.BlockSize.TheVariants.{Known}
use Rattle.claxon_frame.specs.declared.frame.header.parts.ChannelAssignment.{ChannelAssignment}
use Rattle.claxon_frame.specs.declared.frame.header.parts.ChannelAssignment.TheVariants.{
  Independent,
  LeftSideStereo,
  RightSideStereo,
  MidSideStereo,
}

-- the smallest block size that a block size code can give
abbrev pub least_size : BlockSize → ℕ
least_size (Known n) = n
least_size _ = 1

-- the number of channels
abbrev pub channels_of : ChannelAssignment → ℕ
channels_of (Independent n) = n
channels_of _ = 2

-- the four channel bits (section 9.1.3)
abbrev pub channel_code : ChannelAssignment → ℕ
channel_code (Independent n) = n - 1
channel_code LeftSideStereo = 8
channel_code RightSideStereo = 9
channel_code MidSideStereo = 10

-- the greatest bit depth of the subframes of a frame: a side channel has one bit more
abbrev pub max_bit_depth : ChannelAssignment → ℕ → ℕ
max_bit_depth (Independent n) bits = bits
max_bit_depth _ bits = bits + 1

-- the three bit depth bits (section 9.1.4). None is the bit depth of the stream.
abbrev pub bit_depth_code : Option ℕ → ℕ
bit_depth_code None = 0
bit_depth_code (Some bits) =
    if bits == 8 then 1
    else if bits == 12 then 2
    else if bits == 16 then 4
    else if bits == 20 then 5
    else 6

-- a bit depth that has a code
abbrev pub HasBitDepthCode : ℕ → Type 0
HasBitDepthCode bits = bit_depth_of_code None (bit_depth_code (Some bits)) ≡ Some bits

-- the blocking strategy bit
abbrev pub is_variable : BlockingStrategy → Bool
is_variable Fixed = false
is_variable Variable = true

-- the blocking strategy bit and the coded number (section 9.1.5)
abbrev pub block_time_view : BlockTime → Bool × ℕ
block_time_view (FrameNumber n) = (false, n)
block_time_view (SampleNumber n) = (true, n)

-- the bit depths of the subframes of a frame
abbrev pub subframe_bit_depths : ChannelAssignment → ℕ → List ℕ
subframe_bit_depths assignment bits = bit_depths (channel_code assignment) bits

-- The result is the bit depth of the subframe of channel ch, if there is such a channel.
abbrev pub IsSubframeBitDepth : ChannelAssignment → ℕ → ℕ → ℕ → Type 0
IsSubframeBitDepth assignment bits ch result =
    channels_of assignment ≤ 8 → ch < channels_of assignment
    → result ≡ get_or (subframe_bit_depths assignment bits) ch 0
