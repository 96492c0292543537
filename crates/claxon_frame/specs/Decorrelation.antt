-- Decorrelation is undone in one buffer; pairs of samples.
use Rattle.std.specs.Prelude.{◌≡◌, ℕ, ◌*◌, ℤ, List, length}
use Rattle.std.specs.List.{zip}
use Rattle.claxon_format.specs.read.Stereo.{decoded_pair, decoded_channels}
use Rattle.claxon_frame.specs.FrameHeader.{channels_of, channel_code}
use Rattle.claxon_frame.specs.Block.{chunks}
use Rattle.claxon_frame.specs.declared.frame.header.parts.ChannelAssignment.{ChannelAssignment}
use Rattle.claxon_frame.specs.declared.frame.block.StereoSamples.{StereoSamples}

-- Two halves of a buffer are decoded by the rule of this channel code (RFC 9639, section 4.2).
abbrev pub PairIsDecoded : ℕ → List ℤ → List ℤ → Type 0
PairIsDecoded code old new =
    (n : ℕ) → length old ≡ 2 * n → chunks 2 n new ≡ decoded_pair code (chunks 2 n old)

-- All channels of a buffer are decoded.
abbrev pub ChannelsAreDecoded : ChannelAssignment → List ℤ → List ℤ → Type 0
ChannelsAreDecoded assignment old new =
    (n : ℕ) → length old ≡ channels_of assignment * n
    → chunks (channels_of assignment) n new
    ≡ decoded_channels (channel_code assignment) (chunks (channels_of assignment) n old)

-- the remaining pairs
abbrev pub remaining_pairs : StereoSamples → List (ℤ × ℤ)
remaining_pairs s = zip s.left.now s.right.now
