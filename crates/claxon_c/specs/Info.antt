-- A `ClaxonInfo` as the format has it.
use Rattle.std.specs.Prelude.{◌≡◌, ℕ, nat_eq, nat_le, ◌&&◌, if◌then◌else◌, Option, None, Some}
use Rattle.std.specs.Option.{option_map}
use Rattle.claxon.specs.Frame.{StreamFormat}
use Rattle.claxon.specs.FrameReader.{stream_with}
use Rattle.claxon.specs.MetadataBlock.{or_zero}
use Rattle.claxon.specs.StreamInfos.{StreamInfo}
use Rattle.claxon_c.specs.declared.heads.ClaxonInfo.{ClaxonInfo}

-- It shows this streaminfo, and these counts of tags and of bytes before the first frame.
pub record InfoShows (found : StreamInfo) (tags first_frame : ℕ) (info : ClaxonInfo) : Type 0 where
  pub first_frame_is : info.first_frame ≡ first_frame
  pub tags_are : info.tags ≡ tags
  pub samples : info.samples ≡ or_zero found.samples
  pub rate : info.sample_rate ≡ found.sample_rate
  pub channels : info.channels ≡ found.channels
  pub bit_depth : info.bits_per_sample ≡ found.bits_per_sample
  pub min_block_size : info.min_block_size ≡ found.min_block_size
  pub max_block_size : info.max_block_size ≡ found.max_block_size
  pub min_frame_size : info.min_frame_size ≡ or_zero found.min_frame_size
  pub max_frame_size : info.max_frame_size ≡ or_zero found.max_frame_size
  pub md5 : info.md5 ≡ found.md5sum

-- a number that is unknown if it is 0
abbrev pub unless_zero : ℕ → Option ℕ
unless_zero n = if nat_eq n 0 then None else Some n

-- What it says of the stream: nothing, where the bit depth is out of range.
abbrev pub known_info : ClaxonInfo → Option StreamInfo
known_info info =
    if nat_le 1 info.bits_per_sample && nat_le info.bits_per_sample 32 then Some (record {
      min_block_size = info.min_block_size;
      max_block_size = info.max_block_size;
      min_frame_size = None;
      max_frame_size = None;
      sample_rate = info.sample_rate;
      channels = info.channels;
      bits_per_sample = info.bits_per_sample;
      samples = unless_zero info.samples;
      md5sum = info.md5;
    }) else None

-- What its frames need of that.
abbrev pub known_stream : ClaxonInfo → Option StreamFormat
known_stream info = option_map stream_with (known_info info)
