-- Readers of a frame and of its parts (RFC 9639, section 9).
use Rattle.std.specs.Prelude.{ℕ, Bool, List, ℤ, Option, None}
use Rattle.claxon_format.specs.Bits.{Bits}
use Rattle.claxon_format.specs.Fault.{FrameCrc}
use Rattle.claxon_format.specs.Frame.{StreamFormat, Block, known_bit_depth, time_of}
use Rattle.claxon_format.specs.Crc.{crc16}
use Rattle.claxon_format.specs.Header.{Header, bit_depth_of_code}
use Rattle.claxon_format.specs.read.Reading.{Reading, and_then, done, each_at}
use Rattle.claxon_format.specs.Stereo.{bit_depths}
use Rattle.claxon_format.specs.read.Stereo.{decoded_channels}
use Rattle.claxon_format.specs.read.Bytes.{by_bytes, with_crc_bytes_at}
use Rattle.claxon_format.specs.read.Header.{fields_with_crc_at, with_bit_depth}
use Rattle.claxon_format.specs.read.Subframe.{subframe_at}

-- what a header says of the block of its frame
pub record Start : Type 0 where
  pub time : ℕ
  pub size : ℕ
  pub channel_code : ℕ
  pub bit_depth : ℕ
  pub sample_rate : Option ℕ
  pub variable : Bool
  pub number : ℕ
  pub header_bit_depth : Option ℕ

abbrev pub start_of : Option StreamFormat → Header → Start
start_of stream h =
    record {
      time = time_of stream h.fields;
      size = h.fields.size;
      channel_code = h.fields.channel_code;
      bit_depth = h.bit_depth;
      sample_rate = h.fields.sample_rate;
      variable = h.fields.variable;
      number = h.fields.number;
      header_bit_depth = bit_depth_of_code None h.fields.bit_depth_code;
    }

-- a header and its CRC
unfoldable pub start_at : Option StreamFormat → List ℕ → Reading ℕ Start
start_at stream = with_bit_depth fields_with_crc_at (known_bit_depth stream) (start_of stream)

-- a subframe of this block size for each bit depth
unfoldable pub coded_channels_at : ℕ → List ℕ → Bits → Reading Bool (List (List ℤ))
coded_channels_at size bit_depths = each_at (λ w. subframe_at w size) bit_depths

-- the subframes, and the padding up to a byte boundary
unfoldable pub subframes_at : ℕ → List ℕ → List ℕ → Reading ℕ (List (List ℤ))
subframes_at size bit_depths = by_bytes (coded_channels_at size bit_depths)

-- the block of a header and the channels coded after it
abbrev pub block_from : Start → List (List ℤ) → Block
block_from start coded =
    record { time = start.time; channels = decoded_channels start.channel_code coded }

-- a header and its subframes
unfoldable pub frame_without_crc_at : Option StreamFormat → List ℕ → Reading ℕ Block
frame_without_crc_at stream =
    and_then (start_at stream) (λ start.
    and_then (subframes_at start.size (bit_depths start.channel_code start.bit_depth)) (λ coded.
    done (block_from start coded)))

-- and their CRC (section 9.3)
abbrev pub frame_bytes_at : Option StreamFormat → List ℕ → Reading ℕ Block
frame_bytes_at stream = with_crc_bytes_at 2 crc16 FrameCrc (frame_without_crc_at stream)
