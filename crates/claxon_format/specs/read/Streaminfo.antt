-- Readers of the content of a streaminfo block and of its fields (RFC 9639, section 8.2).
use Rattle.std.specs.Prelude.{ℕ, ◌+◌, ◌*◌, ◌/◌, ◌%◌, ◌^◌, List, map}
use Rattle.claxon_format.specs.Fault.{BlockSizeBounds, BlockSizeSmall, FrameSizeBounds, SampleRate}
use Rattle.claxon_format.specs.read.Reading.{Reading, and_then, done, test}
use Rattle.claxon_format.specs.read.Bytes.{bytes_at, big_at}
use Rattle.claxon_format.specs.Streaminfo.{
  Streaminfo,
  block_sizes_inconsistent,
  block_small,
  frame_sizes_inconsistent,
  rate_invalid,
}

-- the bounds of the block and frame sizes
pub record StreaminfoSizes : Type 0 where
  pub min_block_size : ℕ
  pub max_block_size : ℕ
  pub min_frame_size : ℕ
  pub max_frame_size : ℕ

unfoldable pub sizes_at : List ℕ → Reading ℕ StreaminfoSizes
sizes_at =
    and_then (big_at 2) (λ a.
    and_then (big_at 2) (λ b.
    and_then (big_at 3) (λ c.
    and_then (big_at 3) (λ d.
    done (
    record { min_block_size = a; max_block_size = b; min_frame_size = c; max_frame_size = d })))))

-- the format of the samples, and their number
pub record StreaminfoFormat : Type 0 where
  pub rate : ℕ
  pub channels : ℕ
  pub bit_depth : ℕ
  pub samples : ℕ

-- they share eight bytes: 20 bits of the sample rate, 3 of the channels less one, 5 of the bit
-- depth less one, 36 of the number
abbrev pub format_of : ℕ → ℕ → StreaminfoFormat
format_of high low =
    record {
      rate = high / 2 ^ 12;
      channels = high / 2 ^ 9 % 2 ^ 3 + 1;
      bit_depth = high / 2 ^ 4 % 2 ^ 5 + 1;
      samples = high % 2 ^ 4 * 2 ^ 32 + low;
    }

unfoldable pub format_at : List ℕ → Reading ℕ StreaminfoFormat
format_at = and_then (big_at 4) (λ high. and_then (big_at 4) (λ low. done (format_of high low)))

-- the MD5 checksum: sixteen bytes, each modulo 256 as in `bits_of`
unfoldable pub md5_at : List ℕ → Reading ℕ (List ℕ)
md5_at = and_then (bytes_at 16) (λ ys. done (map (λ y. y % 256) ys))

-- a streaminfo of these parts
abbrev pub info_of : StreaminfoSizes → StreaminfoFormat → List ℕ → Streaminfo
info_of sizes format md5 = record {
  min_block_size = sizes.min_block_size;
  max_block_size = sizes.max_block_size;
  min_frame_size = sizes.min_frame_size;
  max_frame_size = sizes.max_frame_size;
  rate = format.rate;
  channels = format.channels;
  bit_depth = format.bit_depth;
  samples = format.samples;
  md5 = md5;
}

-- the fields in order
unfoldable pub info_fields_at : List ℕ → Reading ℕ Streaminfo
info_fields_at =
    and_then sizes_at (λ sizes.
    and_then format_at (λ format. and_then md5_at (λ md5. done (info_of sizes format md5))))

-- the tests after the fields
abbrev pub tested_at : {X : Type 0} → Streaminfo → List X → Reading X Streaminfo
tested_at i =
    test (block_sizes_inconsistent i) BlockSizeBounds (
    test (block_small i) BlockSizeSmall (
    test (frame_sizes_inconsistent i) FrameSizeBounds (test (rate_invalid i) SampleRate (done i))))

-- the fields, and then the tests
unfoldable pub streaminfo_at : List ℕ → Reading ℕ Streaminfo
streaminfo_at = and_then info_fields_at tested_at
