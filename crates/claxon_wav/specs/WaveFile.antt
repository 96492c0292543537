-- WAV files.
use Rattle.std.specs.Prelude.{
  nat_lt,
  ◌≡◌,
  ◌==◌,
  ◌||◌,
  not,
  ℕ,
  ◌*◌,
  ◌<◌,
  ◌%◌,
  ◌^◌,
  ◌-◌,
  List,
  [],
  ◌∷◌,
  ◌++◌,
  Bool,
  if◌then◌else◌,
  codes,
  length,
  replicate,
  ◌≤◌,
  Option,
  None,
  Some,
  Result,
  OnErr,
  OnOk,
}
use Rattle.std.specs.declared.alloc.AllocError.{AllocError}
use Rattle.std.specs.Int.{div_ceil, to_le_bytes, w16, w32}
use Rattle.claxon_wav.specs.ChannelMask.{channel_mask_of}
use Rattle.claxon_wav.specs.DataSize.{max_data_size, max_header_size}
use Rattle.claxon_wav.specs.declared.header.Layout.{Layout}

-- its number of channels
abbrev pub layout_channels : Layout → ℕ
layout_channels l = l.channels

-- its valid bits per sample
abbrev pub layout_valid_bits : Layout → ℕ
layout_valid_bits l = l.valid_bits

-- the pad byte after an odd number of bytes
abbrev pub pad : ℕ → List ℕ
pad size = replicate (size % 2) 0

-- A chunk: its name, its size, its bytes.
abbrev pub chunk : List ℕ → List ℕ → List ℕ
chunk name body = name ++ to_le_bytes w32 (length body) ++ body ++ pad (length body)

-- More than two channels, valid bits other than 8 and 16, and channel masks other than mono and
-- stereo need WAVEFORMATEXTENSIBLE.
abbrev pub is_extensible : Layout → Bool
is_extensible l =
    nat_lt 2 l.channels || (not ((l.valid_bits == 8) || (l.valid_bits == 16)) || not
    ((l.channel_mask == 3) || (l.channel_mask == 4)))

-- the GUID of the PCM subformat
abbrev pub pcm_subformat : List ℕ
pcm_subformat = 1 ∷ 0 ∷ 0 ∷ 0 ∷ 0 ∷ 0 ∷ 16 ∷ 0 ∷ 128 ∷ 0 ∷ 0 ∷ 170 ∷ 0 ∷ 56 ∷ 155 ∷ 113 ∷ []

-- the number of bytes of a sample
abbrev pub sample_size : ℕ → ℕ
sample_size valid_bits = div_ceil valid_bits 8

-- the number of bytes of one sample of each channel
abbrev pub block_align : Layout → ℕ
block_align l = l.channels * sample_size l.valid_bits

-- format tag, channels, sample rate, bytes per second, block align, bits per sample
abbrev pub base_format : ℕ → Layout → List ℕ
base_format code l =
    to_le_bytes w16 code ++ to_le_bytes w16 l.channels ++ to_le_bytes w32 l.sample_rate
    ++ to_le_bytes w32 (l.sample_rate * block_align l % 2 ^ 32) ++ to_le_bytes w16 (block_align l)
    ++ to_le_bytes w16 (8 * sample_size l.valid_bits)

-- the extension: its size, valid bits per sample, channel mask, subformat
abbrev pub extension : Layout → List ℕ
extension l =
    to_le_bytes w16 22 ++ to_le_bytes w16 l.valid_bits ++ to_le_bytes w32 l.channel_mask
    ++ pcm_subformat

unfoldable pub format : Layout → List ℕ
format l = if is_extensible l then base_format 65534 l ++ extension l else base_format 1 l

-- the bytes before the samples, for a format of these bytes, a size of all that follows it and
-- one of the samples
abbrev pub header_bytes : List ℕ → ℕ → ℕ → List ℕ
header_bytes f all size =
    codes "RIFF" ++ to_le_bytes w32 all ++ codes "WAVEfmt " ++ to_le_bytes w32 (length f) ++ f
    ++ codes "data" ++ to_le_bytes w32 size

-- the size that stands for an unknown one
abbrev pub unknown_size : ℕ
unknown_size = 2 ^ 32 - 1

-- the bytes before samples that end where the file ends
abbrev pub unknown_header : Layout → List ℕ
unknown_header l = header_bytes (format l) unknown_size unknown_size

-- a WAV file with these bytes of sample data
abbrev pub wave_file : Layout → List ℕ → List ℕ
wave_file l samples =
    chunk (codes "RIFF") (codes "WAVE" ++ chunk (codes "fmt ") (format l)
    ++ chunk (codes "data") samples)

-- With `size` bytes of sample data and their pad byte after it, it is a whole file.
abbrev pub IsHeader : Layout → ℕ → List ℕ → Type 0
IsHeader l size header =
    (samples : List ℕ) → length samples ≡ size → wave_file l samples ≡ header ++ samples ++ pad size

-- An Ok left just the header for `size` bytes of samples.
abbrev pub PutHeaderIsSound : Layout → ℕ → Result (Unit {0}) AllocError → List ℕ → Type 0
PutHeaderIsSound l size r bytes = OnOk r (IsHeader l size bytes)

-- Memory is refused only where this capacity is too small for the longest header.
abbrev pub FailsAtCapacity : ℕ → Result (Unit {0}) AllocError → Type 0
FailsAtCapacity capacity r = OnErr r (capacity < max_header_size)

-- the number of bytes of `count` samples per channel, or None if the file would be too large for
-- its 32-bit size
abbrev pub IsSizeOf : Layout → ℕ → Option ℕ → Type 0
IsSizeOf l count None = max_data_size < count * block_align l
IsSizeOf l count (Some size) = (size ≡ count * block_align l) × (size ≤ max_data_size)

-- It has these channels, valid bits and sample rate, and the given channel mask or the default
-- one of FLAC.
pub record IsLayoutOf (channels valid_bits sample_rate : ℕ) (channel_mask : Option ℕ)
    (l : Layout) : Type 0 where
  pub channels_are : l.channels ≡ channels
  pub valid_bits_are : l.valid_bits ≡ valid_bits
  pub rate_is : l.sample_rate ≡ sample_rate
  pub channel_mask_is : l.channel_mask ≡ channel_mask_of channels channel_mask
