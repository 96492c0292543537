-- Tables of RFC 9639, section 9, and the limits of what is accepted. Codes and readers share these functions, so no law says anything of them.
use Rattle.std.proofs.Common.{◌≡◌, true, false, [], ◌∷◌, map, replicate, refl}
use Rattle.std.specs.Prelude.{Some, None}
use Rattle.claxon_format.specs.Bits.{bits, bits_of}
use Rattle.claxon_format.specs.Residual.{escape, partition_lengths}
use Rattle.claxon_format.specs.Subframe.{reserved}
use Rattle.claxon_format.specs.CodedNumber.{bad_first, continuation_count, bad_continuation}
use Rattle.claxon_format.specs.Crc.{padding_length}
use Rattle.claxon_format.specs.Header.{size_of, common_rate, rate_bits, rate_of, bit_depth_of_code, bit_depth_reserved, says_32_bits, side_too_wide, number_large}
use Rattle.claxon_format.specs.Stereo.{bit_depths}
use Rattle.claxon_format.specs.Frame.{block_step}
use Rattle.claxon_format.specs.FrameWriter.{channel_count}
use Rattle.claxon_format.specs.MetadataBlocks.{Padding, Reserved, skipped}
use Rattle.claxon_format.specs.read.Metadata.{block_header}
use Rattle.claxon_format.specs.read.Bytes.{big_endian}
use Rattle.claxon_format.specs.Tags.{lower}

sizes : map size_of (1 ∷ 2 ∷ 3 ∷ 4 ∷ 5 ∷ 8 ∷ 9 ∷ 10 ∷ 11 ∷ 12 ∷ 13 ∷ 14 ∷ 15 ∷ []) ≡ map Some (192 ∷ 576 ∷ 1152 ∷ 2304 ∷ 4608 ∷ 256 ∷ 512 ∷ 1024 ∷ 2048 ∷ 4096 ∷ 8192 ∷ 16384 ∷ 32768 ∷ [])
sizes = refl

-- codes without a block size: reserved, or with a field for it
no_sizes : map size_of (0 ∷ 6 ∷ 7 ∷ 16 ∷ []) ≡ None ∷ None ∷ None ∷ None ∷ []
no_sizes = refl

rate_lengths : map rate_bits (0 ∷ 1 ∷ 2 ∷ 3 ∷ 4 ∷ 5 ∷ 6 ∷ 7 ∷ 8 ∷ 9 ∷ 10 ∷ 11 ∷ 12 ∷ 13 ∷ 14 ∷ []) ≡ 0 ∷ 0 ∷ 0 ∷ 0 ∷ 0 ∷ 0 ∷ 0 ∷ 0 ∷ 0 ∷ 0 ∷ 0 ∷ 0 ∷ 8 ∷ 16 ∷ 16 ∷ []
rate_lengths = refl

common_rates : map (λ code. rate_of code 0) (1 ∷ 2 ∷ 3 ∷ 4 ∷ 5 ∷ 6 ∷ 7 ∷ 8 ∷ 9 ∷ 10 ∷ 11 ∷ []) ≡ map Some (88200 ∷ 176400 ∷ 192000 ∷ 8000 ∷ 16000 ∷ 22050 ∷ 24000 ∷ 32000 ∷ 44100 ∷ 48000 ∷ 96000 ∷ [])
common_rates = refl

-- codes without a common rate: that of the streaminfo, with a field for it, or invalid
no_rates : map common_rate (0 ∷ 12 ∷ 13 ∷ 14 ∷ 15 ∷ []) ≡ replicate 5 None
no_rates = refl

streaminfo_rate : rate_of 0 0 ≡ None
streaminfo_rate = refl

rates_in_kilohertz : map (rate_of 12) (0 ∷ 11 ∷ 255 ∷ []) ≡ Some 0 ∷ Some 11000 ∷ Some 255000 ∷ []
rates_in_kilohertz = refl

rates_in_hertz : map (rate_of 13) (0 ∷ 11025 ∷ 65535 ∷ []) ≡ Some 0 ∷ Some 11025 ∷ Some 65535 ∷ []
rates_in_hertz = refl

rates_in_tens_of_hertz : map (rate_of 14) (0 ∷ 35280 ∷ 65535 ∷ []) ≡ Some 0 ∷ Some 352800 ∷ Some 655350 ∷ []
rates_in_tens_of_hertz = refl

bit_depths_by_code : map (bit_depth_of_code None) (1 ∷ 2 ∷ 4 ∷ 5 ∷ 6 ∷ []) ≡ map Some (8 ∷ 12 ∷ 16 ∷ 20 ∷ 24 ∷ [])
bit_depths_by_code = refl

-- codes without a bit depth: unknown, or reserved
no_bit_depths : map (bit_depth_of_code None) (0 ∷ 3 ∷ 7 ∷ []) ≡ None ∷ None ∷ None ∷ []
no_bit_depths = refl

-- a stream's bit depth is that of code 0 alone
stream_bit_depths : map (bit_depth_of_code (Some 32)) (0 ∷ 1 ∷ 2 ∷ 3 ∷ 4 ∷ 5 ∷ 6 ∷ 7 ∷ []) ≡ Some 32 ∷ Some 8 ∷ Some 12 ∷ None ∷ Some 16 ∷ Some 20 ∷ Some 24 ∷ None ∷ []
stream_bit_depths = refl

sides_too_wide : map (λ channel_code. side_too_wide channel_code 32) (0 ∷ 7 ∷ 8 ∷ 9 ∷ 10 ∷ []) ≡ false ∷ false ∷ true ∷ true ∷ true ∷ []
sides_too_wide = refl

widest_side : side_too_wide 8 31 ≡ false
widest_side = refl

bit_depth_codes_reserved : map bit_depth_reserved (0 ∷ 1 ∷ 2 ∷ 3 ∷ 4 ∷ 5 ∷ 6 ∷ 7 ∷ []) ≡ false ∷ false ∷ false ∷ true ∷ false ∷ false ∷ false ∷ true ∷ []
bit_depth_codes_reserved = refl

channel_counts : map channel_count (0 ∷ 1 ∷ 2 ∷ 3 ∷ 4 ∷ 5 ∷ 6 ∷ 7 ∷ 8 ∷ 9 ∷ 10 ∷ []) ≡ 1 ∷ 2 ∷ 3 ∷ 4 ∷ 5 ∷ 6 ∷ 7 ∷ 8 ∷ 2 ∷ 2 ∷ 2 ∷ []
channel_counts = refl

eight_channels : bit_depths 7 16 ≡ replicate 8 16
eight_channels = refl

side_bit_depths : map (λ code. bit_depths code 16) (8 ∷ 9 ∷ 10 ∷ []) ≡ (16 ∷ 17 ∷ []) ∷ (17 ∷ 16 ∷ []) ∷ (16 ∷ 17 ∷ []) ∷ []
side_bit_depths = refl

numbers_large : map (number_large false) (2147483647 ∷ 2147483648 ∷ []) ≡ false ∷ true ∷ []
numbers_large = refl

numbers_variable : number_large true 68719476735 ≡ false
numbers_variable = refl

first_bytes : map bad_first (127 ∷ 128 ∷ 191 ∷ 192 ∷ 254 ∷ 255 ∷ []) ≡ false ∷ true ∷ true ∷ false ∷ false ∷ true ∷ []
first_bytes = refl

continuation_counts : map continuation_count (127 ∷ 192 ∷ 223 ∷ 224 ∷ 239 ∷ 240 ∷ 247 ∷ 248 ∷ 251 ∷ 252 ∷ 253 ∷ 254 ∷ []) ≡ 0 ∷ 1 ∷ 1 ∷ 2 ∷ 2 ∷ 3 ∷ 3 ∷ 4 ∷ 4 ∷ 5 ∷ 5 ∷ 6 ∷ []
continuation_counts = refl

continuation_byte_range : map bad_continuation (127 ∷ 128 ∷ 191 ∷ 192 ∷ []) ≡ true ∷ false ∷ false ∷ true ∷ []
continuation_byte_range = refl

subframe_types_reserved : map reserved (0 ∷ 1 ∷ 2 ∷ 7 ∷ 8 ∷ 12 ∷ 13 ∷ 31 ∷ 32 ∷ 63 ∷ []) ≡ false ∷ false ∷ true ∷ true ∷ false ∷ false ∷ true ∷ true ∷ false ∷ false ∷ []
subframe_types_reserved = refl

escapes : map escape (0 ∷ 1 ∷ []) ≡ 15 ∷ 31 ∷ []
escapes = refl

partitions : partition_lengths 16 2 2 ≡ 2 ∷ 4 ∷ 4 ∷ 4 ∷ []
partitions = refl

padding_lengths : map (λ n. padding_length (replicate n false)) (0 ∷ 1 ∷ 2 ∷ 3 ∷ 4 ∷ 5 ∷ 6 ∷ 7 ∷ 8 ∷ []) ≡ 0 ∷ 7 ∷ 6 ∷ 5 ∷ 4 ∷ 3 ∷ 2 ∷ 1 ∷ 0 ∷ []
padding_lengths = refl

most_significant_first : bits_of (0xa5 ∷ []) ≡ true ∷ false ∷ true ∷ false ∷ false ∷ true ∷ false ∷ true ∷ []
unfolding bits bits_of
most_significant_first = refl

skipped_types : map (λ type. skipped type 5) (1 ∷ 3 ∷ 5 ∷ 6 ∷ 7 ∷ 126 ∷ 128 ∷ 255 ∷ []) ≡ Padding 5 ∷ Padding 5 ∷ Padding 5 ∷ Padding 5 ∷ Reserved ∷ Reserved ∷ Reserved ∷ Reserved ∷ []
skipped_types = refl

header_of_block : block_header (big_endian (0x84 ∷ [])) (big_endian (1 ∷ 2 ∷ 3 ∷ [])) ≡ record { is_last = true; type = 4; length = 66051 }
unfolding big_endian
header_of_block = refl

steps : map (λ greatest. block_step (Some (record { bit_depth = 8; min_block_size = 16; max_block_size = greatest })) 5) (16 ∷ 17 ∷ []) ≡ 16 ∷ 5 ∷ []
steps = refl

letters : map lower (64 ∷ 65 ∷ 90 ∷ 91 ∷ 97 ∷ 193 ∷ []) ≡ 64 ∷ 97 ∷ 122 ∷ 91 ∷ 97 ∷ 193 ∷ []
letters = refl

-- four bytes of a header: code 7 of the bit depth says 32 bits, codes 3 and 4 don't, nor does it
-- after a reserved bit, a reserved block size, rate or number of channels
headers_of_32_bits : map says_32_bits (0xfff8c91e ∷ 0xfff9c9ae ∷ 0xfff8c90f ∷ []) ≡ true ∷ true ∷ true ∷ []
headers_of_32_bits = refl

headers_of_fewer_bits : map says_32_bits (0xfff8c916 ∷ 0xfff8c918 ∷ 0xfffac91e ∷ 0xfff8091e ∷ 0xfff8cf1e ∷ 0xfff8c9be ∷ 0xffe8c91e ∷ []) ≡ replicate 7 false
headers_of_fewer_bits = refl
