-- Examples: what the reader gives for the bytes of some frames and subframes.
use Rattle.std.proofs.Common.{◌≡◌, ℕ, false, List, [], ◌∷◌, refl, ℤ, pos, negsuc}
use Rattle.std.specs.Prelude.{Option, Some, None}
use Rattle.claxon_format.specs.Fault.{SyncMissing, SizeReserved, NumberContinuation, SizeLarge, BitDepthUnknown, SideTooWide, SubframePadding, HeaderCrc, FrameCrc, NumberFirst, NumberLarge, FixedOrder, NoBitsLeft, WastedBitsLarge, PartitionOrder, PartitionShort, MethodReserved, LinearOrder, PrecisionInvalid, ShiftNegative, SubframeTypeReserved}
use Rattle.claxon_format.specs.Bits.{bits, bits_of, number, residue}
use Rattle.claxon_format.specs.read.Bits.{twos_complement, number_at, zeros_at, unary_at, rice_code_at, signed_at, bit_at}
use Rattle.claxon_format.specs.read.Reading.{Reading, Done, Faulty, Incomplete, each_at, times_at}
use Rattle.claxon_format.specs.read.Residual.{escaped_sample_at, escaped_partition_at, partition_at, method_at, partitions_at, residual_at}
use Rattle.claxon_format.specs.read.Subframe.{type_at, wasted_bits_at, wasted_bits_to_31_at, subframe_header_at, fixed_at, parameters_at, linear_at, subframe_body_at, subframe_at}
use Rattle.claxon_format.specs.read.CodedNumber.{continuation_byte_at, continuation_bytes_at, coded_number_at}
use Rattle.claxon_format.specs.read.Crc.{with_crc_at, byte_aligned_at}
use Rattle.claxon_format.specs.Crc.{divide, divide_step, crc8, crc16}
use Rattle.claxon_format.specs.Header.{Fields}
use Rattle.claxon_format.specs.read.Header.{blocking_at, sync_at, codes_at, channels_at, number_in, size_at, rate_at, fields_after, fields_at, bit_depth_at, header_at, fields_with_crc_at}
use Rattle.claxon_format.specs.read.Bytes.{by_bytes, bytes_at, big_at, big_endian}
use Rattle.claxon_format.specs.Frame.{StreamFormat, Block}
use Rattle.claxon_format.specs.read.Frame.{start_at, coded_channels_at, subframes_at, frame_without_crc_at, frame_bytes_at}
use Rattle.std.specs.Int.{int_wrap}

frame : Option StreamFormat → List ℕ → Reading ℕ Block
unfolding bits number twos_complement residue each_at times_at number_at zeros_at unary_at rice_code_at signed_at escaped_sample_at escaped_partition_at partition_at method_at partitions_at residual_at bit_at type_at wasted_bits_at wasted_bits_to_31_at subframe_header_at parameters_at fixed_at linear_at subframe_body_at subframe_at continuation_byte_at continuation_bytes_at coded_number_at with_crc_at byte_aligned_at divide divide_step crc8 crc16 blocking_at sync_at codes_at channels_at number_in size_at rate_at fields_after fields_at bit_depth_at header_at start_at coded_channels_at subframes_at frame_without_crc_at fields_with_crc_at bytes_at big_at big_endian bits_of int_wrap
frame stream s = frame_bytes_at stream s

block : ℕ → List (List ℤ) → Block
block time channels = record { time = time; channels = channels }

first_frame : frame None (0xff ∷ 0xf8 ∷ 0x69 ∷ 0x02 ∷ 0x00 ∷ 0x00 ∷ 0x9a ∷ 0x00 ∷ 0x05 ∷ 0x34 ∷ 0x58 ∷ []) ≡ Done (block 0 ((pos 5 ∷ []) ∷ [])) []
unfolding frame block
first_frame = refl

rate_field : frame None (0xff ∷ 0xf8 ∷ 0x6c ∷ 0x02 ∷ 0x00 ∷ 0x00 ∷ 0x2c ∷ 0xe6 ∷ 0x00 ∷ 0x05 ∷ 0x23 ∷ 0x75 ∷ 0x77 ∷ []) ≡ Done (block 0 ((pos 5 ∷ []) ∷ [])) (0x77 ∷ [])
unfolding frame block
rate_field = refl

-- the fields of that header, whose rate is 44 kHz
fields : List ℕ → Reading ℕ Fields
unfolding bits number number_at continuation_byte_at continuation_bytes_at coded_number_at divide divide_step crc8 blocking_at sync_at codes_at channels_at number_in size_at rate_at fields_after fields_at fields_with_crc_at bytes_at big_at big_endian bits_of
fields s = fields_with_crc_at s

rate_in_kilohertz : fields (0xff ∷ 0xf8 ∷ 0x6c ∷ 0x02 ∷ 0x00 ∷ 0x00 ∷ 0x2c ∷ 0xe6 ∷ []) ≡ Done (record { variable = false; size = 1; sample_rate = Some 44000; channel_code = 0; bit_depth_code = 1; number = 0 }) []
unfolding fields
rate_in_kilohertz = refl

sync : frame None (0xfe ∷ 0xf8 ∷ 0x01 ∷ []) ≡ Faulty SyncMissing (0x01 ∷ [])
unfolding frame
sync = refl

size_reserved : frame None (0xff ∷ 0xf8 ∷ 0x0f ∷ 0x01 ∷ []) ≡ Faulty SizeReserved (0x01 ∷ [])
unfolding frame
size_reserved = refl

continuation_byte : frame None (0xff ∷ 0xf8 ∷ 0x69 ∷ 0x02 ∷ 0xc2 ∷ 0x00 ∷ 0x11 ∷ []) ≡ Faulty NumberContinuation (0x11 ∷ [])
unfolding frame
continuation_byte = refl

size_large : frame None (0xff ∷ 0xf8 ∷ 0x79 ∷ 0x02 ∷ 0x00 ∷ 0xff ∷ 0xff ∷ []) ≡ Faulty SizeLarge []
unfolding frame
size_large = refl

-- the byte with the subframe's first bit is consumed as a whole
padding_bit_in_frame : frame None (0xff ∷ 0xf8 ∷ 0x69 ∷ 0x02 ∷ 0x00 ∷ 0x00 ∷ 0x9a ∷ 0x80 ∷ 0x22 ∷ []) ≡ Faulty SubframePadding (0x22 ∷ [])
unfolding frame
padding_bit_in_frame = refl

escapes : frame None (0xff ∷ 0xf8 ∷ 0x69 ∷ 0x02 ∷ 0x00 ∷ 0x00 ∷ 0x9a ∷ 0x10 ∷ 0x03 ∷ 0xcb ∷ 0xa0 ∷ 0x40 ∷ 0x62 ∷ []) ≡ Done (block 0 ((negsuc 5 ∷ []) ∷ [])) []
unfolding frame block
escapes = refl

-- streams of 8 and of 32 bits per sample
stream_8 : Option StreamFormat
stream_8 = Some (record { bit_depth = 8; min_block_size = 16; max_block_size = 16 })

stream_32 : Option StreamFormat
stream_32 = Some (record { bit_depth = 32; min_block_size = 16; max_block_size = 16 })

left_side : frame stream_8 (0xff ∷ 0xf8 ∷ 0x69 ∷ 0x80 ∷ 0x00 ∷ 0x00 ∷ 0x47 ∷ 0x00 ∷ 0x03 ∷ 0x00 ∷ 0x02 ∷ 0x80 ∷ 0xc0 ∷ 0x8d ∷ []) ≡ Done (block 0 ((pos 3 ∷ []) ∷ (negsuc 1 ∷ []) ∷ [])) []
unfolding frame block stream_8
left_side = refl

bit_depth_32 : frame stream_32 (0xff ∷ 0xf8 ∷ 0x69 ∷ 0x00 ∷ 0x00 ∷ 0x00 ∷ 0x4c ∷ 0x00 ∷ 0x80 ∷ 0x00 ∷ 0x00 ∷ 0x00 ∷ 0x0b ∷ 0xb2 ∷ []) ≡ Done (block 0 ((negsuc 2147483647 ∷ []) ∷ [])) []
unfolding frame block stream_32
bit_depth_32 = refl

side_over_32_bits : frame stream_32 (0xff ∷ 0xf8 ∷ 0x69 ∷ 0x80 ∷ 0x00 ∷ 0x00 ∷ 0x47 ∷ []) ≡ Faulty SideTooWide []
unfolding frame stream_32
side_over_32_bits = refl

unknown_bit_depth : frame None (0xff ∷ 0xf8 ∷ 0x69 ∷ 0x80 ∷ 0x00 ∷ 0x00 ∷ 0x47 ∷ []) ≡ Faulty BitDepthUnknown []
unfolding frame
unknown_bit_depth = refl

mid_side : frame None (0xff ∷ 0xf8 ∷ 0x69 ∷ 0xa2 ∷ 0x00 ∷ 0x00 ∷ 0xd2 ∷ 0x00 ∷ 0x00 ∷ 0x00 ∷ 0x02 ∷ 0x80 ∷ 0x24 ∷ 0xd1 ∷ []) ≡ Done (block 0 ((pos 3 ∷ []) ∷ (negsuc 1 ∷ []) ∷ [])) []
unfolding frame block stream_8
mid_side = refl

mid_side_padding : frame None (0xff ∷ 0xf8 ∷ 0x69 ∷ 0xa2 ∷ 0x00 ∷ 0x00 ∷ 0xd2 ∷ 0x00 ∷ 0x00 ∷ 0x00 ∷ 0x02 ∷ 0x81 ∷ 0xa4 ∷ 0xd4 ∷ []) ≡ Done (block 0 ((pos 3 ∷ []) ∷ (negsuc 1 ∷ []) ∷ [])) []
unfolding frame block stream_8
mid_side_padding = refl

left_and_side : frame None (0xff ∷ 0xf8 ∷ 0x69 ∷ 0x82 ∷ 0x00 ∷ 0x00 ∷ 0x91 ∷ 0x00 ∷ 0x03 ∷ 0x00 ∷ 0x02 ∷ 0x80 ∷ 0x5c ∷ 0x95 ∷ []) ≡ Done (block 0 ((pos 3 ∷ []) ∷ (negsuc 1 ∷ []) ∷ [])) []
unfolding frame block stream_8
left_and_side = refl

side_and_right : frame None (0xff ∷ 0xf8 ∷ 0x69 ∷ 0x92 ∷ 0x00 ∷ 0x00 ∷ 0x33 ∷ 0x00 ∷ 0x02 ∷ 0x80 ∷ 0x7f ∷ 0x00 ∷ 0xd9 ∷ 0x39 ∷ []) ≡ Done (block 0 ((pos 3 ∷ []) ∷ (negsuc 1 ∷ []) ∷ [])) []
unfolding frame block stream_8
side_and_right = refl

two_channels : frame None (0xff ∷ 0xf8 ∷ 0x69 ∷ 0x12 ∷ 0x00 ∷ 0x01 ∷ 0x3f ∷ 0x00 ∷ 0x03 ∷ 0x00 ∷ 0xfe ∷ 0x71 ∷ 0x51 ∷ []) ≡ Done (block 0 ((pos 3 ∷ pos 3 ∷ []) ∷ (negsuc 1 ∷ negsuc 1 ∷ []) ∷ [])) []
unfolding frame block stream_8
two_channels = refl

rice_codes : frame None (0xff ∷ 0xf8 ∷ 0x69 ∷ 0x02 ∷ 0x00 ∷ 0x03 ∷ 0x93 ∷ 0x12 ∷ 0x0a ∷ 0x00 ∷ 0x0c ∷ 0x40 ∷ 0x8a ∷ 0x5c ∷ []) ≡ Done (block 0 ((pos 10 ∷ pos 11 ∷ pos 11 ∷ pos 9 ∷ []) ∷ [])) []
unfolding frame block stream_8
rice_codes = refl

wasted_bits : frame None (0xff ∷ 0xf8 ∷ 0x69 ∷ 0x02 ∷ 0x00 ∷ 0x00 ∷ 0x9a ∷ 0x01 ∷ 0x7d ∷ 0xb3 ∷ 0x4b ∷ []) ≡ Done (block 0 ((negsuc 11 ∷ []) ∷ [])) []
unfolding frame block stream_8
wasted_bits = refl

wrong_header_crc : frame None (0xff ∷ 0xf8 ∷ 0x69 ∷ 0x02 ∷ 0x00 ∷ 0x00 ∷ 0x9b ∷ 0x00 ∷ 0x05 ∷ []) ≡ Faulty HeaderCrc (0x00 ∷ 0x05 ∷ [])
unfolding frame block stream_8
wrong_header_crc = refl

wrong_frame_crc : frame None (0xff ∷ 0xf8 ∷ 0x69 ∷ 0x02 ∷ 0x00 ∷ 0x00 ∷ 0x9a ∷ 0x00 ∷ 0x05 ∷ 0x34 ∷ 0x59 ∷ 0x01 ∷ []) ≡ Faulty FrameCrc (0x01 ∷ [])
unfolding frame block stream_8
wrong_frame_crc = refl

overlong : frame None (0xff ∷ 0xf8 ∷ 0x69 ∷ 0x02 ∷ 0xc0 ∷ 0x80 ∷ 0x00 ∷ 0xf4 ∷ 0x00 ∷ 0x05 ∷ 0xbe ∷ 0xc0 ∷ []) ≡ Done (block 0 ((pos 5 ∷ []) ∷ [])) []
unfolding frame block stream_8
overlong = refl

greatest_number : frame stream_8 (0xff ∷ 0xf9 ∷ 0x69 ∷ 0x02 ∷ 0xfe ∷ 0xbf ∷ 0xbf ∷ 0xbf ∷ 0xbf ∷ 0xbf ∷ 0xbf ∷ 0x00 ∷ 0xfa ∷ 0x00 ∷ 0x05 ∷ 0x88 ∷ 0x72 ∷ []) ≡ Done (block 68719476735 ((pos 5 ∷ []) ∷ [])) []
unfolding frame block stream_8
greatest_number = refl

number_first : frame None (0xff ∷ 0xf8 ∷ 0x69 ∷ 0x02 ∷ 0xff ∷ 0x01 ∷ []) ≡ Faulty NumberFirst (0x01 ∷ [])
unfolding frame block stream_8
number_first = refl

number_first_80 : frame None (0xff ∷ 0xf8 ∷ 0x69 ∷ 0x02 ∷ 0x80 ∷ []) ≡ Faulty NumberFirst []
unfolding frame block stream_8
number_first_80 = refl

number_large : frame None (0xff ∷ 0xf8 ∷ 0x69 ∷ 0x02 ∷ 0xfe ∷ 0x82 ∷ 0x80 ∷ 0x80 ∷ 0x80 ∷ 0x80 ∷ 0x80 ∷ []) ≡ Faulty NumberLarge []
unfolding frame block stream_8
number_large = refl

time_by_size : frame None (0xff ∷ 0xf8 ∷ 0x69 ∷ 0x02 ∷ 0x02 ∷ 0x00 ∷ 0xb0 ∷ 0x00 ∷ 0x05 ∷ 0x36 ∷ 0xa0 ∷ []) ≡ Done (block 2 ((pos 5 ∷ []) ∷ [])) []
unfolding frame block stream_8
time_by_size = refl

time_by_stream : frame stream_8 (0xff ∷ 0xf8 ∷ 0x69 ∷ 0x02 ∷ 0x02 ∷ 0x00 ∷ 0xb0 ∷ 0x00 ∷ 0x05 ∷ 0x36 ∷ 0xa0 ∷ []) ≡ Done (block 32 ((pos 5 ∷ []) ∷ [])) []
unfolding frame block stream_8
time_by_stream = refl

stream_bit_depth : frame stream_8 (0xff ∷ 0xf8 ∷ 0x69 ∷ 0x00 ∷ 0x00 ∷ 0x00 ∷ 0x4c ∷ 0x00 ∷ 0x05 ∷ 0xca ∷ 0x60 ∷ []) ≡ Done (block 0 ((pos 5 ∷ []) ∷ [])) []
unfolding frame block stream_8
stream_bit_depth = refl

fixed_order : frame None (0xff ∷ 0xf8 ∷ 0x69 ∷ 0x02 ∷ 0x00 ∷ 0x00 ∷ 0x9a ∷ 0x14 ∷ []) ≡ Faulty FixedOrder []
unfolding frame block stream_8
fixed_order = refl

frame_incomplete : frame None (0xff ∷ 0xf8 ∷ 0x69 ∷ 0x02 ∷ 0x00 ∷ 0x00 ∷ 0x9a ∷ 0x00 ∷ 0x05 ∷ 0x34 ∷ []) ≡ Incomplete
unfolding frame
frame_incomplete = refl

-- ---- subframes

subframe : ℕ → ℕ → List ℕ → Reading ℕ (List ℤ)
unfolding bits number twos_complement residue each_at times_at number_at zeros_at unary_at rice_code_at signed_at escaped_sample_at escaped_partition_at partition_at method_at partitions_at residual_at bit_at type_at wasted_bits_at wasted_bits_to_31_at subframe_header_at parameters_at fixed_at linear_at subframe_body_at subframe_at continuation_byte_at continuation_bytes_at coded_number_at with_crc_at byte_aligned_at divide divide_step crc8 crc16 blocking_at sync_at codes_at channels_at number_in size_at rate_at fields_after fields_at bit_depth_at header_at start_at coded_channels_at subframes_at frame_without_crc_at fields_with_crc_at bytes_at big_at big_endian bits_of int_wrap
subframe w n s = by_bytes (subframe_at w n) s

floor_down : subframe 8 3 (0x40 ∷ 0xfb ∷ 0x10 ∷ 0xa0 ∷ 0x04 ∷ 0x80 ∷ []) ≡ Done (negsuc 4 ∷ negsuc 2 ∷ negsuc 0 ∷ []) []
unfolding subframe
floor_down = refl

verbatim : subframe 12 2 (0x02 ∷ 0xff ∷ 0xf7 ∷ 0xff ∷ []) ≡ Done (negsuc 0 ∷ pos 2047 ∷ []) []
unfolding subframe
verbatim = refl

wide_sample : subframe 8 2 (0x10 ∷ 0x42 ∷ 0x10 ∷ 0x00 ∷ 0x24 ∷ 0x00 ∷ 0x04 ∷ []) ≡ Done (pos 1 ∷ negsuc 32768 ∷ []) []
unfolding subframe
wide_sample = refl

high_quotient : subframe 8 1 (0x10 ∷ 0x43 ∷ 0xc1 ∷ 0x00 ∷ 0x00 ∷ 0x00 ∷ 0x00 ∷ []) ≡ Done (pos 0 ∷ []) []
unfolding subframe
high_quotient = refl

empty_partition : subframe 8 4 (0x14 ∷ 0x01 ∷ 0x02 ∷ 0x05 ∷ 0xc2 ∷ 0x80 ∷ []) ≡ Done (pos 1 ∷ pos 2 ∷ pos 3 ∷ pos 3 ∷ []) []
unfolding subframe
empty_partition = refl

escape : subframe 8 1 (0x10 ∷ 0x03 ∷ 0xcb ∷ 0xa0 ∷ []) ≡ Done (negsuc 5 ∷ []) []
unfolding subframe
escape = refl

escape_none : subframe 8 3 (0x10 ∷ 0x03 ∷ 0xc0 ∷ []) ≡ Done (pos 0 ∷ pos 0 ∷ pos 0 ∷ []) []
unfolding subframe
escape_none = refl

escape_five : subframe 8 2 (0x10 ∷ 0x43 ∷ 0xe2 ∷ 0x60 ∷ []) ≡ Done (pos 1 ∷ negsuc 1 ∷ []) []
unfolding subframe
escape_five = refl

escape_empty : subframe 8 4 (0x14 ∷ 0x01 ∷ 0x02 ∷ 0x07 ∷ 0xc0 ∷ 0x14 ∷ []) ≡ Done (pos 1 ∷ pos 2 ∷ pos 3 ∷ pos 3 ∷ []) []
unfolding subframe
escape_empty = refl

one_bit_coefficient : subframe 8 3 (0x40 ∷ 0x05 ∷ 0x00 ∷ 0x40 ∷ 0x0c ∷ []) ≡ Done (pos 5 ∷ negsuc 4 ∷ pos 5 ∷ []) []
unfolding subframe
one_bit_coefficient = refl

long : subframe 8 14 (0x40 ∷ 0x03 ∷ 0x10 ∷ 0x20 ∷ 0x01 ∷ 0x24 ∷ 0x92 ∷ 0x49 ∷ 0x24 ∷ 0x90 ∷ []) ≡ Done (pos 3 ∷ pos 4 ∷ pos 5 ∷ pos 6 ∷ pos 7 ∷ pos 8 ∷ pos 9 ∷ pos 10 ∷ pos 11 ∷ pos 12 ∷ pos 13 ∷ pos 14 ∷ pos 15 ∷ pos 16 ∷ []) []
unfolding subframe
long = refl

no_bits_left : (rest : List ℕ) × (subframe 8 1 (0x01 ∷ 0x01 ∷ []) ≡ Faulty NoBitsLeft rest)
unfolding subframe
no_bits_left = (_, refl)

wasted_bits_large : (rest : List ℕ) × (subframe 8 1 (0x01 ∷ 0x00 ∷ 0x00 ∷ 0x00 ∷ 0x01 ∷ []) ≡ Faulty WastedBitsLarge rest)
unfolding subframe
wasted_bits_large = (_, refl)

order_not_whole : (rest : List ℕ) × (subframe 8 3 (0x10 ∷ 0x04 ∷ []) ≡ Faulty PartitionOrder rest)
unfolding subframe
order_not_whole = (_, refl)

short_partition : (rest : List ℕ) × (subframe 8 2 (0x14 ∷ 0x01 ∷ 0x02 ∷ 0x04 ∷ []) ≡ Faulty PartitionShort rest)
unfolding subframe
short_partition = (_, refl)

long_order : (rest : List ℕ) × (subframe 8 1 (0x14 ∷ []) ≡ Faulty FixedOrder rest)
unfolding subframe
long_order = (_, refl)

method : (rest : List ℕ) × (subframe 8 1 (0x10 ∷ 0x80 ∷ []) ≡ Faulty MethodReserved rest)
unfolding subframe
method = (_, refl)

linear_order : (rest : List ℕ) × (subframe 8 0 (0x40 ∷ []) ≡ Faulty LinearOrder rest)
unfolding subframe
linear_order = (_, refl)

precision : (rest : List ℕ) × (subframe 8 2 (0x40 ∷ 0x05 ∷ 0xf0 ∷ []) ≡ Faulty PrecisionInvalid rest)
unfolding subframe
precision = (_, refl)

shift : (rest : List ℕ) × (subframe 8 2 (0x40 ∷ 0x05 ∷ 0x18 ∷ 0x00 ∷ []) ≡ Faulty ShiftNegative rest)
unfolding subframe
shift = (_, refl)

padding_bit : (rest : List ℕ) × (subframe 8 1 (0x80 ∷ []) ≡ Faulty SubframePadding rest)
unfolding subframe
padding_bit = (_, refl)

subframe_type_2 : (rest : List ℕ) × (subframe 8 1 (0x04 ∷ []) ≡ Faulty SubframeTypeReserved rest)
unfolding subframe
subframe_type_2 = (_, refl)

subframe_type_13 : (rest : List ℕ) × (subframe 8 1 (0x1a ∷ []) ≡ Faulty SubframeTypeReserved rest)
unfolding subframe
subframe_type_13 = (_, refl)

subframe_type_16 : (rest : List ℕ) × (subframe 8 1 (0x20 ∷ []) ≡ Faulty SubframeTypeReserved rest)
unfolding subframe
subframe_type_16 = (_, refl)
