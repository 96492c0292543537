-- A frame's header, read from bytes, is the one that is read from their bits.
use Rattle.std.proofs.Common.{ℕ, zero, suc, ◌+◌, ◌*◌, ◌/◌, ◌%◌, Bool, true, not, eqb, ltb, Option, Some, None}
use Rattle.claxon_format.specs.Bits.{bits_of}
use Rattle.claxon_format.specs.CodedNumber.{bad_first, bad_continuation, continuation_count}
use Rattle.claxon_format.specs.Fault.{SyncMissing, ReservedBit, SizeReserved, RateInvalid, ChannelsReserved, BitDepthReserved, SecondReservedBit, NumberFirst, NumberContinuation, NumberLarge, SizeLarge, HeaderCrc, BitDepthUnknown, SideTooWide}
use Rattle.claxon_format.specs.Crc.{crc8}
use Rattle.claxon_format.specs.read.Crc.{with_crc_at}
use Rattle.claxon_format.specs.Header.{Fields, Header, side_too_wide, number_large, rate_bytes, rate_of, bit_depth_of_code, bit_depth_reserved}
use Rattle.claxon_format.specs.read.Bytes.{big_at}
use Rattle.claxon_format.specs.read.Reading.{and_then, done, test}
use Rattle.claxon_format.specs.read.Bits.{number_at}
use Rattle.claxon_format.specs.read.CodedNumber.{in_bits, lead, continuation_byte_at, continuation_bytes_at, coded_number_at}
use Rattle.claxon_format.specs.read.Header.{SizeCoding, ByCode, InByte, InTwoBytes, size_coding, blocking_at, sync_at, codes_at, channels_at, number_in, size_at, rate_at, fields_of, fields_after, fields_at, fields_with_crc_at, depth_at, bit_depth_at, with_bit_depth}
use Rattle.claxon_format.proofs.ByteNumbers.{Whole-number}
use Rattle.claxon_format.proofs.WholeBytes.{Whole, Whole-then, Whole-test, Whole-done, Whole-with}

Whole-continuation_bytes : (k x : ℕ) → Whole ℕ (continuation_bytes_at in_bits k x) (continuation_bytes_at big_at k x)
unfolding continuation_byte_at continuation_bytes_at
Whole-continuation_bytes zero x = Whole-done x
Whole-continuation_bytes (suc k) x =
    Whole-then (Whole-then (Whole-number 1) (λ c. Whole-test (bad_continuation c) NumberContinuation (Whole-done (c % 64)))) (λ c. Whole-continuation_bytes k (x * 64 + c))

Whole-coded_number : Whole ℕ (coded_number_at in_bits) (coded_number_at big_at)
unfolding coded_number_at
Whole-coded_number = Whole-then (Whole-number 1) (λ b. Whole-test (bad_first b) NumberFirst (Whole-continuation_bytes (continuation_count b) (lead b)))

Whole-size : (coding : SizeCoding) → Whole ℕ (size_at in_bits coding) (size_at big_at coding)
unfolding size_at
Whole-size (ByCode n) = Whole-done n
Whole-size InByte = Whole-then (Whole-number 1) (λ n. Whole-done (n + 1))
Whole-size InTwoBytes = Whole-then (Whole-number 2) (λ n. Whole-test (eqb n 65535) SizeLarge (Whole-done (n + 1)))

Whole-after : (v : Bool) → Whole Fields (fields_after in_bits v) (fields_after big_at v)
unfolding fields_after codes_at channels_at number_in rate_at
Whole-after v =
    Whole-then (Whole-then (Whole-number 1) (λ b. Whole-test (eqb (b / 16) 0) SizeReserved (Whole-test (eqb (b % 16) 15) RateInvalid (Whole-done (size_coding (b / 16), b % 16))))) (λ size_and_rate.
    Whole-then (Whole-then (Whole-number 1) (λ c. Whole-test (ltb 10 (c / 16)) ChannelsReserved (Whole-test (bit_depth_reserved (c / 2 % 8)) BitDepthReserved (Whole-test (eqb (c % 2) 1) SecondReservedBit (Whole-done (c / 16, c / 2 % 8)))))) (λ codes.
    Whole-then (Whole-then Whole-coded_number (λ n. Whole-test (number_large v n) NumberLarge (Whole-done (v, n)))) (λ time.
    Whole-then (Whole-size size_and_rate.0) (λ size. Whole-then (Whole-then (Whole-number (rate_bytes size_and_rate.1)) (λ n. Whole-done (rate_of size_and_rate.1 n))) (λ rate. Whole-done (fields_of time codes size rate))))))

Whole-fields : Whole Fields (fields_at in_bits) (fields_at big_at)
unfolding fields_at sync_at blocking_at
Whole-fields =
    Whole-then (Whole-then (Whole-number 2) (λ sync. Whole-test (not (eqb (sync / 4) 0x3ffe)) SyncMissing (Whole-test (eqb (sync / 2 % 2) 1) ReservedBit (Whole-done (eqb (sync % 2) 1))))) Whole-after

Whole-fields_with_crc : Whole Fields (with_crc_at 8 crc8 HeaderCrc (fields_at in_bits)) fields_with_crc_at
unfolding with_crc_at fields_with_crc_at
Whole-fields_with_crc =
    Whole-with (λ f x. and_then (number_at 8) (λ n. test (not (eqb n (crc8 x))) HeaderCrc (done f))) (λ f t. and_then (big_at 1) (λ n. test (not (eqb n (crc8 (bits_of t)))) HeaderCrc (done f)))
    Whole-fields (λ f t. Whole-then (Whole-number 1) (λ n. Whole-test (not (eqb n (crc8 (bits_of t)))) HeaderCrc (Whole-done f)))

Whole-depth : (channel_code : ℕ) (x : Option ℕ) → Whole ℕ (depth_at channel_code x) (depth_at channel_code x)
Whole-depth channel_code None = Whole-test true BitDepthUnknown (Whole-done 0)
Whole-depth channel_code (Some w) = Whole-test (side_too_wide channel_code w) SideTooWide (Whole-done w)

-- a value that is made of a header
pub Whole-header : {A : Type 0} (known : Option ℕ) (make : Header → A) → Whole A (with_bit_depth (with_crc_at 8 crc8 HeaderCrc (fields_at in_bits)) known make) (with_bit_depth fields_with_crc_at known make)
unfolding bit_depth_at
Whole-header known make =
    Whole-then Whole-fields_with_crc (λ f. Whole-then (Whole-depth f.channel_code (bit_depth_of_code known f.bit_depth_code)) (λ w. Whole-done (make (record { fields = f; bit_depth = w }))))
