-- Readers of a frame's header and of its parts (RFC 9639, section 9.1). These are whole bytes,
-- and are read from bits and from bytes alike.
use Rattle.std.specs.Prelude.{
  ℕ,
  ◌+◌,
  ◌/◌,
  ◌%◌,
  Bool,
  if◌then◌else◌,
  not,
  ◌==◌,
  nat_lt,
  List,
  Option,
  Some,
  None,
  unwrap_or,
}
use Rattle.claxon_format.specs.Bits.{Bits}
use Rattle.claxon_format.specs.Fault.{
  SyncMissing,
  ReservedBit,
  SizeReserved,
  RateInvalid,
  ChannelsReserved,
  BitDepthReserved,
  SecondReservedBit,
  NumberLarge,
  SizeLarge,
  HeaderCrc,
  BitDepthUnknown,
  SideTooWide,
}
use Rattle.claxon_format.specs.read.Bytes.{with_crc_bytes_at, big_at}
use Rattle.claxon_format.specs.Crc.{crc8}
use Rattle.claxon_format.specs.read.Crc.{with_crc_at}
use Rattle.claxon_format.specs.Header.{
  Fields,
  Header,
  number_large,
  rate_bytes,
  rate_of,
  side_too_wide,
  size_of,
  bit_depth_of_code,
  bit_depth_reserved,
}
use Rattle.claxon_format.specs.read.Reading.{Reading, and_then, done, fails, test}
use Rattle.claxon_format.specs.read.CodedNumber.{Numbers, in_bits, coded_number_at}

-- the sync code and a reserved bit, and whether the block size is variable
unfoldable pub blocking_at : {X : Type 0} → ℕ → List X → Reading X Bool
blocking_at sync =
    test (not (sync / 4 == 0x3ffe)) SyncMissing (
    test (sync / 2 % 2 == 1) ReservedBit (done (sync % 2 == 1)))

unfoldable pub sync_at : {X : Type 0} → Numbers X → List X → Reading X Bool
sync_at number = and_then (number 2) blocking_at

-- how the block size is coded: by its code alone, or less one in one or two bytes after the
-- coded number (sections 9.1.1 and 9.1.6)
pub data SizeCoding : Type 0 where
  ByCode : ℕ → SizeCoding
  InByte : SizeCoding
  InTwoBytes : SizeCoding

abbrev pub size_coding : ℕ → SizeCoding
size_coding code =
    if code == 6 then InByte
    else if code == 7 then InTwoBytes
    else ByCode (unwrap_or (size_of code) 0)

-- how the block size is coded, and the code of the sample rate
unfoldable pub codes_at : {X : Type 0} → Numbers X → List X → Reading X (SizeCoding × ℕ)
codes_at number =
    and_then (number 1) (λ b.
    test (b / 16 == 0) SizeReserved (
    test (b % 16 == 15) RateInvalid (done (size_coding (b / 16), b % 16))))

-- the codes of the channels and of the bit depth (sections 9.1.3 and 9.1.4)
unfoldable pub channels_at : {X : Type 0} → Numbers X → List X → Reading X (ℕ × ℕ)
channels_at number =
    and_then (number 1) (λ c.
    test (nat_lt 10 (c / 16)) ChannelsReserved (
    test (bit_depth_reserved (c / 2 % 8)) BitDepthReserved (
    test (c % 2 == 1) SecondReservedBit (done (c / 16, c / 2 % 8)))))

-- the coded number, and whether the block size is variable
unfoldable pub number_in : {X : Type 0} → Numbers X → Bool → List X → Reading X (Bool × ℕ)
number_in number variable =
    and_then (coded_number_at number) (λ n.
    test (number_large variable n) NumberLarge (done (variable, n)))

-- the block size
unfoldable pub size_at : {X : Type 0} → Numbers X → SizeCoding → List X → Reading X ℕ
size_at number (ByCode n) = done n
size_at number InByte = and_then (number 1) (λ n. done (n + 1))
size_at number InTwoBytes = and_then (number 2) (λ n. test (n == 65535) SizeLarge (done (n + 1)))

-- the sample rate of this code: its field can have any value
unfoldable pub rate_at : {X : Type 0} → Numbers X → ℕ → List X → Reading X (Option ℕ)
rate_at number code = and_then (number (rate_bytes code)) (λ n. done (rate_of code n))

abbrev pub fields_of : Bool × ℕ → ℕ × ℕ → ℕ → Option ℕ → Fields
fields_of time codes size rate =
    record {
      variable = time.0;
      size = size;
      sample_rate = rate;
      channel_code = codes.0;
      bit_depth_code = codes.1;
      number = time.1;
    }

-- the fields after the sync code
unfoldable pub fields_after : {X : Type 0} → Numbers X → Bool → List X → Reading X Fields
fields_after number variable =
    and_then (codes_at number) (λ size_and_rate.
    and_then (channels_at number) (λ codes.
    and_then (number_in number variable) (λ time.
    and_then (size_at number size_and_rate.0) (λ size.
    and_then (rate_at number size_and_rate.1) (λ rate. done (fields_of time codes size rate))))))

-- all fields before the CRC
unfoldable pub fields_at : {X : Type 0} → Numbers X → List X → Reading X Fields
fields_at number = and_then (sync_at number) (fields_after number)

-- the fields and their CRC, from bytes (section 9.1.8)
unfoldable pub fields_with_crc_at : List ℕ → Reading ℕ Fields
fields_with_crc_at = with_crc_bytes_at 1 crc8 HeaderCrc (fields_at big_at)

-- a bit depth that is known, and with which a side channel has at most 32 bits: no bits are
-- consumed
abbrev pub depth_at : {X : Type 0} → ℕ → Option ℕ → List X → Reading X ℕ
depth_at channel_code None = fails BitDepthUnknown
depth_at channel_code (Some w) = test (side_too_wide channel_code w) SideTooWide (done w)

-- the bit depth that the fields name, or that of the stream
unfoldable pub bit_depth_at : {X : Type 0} → Option ℕ → Fields → List X → Reading X ℕ
bit_depth_at known f = depth_at f.channel_code (bit_depth_of_code known f.bit_depth_code)

-- a value that is made of a header
abbrev pub with_bit_depth : {X A : Type 0} → (List X → Reading X Fields) → Option ℕ → (Header → A)
    → List X → Reading X A
with_bit_depth fields known make =
    and_then fields (λ f.
    and_then (bit_depth_at known f) (λ w. done (make (record { fields = f; bit_depth = w }))))

-- a whole header, from bits
unfoldable pub header_at : Option ℕ → Bits → Reading Bool Header
header_at known = with_bit_depth (with_crc_at 8 crc8 HeaderCrc (fields_at in_bits)) known (λ h. h)
