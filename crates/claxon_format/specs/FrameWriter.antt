-- What a writer writes for a whole frame under plans (RFC 9639, section 9), and which plans suit
-- the channels.
use Rattle.std.specs.Prelude.{
  ℕ,
  zero,
  suc,
  true,
  false,
  if◌then◌else◌,
  List,
  length,
  take,
  replicate,
  nat_lt,
  ℤ,
  Option,
  Some,
  unwrap_or,
  ◌≡◌,
  ◌+◌,
  ◌-◌,
  ◌*◌,
  ◌/◌,
  ◌^◌,
  ◌<◌,
  ◌≤◌,
  ◌∷◌,
  ◌++◌,
  ◌==◌,
  [],
}
use Rattle.claxon_format.specs.Codes.{when◌then◌else◌}
use Rattle.claxon_format.specs.Bits.{Bits, bits, number}
use Rattle.claxon_format.specs.Crc.{padding_length, crc8, crc16, bit}
use Rattle.claxon_format.specs.CodedNumber.{continuation_bytes}
use Rattle.claxon_format.specs.Header.{
  Fields,
  bit_depth_of_code,
  side_too_wide,
  size_of,
  Rate,
  bit_depth_reserved,
  number_large,
}
use Rattle.claxon_format.specs.Stereo.{bit_depths, zipped, decorrelate_first, decorrelate_second}
use Rattle.claxon_format.specs.Frame.{StreamFormat, Block, known_bit_depth, time_of}
use Rattle.claxon_format.specs.Writer.{
  AllFitIn,
  SubframePlan,
  write_subframe,
  SuitsSubframe,
  plan_with_quotients,
  SuitsShape,
}

-- ---- whole frames

-- each channel has n samples, which fit w bits
abbrev pub ChannelsFit : ℕ → ℕ → List (List ℤ) → Type 0
ChannelsFit n w [] = Unit {0}
ChannelsFit n w (c ∷ cs) = (length c ≡ n) × AllFitIn w c × ChannelsFit n w cs

-- the number of channels of a channel code
abbrev pub channel_count : ℕ → ℕ
channel_count code = if nat_lt code 8 then code + 1 else 2

-- the two channels that are coded for left and right
abbrev pub decorrelated_pair : ℕ → List (List ℤ) → List (List ℤ)
decorrelated_pair code (l ∷ r ∷ []) =
    zipped (decorrelate_first code) l r ∷ zipped (decorrelate_second code) l r ∷ []
decorrelated_pair code other = other

-- the channels that are coded: under codes from 8 on they are decorrelated (section 4.2)
abbrev pub decorrelated : ℕ → List (List ℤ) → List (List ℤ)
decorrelated code channels =
    if nat_lt code 8 then channels else decorrelated_pair code channels

-- one subframe after another
abbrev pub write_each : ℕ → List ℕ → List SubframePlan → List (List ℤ) → Bits
write_each n (w ∷ ws) (p ∷ ps) (c ∷ cs) = write_subframe w n p c ++ write_each n ws ps cs
write_each n _ _ _ = []

-- each plan suits its channel
abbrev pub SuitsEach : ℕ → List ℕ → List SubframePlan → List (List ℤ) → Type 0
SuitsEach n [] [] [] = Unit {0}
SuitsEach n (w ∷ ws) (p ∷ ps) (c ∷ cs) = SuitsSubframe w n p c × SuitsEach n ws ps cs
SuitsEach n _ _ _ = ⊥

-- n bits of padding: those of p, and zeros where p has fewer
abbrev pub padding_of : ℕ → Bits → Bits
padding_of n p = take n (p ++ replicate n false)

-- bits, and padding up to a byte boundary (section 9.3)
abbrev pub byte_aligned : Bits → Bits → Bits
byte_aligned p x = x ++ padding_of (padding_length x) p

-- bits and their CRC
abbrev pub append_crc : ℕ → (Bits → ℕ) → Bits → Bits
append_crc w crc x = x ++ bits w (crc x)

-- the fields of a header, written as x, the channels under plans, and padding of the bits p
abbrev pub write_frame : Fields → ℕ → Bits → Bits → List SubframePlan → List (List ℤ) → Bits
write_frame f w x p plans channels =
    let subframes = write_each f.size (bit_depths f.channel_code w) plans (
    decorrelated f.channel_code channels) in
    append_crc 16 crc16 (byte_aligned p (append_crc 8 crc8 x ++ subframes))

-- ---- headers

-- the codes of a header, the field of its sample rate, the count of continuation bytes of its
-- number, and the padding of its frame, of any value
pub record HeaderPlan : Type 0 where
  pub size_code : ℕ
  pub rate_code : ℕ
  pub rate : Bits
  pub continuation_count : ℕ
  pub padding : Bits

-- a coded number in a first byte and this count of continuation bytes (section 9.1.5)
abbrev pub write_coded_number : ℕ → ℕ → Bits
write_coded_number zero x = bits 8 x
write_coded_number (suc j) x =
    let k = suc j in
    replicate (k + 1) true
    ++ (false ∷ (bits (6 - k) (x / 2 ^ (6 * k)) ++ continuation_bytes k x))

-- the numbers below it fit a first byte and this count of continuation bytes
abbrev pub coded_number_limit : ℕ → ℕ
coded_number_limit zero = 2 ^ 7
coded_number_limit (suc j) = 2 ^ (5 * suc j + 6)

-- the block size less one, under codes 6 and 7 (section 9.1.6)
abbrev pub write_size : ℕ → ℕ → Bits
write_size code n =
    if code == 6 then bits 8 (n - 1) else if code == 7 then bits 16 (n - 1) else []

-- the fields of a header in order (section 9.1)
abbrev pub write_fields : Fields → HeaderPlan → Bits
write_fields f plan =
    (bits 14 0x3ffe ++ (bits 1 0 ++ bits 1 (bit f.variable)))
    ++ ((bits 4 plan.size_code ++ bits 4 plan.rate_code)
    ++ ((bits 4 f.channel_code ++ (bits 3 f.bit_depth_code ++ bits 1 0))
    ++ (write_coded_number plan.continuation_count f.number
    ++ (write_size plan.size_code f.size ++ plan.rate))))

-- a block size that this code can stand for (section 9.1.1)
abbrev pub SuitsSize : ℕ → ℕ → Type 0
SuitsSize code n =
    when code == 6 then ((1 ≤ n) × (n ≤ 256))
    else when code == 7 then ((1 ≤ n) × (n ≤ 65535))
    else (size_of code ≡ Some n)

-- codes that stand for these fields
abbrev pub SuitsHeader : Fields → HeaderPlan → Type 0
SuitsHeader f plan =
    (1 ≤ plan.size_code) × (plan.size_code ≤ 15) × (plan.rate_code ≤ 14) × (f.channel_code ≤ 10)
    × (f.bit_depth_code < 8) × (bit_depth_reserved f.bit_depth_code ≡ false)
    × (plan.continuation_count ≤ 6) × (f.number < coded_number_limit plan.continuation_count)
    × (number_large f.variable f.number ≡ false) × SuitsSize plan.size_code f.size
    × Rate plan.rate_code f.sample_rate plan.rate

-- ---- plans without quotients

-- each plan with the quotients of its channel
abbrev pub plans_with_quotients : ℕ → List SubframePlan → List (List ℤ) → List SubframePlan
plans_with_quotients n (p ∷ ps) (c ∷ cs) = plan_with_quotients n p c ∷ plans_with_quotients n ps cs
plans_with_quotients n ps _ = ps

-- each plan suits its channel, quotients aside
abbrev pub SuitsEachShape : ℕ → List ℕ → List SubframePlan → List (List ℤ) → Type 0
SuitsEachShape n [] [] [] = Unit {0}
SuitsEachShape n (w ∷ ws) (p ∷ ps) (c ∷ cs) = SuitsShape w n p c × SuitsEachShape n ws ps cs
SuitsEachShape n _ _ _ = ⊥

-- ---- bytes

-- whole bytes from their bits
unfoldable pub bytes_of : Bits → List ℕ
bytes_of (a ∷ b ∷ c ∷ d ∷ e ∷ f ∷ g ∷ h ∷ t) =
    number (a ∷ b ∷ c ∷ d ∷ e ∷ f ∷ g ∷ h ∷ []) ∷ bytes_of t
bytes_of _ = []

-- the bit depth of a frame; where it isn't known nothing suits
abbrev pub frame_bit_depth : Option StreamFormat → Fields → ℕ
frame_bit_depth stream f = unwrap_or (bit_depth_of_code (known_bit_depth stream) f.bit_depth_code) 0

-- the bit depth of each coded channel: a side channel has one bit more
abbrev pub planned_bit_depths : Option StreamFormat → Fields → List ℕ
planned_bit_depths stream f = bit_depths f.channel_code (frame_bit_depth stream f)

-- the block that is written
abbrev pub written_block : Option StreamFormat → Fields → List (List ℤ) → Block
written_block stream f channels = record { time = time_of stream f; channels = channels }

-- the bytes of a frame
abbrev pub write_bytes : Option StreamFormat → Fields → HeaderPlan → List SubframePlan
    → List (List ℤ) → List ℕ
write_bytes stream f header plans channels =
    bytes_of (
    write_frame f (frame_bit_depth stream f) (write_fields f header) header.padding plans channels)

-- the fields suit their codes and the channels: the bit depth is known, and a side channel has
-- at most 32 bits
pub record SuitsFrame (stream : Option StreamFormat) (f : Fields) (header : HeaderPlan)
    (channels : List (List ℤ)) : Type 0 where
  pub codes : SuitsHeader f header
  pub known : bit_depth_of_code (known_bit_depth stream) f.bit_depth_code
      ≡ Some (frame_bit_depth stream f)
  pub not_too_wide : side_too_wide f.channel_code (frame_bit_depth stream f) ≡ false
  pub count : length channels ≡ channel_count f.channel_code
  pub fit : ChannelsFit f.size (frame_bit_depth stream f) channels
