-- A frame header begins with a sync code and a reserved bit of 0: the bytes 0xff, and 0xf8 or 0xf9.
use Rattle.std.proofs.Common.{◌≡◌, ℕ, ◌+◌, ◌*◌, ◌/◌, ◌%◌, ◌^◌, ◌<◌, ◌≤◌, Bool, true, false, List, [], ◌∷◌, ◌++◌, length, take, drop, Option, refl, sym, ap, ◌∙◌, append_assoc, arith}
use Rattle.std.specs.Prelude.{slice_index}
use Rattle.std.proofs.lemmas.List.{take_at}
use Rattle.claxon.specs.Bits.{Bits, bits, bits_of, number}
use Rattle.claxon.specs.BlockInfo.{HeaderOf}
use Rattle.claxon.specs.BlockInfos.{BlockInfo}
use Rattle.claxon.specs.Crc.{bit, crc8}
use Rattle.claxon.specs.Frame.{StreamFormat}
use Rattle.claxon.specs.Prefix.{BeginsWith}
use Rattle.claxon.specs.read.Bytes.{big_endian}
use Rattle.claxon.proofs.BlockInfo.{header_has_two_bytes}
use Rattle.claxon.proofs.Bytes.{bits_of-append, length-bits_of}
use Rattle.claxon.proofs.ByteNumbers.{number-bits_of}
use Rattle.claxon.proofs.Numbers.{number-bits}

-- the first 16 bits of a header
abbrev sync_bits : Bool → Bits
sync_bits variable = bits 14 0x3ffe ++ (bits 1 0 ++ bits 1 (bit variable))

sync_number : (variable : Bool) → number (sync_bits variable) ≡ 0xfff8 + bit variable
unfolding bits number
sync_number true = refl
sync_number false = refl

sync_length : (variable : Bool) → length (sync_bits variable) ≡ 16
unfolding bits
sync_length true = refl
sync_length false = refl

-- the first two bytes of a header
pub record HasSyncCode (bytes : List ℕ) : Type 0 where
  pub length : 2 ≤ length bytes
  pub first : slice_index bytes 0 % 256 ≡ 255
  pub second : slice_index bytes 1 % 256 / 2 ≡ 124

-- two bytes with these bits
two_bytes : (b c : ℕ) (variable : Bool) → bits_of (b ∷ c ∷ []) ≡ sync_bits variable → (b % 256 ≡ 255) × (c % 256 / 2 ≡ 124)
unfolding big_endian
two_bytes b c variable e =
    let n : b % 256 * 256 ^ 1 + (c % 256 * 256 ^ 0 + 0) ≡ 0xfff8 + bit variable = sym (number-bits_of (b ∷ c ∷ [])) ∙ ap number e ∙ sync_number variable in
    go variable n
  where
    go : (variable : Bool) → b % 256 * 256 ^ 1 + (c % 256 * 256 ^ 0 + 0) ≡ 0xfff8 + bit variable → (b % 256 ≡ 255) × (c % 256 / 2 ≡ 124)
    go true n = (omega (arith, n), omega (arith, n))
    go false n = (omega (arith, n), omega (arith, n))

sync_of : (bytes : List ℕ) (variable : Bool) (more : Bits) → (length bytes < 2 → ⊥) → bits_of bytes ≡ sync_bits variable ++ more → HasSyncCode bytes
sync_of [] variable more long e = absurd (long (omega arith))
sync_of (b ∷ []) variable more long e = absurd (long (omega arith))
sync_of (b ∷ c ∷ u) variable more long e =
    let parts : bits_of (b ∷ c ∷ u) ≡ bits_of (b ∷ c ∷ []) ++ bits_of u = bits_of-append (b ∷ c ∷ []) u in
    let size : length (bits_of (b ∷ c ∷ [])) ≡ 16 = length-bits_of (b ∷ c ∷ []) in
    let same : bits_of (b ∷ c ∷ []) ≡ sync_bits variable =
    sym (take_at (bits_of (b ∷ c ∷ [])) (bits_of u) 16 size) ∙ ap (take 16) (sym parts ∙ e) ∙ take_at (sync_bits variable) more 16 (sync_length variable) in
    let k = two_bytes b c variable same in
    record { length = omega arith; first = k.0; second = k.1 }

pub header_has_sync_code : (stream : Option StreamFormat) (info : BlockInfo) (bytes : List ℕ) → BeginsWith (HeaderOf stream info) bytes → HasSyncCode bytes
header_has_sync_code stream info bytes (t, rest, (h, ((x, (size_code, rate_code, count, number_bits, size_bits, rate_bits, least, most, rate, channels, depth, reserved, coded, large, size, rate_is, x-is), t-is), bit_depth, side), is), e) =
    let after = (bits 4 size_code ++ bits 4 rate_code) ++ ((bits 4 h.fields.channel_code ++ (bits 3 h.fields.bit_depth_code ++ bits 1 0)) ++ (number_bits ++ (size_bits ++ rate_bits))) in
    let start = sync_bits h.fields.variable in
    let crc = bits 8 (crc8 x) in
    let parts : bits_of bytes ≡ start ++ (after ++ (crc ++ bits_of rest)) =
    ap bits_of e ∙ bits_of-append t rest ∙ ap (λ (q : Bits). q ++ bits_of rest) (t-is ∙ ap (λ (q : Bits). q ++ crc) x-is)
    ∙ append_assoc (start ++ after) crc (bits_of rest) ∙ append_assoc start after (crc ++ bits_of rest) in
    let header : HeaderOf stream info t = (h, ((x, (size_code, rate_code, count, number_bits, size_bits, rate_bits, least, most, rate, channels, depth, reserved, coded, large, size, rate_is, x-is), t-is), bit_depth, side), is) in
    sync_of bytes h.fields.variable (after ++ (crc ++ bits_of rest)) (λ few. header_has_two_bytes stream info t rest header (rw (sym e) few)) parts

-- two bytes that have it have it before others
pub sync_code_before : (bytes more : List ℕ) → 2 ≤ length bytes → HasSyncCode (bytes ++ more) → HasSyncCode bytes
sync_code_before [] more long h = absurd (omega arith)
sync_code_before (b ∷ []) more long h = absurd (omega (arith, long))
sync_code_before (b ∷ c ∷ u) more long h = record { length = long; first = h.first; second = h.second }

-- the third byte ends with the code of the sample rate, which isn't 15
third_byte : (b c d : ℕ) (u : List ℕ) (variable : Bool) (size_code rate_code : ℕ) (x y : Bits) → rate_code ≤ 14 → bits_of (b ∷ c ∷ d ∷ u) ≡ sync_bits variable ++ (((bits 4 size_code ++ bits 4 rate_code) ++ x) ++ y) → d % 16 < 15
unfolding bits bits_of
third_byte b c d u variable size_code rate_code x y small e =
    let same : bits 4 d ≡ bits 4 rate_code = ap (λ (q : Bits). take 4 (drop 20 q)) e in
    let n : d % 2 ^ 4 ≡ rate_code % 2 ^ 4 = sym (number-bits 4 d) ∙ ap number same ∙ number-bits 4 rate_code in
    omega (arith, n, small)

rate_of : (stream : Option StreamFormat) (info : BlockInfo) (b c d : ℕ) (u : List ℕ) → BeginsWith (HeaderOf stream info) (b ∷ c ∷ d ∷ u) → d % 16 < 15
rate_of stream info b c d u (t, rest, (h, ((x, (size_code, rate_code, count, number_bits, size_bits, rate_bits, least, most, rate, channels, depth, reserved, coded, large, size, rate_is, x-is), t-is), bit_depth, side), is), e) =
    let codes = bits 4 size_code ++ bits 4 rate_code in
    let after = (bits 4 h.fields.channel_code ++ (bits 3 h.fields.bit_depth_code ++ bits 1 0)) ++ (number_bits ++ (size_bits ++ rate_bits)) in
    let start = sync_bits h.fields.variable in
    let crc = bits 8 (crc8 x) in
    let parts : bits_of (b ∷ c ∷ d ∷ u) ≡ start ++ ((codes ++ after) ++ (crc ++ bits_of rest)) =
    ap bits_of e ∙ bits_of-append t rest ∙ ap (λ (q : Bits). q ++ bits_of rest) (t-is ∙ ap (λ (q : Bits). q ++ crc) x-is)
    ∙ append_assoc (start ++ (codes ++ after)) crc (bits_of rest) ∙ append_assoc start (codes ++ after) (crc ++ bits_of rest) in
    third_byte b c d u h.fields.variable size_code rate_code after (crc ++ bits_of rest) rate parts

-- three bytes whose third one ends with the code 15 begin no header
pub invalid_rate : (bytes more : List ℕ) → 3 ≤ length bytes → slice_index bytes 2 % 16 ≡ 15 → (stream : Option StreamFormat) (info : BlockInfo) → BeginsWith (HeaderOf stream info) (bytes ++ more) → ⊥
invalid_rate [] more long is stream info begins = omega (arith, long)
invalid_rate (b ∷ []) more long is stream info begins = omega (arith, long)
invalid_rate (b ∷ c ∷ []) more long is stream info begins = omega (arith, long)
invalid_rate (b ∷ c ∷ d ∷ u) more long is stream info begins = let k = rate_of stream info b c d (u ++ more) begins in omega (arith, k, is)
