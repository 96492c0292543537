-- CRCs that are updated byte by byte.
use Rattle.std.specs.Prelude.{
  ◌≡◌,
  ℕ,
  ◌-◌,
  ◌*◌,
  ◌%◌,
  ◌^◌,
  false,
  bit_xor,
  List,
  [],
  ◌∷◌,
  ◌++◌,
  replicate,
}
use Rattle.claxon_format.specs.Bits.{bits_of}
use Rattle.claxon_format.specs.Crc.{divide, crc8, crc16}

-- The CRC c after more bytes: each byte is XORed into the highest bits, and the division goes on
-- over eight zeros. So it is always the remainder of the bytes with as many zeros after them as the
-- polynomial's degree, which `crc8` and `crc16` append.
unfoldable pub update_crc : ℕ → ℕ → ℕ → List ℕ → ℕ
update_crc degree poly c [] = c
update_crc degree poly c (y ∷ ys) =
    update_crc degree poly (divide degree poly (bit_xor c (y % 256 * 2 ^ (degree - 8)))
    (replicate 8 false)) ys

-- the CRCs of 8 and of 16 bits
abbrev pub update_crc8 : ℕ → List ℕ → ℕ
update_crc8 = update_crc 8 0x107

abbrev pub update_crc16 : ℕ → List ℕ → ℕ
update_crc16 = update_crc 16 0x18005

-- a CRC of 16 bits after count bytes of zeros
abbrev pub after_zeros : ℕ → ℕ → ℕ
after_zeros count c = divide 16 0x18005 c (replicate (8 * count) false)

-- the CRC of s, updated by xs, is the CRC of s and xs together
abbrev pub Crc8Continues : Type 0
Crc8Continues = (s xs : List ℕ) → update_crc8 (crc8 (bits_of s)) xs ≡ crc8 (bits_of (s ++ xs))

abbrev pub Crc16Continues : Type 0
Crc16Continues = (s xs : List ℕ) → update_crc16 (crc16 (bits_of s)) xs ≡ crc16 (bits_of (s ++ xs))
