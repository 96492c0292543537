-- Division of polynomials over two elements, CRCs (RFC 9639, sections 9.1.8 and 9.3), and padding.
use Rattle.std.specs.Prelude.{
  ◌≡◌,
  ℕ,
  ◌+◌,
  ◌-◌,
  ◌*◌,
  ◌%◌,
  ◌^◌,
  ◌==◌,
  not,
  Bool,
  false,
  nat_lt,
  bit_xor,
  [],
  ◌∷◌,
  ◌++◌,
  length,
  replicate,
  if◌then◌else◌,
}
use Rattle.claxon_format.specs.Fault.{Fault}
use Rattle.claxon_format.specs.Bits.{Bits, bits, Number}
use Rattle.claxon_format.specs.Codes.{ThenFault, ThenWithFault, MeetsOr, Never}

-- the number of a bit
abbrev pub bit : Bool → ℕ
bit b = if b then 1 else 0

-- one step of long division: the next bit is appended to the remainder, and the polynomial is
-- subtracted where it fits
unfoldable pub divide_step : ℕ → ℕ → ℕ → Bool → ℕ
divide_step degree poly r b =
    if nat_lt (r * 2 + bit b) (2 ^ degree) then r * 2 + bit b else bit_xor (r * 2 + bit b) poly

-- the remainder after more bits
unfoldable pub divide : ℕ → ℕ → ℕ → Bits → ℕ
divide degree poly r [] = r
divide degree poly r (b ∷ bs) = divide degree poly (divide_step degree poly r b) bs

-- the remainder of a list of bits by x^8 + x^2 + x + 1, and by x^16 + x^15 + x^2 + 1
abbrev pub poly_rem8 : Bits → ℕ
poly_rem8 s = divide 8 0x107 0 s

abbrev pub poly_rem16 : Bits → ℕ
poly_rem16 s = divide 16 0x18005 0 s

-- the CRC of a header: the remainder after eight more zeros
unfoldable pub crc8 : Bits → ℕ
crc8 s = poly_rem8 (s ++ replicate 8 false)

-- the CRC of a frame: the remainder after sixteen more zeros
unfoldable pub crc16 : Bits → ℕ
crc16 s = poly_rem16 (s ++ replicate 16 false)

-- bits that end with their CRC leave no remainder
abbrev pub HasCrc8 : Bits → Type 0
HasCrc8 s = poly_rem8 s ≡ 0

abbrev pub HasCrc16 : Bits → Type 0
HasCrc16 s = poly_rem16 s ≡ 0

-- ---- a code and its CRC of w bits

-- a code, and the CRC of its bits
abbrev pub WithCrc : {A : Type 0} → ℕ → (Bits → ℕ) → (A → Bits → Type 0) → A → Bits → Type 0
WithCrc w crc C a t = (x : Bits) × C a x × (t ≡ x ++ bits w (crc x))

-- a fault of the code, or a number that is not its CRC
abbrev pub WithCrcFault : {A : Type 0} → ℕ → (Bits → ℕ) → Fault → (A → Bits → Type 0)
    → (Fault → Bits → Type 0) → Fault → Bits → Type 0
WithCrcFault w crc fault C F =
    ThenWithFault C F (λ a x.
    ThenFault (Number w) Never (λ n. MeetsOr (not (n == crc x)) fault Never))

-- ---- padding up to a byte boundary (section 9.3): of any value, where the standard has zeros

-- how many bits are missing up to a byte boundary
abbrev pub padding_length : Bits → ℕ
padding_length x = (8 - length x % 8) % 8

-- a code, and padding up to a byte boundary
abbrev pub ByteAligned : {A : Type 0} → (A → Bits → Type 0) → A → Bits → Type 0
ByteAligned C a t =
    (x : Bits) × (padding : Bits) × C a x × (length padding ≡ padding_length x)
    × (t ≡ x ++ padding)
