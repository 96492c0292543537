-- Readers of bytes and of numbers in bytes (RFC 9639, section 5), and of bits from bytes.
use Rattle.std.specs.Prelude.{
  ℕ,
  ◌+◌,
  ◌*◌,
  ◌%◌,
  ◌^◌,
  [],
  ◌∷◌,
  ◌-◌,
  ◌/◌,
  Bool,
  if◌then◌else◌,
  not,
  ◌==◌,
  nat_lt,
  List,
  length,
  take,
  drop,
}
use Rattle.claxon_format.specs.Bits.{Bits, bits_of}
use Rattle.claxon_format.specs.Fault.{Fault}
use Rattle.claxon_format.specs.read.Reading.{
  Reading,
  Done,
  Faulty,
  Incomplete,
  and_then,
  and_with,
  done,
  test,
}

-- the number that bytes stand for, big-endian and little-endian; as in `bits_of` a byte counts
-- modulo 256
unfoldable pub big_endian : List ℕ → ℕ
big_endian [] = 0
big_endian (y ∷ ys) = y % 256 * 256 ^ length ys + big_endian ys

unfoldable pub little_endian : List ℕ → ℕ
little_endian [] = 0
little_endian (y ∷ ys) = y % 256 + 256 * little_endian ys

-- n bytes, as they are
unfoldable pub bytes_at : ℕ → List ℕ → Reading ℕ (List ℕ)
bytes_at n s = if nat_lt (length s) n then Incomplete else Done (take n s) (drop n s)

-- n bytes of any values, which are skipped (sections 8.3 and 8.5 to 8.8)
unfoldable pub skipped_at : ℕ → List ℕ → Reading ℕ (Unit {0})
skipped_at n = and_then (bytes_at n) (λ xs. done tt)

-- a number of w bytes, big-endian
unfoldable pub big_at : ℕ → List ℕ → Reading ℕ ℕ
big_at w = and_then (bytes_at w) (λ xs. done (big_endian xs))

-- a number of w bytes, little-endian
unfoldable pub little_at : ℕ → List ℕ → Reading ℕ ℕ
little_at w = and_then (bytes_at w) (λ xs. done (little_endian xs))

-- ---- bits, and the rest of their last byte

-- the whole bytes that are left
abbrev pub left_bytes : List ℕ → Bits → List ℕ
left_bytes s rest = drop (length s - length rest / 8) s

-- what is left, in whole bytes
abbrev pub whole : {A : Type 0} → List ℕ → Reading Bool A → Reading ℕ A
whole s (Done a rest) = Done a (left_bytes s rest)
whole s (Faulty f rest) = Faulty f (left_bytes s rest)
whole s Incomplete = Incomplete

-- bits from bytes; the last byte is consumed as a whole
abbrev pub by_bytes : {A : Type 0} → (Bits → Reading Bool A) → List ℕ → Reading ℕ A
by_bytes r s = whole s (r (bits_of s))

-- ---- CRCs of whole bytes (sections 9.1.8 and 9.3)

-- a CRC of w bytes, which must be this number
unfoldable pub crc_at : ℕ → ℕ → Fault → List ℕ → Reading ℕ (Unit {0})
crc_at w crc f = and_then (big_at w) (λ n. test (not (n == crc)) f (done tt))

-- what r reads, and then the CRC of its bits
abbrev pub with_crc_bytes_at : {A : Type 0} → ℕ → (Bits → ℕ) → Fault → (List ℕ → Reading ℕ A)
    → List ℕ → Reading ℕ A
with_crc_bytes_at w crc f r =
    and_with r (λ a x. and_then (big_at w) (λ n. test (not (n == crc (bits_of x))) f (done a)))
