-- The reader of coded numbers (RFC 9639, section 9.1.5). They are whole bytes, and are read from
-- bits and from bytes alike.
use Rattle.std.specs.Prelude.{
  ℕ,
  zero,
  suc,
  ◌+◌,
  ◌-◌,
  ◌*◌,
  ◌%◌,
  ◌^◌,
  Bool,
  if◌then◌else◌,
  nat_lt,
  List,
}
use Rattle.claxon_format.specs.Bits.{Bits}
use Rattle.claxon_format.specs.CodedNumber.{bad_first, bad_continuation, continuation_count}
use Rattle.claxon_format.specs.Fault.{NumberFirst, NumberContinuation}
use Rattle.claxon_format.specs.read.Reading.{Reading, and_then, done, test}
use Rattle.claxon_format.specs.read.Bits.{number_at}

-- a reader of numbers of a count of bytes: from bits it is `in_bits`, from bytes `big_at`
abbrev pub Numbers : Type 0 → Type 0
Numbers X = ℕ → List X → Reading X ℕ

-- eight bits a byte
abbrev pub in_bits : Numbers Bool
in_bits k = number_at (8 * k)

-- the bits of the number that stand in a first byte
abbrev pub lead : ℕ → ℕ
lead b = if nat_lt b 128 then b else b % 2 ^ (6 - continuation_count b)

-- six bits of the number
unfoldable pub continuation_byte_at : {X : Type 0} → Numbers X → List X → Reading X ℕ
continuation_byte_at number =
    and_then (number 1) (λ c. test (bad_continuation c) NumberContinuation (done (c % 64)))

-- k continuation bytes: six bits each, after the bits of x
unfoldable pub continuation_bytes_at : {X : Type 0} → Numbers X → ℕ → ℕ → List X → Reading X ℕ
continuation_bytes_at number zero x = done x
continuation_bytes_at number (suc k) x =
    and_then (continuation_byte_at number) (λ c. continuation_bytes_at number k (x * 64 + c))

-- a first byte and its continuation bytes
unfoldable pub coded_number_at : {X : Type 0} → Numbers X → List X → Reading X ℕ
coded_number_at number =
    and_then (number 1) (λ b.
    test (bad_first b) NumberFirst (continuation_bytes_at number (continuation_count b) (lead b)))

-- from bits
abbrev pub coded_number_bits_at : Bits → Reading Bool ℕ
coded_number_bits_at = coded_number_at in_bits
