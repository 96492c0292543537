-- Coded numbers (RFC 9639, section 9.1.5): a number of up to 36 bits in one to seven bytes,
-- coded as UTF-8 codes a character.
use Rattle.std.specs.Prelude.{
  ◌≡◌,
  ℕ,
  zero,
  suc,
  ◌+◌,
  ◌-◌,
  ◌*◌,
  ◌/◌,
  ◌^◌,
  ◌<◌,
  ◌≤◌,
  Bool,
  true,
  false,
  if◌then◌else◌,
  not,
  ◌==◌,
  ◌||◌,
  ◌&&◌,
  nat_lt,
  [],
  ◌∷◌,
  ◌++◌,
  replicate,
}
use Rattle.claxon_format.specs.Fault.{Fault, NumberFirst, NumberContinuation}
use Rattle.claxon_format.specs.Bits.{Bits, bits, Number}
use Rattle.claxon_format.specs.Codes.{ThenFault, MeetsOr, Never}

-- k continuation bytes: the low 6 * k bits of x, each six after a one and a zero
abbrev pub continuation_bytes : ℕ → ℕ → Bits
continuation_bytes zero x = []
continuation_bytes (suc k) x = true ∷ false ∷ (bits 6 (x / 2 ^ (6 * k)) ++ continuation_bytes k x)

-- x in a first byte and k continuation bytes; the standard wants the least k, and any k that
-- holds x is read
abbrev pub CodedNumber : ℕ → ℕ → Bits → Type 0
CodedNumber zero x t = (x < 2 ^ 7) × (t ≡ bits 8 x)
CodedNumber (suc j) x t =
    let k = suc j in
    (k ≤ 6) × (x < 2 ^ (5 * k + 6))
    × (t ≡ replicate (k + 1) true
    ++ (false ∷ (bits (6 - k) (x / 2 ^ (6 * k)) ++ continuation_bytes k x)))

-- ---- faults, byte by byte

-- a first byte 10xxxxxx or 11111111
abbrev pub bad_first : ℕ → Bool
bad_first b = (not (nat_lt b 128) && nat_lt b 192) || (b == 255)

-- how many continuation bytes follow a first byte
abbrev pub continuation_count : ℕ → ℕ
continuation_count b =
    if nat_lt b 128 then 0
    else if nat_lt b 224 then 1
    else if nat_lt b 240 then 2
    else if nat_lt b 248 then 3
    else if nat_lt b 252 then 4
    else if nat_lt b 254 then 5
    else 6

-- a byte other than 10xxxxxx
abbrev pub bad_continuation : ℕ → Bool
bad_continuation c = not (c / 64 == 2)

-- of k bytes the first that is not a continuation byte
abbrev pub ContinuationBytesFault : ℕ → Fault → Bits → Type 0
ContinuationBytesFault zero = Never
ContinuationBytesFault (suc k) =
    ThenFault (Number 8) Never (λ c.
    MeetsOr (bad_continuation c) NumberContinuation (ContinuationBytesFault k))

-- the first byte and its continuation bytes
abbrev pub CodedNumberFault : Fault → Bits → Type 0
CodedNumberFault =
    ThenFault (Number 8) Never (λ b.
    MeetsOr (bad_first b) NumberFirst (ContinuationBytesFault (continuation_count b)))
