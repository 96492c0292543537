-- The first bytes that a reader gave.
use Rattle.std.specs.Prelude.{
  ◌≡◌,
  ◌<◌,
  ◌≤◌,
  All,
  ℕ,
  ◌+◌,
  ◌*◌,
  ◌%◌,
  ◌^◌,
  List,
  ◌++◌,
  if◌then◌else◌,
  length,
  nat_lt,
  take,
}
use Rattle.claxon.specs.Bits.{bits_of, number}
use Rattle.claxon.specs.Prefix.{BeginsWith}
use Rattle.claxon_blocks.specs.declared.frames.first_bytes.FirstBytes.{FirstBytes}

-- those that were read so far
abbrev pub kept_of : FirstBytes → List ℕ
kept_of first = take first.seen first.bytes

-- each byte is 0
abbrev pub AreZeros : List ℕ → Type 0
AreZeros = All (λ byte. byte ≡ 0)

-- the first 16 of these and of more
abbrev pub kept_with : FirstBytes → List ℕ → List ℕ
kept_with first more = take 16 (kept_of first ++ more)

-- how many bytes were read, of which those after the first 16 are counted modulo 2^64
abbrev pub count_of : FirstBytes → ℕ
count_of first = if nat_lt first.seen 16 then first.seen else 16 + first.others

-- bytes, up to 16, as one number: their bits, and how many they are
abbrev pub number_of_bytes : List ℕ → ℕ
number_of_bytes xs = number (bits_of xs) * 32 + length xs

-- the first 16 bytes and the count of all bytes, after more bytes
abbrev pub update_first : FirstBytes → List ℕ → ℕ
update_first first more =
    number_of_bytes (kept_with first more) * 2 ^ 64 + (count_of first + length more) % 2 ^ 64

-- Of the bytes before a call and those after it: the kept bytes are the first of those before, and
-- they are enough: of up to 2^64 - 1 consumed bytes all, or the first 16. Bytes are the same that
-- have the same bits.
pub record AreFirst (first : FirstBytes) (old new : List ℕ) : Type 0 where
  pub begin : BeginsWith (λ t. bits_of t ≡ bits_of (kept_of first)) old
  pub enough : (t : List ℕ) → old ≡ t ++ new → length t < 2 ^ 64
      → length (take 16 t) ≤ length (kept_of first)
