-- Samples as numbers of full scale: whatever the bit depth, the range of samples is that of the
-- numbers.
use Rattle.std.specs.Prelude.{
  ◌≡◌,
  ◌≢◌,
  ◌⊎◌,
  ◌<◌,
  ◌≤◌,
  ℕ,
  ◌-◌,
  ◌*◌,
  ◌/◌,
  ◌%◌,
  ◌^◌,
  ℤ,
  pos,
  List,
  ◌++◌,
  length,
  drop,
  map,
}
use Rattle.std.specs.Int.{cast_signed, cast_unsigned, w16, w32}
use Rattle.std.specs.Float.{Float, binary32}
use Rattle.std.specs.Float.Ieee
use Rattle.claxon_c.specs.Status.{buffer_too_small, ok, unsupported}

-- The upper 16 bits of a sample of `bits` bits in two's complement, rounded down; those of a
-- narrower one have zeros below. The sample is moved to the top of 32 bits, so that bits above
-- its own are lost.
unfoldable pub upper_16 : ℕ → ℤ → ℤ
upper_16 bits x = cast_signed w16 (cast_unsigned w32 x * 2 ^ (32 - bits) % 2 ^ 32 / 2 ^ 16)

-- The single-precision number nearest to a sample of `bits` bits, divided by 2 ^ (bits - 1): from
-- -1 to 1.
unfoldable pub full_scale : ℕ → ℤ → Float
full_scale bits x =
    Ieee.div binary32 (Ieee.of_int binary32 x) (Ieee.of_int binary32 (pos (2 ^ (bits - 1))))

-- The buffer begins with these numbers of the samples, and its rest is unchanged.
abbrev pub NumbersArePut : {U : Type 0} → (ℤ → U) → List ℤ → List U → List U → Type 0
NumbersArePut number samples old new = new ≡ map number samples ++ drop (length samples) old

-- With `ok` they are put.
abbrev pub CNumbersArePut : {U : Type 0} → (ℤ → U) → List ℤ → ℕ → List U → List U → Type 0
CNumbersArePut number samples status old new = status ≡ ok → NumbersArePut number samples old new

-- Without it the buffer is unchanged.
abbrev pub NumbersAreKept : {U : Type 0} → ℕ → List U → List U → Type 0
NumbersAreKept status old new = status ≢ ok → new ≡ old

-- The status is `unsupported` exactly where there is no such bit depth, else `buffer_too_small`
-- exactly where there are more samples than the capacity, else `ok`.
abbrev pub IsNumbersStatus : ℕ → ℕ → ℕ → ℕ → Type 0
IsNumbersStatus bits count capacity status =
    (((bits ≡ 0) ⊎ (32 < bits)) × (status ≡ unsupported))
    ⊎ (((bits ≢ 0) × (bits ≤ 32))
    × (((capacity < count) × (status ≡ buffer_too_small)) ⊎ ((count ≤ capacity) × (status ≡ ok))))
