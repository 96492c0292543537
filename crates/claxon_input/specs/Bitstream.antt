-- What clauses say of a `Bitstream`.
use Rattle.std.specs.Prelude.{
  ◌≡◌,
  ℕ,
  Option,
  ◌+◌,
  ◌^◌,
  ◌<◌,
  ◌≤◌,
  ◌⊎◌,
  Bool,
  false,
  List,
  [],
  ◌++◌,
  length,
  replicate,
  Some,
  IfSome,
}
use Rattle.std.specs.Option.{option_map}
use Rattle.claxon_input.specs.Source.{Source, MovesPastSome, Takes, SourceReadFailed}
use Rattle.claxon_format.specs.Bits.{bits, bits_of}
use Rattle.claxon_input.specs.declared.bits.Bitstream.{Bitstream}

-- the bits that were read from the source and not asked for yet, and the source
pub record BitState : Type 0 where
  pub left : List Bool
  pub source : Source ℕ

-- the count low bits of the cache are left over
abbrev pub left_in : ℕ → ℕ → Source ℕ → BitState
left_in cache count s = record { left = bits count cache; source = s }

-- of a `Bitstream` over a reader with this source
abbrev pub bit_state : {R : Type 0} {g : _} → (R → Source ℕ) → Bitstream R g → BitState
bit_state source b = left_in b.cache b.count (source b.reader)

-- the left-over bits
abbrev pub left_over : {R : Type 0} {g : _} → Bitstream R g → List Bool
left_over b = bits b.count b.cache

-- the left-over bits, and then those of the remaining bytes, where these are known
abbrev pub remaining_bits : BitState → Option (List Bool)
remaining_bits s = option_map (λ xs. s.left ++ bits_of xs) s.source.remaining

-- bs was consumed: the bits left over before and those of the bytes read are bs and the bits
-- left over now
pub record TakesBits (old new : BitState) (bs : List Bool) : Type 0 where
  pub bytes : List ℕ
  pub taken : Takes old.source new.source bytes
  pub split : old.left ++ bits_of bytes ≡ bs ++ new.left

-- the next width bits were those of n, and were consumed
abbrev pub TakesNumber : BitState → BitState → ℕ → ℕ → Type 0
TakesNumber old new width n = TakesBits old new (bits width n)

-- An Err of a call that asked for count bits: fewer remained and all bytes were consumed, or the
-- source failed. No bit is left over.
pub record BitsFailureOrEof (old new : BitState) (count : ℕ) : Type 0 where
  pub rest : MovesPastSome old.source new.source
  pub emptied : new.left ≡ []
  pub cause : IfSome (remaining_bits old)
      (λ all. ((length all < count) × (new.source.remaining ≡ Some []))
      ⊎ SourceReadFailed old.source new.source)

-- An Err after which no bit is left over. A prefix of the remaining bytes was consumed.
pub record DropsBits (old new : BitState) : Type 0 where
  pub rest : MovesPastSome old.source new.source
  pub emptied : new.left ≡ []

-- the byte that holds the 2 ^ 32th bit was the last one read
pub record TakesUpToLimit (old new : BitState) : Type 0 where
  pub bytes : List ℕ
  pub taken : Takes old.source new.source bytes
  pub limit : 2 ^ 32 ≤ length (old.left ++ bits_of bytes)
  pub last : length (old.left ++ bits_of bytes) < 2 ^ 32 + 8

-- Only zeros remained, fewer than 2 ^ 32, and all bytes were consumed; or 2 ^ 32 zeros or more came
-- first, and just the bytes up to the 2 ^ 32th were consumed.
abbrev pub HasNoOneBit : BitState → BitState → List Bool → Type 0
HasNoOneBit old new all =
    ((n : ℕ) × (n < 2 ^ 32) × (all ≡ replicate n false) × (new.source.remaining ≡ Some []))
    ⊎ ((n : ℕ) × (rest : List Bool) × (2 ^ 32 ≤ n) × (all ≡ replicate n false ++ rest)
    × TakesUpToLimit old new)

-- An Err of a call that asked for the next one bit: none stands among the next 2 ^ 32 bits, or the
-- source failed. No bit is left over.
pub record FailureOrNoOneBit (old new : BitState) : Type 0 where
  pub rest : MovesPastSome old.source new.source
  pub emptied : new.left ≡ []
  pub cause : IfSome (remaining_bits old)
      (λ all. HasNoOneBit old new all ⊎ SourceReadFailed old.source new.source)
