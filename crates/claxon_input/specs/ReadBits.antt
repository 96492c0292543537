-- What the calls of a `Bitstream` promise, one word each; `old` and `new` are the stream of bits
-- before and after the call.
use Rattle.std.specs.Prelude.{
  ℕ,
  ◌<◌,
  Bool,
  true,
  false,
  [],
  ◌∷◌,
  ◌++◌,
  length,
  replicate,
  IfOk,
  OnErr,
  Result,
}
use Rattle.claxon_format.specs.read.Bits.{bit_at, number_at, unary_at}
use Rattle.claxon_input.specs.BufferedBits.{skipped_bits_at}
use Rattle.claxon_input.specs.Bitstream.{
  BitState,
  BitsFailureOrEof,
  DropsBits,
  FailureOrNoOneBit,
  TakesBits,
  TakesNumber,
  bit_state,
  left_in,
  left_over,
}
use Rattle.claxon_input.specs.Gives.{GivesIo}
use Rattle.claxon_input.specs.Source.{Source}
use Rattle.claxon_input.specs.State.{bits_in}
use Rattle.claxon_input.specs.declared.bits.Bitstream.{Bitstream}

-- Fewer than eight bits are left over.
abbrev pub FewAreLeft : {R : Type 0} {g : _} → Bitstream R g → Type 0
FewAreLeft new = length (left_over new) < 8

-- ---- a number of w bits

module _ {R E : Type 0} {g : _} (source : R → Source ℕ) (w : ℕ) (old : Bitstream R g)
    (result : Result ℕ E) (new : Bitstream R g) where
  -- Just the bits of the returned number were consumed.
  abbrev pub NumberIsSound : Type 0
  NumberIsSound = IfOk result (λ n. TakesNumber (bit_state source old) (bit_state source new) w n)

  -- An Err says that fewer bits remained and all were consumed, or that the source failed;
  -- none is left over.
  abbrev pub NumberFailureOrEof : Type 0
  NumberFailureOrEof =
      OnErr result (BitsFailureOrEof (bit_state source old) (bit_state source new) w)

  -- What was returned and consumed is what the format's reader gives.
  abbrev pub NumberIsRead : Type 0
  NumberIsRead = GivesIo (λ x. x) result (number_at w) (bits_in source old) (bits_in source new)

-- ---- a bit

module _ {R E : Type 0} {g : _} (source : R → Source ℕ) (old : Bitstream R g)
    (result : Result Bool E) (new : Bitstream R g) where
  -- Just the returned bit was consumed.
  abbrev pub BitIsSound : Type 0
  BitIsSound =
      IfOk result (λ bit. TakesBits (bit_state source old) (bit_state source new) (bit ∷ []))

  -- An Err says that no bit remained, or that the source failed; none is left over.
  abbrev pub BitFailureOrEof : Type 0
  BitFailureOrEof = OnErr result (BitsFailureOrEof (bit_state source old) (bit_state source new) 1)

  -- What was returned and consumed is what the format's reader gives.
  abbrev pub BitIsRead : Type 0
  BitIsRead = GivesIo (λ x. x) result bit_at (bits_in source old) (bits_in source new)

-- ---- a unary number: zeros up to a one

module _ {R E : Type 0} {g : _} (source : R → Source ℕ) (old : Bitstream R g) (result : Result ℕ E)
    (new : Bitstream R g) where
  -- Just the returned number of zeros was consumed, and the one after them.
  abbrev pub UnaryIsSound : Type 0
  UnaryIsSound =
      IfOk result (λ q. TakesBits (bit_state source old) (bit_state source new)
      (replicate q false ++ true ∷ []))

  -- An Err says that no one stands among the next 2^32 bits, or that the source failed; none
  -- is left over.
  abbrev pub UnaryFailureOrNoOne : Type 0
  UnaryFailureOrNoOne =
      OnErr result (FailureOrNoOneBit (bit_state source old) (bit_state source new))

  -- What was returned and consumed is what the format's reader gives.
  abbrev pub UnaryIsRead : Type 0
  UnaryIsRead = GivesIo (λ x. x) result unary_at (bits_in source old) (bits_in source new)

-- ---- the rest of a unary number: `taken` zeros were read before, and the count bits that are
-- left over are zeros too

-- between these states just `taken` zeros were consumed
abbrev pub TakesZeros : ℕ → BitState → BitState → Type 0
TakesZeros taken old new = TakesBits old new (replicate taken false)

module _ {R E : Type 0} (source : R → Source ℕ) (taken count : ℕ) (old : R)
    (result : Result (ℕ × ℕ × ℕ) E) (new : R) where
  -- An Ok says how many zeros were consumed with those read before, and which bits are left
  -- over: as a number, and how many.
  abbrev pub SkipsZeros : Type 0
  SkipsZeros =
      IfOk result (λ r. (start : BitState) → TakesZeros taken start (left_in 0 count (source old))
      → TakesZeros r.0 start (left_in r.1 r.2 (source new)))

  -- An Err says that no one stands among 2^32 bits, those read before with them, or that the
  -- source failed; none is left over.
  abbrev pub NoOneBitFollows : Type 0
  NoOneBitFollows =
      OnErr result ((start : BitState) → TakesZeros taken start (left_in 0 count (source old))
      → FailureOrNoOneBit start (left_in 0 0 (source new)))

module _ {R E : Type 0} {g : _} (source : R → Source ℕ) (taken count : ℕ) (old : Bitstream R g)
    (result : Result ℕ E) (new : Bitstream R g) where
  -- With those read before, just the returned number of zeros was consumed, and the one after them.
  abbrev pub RestOfUnaryIsSound : Type 0
  RestOfUnaryIsSound =
      IfOk result (λ q. (start : BitState)
      → TakesZeros taken start (left_in 0 count (source old.reader))
      → TakesBits start (bit_state source new) (replicate q false ++ true ∷ []))

  -- An Err says that no one stands among 2^32 bits, those read before with them, or that the
  -- source failed; none is left over.
  abbrev pub RestOfUnaryFailureOrNoOne : Type 0
  RestOfUnaryFailureOrNoOne =
      OnErr result ((start : BitState)
      → TakesZeros taken start (left_in 0 count (source old.reader))
      → FailureOrNoOneBit start (bit_state source new))

-- ---- bits that are skipped

module _ {R A E : Type 0} {g : _} (source : R → Source ℕ) (n : ℕ) (old : Bitstream R g)
    (result : Result A E) (new : Bitstream R g) where
  -- n bits were skipped, or fewer remained, or the source failed.
  abbrev pub BitsAreSkipped : Type 0
  BitsAreSkipped =
      GivesIo (λ x. tt) result (skipped_bits_at n) (bits_in source old) (bits_in source new)

  -- After an Err no bit is left over, and a prefix of the remaining bytes was consumed.
  abbrev pub SkipDropsBits : Type 0
  SkipDropsBits = OnErr result (DropsBits (bit_state source old) (bit_state source new))
