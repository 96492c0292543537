-- The clauses of `subframe::decode` (RFC 9639, section 9.2). `old` and `new` are the reader before
-- and after the call; w is the bit depth, n the number of samples, and channel what the buffer
-- holds afterwards.
use Rattle.std.specs.Prelude.{ℕ, List, ℤ, Result}
use Rattle.claxon_format.specs.Unambiguous.{IsUnambiguous}
use Rattle.claxon_format.specs.read.Subframe.{subframe_at}
use Rattle.claxon_format.specs.Subframe.{Subframe, SubframeFault}
use Rattle.claxon_input.specs.Bitstream.{bit_state}
use Rattle.claxon_input.specs.Promises.{
  CodeIsComplete,
  ElseIoError,
  IsOutOfMemory,
  LeavesRest,
  FaultIsComplete,
  CodeIsSound,
  FaultIsSound,
}
use Rattle.claxon_input.specs.Source.{KeepsLoans, Source}
use Rattle.claxon_input.specs.State.{bits_in}
use Rattle.claxon_input.specs.declared.bits.Bitstream.{Bitstream}
use Rattle.claxon_input.specs.declared.error.Error.{Error}
use Rattle.claxon_subframe.specs.Buffer.{FillsBuffer}

module _ {R A : Type 0} {g : _} (source : R → Source ℕ) (w n : ℕ) (old : Bitstream R g)
    (result : Result A Error) (new : Bitstream R g) where
  -- After an Ok the bits consumed are a subframe of the channel that the buffer now holds.
  abbrev pub SubframeIsSound : List ℤ → Type 0
  SubframeIsSound channel =
      CodeIsSound (λ x. channel) result (Subframe w n) (bits_in source old) (bits_in source new)

  -- Where the bits begin with a subframe, the buffer holds its channel and just its bits are
  -- consumed, or the source failed.
  abbrev pub SubframeIsComplete : List ℤ → Type 0
  SubframeIsComplete channel =
      CodeIsComplete (λ x. channel) result (Subframe w n) (bits_in source old) (bits_in source new)

  -- An Err other than `IoError` is a fault of the bits consumed.
  abbrev pub SubframeFaultIsSound : Type 0
  SubframeFaultIsSound =
      FaultIsSound result (SubframeFault w n) (bits_in source old) (bits_in source new)

  -- Where the bits begin with a fault, the Err is that fault and just its bits are consumed,
  -- or the source failed.
  abbrev pub SubframeFaultIsComplete : Type 0
  SubframeFaultIsComplete =
      FaultIsComplete result (SubframeFault w n) (bits_in source old) (bits_in source new)

  -- Where they begin with neither, the input ends or a unary code reaches 2^32 zeros, which is
  -- an `IoError`.
  abbrev pub SubframeElseIoError : Type 0
  SubframeElseIoError =
      ElseIoError result (Subframe w n) (SubframeFault w n) (bits_in source old) (
      bits_in source new)

  -- After an Err the remaining bytes are a suffix of those before the call.
  abbrev pub SubframeLeavesRest : Type 0
  SubframeLeavesRest = LeavesRest result (bits_in source old) (bits_in source new)

  -- The result and the bits consumed are those of the format's reader.
  abbrev pub SubframeIsRead : List ℤ → Type 0
  SubframeIsRead channel =
      FillsBuffer source (subframe_at w n) old result new channel

-- No bits begin with two subframes, with a subframe and a fault, or with two faults.
abbrev pub SubframeIsUnambiguous : ℕ → ℕ → Type 0
SubframeIsUnambiguous w n = IsUnambiguous (Subframe w n) (SubframeFault w n)

-- The result is never out of memory.
abbrev pub NeverOutOfMemory : {A : Type 0} → Result A Error → Type 0
NeverOutOfMemory result = IsOutOfMemory result → ⊥

-- The borrows of the reader stay the same.
abbrev pub KeepsReaderLoans : {R : Type 0} {g : _} → (R → Source ℕ) → Bitstream R g → Bitstream R g
    → Type 0
KeepsReaderLoans source old new =
    KeepsLoans (bit_state source old).source (bit_state source new).source
