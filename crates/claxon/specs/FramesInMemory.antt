-- The answer of a call for the frame that bytes in memory begin with. No read of them fails, so the
-- only excuse is `OutOfMemory`, and that only after a frame header.
use Rattle.std.specs.Prelude.{
  ◌≡◌,
  ◌⊎◌,
  ◌↔◌,
  ◌<◌,
  ℕ,
  List,
  length,
  Option,
  None,
  IfOk,
  IfSome,
  IsOkAnd,
  IsErrAnd,
  IsSomeAnd,
  Ok,
}
use Rattle.claxon.specs.Fault.{Fault}
use Rattle.claxon.specs.Frame.{StreamFormat, Block, Frame, FrameBytesFault}
use Rattle.claxon.specs.Error.{IsFault}
use Rattle.claxon.specs.FrameReader.{FrameAnswer, HeaderOfLargerBlock, block_view}
use Rattle.claxon.specs.Promises.{IsOutOfMemory}
use Rattle.claxon.specs.OtherErrors.{IfOtherErr}
use Rattle.claxon_frame.specs.Prefix.{BeginsWith}

module _ (stream : Option StreamFormat) (bytes : List ℕ) (result : FrameAnswer) where
  -- The bytes begin with a frame of the block that is returned.
  abbrev pub SliceFrameIsSound : Type 0
  SliceFrameIsSound =
      IfOk result (λ found. IfSome found (λ block.
      BeginsWith (Frame stream (block_view block)) bytes))

  -- Where they begin with a frame its block is returned, or `OutOfMemory`.
  abbrev pub SliceFrameIsComplete : Type 0
  SliceFrameIsComplete =
      (block : Block) → BeginsWith (Frame stream block) bytes
      → IsOkAnd result (λ found. IsSomeAnd found (λ x. block_view x ≡ block)) ⊎ IsOutOfMemory result

  -- An Err is `OutOfMemory`, an `IoError`, or the name of a fault that they begin with.
  abbrev pub SliceFrameFaultIsSound : Type 0
  SliceFrameFaultIsSound =
      IfOtherErr result (λ e.
      (f : Fault) × IsFault f e × BeginsWith (FrameBytesFault stream f) bytes)

  -- Where they begin with a fault it is named, or `OutOfMemory` returned.
  abbrev pub SliceFrameFaultIsComplete : Type 0
  SliceFrameFaultIsComplete =
      (f : Fault) → BeginsWith (FrameBytesFault stream f) bytes
      → IsErrAnd result (IsFault f) ⊎ IsOutOfMemory result

  -- `OutOfMemory` only where they begin with the header of a frame that has samples.
  abbrev pub SliceFrameOutOfMemoryAfterHeader : Type 0
  SliceFrameOutOfMemoryAfterHeader =
      IsOutOfMemory result → BeginsWith (HeaderOfLargerBlock stream 0) bytes

-- None is returned exactly where there are fewer than two bytes.
abbrev pub SliceFrameNoneIffEof : List ℕ → FrameAnswer → Type 0
SliceFrameNoneIffEof bytes result = (result ≡ Ok None) ↔ (length bytes < 2)
