-- What a call returns for a packet that has to be exactly one frame.
use Rattle.std.specs.Prelude.{
  ◌≡◌,
  ◌⊎◌,
  ◌<◌,
  ℕ,
  List,
  ◌∷◌,
  ◌++◌,
  length,
  codes,
  Option,
  IfOk,
  IsOkAnd,
  IsErrAnd,
  Result,
}
use Rattle.claxon.specs.Block.{BlockValue}
use Rattle.claxon.specs.Fault.{Fault}
use Rattle.claxon.specs.Frame.{StreamFormat, Block, Frame, FrameBytesFault}
use Rattle.claxon.specs.Error.{IsFault, IsFormatError}
use Rattle.claxon.specs.FrameReader.{HeaderOfLargerBlock, block_view}
use Rattle.claxon.specs.Promises.{IsOutOfMemory}
use Rattle.claxon.specs.Errors.{Error}
use Rattle.claxon.specs.OtherErrors.{IfOtherErr}
use Rattle.claxon.specs.Prefix.{BeginsWith}

-- It is too short for a frame, and the error says so.
abbrev pub HasNoFrame : List ℕ → Error → Type 0
HasNoFrame packet e = (length packet < 2) × IsFormatError e (codes "packet without a frame")

-- Bytes follow its frame, and the error says so.
abbrev pub HasMoreThanFrame : Option StreamFormat → List ℕ → Error → Type 0
HasMoreThanFrame stream packet e =
    ((block : Block) × (t : List ℕ) × (byte : ℕ) × (rest : List ℕ) × Frame stream block t
    × (packet ≡ t ++ byte ∷ rest))
    × IsFormatError e (codes "packet of more than a frame")

module _ (stream : Option StreamFormat) (packet : List ℕ) (result : Result BlockValue Error) where
  -- The whole packet is a frame of the block that is returned.
  abbrev pub PacketIsSound : Type 0
  PacketIsSound = IfOk result (λ block. Frame stream (block_view block) packet)

  -- Of a packet that is a frame the block is returned, or `OutOfMemory`.
  abbrev pub PacketIsComplete : Type 0
  PacketIsComplete =
      (block : Block) → Frame stream block packet
      → IsOkAnd result (λ x. block_view x ≡ block) ⊎ IsOutOfMemory result

  -- An Err is `OutOfMemory`, an `IoError`, the name of a fault that the packet begins with, or
  -- says that it has no frame or more than one.
  abbrev pub PacketFaultIsSound : Type 0
  PacketFaultIsSound =
      IfOtherErr result (λ e.
      ((f : Fault) × IsFault f e × BeginsWith (FrameBytesFault stream f) packet)
      ⊎ (HasNoFrame packet e ⊎ HasMoreThanFrame stream packet e))

  -- A fault that the packet begins with is named, or `OutOfMemory` returned.
  abbrev pub PacketFaultIsComplete : Type 0
  PacketFaultIsComplete =
      (f : Fault) → BeginsWith (FrameBytesFault stream f) packet
      → IsErrAnd result (IsFault f) ⊎ IsOutOfMemory result

  -- `OutOfMemory` only where it begins with the header of a frame that has samples.
  abbrev pub PacketOutOfMemoryAfterHeader : Type 0
  PacketOutOfMemoryAfterHeader =
      IsOutOfMemory result → BeginsWith (HeaderOfLargerBlock stream 0) packet
