-- What bytes begin with, and how many bytes it has.
use Rattle.std.specs.Prelude.{
  ◌≡◌,
  ◌⊎◌,
  ◌<◌,
  ◌↔◌,
  ℕ,
  true,
  List,
  ◌++◌,
  length,
  Option,
  None,
  Some,
  Result,
  Ok,
  Err,
  IfErr,
  IfOk,
  IfSome,
  IsErrAnd,
  IsOkAnd,
  IsSomeAnd,
}
use Rattle.claxon.specs.Fault.{Fault}
use Rattle.claxon.specs.Frame.{StreamFormat, Frame, FrameBytesFault}
use Rattle.claxon.specs.Heads.{Head, HeadCode, HeadFault, Marker, stream_marker}
use Rattle.claxon.specs.Streams.{with_samples}
use Rattle.claxon.specs.Error.{IsFault, IsIo}
use Rattle.claxon.specs.Promises.{IsOutOfMemory}
use Rattle.claxon.specs.Errors.{Error}
use Rattle.claxon.specs.OtherErrors.{IfOtherErr}
use Rattle.claxon.specs.StreamInfos.{StreamInfo}
use Rattle.claxon.specs.MetadataBlock.{HasBounds}
use Rattle.claxon.specs.BlockInfo.{HeaderAnswer, HeaderBytesFault, HeaderOf}
use Rattle.claxon.specs.BlockInfos.{BlockInfo}
use Rattle.claxon.specs.FrameReader.{FrameAnswer, block_view}
use Rattle.claxon.specs.ReadHead.{MemoryMayBeNeeded}
use Rattle.claxon.specs.StartedFrame.{StartedAnswer, StartedCode, started_info, started_view}
use Rattle.claxon_seek.specs.declared.at_start.HeaderInBytes.{HeaderInBytes}
use Rattle.claxon.specs.Prefix.{BeginsWith}
use Rattle.claxon.specs.FramesInMemory.{
  SliceFrameIsComplete,
  SliceFrameFaultIsComplete,
  SliceFrameFaultIsSound,
  SliceFrameNoneIffEof,
  SliceFrameOutOfMemoryAfterHeader,
}

-- The bytes begin with a code of this length.
abbrev pub BeginsWithLength : (List ℕ → Type 0) → List ℕ → ℕ → Type 0
BeginsWithLength Code bytes count =
    (t : List ℕ) × (rest : List ℕ) × Code t × (bytes ≡ t ++ rest) × (count ≡ length t)

-- The bytes begin with the head that is returned, or with what the error says.
pub record HeadAtStart {A : Type 0} (view : StreamInfo × Option A → Head) (bytes : List ℕ)
    (r : Result (StreamInfo × Option A) Error) (taken : ℕ) : Type 0 where
  pub bounds : IfOk r (λ shown. HasBounds shown.0)
  pub sound :
      IfOk r (λ shown. BeginsWithLength (HeadCode (with_samples true) (view shown)) bytes taken)
  pub complete : (h : Head) → BeginsWith (HeadCode (with_samples true) h) bytes
      → IsOkAnd r (λ shown. view shown ≡ h) ⊎ IsOutOfMemory r
  pub fault :
      IfOtherErr r (λ e.
      (f : Fault) × IsFault f e × BeginsWith (HeadFault (with_samples true) f) bytes)
  pub named : (f : Fault) → BeginsWith (HeadFault (with_samples true) f) bytes
      → IsErrAnd r (IsFault f) ⊎ IsOutOfMemory r
  pub memory : IsOutOfMemory r → MemoryMayBeNeeded (Marker stream_marker) bytes

-- The bytes begin with the frame of the block that is returned, or with what the error says, or
-- they are too few for a frame.
pub record FrameAtStart (stream : Option StreamFormat) (bytes : List ℕ) (r : FrameAnswer)
    (taken : ℕ) : Type 0 where
  pub sound :
      IfOk r (λ found.
      IfSome found (λ block. BeginsWithLength (Frame stream (block_view block)) bytes taken))
  pub complete : SliceFrameIsComplete stream bytes r
  pub eof : SliceFrameNoneIffEof bytes r
  pub fault : SliceFrameFaultIsSound stream bytes r
  pub named : SliceFrameFaultIsComplete stream bytes r
  pub memory : SliceFrameOutOfMemoryAfterHeader stream bytes r

-- Of a fault `taken` is the number of its bytes.
abbrev pub FaultIsTaken : {A : Type 0} → Option StreamFormat → List ℕ → Result A Error → ℕ → Type 0
FaultIsTaken stream bytes r taken =
    IfOtherErr r (λ e.
    (f : Fault) × IsFault f e × BeginsWithLength (FrameBytesFault stream f) bytes taken)

-- The bytes begin with the header that says what is returned, or with what the error says, or they
-- are too few for a header.
pub record HeaderAtStart (stream : Option StreamFormat) (bytes : List ℕ) (r : HeaderAnswer) : Type 0
  where
    pub sound :
        IfOk r (λ found. IfSome found (λ info. BeginsWith (HeaderOf stream info) bytes))
    pub complete : (info : BlockInfo) → BeginsWith (HeaderOf stream info) bytes
        → IsOkAnd r (λ found. IsSomeAnd found (λ x. x ≡ info))
    pub eof : (r ≡ Ok None) ↔ (length bytes < 2)
    pub fault :
        IfErr r (λ e.
        IsIo e ⊎ ((f : Fault) × IsFault f e × BeginsWith (HeaderBytesFault stream f) bytes))
    pub named : (f : Fault) → BeginsWith (HeaderBytesFault stream f) bytes
        → IsErrAnd r (IsFault f)

-- what a header says of its block
abbrev pub said_by : HeaderInBytes → BlockInfo
said_by header = started_info header.started

-- what a call returns for the header that bytes begin with
abbrev pub FoundHeader : Type 0
FoundHeader = Result (Option HeaderInBytes) Error

-- what it says of the header
abbrev pub header_said : FoundHeader → HeaderAnswer
header_said (Ok (Some header)) = Ok (Some (said_by header))
header_said (Ok None) = Ok None
header_said (Err e) = Err e

-- the answer of a call that read a header of this length
abbrev pub header_of_length : StartedAnswer → ℕ → FoundHeader
header_of_length (Ok (Some started)) len = Ok (Some (record { started = started; len = len }))
header_of_length (Ok None) len = Ok None
header_of_length (Err e) len = Err e

-- The bytes begin with this header.
abbrev pub HeaderIsThere : Option StreamFormat → List ℕ → HeaderInBytes → Type 0
HeaderIsThere stream bytes header =
    BeginsWithLength (StartedCode stream (started_view header.started)) bytes header.len

-- The bytes begin with the header that is returned.
abbrev pub FoundHeaderIsThere : Option StreamFormat → List ℕ → FoundHeader → Type 0
FoundHeaderIsThere stream bytes result =
    IfOk result (λ found. IfSome found (λ header. HeaderIsThere stream bytes header))

-- The bytes don't begin with a frame header, of whatever stream and whatever follows.
abbrev pub NoHeaderAtStart : List ℕ → Type 0
NoHeaderAtStart bytes =
    (more : List ℕ) (stream : Option StreamFormat) (info : BlockInfo)
    → BeginsWith (HeaderOf stream info) (bytes ++ more) → ⊥
