-- What a call returns for a whole stream in memory: a head, frames, and a rest that begins with
-- no frame.
use Rattle.std.specs.Prelude.{
  ◌≡◌,
  ◌⊎◌,
  ◌<◌,
  ℕ,
  ℤ,
  true,
  List,
  ◌++◌,
  length,
  Some,
  IfOk,
  IsOkAnd,
  IsErrAnd,
  Result,
}
use Rattle.claxon.specs.Error.{IsFault}
use Rattle.claxon.specs.Fault.{Fault}
use Rattle.claxon.specs.Frame.{Block, Frame, FrameBytesFault}
use Rattle.claxon.specs.FrameReader.{HeaderOfLargerBlock}
use Rattle.claxon.specs.Heads.{Head, HeadCode, HeadFault, Marker, stream_marker}
use Rattle.claxon.specs.Promises.{IsOutOfMemory}
use Rattle.claxon.specs.ReadHead.{MemoryMayBeNeeded}
use Rattle.claxon.specs.SampleRuns.{samples_of}
use Rattle.claxon.specs.Streams.{IsStream, stream_of, with_samples}
use Rattle.claxon.specs.Errors.{Error}
use Rattle.claxon.specs.OtherErrors.{IfOtherErr}
use Rattle.claxon.specs.Prefix.{BeginsWith}

-- the bytes begin with a fault of a head, or with a head, all frames that follow, and then a
-- fault of a frame
abbrev pub HasStreamFault : List ℕ → Fault → Type 0
HasStreamFault bytes f =
    BeginsWith (HeadFault (with_samples true) f) bytes
    ⊎ ((h : Head) × (blocks : List Block) × (rest : List ℕ) × IsStream true bytes h blocks rest
    × BeginsWith (FrameBytesFault (Some (stream_of h.info)) f) rest)

-- the bytes begin with a head, and then the header of a frame
abbrev pub HasSamples : List ℕ → Type 0
HasSamples bytes =
    (h : Head) × (front : List ℕ) × (frames : List ℕ) × HeadCode (with_samples true) h front
    × (bytes ≡ front ++ frames)
    × (BeginsWith (HeaderOfLargerBlock (Some (stream_of h.info)) 0) frames
    ⊎ ((block : Block) × BeginsWith (Frame (Some (stream_of h.info)) block) frames))

-- `view` shows the samples of what is returned.
module _ {X : Type 0} (view : X → List ℤ) (bytes : List ℕ) (result : Result X Error) where
  -- The bytes are a stream whose samples, interleaved, are returned, and fewer than two bytes more.
  abbrev pub SliceStreamIsSound : Type 0
  SliceStreamIsSound =
      IfOk result (λ x. (h : Head) × (blocks : List Block) × (rest : List ℕ)
      × IsStream true bytes h blocks rest × (length rest < 2) × (view x ≡ samples_of blocks))

  -- The samples of each such stream are returned, or `OutOfMemory`.
  abbrev pub SliceStreamIsComplete : Type 0
  SliceStreamIsComplete =
      (h : Head) (blocks : List Block) (rest : List ℕ) → IsStream true bytes h blocks rest
      → length rest < 2 → IsOkAnd result (λ x. view x ≡ samples_of blocks) ⊎ IsOutOfMemory result

-- An Err is `OutOfMemory`, an `IoError`, or the name of a fault that the bytes have.
abbrev pub SliceStreamFaultIsSound : {X : Type 0} → List ℕ → Result X Error → Type 0
SliceStreamFaultIsSound bytes result =
    IfOtherErr result (λ e. (f : Fault) × IsFault f e × HasStreamFault bytes f)

-- A fault that they have is named, or `OutOfMemory` returned.
abbrev pub SliceStreamFaultIsComplete : {X : Type 0} → List ℕ → Result X Error → Type 0
SliceStreamFaultIsComplete bytes result =
    (f : Fault) → HasStreamFault bytes f → IsErrAnd result (IsFault f) ⊎ IsOutOfMemory result

-- `OutOfMemory` only for an application or comment block, or for samples.
abbrev pub SliceStreamOutOfMemoryAfterHeader : {X : Type 0} → List ℕ → Result X Error → Type 0
SliceStreamOutOfMemoryAfterHeader bytes result =
    IsOutOfMemory result → MemoryMayBeNeeded (Marker stream_marker) bytes ⊎ HasSamples bytes
