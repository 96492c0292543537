-- The frame that bytes begin with, what its header says, and how many bytes it has.
use Rattle.std.specs.Prelude.{◌≡◌, ◌⊎◌, ℕ, ◌*◌, List, ◌++◌, length, Option, IfOk, IfSome}
use Rattle.claxon.specs.BlockInfo.{HeaderOf}
use Rattle.claxon.specs.BlockInfos.{BlockInfo}
use Rattle.claxon.specs.DecodedFrame.{DecodedAnswer, FrameWithHeader, decoded_view, frame_answer}
use Rattle.claxon.specs.Error.{IsFault}
use Rattle.claxon.specs.Fault.{Fault}
use Rattle.claxon.specs.Frame.{FrameBytesFault, StreamFormat}
use Rattle.claxon.specs.FrameReader.{HeaderOfLargerBlock}
use Rattle.claxon.specs.FramesInMemory.{
  SliceFrameFaultIsComplete,
  SliceFrameIsComplete,
  SliceFrameNoneIffEof,
}
use Rattle.claxon.specs.OtherErrors.{IfOtherErr}
use Rattle.claxon.specs.Prefix.{BeginsWith}
use Rattle.claxon.specs.Promises.{IsOutOfMemory}

-- The bytes begin with so many bytes of a code.
abbrev pub BeginsWithLength : (List ℕ → Type 0) → List ℕ → ℕ → Type 0
BeginsWithLength Code bytes count =
    (t : List ℕ) × (rest : List ℕ) × Code t × (bytes ≡ t ++ rest) × (count ≡ length t)

-- The number of samples, of all channels, that the header says with which the bytes begin; 0 if they
-- begin with none.
abbrev pub SamplesAreSaid : Option StreamFormat → List ℕ → ℕ → Type 0
SamplesAreSaid stream bytes count =
    ((info : BlockInfo) × BeginsWith (HeaderOf stream info) bytes
    × (count ≡ info.channels * info.duration))
    ⊎ (((info : BlockInfo) → BeginsWith (HeaderOf stream info) bytes → ⊥) × (count ≡ 0))

-- The bytes begin with the frame that is returned, or with what the error says, or they are too few
-- for a frame. Of a frame or a fault `taken` is the number of its bytes.
pub record DecodedAtStart {A : Type 0} (stream : Option StreamFormat) (bytes : List ℕ)
    (capacity : ℕ) (r : DecodedAnswer A) (taken : ℕ) : Type 0 where
  pub sound :
      IfOk r (λ found.
      IfSome found (λ frame.
      BeginsWithLength (FrameWithHeader stream (decoded_view frame)) bytes taken))
  pub complete : SliceFrameIsComplete stream bytes (frame_answer r)
  pub none : SliceFrameNoneIffEof bytes (frame_answer r)
  pub fault :
      IfOtherErr r (λ e.
      (f : Fault) × IsFault f e × BeginsWithLength (FrameBytesFault stream f) bytes taken)
  pub named : SliceFrameFaultIsComplete stream bytes (frame_answer r)
  pub memory : IsOutOfMemory (frame_answer r)
      → BeginsWith (HeaderOfLargerBlock stream capacity) bytes
