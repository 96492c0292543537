-- A frame that is read with its header, and the call that does so.
use Rattle.std.specs.Prelude.{◌≡◌, ℕ, List, Option, None, Some, IfOk, IfSome, Result, Ok, Err}
use Rattle.claxon_format.specs.Frame.{StreamFormat, Block, Frame, FrameBytesFault}
use Rattle.claxon_format.specs.Unambiguous.{IsUnambiguous}
use Rattle.claxon_format.specs.read.Reading.{Done}
use Rattle.claxon_input.specs.declared.error.Error.{Error}
use Rattle.claxon_input.specs.Gives.{Consumes}
use Rattle.claxon_input.specs.Promises.{FoundIsComplete, FoundIsSound}
use Rattle.claxon_input.specs.Source.{Source}
use Rattle.claxon_input.specs.State.{State}
use Rattle.claxon_frame.specs.BlockInfo.{HeaderAnswer, HeaderOf, SaysBlock, header_info_at}
use Rattle.claxon_frame.specs.FrameReader.{
  FrameAnswer,
  FrameOutOfMemoryAfterHeader,
  ReadsFrame,
  block_view,
  frame_bytes,
  frame_stream,
}
use Rattle.claxon_frame.specs.Prefix.{BeginsWith}
use Rattle.claxon_frame.specs.declared.frame.FrameReader.{FrameReader}
use Rattle.claxon_frame.specs.declared.frame.decoded.DecodedFrame.{DecodedFrame}
use Rattle.claxon_frame.specs.declared.frame.info.BlockInfo.{BlockInfo}

-- the block of a frame, and what its header says of it
pub record FrameValue : Type 0 where
  pub info : BlockInfo
  pub block : Block

-- a decoded frame as the format has it
abbrev pub decoded_view : {A : Type 0} → DecodedFrame A → FrameValue
decoded_view frame = record { info = frame.info; block = block_view frame.block }

-- The bytes of a frame of this block, which begin with a header that says this.
abbrev pub FrameWithHeader : Option StreamFormat → FrameValue → List ℕ → Type 0
FrameWithHeader stream value t =
    Frame stream value.block t × BeginsWith (HeaderOf stream value.info) t

-- what a call returns that reads a frame with its header
abbrev pub DecodedAnswer : Type 0 → Type 0
DecodedAnswer A = Result (Option (DecodedFrame A)) Error

-- what it says of the block
abbrev pub frame_answer : {A : Type 0} → DecodedAnswer A → FrameAnswer
frame_answer (Ok (Some frame)) = Ok (Some frame.block)
frame_answer (Ok None) = Ok None
frame_answer (Err e) = Err e

-- what it says of the header
abbrev pub header_answer : {A : Type 0} → DecodedAnswer A → HeaderAnswer
header_answer (Ok (Some frame)) = Ok (Some frame.info)
header_answer (Ok None) = Ok None
header_answer (Err e) = Err e

-- ---- the clauses of `read_next_with_info_or_eof`. `old` and `new` are the reader before and
-- after the call.

module _ {R A : Type 0} (source : R → Source ℕ) (old : FrameReader R) (result : DecodedAnswer A)
    (new : FrameReader R) where
  -- The consumed bytes are a frame of the block that is returned, and begin with the header.
  abbrev pub DecodedIsSound : Type 0
  DecodedIsSound =
      FoundIsSound decoded_view result (FrameWithHeader (frame_stream old))
      (frame_bytes source old) (frame_bytes source new)

  -- If the bytes begin with a frame, its block and what its header says are returned and just
  -- its bytes are consumed, or memory or the source failed.
  abbrev pub DecodedIsComplete : Type 0
  DecodedIsComplete =
      FoundIsComplete decoded_view result (FrameWithHeader (frame_stream old))
      (frame_bytes source old) (frame_bytes source new)

  -- But for the header it is what `read_next_or_eof` returns, and the same bytes are consumed.
  abbrev pub DecodedReadsFrame : Type 0
  DecodedReadsFrame =
      ReadsFrame (frame_stream old) (frame_answer result)
      (frame_bytes source old) (frame_bytes source new)

-- `OutOfMemory` is returned only if just a header was consumed, whose block has more samples
-- than the buffer's capacity.
abbrev pub DecodedOutOfMemoryAfterHeader : {R A : Type 0} → (R → Source ℕ) → ℕ → FrameReader R
    → DecodedAnswer A → FrameReader R → Type 0
DecodedOutOfMemoryAfterHeader source capacity old result new =
    FrameOutOfMemoryAfterHeader source capacity old (frame_answer result) new

-- The header says this of the block.
abbrev pub DecodedSaysBlock : {A : Type 0} → DecodedAnswer A → Type 0
DecodedSaysBlock result =
    IfOk result (λ found. IfSome found (λ frame. SaysBlock frame.info (block_view frame.block)))

-- No bytes begin with two frames with their headers, with such a frame and a fault, or with two
-- faults.
abbrev pub DecodedIsUnambiguous : Option StreamFormat → Type 0
DecodedIsUnambiguous stream = IsUnambiguous (FrameWithHeader stream) (FrameBytesFault stream)

-- ---- by the format's reader

-- The bytes begin with a header that says this.
abbrev pub InfoIsAt : Option StreamFormat → BlockInfo → List ℕ → Type 0
InfoIsAt stream info s = (m : List ℕ) × (header_info_at stream s ≡ Done info m)

-- Of a frame just its bytes were consumed, and what its header says is returned.
abbrev pub InfoIsRead : {A : Type 0} → Option StreamFormat → DecodedAnswer A → State ℕ → State ℕ
    → Type 0
InfoIsRead stream result old new =
    IfOk result (λ found. IfSome found (λ frame.
    Consumes old new (λ s m. InfoIsAt stream frame.info s)))
