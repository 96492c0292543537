-- What clauses know of blocks and of a `FrameReader`.
use Rattle.std.specs.Prelude.{
  ◌≡◌,
  ◌⊎◌,
  ℕ,
  ℤ,
  ◌*◌,
  ◌<◌,
  ◌≤◌,
  List,
  [],
  length,
  Option,
  None,
  IfOk,
  IfSome,
  Result,
  Ok,
}
use Rattle.claxon_format.specs.Bits.{bits_of}
use Rattle.claxon_format.specs.Frame.{StreamFormat, Block, Frame, FrameBytesFault, known_bit_depth}
use Rattle.claxon_format.specs.read.Frame.{frame_bytes_at, Start, start_at}
use Rattle.claxon_format.specs.FrameWriter.{
  HeaderPlan,
  SuitsEach,
  SuitsEachShape,
  SuitsFrame,
  channel_count,
  decorrelated,
  planned_bit_depths,
  plans_with_quotients,
  write_bytes,
  written_block,
}
use Rattle.claxon_format.specs.Header.{Fields, Header, HeaderCode}
use Rattle.claxon_format.specs.Unambiguous.{IsUnambiguous}
use Rattle.claxon_format.specs.read.Reading.{Done}
use Rattle.claxon_format.specs.Writer.{SubframePlan}
use Rattle.claxon_input.specs.declared.error.Error.{Error}
use Rattle.claxon_input.specs.Source.{Source}
use Rattle.claxon_input.specs.State.{State, bytes_in}
use Rattle.claxon_input.specs.Promises.{
  FoundIsComplete,
  Remains,
  EofPromises,
  ElseIoErrorFrom,
  ReadFailed,
  IsOutOfMemory,
  LeavesRest,
  FaultIsComplete,
  NoneIsEof,
  FaultIsSound,
  FoundIsSound,
  Consumed,
}
use Rattle.claxon_input.specs.Gives.{Consumes, GivesOrEofOrOutOfMemory}
use Rattle.claxon_frame.specs.Block.{BlockValue, max_block_samples}
use Rattle.claxon_format.specs.Streams.{duration_of}
use Rattle.claxon_frame.specs.FrameStart.{stream_format_view}
use Rattle.claxon_frame.specs.declared.frame.FrameReader.{FrameReader}
use Rattle.claxon_metadata.specs.declared.metadata.streaminfo.StreamInfo.{StreamInfo}

-- the wrapped reader
abbrev pub frame_input : {R : Type 0} → FrameReader R → R
frame_input s = s.input

-- a block as the format has it
abbrev pub block_view : BlockValue → Block
block_view b = record { time = b.time; channels = b.channels }

-- Just a header was consumed, and its block has more samples than the capacity of the buffer.
pub record BufferTooSmall (stream : Option StreamFormat) (capacity : ℕ) (old new : State ℕ) : Type 0
  where
    pub start : Start
    pub header : Consumes old new (λ s m. start_at stream s ≡ Done start m)
    pub small : capacity < channel_count start.channel_code * start.size

-- what a reader of frames knows of its stream
abbrev pub frame_stream : {R : Type 0} → FrameReader R → Option StreamFormat
frame_stream reader = stream_format_view reader.stream

-- the part of a streaminfo that frames need
abbrev pub stream_with : StreamInfo → StreamFormat
stream_with info = record {
  bit_depth = info.bits_per_sample;
  min_block_size = info.min_block_size;
  max_block_size = info.max_block_size;
}

-- the bytes of the wrapped reader
abbrev pub frame_bytes : {R : Type 0} → (R → Source ℕ) → FrameReader R → State ℕ
frame_bytes source reader = bytes_in source (frame_input reader)

-- the bytes of a header, whose block has more samples than this capacity
abbrev pub HeaderOfLargerBlock : Option StreamFormat → ℕ → List ℕ → Type 0
HeaderOfLargerBlock stream capacity t =
    (h : Header) × HeaderCode (known_bit_depth stream) h (bits_of t)
    × (capacity < channel_count h.fields.channel_code * h.fields.size)

-- ---- what a call that reads the next frame promises

-- what it returns
abbrev pub FrameAnswer : Type 0
FrameAnswer = Result (Option BlockValue) Error

-- `OutOfMemory` is returned only if just a header was consumed, whose block has more samples
-- than this capacity.
abbrev pub OutOfMemoryBeyondCapacity : {A : Type 0} → Option StreamFormat → ℕ → Result A Error
    → State ℕ → State ℕ → Type 0
OutOfMemoryBeyondCapacity stream capacity r old new =
    IsOutOfMemory r → Consumed old new (HeaderOfLargerBlock stream capacity)

-- A call that reads the next frame returned a block, of which just the frame was consumed, None
-- where fewer than two bytes were left, the Err of the fault that the bytes begin with, an
-- `IoError`, or `OutOfMemory` after a header.
pub record ReadsFrame (stream : Option StreamFormat) (r : FrameAnswer) (old new : State ℕ) : Type 0
  where
    pub promises : EofPromises 2 block_view r (Frame stream) (FrameBytesFault stream) old new
    pub memory : OutOfMemoryBeyondCapacity stream 0 r old new
    pub gives : GivesOrEofOrOutOfMemory 2 block_view r (frame_bytes_at stream) old new

-- The clauses of `read_next_or_eof`. `old` and `new` are the reader before and after the call.
module _ {R : Type 0} (source : R → Source ℕ) (old : FrameReader R) (result : FrameAnswer)
    (new : FrameReader R) where
  -- The consumed bytes are a frame of the block that is returned.
  abbrev pub FrameIsSound : Type 0
  FrameIsSound =
      FoundIsSound block_view result (Frame (frame_stream old))
      (frame_bytes source old) (frame_bytes source new)

  -- If the bytes begin with a frame, its block is returned and just its bytes are consumed, or
  -- memory or the source failed.
  abbrev pub FrameIsComplete : Type 0
  FrameIsComplete =
      FoundIsComplete block_view result (Frame (frame_stream old))
      (frame_bytes source old) (frame_bytes source new)

  -- None is returned only if fewer than two bytes were left, which were consumed.
  abbrev pub FrameNoneIsEof : Type 0
  FrameNoneIsEof = NoneIsEof 2 result (frame_bytes source old) (frame_bytes source new)

  -- If fewer than two bytes are left, they are consumed and None is returned, or the source failed.
  abbrev pub FrameEofIsNone : Type 0
  FrameEofIsNone = (xs : List ℕ) → Remains (frame_bytes source old) xs → length xs < 2
      → ((result ≡ Ok None) × Remains (frame_bytes source new) [])
      ⊎ ReadFailed result (frame_bytes source old) (frame_bytes source new)

  -- If a read of the source fails, neither None nor a block is returned.
  abbrev pub FailureIsErr : Type 0
  FailureIsErr =
      IfOk result (λ found. (frame_bytes source new).source.errors
      ≡ (frame_bytes source old).source.errors)

  -- An Err other than `OutOfMemory` and `IoError` is a fault of the consumed bytes.
  abbrev pub FrameFaultIsSound : Type 0
  FrameFaultIsSound =
      FaultIsSound result (FrameBytesFault (frame_stream old))
      (frame_bytes source old) (frame_bytes source new)

  -- If the bytes begin with a fault, its Err is returned and just its bytes are consumed, or
  -- memory or the source failed.
  abbrev pub FrameFaultIsComplete : Type 0
  FrameFaultIsComplete =
      FaultIsComplete result (FrameBytesFault (frame_stream old))
      (frame_bytes source old) (frame_bytes source new)

  -- If at least two bytes are left and they begin with neither, the input ends inside the
  -- frame or has a run of 2^32 zero bits:
  -- the Err is an `IoError` or `OutOfMemory`.
  abbrev pub FrameElseIoError : Type 0
  FrameElseIoError =
      ElseIoErrorFrom 2 result (Frame (frame_stream old)) (FrameBytesFault (frame_stream old))
      (frame_bytes source old) (frame_bytes source new)

  -- After an Err the remaining bytes are a suffix of those before the call.
  abbrev pub FrameLeavesRest : Type 0
  FrameLeavesRest = LeavesRest result (frame_bytes source old) (frame_bytes source new)

  -- The result and the consumed bytes are those of the format's reader.
  abbrev pub FrameIsRead : Type 0
  FrameIsRead =
      GivesOrEofOrOutOfMemory 2 block_view result (frame_bytes_at (frame_stream old))
      (frame_bytes source old) (frame_bytes source new)

-- `OutOfMemory` is returned only if just a header was consumed, whose block has more samples
-- than the buffer's capacity.
abbrev pub FrameOutOfMemoryAfterHeader : {R : Type 0} → (R → Source ℕ) → ℕ → FrameReader R
    → FrameAnswer → FrameReader R → Type 0
FrameOutOfMemoryAfterHeader source capacity old result new =
    OutOfMemoryBeyondCapacity (frame_stream old) capacity result
    (frame_bytes source old) (frame_bytes source new)

-- The capacity for the greatest number of samples of a block is always enough.
abbrev pub MaxCapacityIsEnough : ℕ → FrameAnswer → Type 0
MaxCapacityIsEnough capacity result = IsOutOfMemory result → capacity < max_block_samples

-- A block that is returned has capacity for its samples, and no less than the buffer had.
abbrev pub BlockKeepsCapacity : ℕ → FrameAnswer → Type 0
BlockKeepsCapacity capacity result =
    IfOk result (λ found. IfSome found (λ block.
    (length block.channels * duration_of block.channels ≤ block.capacity)
    × (capacity ≤ block.capacity)))

-- A block that is returned has channels, and these have samples.
abbrev pub BlockHasSamples : FrameAnswer → Type 0
BlockHasSamples result =
    IfOk result (λ found. IfSome found (λ block.
    (1 ≤ length block.channels) × (1 ≤ duration_of block.channels)))

-- No bytes begin with frames of two blocks or of two lengths, with a frame and a fault, or with
-- two faults.
abbrev pub FrameIsUnambiguous : Option StreamFormat → Type 0
FrameIsUnambiguous stream = IsUnambiguous (Frame stream) (FrameBytesFault stream)

-- What an encoder writes by any valid plan is a frame of the block with just these channels.
abbrev pub PlansWriteFrames : Option StreamFormat → Type 0
PlansWriteFrames stream =
    (f : Fields) (header : HeaderPlan) (plans : List SubframePlan) (channels : List (List ℤ))
    → SuitsFrame stream f header channels
    → SuitsEach f.size (planned_bit_depths stream f) plans (decorrelated f.channel_code channels)
    → Frame stream (written_block stream f channels) (write_bytes stream f header plans channels)

-- Such bytes exist for any valid subframe types, predictor orders, coefficients, shifts and Rice
-- parameters: with quotients rounded down, any padding, and the CRCs of the definition.
abbrev pub PlansHaveBytes : Option StreamFormat → Type 0
PlansHaveBytes stream =
    (f : Fields) (header : HeaderPlan) (plans : List SubframePlan) (channels : List (List ℤ))
    → SuitsFrame stream f header channels
    → SuitsEachShape f.size (planned_bit_depths stream f) plans
    (decorrelated f.channel_code channels)
    → Frame stream (written_block stream f channels)
    (write_bytes stream f header
    (plans_with_quotients f.size plans (decorrelated f.channel_code channels)) channels)
