-- A frame whose header was read, and the calls that read its header and its rest.
use Rattle.std.specs.Prelude.{
  ◌≡◌,
  ◌⊎◌,
  ℕ,
  ◌*◌,
  ◌<◌,
  ◌≤◌,
  List,
  [],
  ◌++◌,
  length,
  Option,
  None,
  Some,
  IfOk,
  Result,
  Ok,
  Err,
}
use Rattle.claxon_format.specs.Bits.{bits_of}
use Rattle.claxon_format.specs.Crc.{crc16}
use Rattle.claxon_format.specs.Fault.{Fault, FrameCrc}
use Rattle.claxon_format.specs.Frame.{Block, Frame, FrameBytesFault, StreamFormat, known_bit_depth}
use Rattle.claxon_format.specs.FrameWriter.{channel_count}
use Rattle.claxon_format.specs.Header.{Header, HeaderCode}
use Rattle.claxon_format.specs.Stereo.{bit_depths}
use Rattle.claxon_format.specs.Streams.{duration_of}
use Rattle.claxon_format.specs.Unambiguous.{IsUnambiguous}
use Rattle.claxon_format.specs.read.Bytes.{crc_at}
use Rattle.claxon_format.specs.read.Frame.{
  Start,
  block_from,
  frame_bytes_at,
  start_at,
  start_of,
  subframes_at,
}
use Rattle.claxon_format.specs.read.Reading.{Reading, and_then, and_with, done}
use Rattle.claxon_input.specs.CrcUpdate.{update_crc16}
use Rattle.claxon_input.specs.Gives.{Consumes, GivesOrEof, GivesOrOutOfMemory}
use Rattle.claxon_input.specs.Promises.{
  CodeIsComplete,
  CodeIsSound,
  Consumed,
  ElseIoError,
  ElseIoErrorFrom,
  FaultIsComplete,
  FaultIsSound,
  FoundIsComplete,
  FoundIsSound,
  IsOutOfMemory,
  LeavesRest,
  NoneIsEof,
  ReadFailed,
  Remains,
}
use Rattle.claxon_input.specs.Source.{Source}
use Rattle.claxon_input.specs.State.{State, bytes_in}
use Rattle.claxon_input.specs.declared.error.Error.{Error}
use Rattle.claxon_frame.specs.Block.{BlockValue, max_block_samples}
use Rattle.claxon_frame.specs.BlockInfo.{HeaderBytesFault, SaysBlock, info_of_start}
use Rattle.claxon_frame.specs.FrameReader.{block_view, frame_bytes, frame_stream}
use Rattle.claxon_frame.specs.FrameStart.{start_view}
use Rattle.claxon_frame.specs.declared.frame.FrameReader.{FrameReader}
use Rattle.claxon_frame.specs.declared.frame.started.StartedFrame.{StartedFrame}
use Rattle.claxon_frame.specs.declared.frame.info.BlockInfo.{BlockInfo}

-- what a header says, and the CRC-16 of its bytes (RFC 9639, section 9.3)
pub record Started : Type 0 where
  pub start : Start
  pub crc : ℕ

-- a started frame as the format has it
abbrev pub started_view : StartedFrame → Started
started_view frame = record { start = start_view frame.header; crc = frame.crc }

-- what its header says of its block
abbrev pub info_of_started : Started → BlockInfo
info_of_started started = info_of_start started.start

abbrev pub started_info : StartedFrame → BlockInfo
started_info frame = info_of_started (started_view frame)

-- The bytes of a header that says this, which have this CRC-16.
abbrev pub StartedCode : Option StreamFormat → Started → List ℕ → Type 0
StartedCode stream started t =
    (h : Header) × HeaderCode (known_bit_depth stream) h (bits_of t)
    × (started.start ≡ start_of stream h) × (started.crc ≡ crc16 (bits_of t))

-- ---- by the format's reader

-- a header, and the CRC-16 of its bytes
unfoldable pub started_at : Option StreamFormat → List ℕ → Reading ℕ Started
started_at stream =
    and_with (start_at stream) (λ start t.
    done (record { start = start; crc = crc16 (bits_of t) }))

-- the rest of its frame: the subframes, and the CRC-16 of header and subframes
unfoldable pub rest_at : Started → List ℕ → Reading ℕ Block
rest_at started =
    and_with (subframes_at started.start.size
    (bit_depths started.start.channel_code started.start.bit_depth)) (λ coded t.
    and_then (crc_at 2 (update_crc16 started.crc t) FrameCrc) (λ u.
    done (block_from started.start coded)))

-- what a call returns that reads the header of a frame
abbrev pub StartedAnswer : Type 0
StartedAnswer = Result (Option StartedFrame) Error

-- The result and the consumed bytes are those of the format's reader, or fewer than two bytes
-- were left, which are consumed.
abbrev pub StartedIsRead : {R : Type 0} → (R → Source ℕ) → Option StreamFormat → R
    → StartedAnswer → R → Type 0
StartedIsRead source stream old result new =
    GivesOrEof 2 started_view result (started_at stream)
    (bytes_in source old) (bytes_in source new)

-- ---- the clauses of `read_start_or_eof`. `old` and `new` are the reader before and after the
-- call.

module _ {R : Type 0} (source : R → Source ℕ) (old : FrameReader R) (result : StartedAnswer)
    (new : FrameReader R) where
  -- The consumed bytes are a header that says what is returned, and have its CRC.
  abbrev pub StartIsSound : Type 0
  StartIsSound =
      FoundIsSound started_view result (StartedCode (frame_stream old))
      (frame_bytes source old) (frame_bytes source new)

  -- If the bytes begin with a header, it is returned with its CRC and just its bytes are
  -- consumed, or the source failed.
  abbrev pub StartIsComplete : Type 0
  StartIsComplete =
      FoundIsComplete started_view result (StartedCode (frame_stream old))
      (frame_bytes source old) (frame_bytes source new)

  -- None is returned only if fewer than two bytes were left, which were consumed.
  abbrev pub StartNoneIsEof : Type 0
  StartNoneIsEof = NoneIsEof 2 result (frame_bytes source old) (frame_bytes source new)

  -- If fewer than two bytes are left, they are consumed and None is returned, or the source failed.
  abbrev pub StartEofIsNone : Type 0
  StartEofIsNone = (xs : List ℕ) → Remains (frame_bytes source old) xs → length xs < 2
      → ((result ≡ Ok None) × Remains (frame_bytes source new) [])
      ⊎ ReadFailed result (frame_bytes source old) (frame_bytes source new)

  -- If a read of the source fails, the result is an Err.
  abbrev pub StartFailureIsErr : Type 0
  StartFailureIsErr =
      IfOk result (λ found.
      (frame_bytes source new).source.errors ≡ (frame_bytes source old).source.errors)

  -- An Err other than `IoError` is a fault of the consumed bytes.
  abbrev pub StartFaultIsSound : Type 0
  StartFaultIsSound =
      FaultIsSound result (HeaderBytesFault (frame_stream old))
      (frame_bytes source old) (frame_bytes source new)

  -- If the bytes begin with a fault, its Err is returned and just its bytes are consumed, or
  -- the source failed.
  abbrev pub StartFaultIsComplete : Type 0
  StartFaultIsComplete =
      FaultIsComplete result (HeaderBytesFault (frame_stream old))
      (frame_bytes source old) (frame_bytes source new)

  -- If at least two bytes are left and they begin with neither, the input ends inside the
  -- header: the Err is an `IoError`.
  abbrev pub StartElseIoError : Type 0
  StartElseIoError =
      ElseIoErrorFrom 2 result (StartedCode (frame_stream old))
      (HeaderBytesFault (frame_stream old)) (frame_bytes source old) (frame_bytes source new)

  -- After an Err the remaining bytes are a suffix of those before the call.
  abbrev pub StartLeavesRest : Type 0
  StartLeavesRest = LeavesRest result (frame_bytes source old) (frame_bytes source new)

  -- The result and the consumed bytes are those of the format's reader.
  abbrev pub StartIsRead : Type 0
  StartIsRead =
      GivesOrEof 2 started_view result (started_at (frame_stream old))
      (frame_bytes source old) (frame_bytes source new)

-- No bytes begin with two headers, with a header and a fault of one, or with two faults.
abbrev pub StartIsUnambiguous : Option StreamFormat → Type 0
StartIsUnambiguous stream = IsUnambiguous (StartedCode stream) (HeaderBytesFault stream)

-- ---- the rest of a frame, after these bytes of its header

-- the bytes that complete a frame of this block
abbrev pub RestOf : Option StreamFormat → List ℕ → Block → List ℕ → Type 0
RestOf stream header block t = Frame stream block (header ++ t)

-- those that complete a frame with this fault
abbrev pub RestFault : Option StreamFormat → List ℕ → Fault → List ℕ → Type 0
RestFault stream header f t = FrameBytesFault stream f (header ++ t)

-- P holds of the bytes of each header that says this.
abbrev pub ForHeaders : Option StreamFormat → StartedFrame → (List ℕ → Type 0) → Type 0
ForHeaders stream started P =
    (header : List ℕ) → StartedCode stream (started_view started) header → P header

-- what a call returns that reads the rest
abbrev pub RestAnswer : Type 0
RestAnswer = Result BlockValue Error

-- what it says of the whole frame
abbrev pub whole_answer : {A : Type 0} → Result A Error → Result (Option A) Error
whole_answer (Ok block) = Ok (Some block)
whole_answer (Err e) = Err e

-- Nothing was consumed, and the block has more samples than this capacity.
pub record RestTooSmall (started : Started) (capacity : ℕ) (old new : State ℕ) : Type 0 where
  pub nothing : Consumes old new (λ s m. s ≡ m)
  pub small : capacity < channel_count started.start.channel_code * started.start.size

-- ---- the clauses of `read_rest`. `old` and `new` are the reader before and after the call.

module _ {R : Type 0} (source : R → Source ℕ) (old : FrameReader R) (started : StartedFrame)
    (result : RestAnswer) (new : FrameReader R) where
  -- The header and the consumed bytes are a frame of the block that is returned.
  abbrev pub RestIsSound : Type 0
  RestIsSound =
      ForHeaders (frame_stream old) started (λ header.
      CodeIsSound block_view result (RestOf (frame_stream old) header)
      (frame_bytes source old) (frame_bytes source new))

  -- If the bytes complete a frame, its block is returned and just they are consumed, or memory
  -- or the source failed.
  abbrev pub RestIsComplete : Type 0
  RestIsComplete =
      ForHeaders (frame_stream old) started (λ header.
      CodeIsComplete block_view result (RestOf (frame_stream old) header)
      (frame_bytes source old) (frame_bytes source new))

  -- If a read of the source fails, the result is an Err.
  abbrev pub RestFailureIsErr : Type 0
  RestFailureIsErr =
      IfOk result (λ block.
      (frame_bytes source new).source.errors ≡ (frame_bytes source old).source.errors)

  -- An Err other than `OutOfMemory` and `IoError` is a fault of the header and the consumed bytes.
  abbrev pub RestFaultIsSound : Type 0
  RestFaultIsSound =
      ForHeaders (frame_stream old) started (λ header.
      FaultIsSound result (RestFault (frame_stream old) header)
      (frame_bytes source old) (frame_bytes source new))

  -- If header and bytes begin with a fault, its Err is returned and just its bytes are consumed,
  -- or memory or the source failed.
  abbrev pub RestFaultIsComplete : Type 0
  RestFaultIsComplete =
      ForHeaders (frame_stream old) started (λ header.
      FaultIsComplete result (RestFault (frame_stream old) header)
      (frame_bytes source old) (frame_bytes source new))

  -- If header and bytes begin with neither, the input ends inside the frame or has a run of 2^32
  -- zero bits: the Err is an `IoError` or `OutOfMemory`.
  abbrev pub RestElseIoError : Type 0
  RestElseIoError =
      ForHeaders (frame_stream old) started (λ header.
      ElseIoError result (RestOf (frame_stream old) header) (RestFault (frame_stream old) header)
      (frame_bytes source old) (frame_bytes source new))

  -- After an Err the remaining bytes are a suffix of those before the call.
  abbrev pub RestLeavesRest : Type 0
  RestLeavesRest = LeavesRest result (frame_bytes source old) (frame_bytes source new)

  -- The result and the consumed bytes are those of the format's reader.
  abbrev pub RestIsRead : Type 0
  RestIsRead =
      GivesOrOutOfMemory block_view result (rest_at (started_view started))
      (frame_bytes source old) (frame_bytes source new)

-- After the bytes of its header the rest is read as the whole frame is.
abbrev pub RestReadsFrame : Option StreamFormat → StartedFrame → Type 0
RestReadsFrame stream started =
    ForHeaders stream started (λ header.
    (s : List ℕ) → rest_at (started_view started) s ≡ frame_bytes_at stream (header ++ s))

-- `OutOfMemory` is returned only if nothing was consumed, and the block has more samples than the
-- buffer's capacity.
abbrev pub RestOutOfMemoryKeepsBytes : {R : Type 0} → (R → Source ℕ) → ℕ → FrameReader R
    → StartedFrame → RestAnswer → FrameReader R → Type 0
RestOutOfMemoryKeepsBytes source capacity old started result new =
    IsOutOfMemory result
    → (capacity < (started_info started).channels * (started_info started).duration)
    × Consumed (frame_bytes source old) (frame_bytes source new) (λ t. t ≡ [])

-- The capacity for the greatest number of samples of a block is always enough.
abbrev pub RestMaxCapacityIsEnough : ℕ → RestAnswer → Type 0
RestMaxCapacityIsEnough capacity result = IsOutOfMemory result → capacity < max_block_samples

-- The block has capacity for its samples, and no less than the buffer had.
abbrev pub RestKeepsCapacity : ℕ → RestAnswer → Type 0
RestKeepsCapacity capacity result =
    IfOk result (λ block.
    (length block.channels * duration_of block.channels ≤ block.capacity)
    × (capacity ≤ block.capacity))

-- The block has channels, and these have samples.
abbrev pub RestHasSamples : RestAnswer → Type 0
RestHasSamples result =
    IfOk result (λ block. (1 ≤ length block.channels) × (1 ≤ duration_of block.channels))

-- The header says this of the block.
abbrev pub RestIsSaid : StartedFrame → RestAnswer → Type 0
RestIsSaid started result =
    IfOk result (λ block. SaysBlock (started_info started) (block_view block))
