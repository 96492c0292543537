-- A frame that is read, and whether it is refused because its samples have 32 bits.
use Rattle.std.specs.Prelude.{
  ◌≡◌,
  ◌↔◌,
  ◌≤◌,
  ℕ,
  List,
  length,
  take,
  Option,
  None,
  Some,
  IfErr,
  IfOk,
  IfSome,
  IsTrue,
  Ok,
  Err,
  Result,
}
use Rattle.claxon.specs.Bits.{bits_of, number}
use Rattle.claxon.specs.Block.{BlockValue}
use Rattle.claxon.specs.DecodedFrame.{FrameWithHeader, decoded_view}
use Rattle.claxon.specs.DecodedFrames.{DecodedFrame}
use Rattle.claxon.specs.Error.{IsFault}
use Rattle.claxon.specs.Errors.{Error}
use Rattle.claxon.specs.Fault.{BitDepthReserved, Fault}
use Rattle.claxon.specs.Frame.{Frame, FrameBytesFault, StreamFormat}
use Rattle.claxon.specs.FrameReader.{
  FrameAnswer,
  OutOfMemoryBeyondCapacity,
  ReadsFrame,
  stream_with,
}
use Rattle.claxon.specs.Header.{says_32_bits}
use Rattle.claxon.specs.Prefix.{BeginsWith}
use Rattle.claxon.specs.Promises.{Consumed, HasNeither}
use Rattle.claxon.specs.Source.{Source}
use Rattle.claxon.specs.State.{State, RemainingIsKnown, bytes_in}
use Rattle.claxon.specs.StreamInfos.{StreamInfo}
use Rattle.claxon.specs.read.Bytes.{big_endian}
use Rattle.claxon_blocks.specs.FirstBytes.{AreFirst}
use Rattle.claxon_blocks.specs.declared.frames.FrameError.{FrameError}
use Rattle.claxon_blocks.specs.declared.frames.first_bytes.FirstBytes.{FirstBytes}

-- m begins with neither a frame nor a fault: it ends inside the frame, or that has a run of 2^32
-- zero bits.
abbrev pub IsNotWhole : Option StreamFormat → List ℕ → Type 0
IsNotWhole stream m = (2 ≤ length m) × HasNeither (Frame stream) (FrameBytesFault stream) m

-- The bytes begin with four that begin a header with the bit depth code for 32 bits.
abbrev pub Says32Bits : List ℕ → Type 0
Says32Bits = BeginsWith (λ t. (length t ≡ 4) × IsTrue (says_32_bits (big_endian t)))

-- The error says that a value in the header is reserved, and the bytes say that it is this code.
abbrev pub Is32BitFault : List ℕ → Error → Type 0
Is32BitFault s error = IsFault BitDepthReserved error × Says32Bits s

-- The first four bytes were read, and begin such a header.
abbrev pub FourSay32Bits : FirstBytes → Type 0
FourSay32Bits first =
    (4 ≤ first.seen) × IsTrue (says_32_bits (number (bits_of (take 4 first.bytes))))

-- The error says that a value is reserved, and the first bytes are of such a header: what was
-- reserved is the bit depth code for 32 bits.
abbrev pub IsOf32Bits : Error → FirstBytes → Type 0
IsOf32Bits error first = IsFault BitDepthReserved error × FourSay32Bits first

-- the decoder's answer, where `block` is the block of what was found
abbrev pub decoder_answer : {A : Type 0} → (A → BlockValue) → Result (Option A) FrameError
    → FrameAnswer
decoder_answer block (Ok (Some found)) = Ok (Some (block found))
decoder_answer block (Ok None) = Ok None
decoder_answer block (Err e) = Err e.error

-- the same, where the block itself was found
abbrev pub answer_of : Result (Option BlockValue) FrameError → FrameAnswer
answer_of (Ok found) = Ok found
answer_of (Err e) = Err e.error

-- An Err says exactly where it is so that a frame of 32-bit samples is refused.
abbrev pub TellsOf32Bits : {A : Type 0} → Result (Option A) FrameError → State ℕ → Type 0
TellsOf32Bits r old =
    IfErr r (λ e. RemainingIsKnown old → IsTrue e.is_32_bit ↔ Is32BitFault old.remaining e.error)

-- An Err that names a fault has the first of the bytes that are no frame.
abbrev pub KeepsFirstBytes : {A : Type 0} → Result (Option A) FrameError → State ℕ → State ℕ
    → Type 0
KeepsFirstBytes r old new =
    IfErr r (λ e. (f : Fault) → IsFault f e.error → RemainingIsKnown old
    → AreFirst e.first old.remaining new.remaining)

-- ---- the header of a frame that is read

-- the block of a decoded frame
abbrev pub frame_block : {A : Type 0} → DecodedFrame A → BlockValue
frame_block frame = frame.block

-- Of a frame just its bytes were consumed, and their header says what is returned.
abbrev pub HasHeader : {A : Type 0} → Option StreamFormat
    → Result (Option (DecodedFrame A)) FrameError → State ℕ → State ℕ → Type 0
HasHeader stream r old new =
    IfOk r (λ found. IfSome found (λ frame.
    Consumed old new (FrameWithHeader stream (decoded_view frame))))

-- ---- the clauses of `read_frame` and `read_block`, of the stream with this streaminfo. `old` and
-- `new` are the input before and after the call.

module _ {R : Type 0} (source : R → Source ℕ) (info : StreamInfo) (old : R) where
  -- But for the header it is what `FrameReader::read_next_or_eof` returns and consumes.
  abbrev pub StreamFrameIsRead : {A : Type 0} → Result (Option (DecodedFrame A)) FrameError → R
      → Type 0
  StreamFrameIsRead result new =
      ReadsFrame (Some (stream_with info)) (decoder_answer frame_block result)
      (bytes_in source old) (bytes_in source new)

  -- It is what `FrameReader::read_next_or_eof` returns and consumes.
  abbrev pub StreamBlockIsRead : Result (Option BlockValue) FrameError → R → Type 0
  StreamBlockIsRead result new =
      ReadsFrame (Some (stream_with info)) (answer_of result)
      (bytes_in source old) (bytes_in source new)

  -- Of a frame just its bytes were consumed, and their header says what is returned.
  abbrev pub StreamFrameHasHeader : {A : Type 0} → Result (Option (DecodedFrame A)) FrameError → R
      → Type 0
  StreamFrameHasHeader result new =
      HasHeader (Some (stream_with info)) result (bytes_in source old) (bytes_in source new)

  -- `OutOfMemory` is returned only if just a header was consumed, whose block has more samples than
  -- this capacity.
  abbrev pub StreamFrameOutOfMemoryAfterHeader : {A : Type 0} → ℕ
      → Result (Option (DecodedFrame A)) FrameError → R → Type 0
  StreamFrameOutOfMemoryAfterHeader capacity result new =
      OutOfMemoryBeyondCapacity (Some (stream_with info)) capacity
      (decoder_answer frame_block result) (bytes_in source old) (bytes_in source new)

  -- the same, where the block itself is returned
  abbrev pub StreamBlockOutOfMemoryAfterHeader : ℕ → Result (Option BlockValue) FrameError → R
      → Type 0
  StreamBlockOutOfMemoryAfterHeader capacity result new =
      OutOfMemoryBeyondCapacity (Some (stream_with info)) capacity (answer_of result)
      (bytes_in source old) (bytes_in source new)
