-- What a frame header says of its block, and a call that reads a header alone.
use Rattle.std.specs.Prelude.{
  ◌≡◌,
  ◌⊎◌,
  ℕ,
  ◌<◌,
  ◌≤◌,
  List,
  [],
  length,
  Option,
  None,
  IfOk,
  IfSome,
  Result,
  Ok,
}
use Rattle.claxon_format.specs.Bits.{bits_of}
use Rattle.claxon_format.specs.Fault.{Fault}
use Rattle.claxon_format.specs.Frame.{
  Block,
  StreamFormat,
  ByteAlignedFault,
  known_bit_depth,
  time_of,
}
use Rattle.claxon_format.specs.FrameWriter.{channel_count}
use Rattle.claxon_format.specs.Header.{Header, HeaderCode, HeaderFault, bit_depth_of_code}
use Rattle.claxon_format.specs.Streams.{duration_of}
use Rattle.claxon_format.specs.Unambiguous.{IsUnambiguous}
use Rattle.claxon_format.specs.read.Frame.{Start, start_at}
use Rattle.claxon_format.specs.read.Reading.{Reading, and_then, done}
use Rattle.claxon_input.specs.declared.error.Error.{Error}
use Rattle.claxon_input.specs.Gives.{GivesOrEof}
use Rattle.claxon_input.specs.Promises.{
  FoundIsComplete,
  Remains,
  ElseIoErrorFrom,
  ReadFailed,
  LeavesRest,
  FaultIsComplete,
  NoneIsEof,
  FaultIsSound,
  FoundIsSound,
}
use Rattle.claxon_input.specs.Source.{Source}
use Rattle.claxon_input.specs.State.{bytes_in}
use Rattle.claxon_frame.specs.FrameReader.{frame_bytes, frame_stream}
use Rattle.claxon_frame.specs.FrameStart.{start_view}
use Rattle.claxon_frame.specs.declared.frame.FrameReader.{FrameReader}
use Rattle.claxon_frame.specs.declared.frame.header.parts.FrameHeader.{FrameHeader}
use Rattle.claxon_frame.specs.declared.frame.info.BlockInfo.{BlockInfo}

-- what a header says of its block, in this stream
abbrev pub block_info : Option StreamFormat → Header → BlockInfo
block_info stream h = record {
  time = time_of stream h.fields;
  channels = channel_count h.fields.channel_code;
  duration = h.fields.size;
  bit_depth = h.bit_depth;
  header_bit_depth = bit_depth_of_code None h.fields.bit_depth_code;
  sample_rate = h.fields.sample_rate;
  is_variable = h.fields.variable;
  number = h.fields.number;
}

-- It says this of the block.
pub record SaysBlock (info : BlockInfo) (b : Block) : Type 0 where
  pub time : info.time ≡ b.time
  pub channels : info.channels ≡ length b.channels
  pub duration_is : info.duration ≡ duration_of b.channels

-- The bytes of a header that says this of its block.
abbrev pub HeaderOf : Option StreamFormat → BlockInfo → List ℕ → Type 0
HeaderOf stream info t =
    (h : Header) × HeaderCode (known_bit_depth stream) h (bits_of t) × (info ≡ block_info stream h)

-- the faults of a header, in bytes
abbrev pub HeaderBytesFault : Option StreamFormat → Fault → List ℕ → Type 0
HeaderBytesFault stream = ByteAlignedFault (HeaderFault (known_bit_depth stream))

-- what a call returns that reads a header
abbrev pub HeaderAnswer : Type 0
HeaderAnswer = Result (Option BlockInfo) Error

-- There are 1 to 8 channels, and 1 to 65,535 samples of each.
abbrev pub HasBlockBounds : HeaderAnswer → Type 0
HasBlockBounds result =
    IfOk result (λ found. IfSome found (λ info. (1 ≤ info.channels) × (info.channels ≤ 8)
    × (1 ≤ info.duration) × (info.duration < 65536)))

-- ---- by the format's reader

abbrev pub info_of_start : Start → BlockInfo
info_of_start start = record {
  time = start.time;
  channels = channel_count start.channel_code;
  duration = start.size;
  bit_depth = start.bit_depth;
  header_bit_depth = start.header_bit_depth;
  sample_rate = start.sample_rate;
  is_variable = start.variable;
  number = start.number;
}

abbrev pub info_of_header : FrameHeader → BlockInfo
info_of_header header = info_of_start (start_view header)

-- the reader of a header
abbrev pub header_info_at : Option StreamFormat → List ℕ → Reading ℕ BlockInfo
header_info_at stream = and_then (start_at stream) (λ start. done (info_of_start start))

-- The result and the consumed bytes are those of the format's reader, or fewer than two bytes
-- were left, which are consumed.
abbrev pub HeaderInfoIsRead : {R : Type 0} → (R → Source ℕ) → Option StreamFormat → R
    → HeaderAnswer → R → Type 0
HeaderInfoIsRead source stream old result new =
    GivesOrEof 2 (λ info. info) result (header_info_at stream) (bytes_in source old) (
    bytes_in source new)

-- ---- the clauses of `read_header_or_eof`. `old` and `new` are the reader before and after the
-- call.

module _ {R : Type 0} (source : R → Source ℕ) (old : FrameReader R) (result : HeaderAnswer)
    (new : FrameReader R) where
  -- The consumed bytes are a header that says what is returned.
  abbrev pub HeaderIsSound : Type 0
  HeaderIsSound =
      FoundIsSound (λ info. info) result (HeaderOf (frame_stream old))
      (frame_bytes source old) (frame_bytes source new)

  -- If the bytes begin with a header, what it says is returned and just its bytes are
  -- consumed, or the source failed.
  abbrev pub HeaderIsComplete : Type 0
  HeaderIsComplete =
      FoundIsComplete (λ info. info) result (HeaderOf (frame_stream old))
      (frame_bytes source old) (frame_bytes source new)

  -- None is returned only if fewer than two bytes were left, which were consumed.
  abbrev pub HeaderNoneIsEof : Type 0
  HeaderNoneIsEof = NoneIsEof 2 result (frame_bytes source old) (frame_bytes source new)

  -- If fewer than two bytes are left, they are consumed and None is returned, or the source failed.
  abbrev pub HeaderEofIsNone : Type 0
  HeaderEofIsNone = (xs : List ℕ) → Remains (frame_bytes source old) xs → length xs < 2
      → ((result ≡ Ok None) × Remains (frame_bytes source new) [])
      ⊎ ReadFailed result (frame_bytes source old) (frame_bytes source new)

  -- If a read of the source fails, the result is an Err.
  abbrev pub HeaderFailureIsErr : Type 0
  HeaderFailureIsErr =
      IfOk result (λ found.
      (frame_bytes source new).source.errors ≡ (frame_bytes source old).source.errors)

  -- An Err other than `IoError` is a fault of the consumed bytes.
  abbrev pub HeaderFaultIsSound : Type 0
  HeaderFaultIsSound =
      FaultIsSound result (HeaderBytesFault (frame_stream old))
      (frame_bytes source old) (frame_bytes source new)

  -- If the bytes begin with a fault, its Err is returned and just its bytes are consumed, or
  -- the source failed.
  abbrev pub HeaderFaultIsComplete : Type 0
  HeaderFaultIsComplete =
      FaultIsComplete result (HeaderBytesFault (frame_stream old))
      (frame_bytes source old) (frame_bytes source new)

  -- If at least two bytes are left and they begin with neither, the input ends inside the
  -- header: the Err is an `IoError`.
  abbrev pub HeaderElseIoError : Type 0
  HeaderElseIoError =
      ElseIoErrorFrom 2 result (HeaderOf (frame_stream old)) (HeaderBytesFault (frame_stream old))
      (frame_bytes source old) (frame_bytes source new)

  -- After an Err the remaining bytes are a suffix of those before the call.
  abbrev pub HeaderLeavesRest : Type 0
  HeaderLeavesRest = LeavesRest result (frame_bytes source old) (frame_bytes source new)

  -- The result and the consumed bytes are those of the format's reader.
  abbrev pub HeaderIsRead : Type 0
  HeaderIsRead =
      GivesOrEof 2 (λ info. info) result (header_info_at (frame_stream old))
      (frame_bytes source old) (frame_bytes source new)

-- No bytes begin with two headers, with a header and a fault of one, or with two faults.
abbrev pub HeaderIsUnambiguous : Option StreamFormat → Type 0
HeaderIsUnambiguous stream = IsUnambiguous (HeaderOf stream) (HeaderBytesFault stream)
