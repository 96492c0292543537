-- The frame header of the code as values of the format (RFC 9639, section 9.1).
use Rattle.std.specs.Prelude.{ℕ, Option, Some, None, Result}
use Rattle.claxon_format.specs.Frame.{StreamFormat}
use Rattle.claxon_format.specs.Header.{Fields}
use Rattle.claxon_format.specs.read.Frame.{Start, start_at}
use Rattle.claxon_format.specs.read.Header.{SizeCoding, ByCode, InByte, InTwoBytes}
use Rattle.claxon_input.specs.Gives.{GivesOrEof}
use Rattle.claxon_input.specs.Source.{Source}
use Rattle.claxon_input.specs.State.{bytes_in}
use Rattle.claxon_input.specs.declared.error.Error.{Error}
use Rattle.claxon_frame.specs.declared.frame.header.parts.BlockSize.{BlockSize}
use Rattle.claxon_frame.specs.declared.frame.header.parts.BlockSize.TheVariants.{
  Known as KnownSize,
  Read8 as SizeOf8,
  Read16 as SizeOf16,
}
use Rattle.claxon_frame.specs.declared.frame.header.parts.FrameHeader.{FrameHeader}
use Rattle.claxon_frame.specs.declared.frame.header.parts.HeaderFields.{HeaderFields}
use Rattle.claxon_frame.specs.declared.frame.header.parts.KnownStreamFormat.{KnownStreamFormat}
use Rattle.claxon_frame.specs.FrameHeader.{channel_code, block_time_view, bit_depth_code}

-- how the block size is coded
abbrev pub size_view : BlockSize → SizeCoding
size_view (KnownSize n) = ByCode n
size_view SizeOf8 = InByte
size_view SizeOf16 = InTwoBytes

-- the fields of a header
abbrev pub fields_view : HeaderFields → Fields
fields_view h = record {
  variable = (block_time_view h.block_time).0;
  size = h.block_size;
  sample_rate = h.sample_rate;
  channel_code = channel_code h.channel_assignment;
  bit_depth_code = bit_depth_code h.bit_depth;
  number = (block_time_view h.block_time).1;
}

-- what it says of its block
abbrev pub start_view : FrameHeader → Start
start_view h = record {
  time = h.time;
  size = h.block_size;
  channel_code = channel_code h.channel_assignment;
  bit_depth = h.bit_depth;
  sample_rate = h.sample_rate;
  variable = (block_time_view h.block_time).0;
  number = (block_time_view h.block_time).1;
  header_bit_depth = h.header_bit_depth;
}

-- what is known of the stream
abbrev pub stream_format_view : Option KnownStreamFormat → Option StreamFormat
stream_format_view None = None
stream_format_view (Some format) = Some record {
  bit_depth = format.bit_depth;
  min_block_size = format.min_block_size;
  max_block_size = format.max_block_size;
}

-- ---- what the call that reads a header promises

-- The result and the consumed bytes are those of the format's reader, or fewer than two bytes
-- were left, which are consumed.
abbrev pub FrameHeaderIsRead : {R : Type 0} → (R → Source ℕ) → Option StreamFormat → R
    → Result (Option FrameHeader) Error → R → Type 0
FrameHeaderIsRead source stream old result new =
    GivesOrEof 2 start_view result (start_at stream) (bytes_in source old) (bytes_in source new)
