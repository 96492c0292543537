-- The metadata blocks of the code as values of the format, and what holds of each one that was
-- read (RFC 9639, section 8).
use Rattle.std.specs.Prelude.{
  ◌≡◌,
  ◌⊎◌,
  ◌++◌,
  Bool,
  Result,
  ℕ,
  ◌-◌,
  ◌<◌,
  ◌≤◌,
  List,
  Option,
  None,
  Some,
  IfSome,
}
use Rattle.claxon_format.specs.MetadataBlocks.{
  Content,
  Info,
  Padding,
  Application,
  Comments,
  Reserved,
  MetadataBlock as Block,
  BlockCode,
}
use Rattle.claxon_format.specs.read.MetadataBlocks.{block_at}
use Rattle.claxon_format.specs.Metadata.{BlockHeader, BlockHeaderCode, max_content_bytes}
use Rattle.claxon_format.specs.read.Reading.{Reading, and_then, done}
use Rattle.claxon_format.specs.Codes.{Mapped}
use Rattle.claxon_format.specs.Streaminfo.{Streaminfo}
use Rattle.claxon_format.specs.read.Streaminfo.{StreaminfoSizes, StreaminfoFormat}
use Rattle.claxon_input.specs.declared.error.Error.{Error}
use Rattle.claxon_input.specs.Promises.{IsOutOfMemory}
use Rattle.claxon_input.specs.State.{State, RemainingIsKnown}
use Rattle.claxon_metadata.specs.declared.metadata.streaminfo.StreamInfo.{StreamInfo}
use Rattle.claxon_metadata.specs.declared.metadata.streaminfo.SizeBounds.{SizeBounds}
use Rattle.claxon_metadata.specs.declared.metadata.streaminfo.SampleFormat.{SampleFormat}
use Rattle.claxon_metadata.specs.declared.metadata.MetadataBlockHeader.{MetadataBlockHeader}
use Rattle.claxon_metadata.specs.declared.metadata.MetadataBlock.{MetadataBlock}
use Rattle.claxon_metadata.specs.declared.metadata.MetadataBlock.TheVariants.{
  StreamInfo as InfoBlock,
  Padding as PaddingBlock,
  Application as ApplicationBlock,
  SeekTable,
  VorbisComment as CommentBlock,
  CueSheet,
  Picture,
  Reserved as ReservedBlock,
}
use Rattle.claxon_metadata.specs.VorbisComment.{HasVendorLength, comment_view}
use Rattle.claxon_metadata.specs.TagEntries.{HaveSeparatorIndices}

-- an unknown number is written as 0
abbrev pub or_zero : Option ℕ → ℕ
or_zero None = 0
or_zero (Some n) = n

-- a streaminfo (section 8.2)
abbrev pub info_view : StreamInfo → Streaminfo
info_view info = record {
  min_block_size = info.min_block_size;
  max_block_size = info.max_block_size;
  min_frame_size = or_zero info.min_frame_size;
  max_frame_size = or_zero info.max_frame_size;
  rate = info.sample_rate;
  channels = info.channels;
  bit_depth = info.bits_per_sample;
  samples = or_zero info.samples;
  md5 = info.md5sum;
}

-- the header of a block (section 8.1)
abbrev pub header_view : MetadataBlockHeader → BlockHeader
header_view header =
    record { is_last = header.is_last; type = header.block_type; length = header.length }

-- the bounds of the block and frame sizes
abbrev pub sizes_view : SizeBounds → StreaminfoSizes
sizes_view sizes = record {
  min_block_size = sizes.min_block_size;
  max_block_size = sizes.max_block_size;
  min_frame_size = sizes.min_frame_size;
  max_frame_size = sizes.max_frame_size;
}

-- the format of the samples, and their number
abbrev pub format_view : SampleFormat → StreaminfoFormat
format_view format = record {
  rate = format.sample_rate;
  channels = format.channels;
  bit_depth = format.bits_per_sample;
  samples = format.samples;
}

-- the content of a block that is returned; the last three never are
abbrev pub content_view : {A : Type 0} → MetadataBlock A → Content
content_view (InfoBlock info) = Info (info_view info)
content_view (PaddingBlock length) = Padding length
content_view (ApplicationBlock id bytes) = Application id bytes.items
content_view (CommentBlock comment) = Comments (comment_view comment)
content_view ReservedBlock = Reserved
content_view (SeekTable table) = Reserved
content_view CueSheet = Reserved
content_view Picture = Reserved

-- a block with its last-block flag
abbrev pub metadata_block_view : {A : Type 0} → Bool → MetadataBlock A → Block
metadata_block_view is_last block = record { is_last = is_last; content = content_view block }

-- Only application and Vorbis comment blocks allocate memory, and only if their length is valid.
abbrev pub MayAllocate : ℕ → ℕ → Type 0
MayAllocate type length =
    (((type ≡ 2) × (4 ≤ length)) ⊎ ((type ≡ 4) × (8 ≤ length))) × (length ≤ max_content_bytes)

-- A Vorbis comment block allocates only if its bytes begin with a vendor length that fits.
abbrev pub MayRunOutOfMemory : ℕ → ℕ → List ℕ → Type 0
MayRunOutOfMemory type length s =
    MayAllocate type length × (type ≡ 4 → HasVendorLength (length - 8) s)

-- `OutOfMemory` is returned only after the header of an application or Vorbis comment block of a
-- valid length; for a Vorbis comment block only if a vendor length that fits follows.
abbrev pub OutOfMemoryAfterBlockHeader : {A : Type 0} → Result A Error → State ℕ → Type 0
OutOfMemoryAfterBlockHeader r old =
    IsOutOfMemory r → RemainingIsKnown old → (h : BlockHeader) × (x : List ℕ) × (rest : List ℕ)
    × BlockHeaderCode h x × MayRunOutOfMemory h.type h.length rest × (old.remaining ≡ x ++ rest)

-- a block, of which only the content matters: not its last-block flag
abbrev pub ContentCode : Content → List ℕ → Type 0
ContentCode = Mapped (λ block. block.content) BlockCode

-- its reader
unfoldable pub content_at : List ℕ → Reading ℕ Content
content_at = and_then block_at (λ block. done block.content)

-- 1 to 8 channels, 1 to 32 bits per sample, and no 0 in place of None (RFC 9639, section 8.2)
pub record HasBounds (info : StreamInfo) : Type 0 where
  pub some_channels : 1 ≤ info.channels
  pub channels : info.channels ≤ 8
  pub some_bits : 1 ≤ info.bits_per_sample
  pub bits : info.bits_per_sample ≤ 32
  pub min_frame_size : IfSome info.min_frame_size (λ n. 0 < n)
  pub max_frame_size : IfSome info.max_frame_size (λ n. 0 < n)
  pub samples : IfSome info.samples (λ n. 0 < n)

-- a streaminfo is in its bounds, and each comment entry has its separator; a seek table, a cue
-- sheet or a picture is never returned
abbrev pub BlockHasBounds : {A : Type 0} → MetadataBlock A → Type 0
BlockHasBounds (InfoBlock info) = HasBounds info
BlockHasBounds (CommentBlock comment) = HaveSeparatorIndices comment.comments.items
BlockHasBounds (SeekTable table) = ⊥
BlockHasBounds CueSheet = ⊥
BlockHasBounds Picture = ⊥
BlockHasBounds _ = Unit {0}
