-- The clauses of the calls that read a metadata block (RFC 9639, section 8). `old` and `new` are
-- the reader before and after the call.
use Rattle.std.specs.Prelude.{◌≡◌, ◌+◌, ◌-◌, ◌++◌, ℕ, Bool, List, Result, IfOk}
use Rattle.claxon_format.specs.read.Comments.{comment_at}
use Rattle.claxon_format.specs.Metadata.{BlockHeader, BlockHeaderCode}
use Rattle.claxon_format.specs.MetadataBlocks.{BlockFault, Body, BodyFault}
use Rattle.claxon_format.specs.read.MetadataBlocks.{block_at, body_at, info_body_at}
use Rattle.claxon_input.specs.Gives.{Gives, GivesOrOutOfMemory}
use Rattle.claxon_input.specs.Promises.{
  CodeIsComplete,
  Remains,
  ElseIoError,
  IsOutOfMemory,
  LeavesRest,
  FaultIsComplete,
  ConsumesAtMost,
  CodeIsSound,
  FaultIsSound,
}
use Rattle.claxon_input.specs.Source.{Source}
use Rattle.claxon_input.specs.State.{bytes_in}
use Rattle.claxon_input.specs.declared.error.Error.{Error}
use Rattle.claxon_metadata.specs.MetadataBlock.{
  ContentCode,
  BlockHasBounds,
  MayAllocate,
  content_at,
  content_view,
  info_view,
  metadata_block_view,
}
use Rattle.claxon_metadata.specs.VorbisComment.{OutOfMemoryAfterVendorLength, comment_view}
use Rattle.claxon_metadata.specs.declared.metadata.MetadataBlock.{MetadataBlock}
use Rattle.claxon_metadata.specs.declared.metadata.VorbisComment.{VorbisComment}
use Rattle.claxon_metadata.specs.declared.metadata.streaminfo.StreamInfo.{StreamInfo}

-- what a call returns
abbrev pub MetadataAnswer : Type 0 → Type 0
MetadataAnswer A = Result (MetadataBlock A) Error

-- A block that is returned is in the bounds of the format.
abbrev pub ResultHasBounds : {A : Type 0} → MetadataAnswer A → Type 0
ResultHasBounds result = IfOk result (λ block. BlockHasBounds block)

-- After an Err the remaining bytes are a suffix of those before the call.
abbrev pub MetadataBlockLeavesRest : {R A : Type 0} → (R → Source ℕ) → R → MetadataAnswer A → R
    → Type 0
MetadataBlockLeavesRest source old result new =
    LeavesRest result (bytes_in source old) (bytes_in source new)

-- Whatever is returned, at most n bytes are consumed.
abbrev pub AtMostIsConsumed : {R : Type 0} → (R → Source ℕ) → ℕ → R → R → Type 0
AtMostIsConsumed source n old new = ConsumesAtMost n (bytes_in source old) (bytes_in source new)

-- ---- the content of a block of this type and length

module _ {R A : Type 0} (source : R → Source ℕ) (type length : ℕ) (old : R)
    (result : MetadataAnswer A) (new : R) where
  -- The consumed bytes are the content that is returned.
  abbrev pub ContentIsSound : Type 0
  ContentIsSound =
      CodeIsSound content_view result (Body type length) (bytes_in source old) (bytes_in source new)

  -- If the bytes begin with a content, it is returned and just its bytes are consumed, or
  -- memory or the source failed.
  abbrev pub ContentIsComplete : Type 0
  ContentIsComplete =
      CodeIsComplete content_view result (Body type length)
      (bytes_in source old) (bytes_in source new)

  -- An Err other than `OutOfMemory` and `IoError` is a fault of the consumed bytes.
  abbrev pub ContentFaultIsSound : Type 0
  ContentFaultIsSound =
      FaultIsSound result (BodyFault type length) (bytes_in source old) (bytes_in source new)

  -- If the bytes begin with a fault, its Err is returned and just its bytes are consumed, or
  -- memory or the source failed.
  abbrev pub ContentFaultIsComplete : Type 0
  ContentFaultIsComplete =
      FaultIsComplete result (BodyFault type length) (bytes_in source old) (bytes_in source new)

  -- If they begin with neither, the input ends inside the content: the Err is an `IoError` or
  -- `OutOfMemory`.
  abbrev pub ContentElseIoError : Type 0
  ContentElseIoError =
      ElseIoError result (Body type length) (BodyFault type length)
      (bytes_in source old) (bytes_in source new)

  -- The result and the consumed bytes are those of the format's reader.
  abbrev pub ContentIsRead : Type 0
  ContentIsRead =
      GivesOrOutOfMemory content_view result (body_at type length)
      (bytes_in source old) (bytes_in source new)

-- `OutOfMemory` is returned only for an application or Vorbis comment block of a valid length; for
-- a Vorbis comment block only if the bytes begin with a vendor length that fits into the block.
abbrev pub ContentOutOfMemoryAfterLengths : {R A : Type 0} → (R → Source ℕ) → ℕ → ℕ → R
    → MetadataAnswer A → Type 0
ContentOutOfMemoryAfterLengths source type length old result =
    (IsOutOfMemory result → MayAllocate type length)
    × (type ≡ 4 → OutOfMemoryAfterVendorLength (length - 8) result (bytes_in source old))

-- ---- a block with its header

module _ {R A : Type 0} (source : R → Source ℕ) (old : R) (result : MetadataAnswer A) (new : R)
  where
    -- The consumed bytes are a header and the content that is returned.
    abbrev pub MetadataBlockIsSound : Type 0
    MetadataBlockIsSound =
        CodeIsSound content_view result ContentCode (bytes_in source old) (bytes_in source new)

    -- If the bytes begin with a block, its content is returned and just its bytes are consumed,
    -- or memory or the source failed.
    abbrev pub MetadataBlockIsComplete : Type 0
    MetadataBlockIsComplete =
        CodeIsComplete content_view result ContentCode (bytes_in source old) (bytes_in source new)

    -- An Err other than `OutOfMemory` and `IoError` is a fault of the consumed bytes.
    abbrev pub MetadataBlockFaultIsSound : Type 0
    MetadataBlockFaultIsSound =
        FaultIsSound result BlockFault (bytes_in source old) (bytes_in source new)

    -- If the bytes begin with a fault, its Err is returned and just its bytes are consumed, or
    -- memory or the source failed.
    abbrev pub MetadataBlockFaultIsComplete : Type 0
    MetadataBlockFaultIsComplete =
        FaultIsComplete result BlockFault (bytes_in source old) (bytes_in source new)

    -- If they begin with neither, the input ends inside the block: the Err is an `IoError` or
    -- `OutOfMemory`.
    abbrev pub MetadataBlockElseIoError : Type 0
    MetadataBlockElseIoError =
        ElseIoError result ContentCode BlockFault (bytes_in source old) (bytes_in source new)

    -- The result and the consumed bytes are those of the format's reader.
    abbrev pub MetadataBlockIsRead : Type 0
    MetadataBlockIsRead =
        GivesOrOutOfMemory content_view result content_at
        (bytes_in source old) (bytes_in source new)

-- Whatever is returned, if the bytes begin with a header at most its four bytes and the length
-- that it gives are consumed.
abbrev pub AtMostBlockIsConsumed : {R : Type 0} → (R → Source ℕ) → R → R → Type 0
AtMostBlockIsConsumed source old new =
    (h : BlockHeader) (x rest : List ℕ) → BlockHeaderCode h x
    → Remains (bytes_in source old) (x ++ rest) → AtMostIsConsumed source (4 + h.length) old new

-- ---- private calls

-- A block with its last-block flag: the result and the consumed bytes are those of the format's
-- reader.
abbrev pub MetadataBlockAndFlagIsRead : {R A : Type 0} → (R → Source ℕ) → R
    → Result (Bool × MetadataBlock A) Error → R → Type 0
MetadataBlockAndFlagIsRead source old result new =
    GivesOrOutOfMemory (λ found. metadata_block_view found.0 found.1) result block_at
    (bytes_in source old) (bytes_in source new)

-- A streaminfo: the result and the consumed bytes are those of the format's reader.
abbrev pub StreaminfoIsRead : {R : Type 0} → (R → Source ℕ) → ℕ → R → Result StreamInfo Error → R
    → Type 0
StreaminfoIsRead source length old result new =
    Gives info_view result (info_body_at length) (bytes_in source old) (bytes_in source new)

-- A Vorbis comment: the result and the consumed bytes are those of the format's reader.
abbrev pub CommentIsRead : {R A : Type 0} → (R → Source ℕ) → ℕ → R → Result (VorbisComment A) Error
    → R → Type 0
CommentIsRead source length old result new =
    GivesOrOutOfMemory comment_view result (comment_at length)
    (bytes_in source old) (bytes_in source new)
