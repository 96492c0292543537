-- The head of a stream (RFC 9639, sections 6 and 8) as the code returns it, and its reader split
-- as the code is split.
use Rattle.std.specs.Prelude.{
  ◌≡◌,
  ◌++◌,
  ℕ,
  Bool,
  false,
  List,
  [],
  Option,
  Some,
  None,
  Result,
  IfOk,
  IfSome,
}
use Rattle.claxon_format.specs.read.MetadataBlocks.{block_at}
use Rattle.claxon_format.specs.Comments.{Comment}
use Rattle.claxon_format.specs.Fault.{SecondComment, SecondStreaminfo}
use Rattle.claxon_format.specs.Heads.{
  Options,
  Head,
  HeadCode,
  HeadFault,
  Marker,
  is_info,
  is_second,
  found_with,
  stream_marker,
}
use Rattle.claxon_format.specs.read.Heads.{head_at}
use Rattle.claxon_format.specs.Metadata.{BlockHeader, BlockHeaderCode}
use Rattle.claxon_format.specs.MetadataBlocks.{MetadataBlock as Block, BlockCode, Content}
use Rattle.claxon_format.specs.Codes.{Each}
use Rattle.claxon_format.specs.read.Reading.{Reading, and_then, done, test}
use Rattle.claxon_input.specs.declared.error.Error.{Error}
use Rattle.claxon_input.specs.declared.input.BufferedReader.{BufferedReader}
use Rattle.claxon_input.specs.BufferedReader.{buffered_source}
use Rattle.claxon_input.specs.Gives.{Gives, GivesOrOutOfMemory}
use Rattle.claxon_input.specs.Promises.{
  IsOutOfMemory,
  CodeIsSound,
  CodeIsComplete,
  FaultIsSound,
  FaultIsComplete,
  ElseIoError,
  LeavesRest,
}
use Rattle.claxon_input.specs.Source.{Source}
use Rattle.claxon_input.specs.State.{State, bytes_in, RemainingIsKnown}
use Rattle.claxon_metadata.specs.MetadataBlock.{
  HasBounds,
  MayRunOutOfMemory,
  content_view,
  info_view,
}
use Rattle.claxon_metadata.specs.VorbisComment.{comment_view}
use Rattle.claxon_metadata.specs.TagEntries.{HaveSeparatorIndices}
use Rattle.claxon.specs.declared.head.FlacReaderOptions.{FlacReaderOptions}
use Rattle.claxon_metadata.specs.declared.metadata.MetadataBlock.{MetadataBlock}
use Rattle.claxon_metadata.specs.declared.metadata.streaminfo.StreamInfo.{StreamInfo}
use Rattle.claxon_metadata.specs.declared.metadata.VorbisComment.{VorbisComment}

-- the options, as the format has them
abbrev pub options_view : FlacReaderOptions → Options
options_view options =
    record { metadata_only = options.metadata_only; wants_comment = options.read_vorbis_comment }

-- comments, if any
abbrev pub found_view : {A : Type 0} → Option (VorbisComment A) → Option Comment
found_view None = None
found_view (Some comment) = Some (comment_view comment)

-- the head that is returned
abbrev pub head_view : {A : Type 0} → StreamInfo × Option (VorbisComment A) → Head
head_view shown = record { info = info_view shown.0; comment = found_view shown.1 }

-- of a block after the streaminfo: whether it is marked as last, and the comments found so far
abbrev pub other_view : {A : Type 0} → Bool × Option (VorbisComment A) → Bool × Option Comment
other_view other = (other.0, found_view other.1)

-- a block after the streaminfo, where these comments were found before it
unfoldable pub other_at : Option Comment → List ℕ → Reading ℕ (Bool × Option Comment)
other_at found =
    and_then block_at (λ b.
    test (is_info b.content) SecondStreaminfo (
    test (is_second found b.content) SecondComment (done (b.is_last, found_with found b.content))))

-- the comments found so far, with those of this content
abbrev pub comments_at : Option Comment → Content → List ℕ → Reading ℕ (Option Comment)
comments_at found c =
    test (is_info c) SecondStreaminfo
    (test (is_second found c) SecondComment (done (found_with found c)))

-- What is returned for a block is what the format's reader gives for its content, and nothing is
-- consumed.
abbrev pub CommentsAreFound : {A : Type 0} → Option (VorbisComment A) → MetadataBlock A
    → Result (Option (VorbisComment A)) Error → Type 0
CommentsAreFound found block result =
    (here : State ℕ)
    → Gives found_view result (comments_at (found_view found) (content_view block)) here here

-- Memory may be needed for s: it begins with a front of this kind, then whole blocks, and then the
-- header of an application or comment block of valid length, in a comment block followed by a
-- vendor length that fits.
pub record MemoryMayBeNeeded (Front : List ℕ → Type 0) (s : List ℕ) : Type 0 where
  pub front : List ℕ
  pub blocks : List Block
  pub before : List ℕ
  pub header : BlockHeader
  pub code : List ℕ
  pub content : List ℕ
  pub front_is : Front front
  pub blocks_are : Each BlockCode blocks before
  pub header_is : BlockHeaderCode header code
  pub allocates : MayRunOutOfMemory header.type header.length content
  pub joined : s ≡ front ++ (before ++ (code ++ content))

-- `OutOfMemory` only after whole blocks and such a header.
abbrev pub OutOfMemoryAfterBlocks : {A : Type 0} → Result A Error → State ℕ → Type 0
OutOfMemoryAfterBlocks r old =
    IsOutOfMemory r → RemainingIsKnown old → MemoryMayBeNeeded (λ t. t ≡ []) old.remaining

-- the greatest number of blocks after the streaminfo; the format sets no limit
abbrev pub max_other_blocks : ℕ
max_other_blocks = 65535

-- ---- the contract of `read_head`

-- what it returns: a streaminfo, and comments where they are requested and present
abbrev pub HeadAnswer : Type 0 → Type 0
HeadAnswer A = Result (StreamInfo × Option (VorbisComment A)) Error

-- the remaining bytes of a byte buffer
abbrev pub buffered_bytes : {R A : Type 0} → (R → Option (List ℕ)) → BufferedReader R A → State ℕ
buffered_bytes remaining input = bytes_in (buffered_source remaining) input

-- The streaminfo has 1 to 8 channels of 1 to 32 bits.
abbrev pub InfoHasBounds : {A : Type 0} → HeadAnswer A → Type 0
InfoHasBounds result = IfOk result (λ shown. HasBounds shown.0)

-- Each entry of the comments is split at its separator.
abbrev pub CommentHasSeparatorIndices : {A : Type 0} → HeadAnswer A → Type 0
CommentHasSeparatorIndices result =
    IfOk result (λ shown. IfSome shown.1 (λ comment. HaveSeparatorIndices comment.comments.items))

-- Comments are shown only where `read_vorbis_comment` is true.
abbrev pub HeadHasCommentIfRead : {A : Type 0} → Bool → HeadAnswer A → Type 0
HeadHasCommentIfRead read result = IfOk result (λ shown. read ≡ false → shown.1 ≡ None)

-- `OutOfMemory` only after the marker, whole blocks and the header of an application or comment
-- block of valid length, in a comment block only after a vendor length that fits.
abbrev pub HeadOutOfMemoryAfterHeader : {R A : Type 0} → (R → Source ℕ) → R → Result A Error
    → Type 0
HeadOutOfMemoryAfterHeader source old result =
    IsOutOfMemory result → RemainingIsKnown (bytes_in source old)
    → MemoryMayBeNeeded (Marker stream_marker) (bytes_in source old).remaining

-- After an Err the remaining bytes are a suffix of those before.
abbrev pub HeadLeavesRest : {R Z : Type 0} → (R → Source ℕ) → R → HeadAnswer Z → R → Type 0
HeadLeavesRest source old result new = LeavesRest result (bytes_in source old) (bytes_in source new)

-- `old` and `new` are the reader before and after the call.
module _ {R Z : Type 0} (source : R → Source ℕ) (options : FlacReaderOptions) (old : R)
    (result : HeadAnswer Z) (new : R) where
  -- What was consumed is a head under these options, and it is returned.
  abbrev pub HeadIsSound : Type 0
  HeadIsSound =
      CodeIsSound head_view result (HeadCode (options_view options)) (bytes_in source old)
      (bytes_in source new)

  -- Where the bytes begin with a head, whatever follows, it is returned and alone consumed, or
  -- memory or the source failed.
  abbrev pub HeadIsComplete : Type 0
  HeadIsComplete =
      CodeIsComplete head_view result (HeadCode (options_view options)) (bytes_in source old)
      (bytes_in source new)

  -- An Err is `OutOfMemory`, an `IoError`, or the name of a fault that the consumed bytes have.
  abbrev pub HeadFaultIsSound : Type 0
  HeadFaultIsSound =
      FaultIsSound result (HeadFault (options_view options)) (bytes_in source old)
      (bytes_in source new)

  -- Where the bytes begin with a fault it is named and alone consumed, or memory or the source
  -- failed.
  abbrev pub HeadFaultIsComplete : Type 0
  HeadFaultIsComplete =
      FaultIsComplete result (HeadFault (options_view options)) (bytes_in source old)
      (bytes_in source new)

  -- Where they begin with neither the answer is an `IoError` or `OutOfMemory`.
  abbrev pub HeadElseIoError : Type 0
  HeadElseIoError =
      ElseIoError result (HeadCode (options_view options)) (HeadFault (options_view options))
      (bytes_in source old) (bytes_in source new)

  -- What was returned and consumed is what the format's reader gives.
  abbrev pub HeadIsRead : Type 0
  HeadIsRead =
      GivesOrOutOfMemory head_view result (head_at (options_view options)) (bytes_in source old)
      (bytes_in source new)
