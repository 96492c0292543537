-- The head of a stream of which metadata blocks may be passed over: such as other decoders accept,
-- and this one refuses (RFC 9639, section 8).
use Rattle.std.specs.Prelude.{
  ◌≡◌,
  ℕ,
  zero,
  suc,
  ◌+◌,
  ◌-◌,
  ◌<◌,
  ◌%◌,
  ◌^◌,
  Bool,
  false,
  true,
  if◌then◌else◌,
  ◌&&◌,
  ◌||◌,
  List,
  [],
  ◌∷◌,
  ◌++◌,
  length,
  Option,
  None,
  Some,
  IsSomeAnd,
  Result,
  Ok,
  Err,
}
use Rattle.std.specs.List.{list_any}
use Rattle.claxon.specs.Codes.{when◌then◌else◌, Each, MeetsOr, Met, Never, ThenFault}
use Rattle.claxon.specs.Error.{IsFault, is_io, is_out_of_memory}
use Rattle.claxon.specs.Errors.{Error}
use Rattle.claxon.specs.Fault.{
  ApplicationLarge,
  CommentLarge,
  EntryNotUtf8,
  ExcessData,
  Fault,
  NameByte,
  SecondStreaminfo,
  SeparatorMissing,
  StreaminfoMissing,
  TooManyBlocks,
  VendorNotUtf8,
}
use Rattle.claxon.specs.Gives.{GivesOrOutOfMemory}
use Rattle.claxon.specs.Heads.{
  Marker,
  MarkerFault,
  is_comment,
  is_info,
  max_blocks,
  stream_marker,
}
use Rattle.claxon.specs.Metadata.{Big, BlockHeader, BlockHeaderCode}
use Rattle.claxon.specs.MetadataBlock.{BlockHasBounds, MayRunOutOfMemory, content_view, info_view}
use Rattle.claxon.specs.MetadataBlocks.{Body, BodyFault, Content, Info}
use Rattle.claxon.specs.Promises.{
  CodeIsComplete,
  CodeIsSound,
  ElseIoError,
  FaultIsComplete,
  FaultIsSound,
  IsOutOfMemory,
}
use Rattle.claxon.specs.State.{State, RemainingIsKnown}
use Rattle.claxon.specs.StreamInfos.{StreamInfo}
use Rattle.claxon.specs.Streaminfo.{Streaminfo}
use Rattle.claxon.specs.read.Bytes.{bytes_at}
use Rattle.claxon.specs.read.Heads.{marker_at}
use Rattle.claxon.specs.read.Metadata.{block_header_at}
use Rattle.claxon.specs.read.MetadataBlocks.{body_at}
use Rattle.claxon.specs.read.Reading.{
  Done,
  Faulty,
  Incomplete,
  Reading,
  and_then,
  bind,
  done,
  fails,
  test,
}
use Rattle.claxon_heads.specs.declared.head.BlockHeader.{BlockHeader as HeaderThatIsRead}
use Rattle.claxon_heads.specs.declared.head.Found.{Found}
use Rattle.claxon_heads.specs.declared.head.Found.TheVariants.{PassedOver, Read}
use Rattle.claxon_heads.specs.declared.head.Seen.{Seen}
use Rattle.claxon_heads.specs.declared.head.UnsupportedBlock.{UnsupportedBlock}
use Rattle.claxon_heads.specs.declared.head.UnsupportedBlock.TheVariants.{
  BytesLeft,
  FieldName,
  LargeApplication,
  LargeComments,
  NoSeparator,
  NotUtf8,
  SecondComments,
}

-- ---- a block that is passed over

-- why a block with this fault is passed over, if it is: its length is known, and the frames may be
-- right
abbrev pub unsupported_by : Fault → Option UnsupportedBlock
unsupported_by VendorNotUtf8 = Some NotUtf8
unsupported_by EntryNotUtf8 = Some NotUtf8
unsupported_by SeparatorMissing = Some NoSeparator
unsupported_by NameByte = Some FieldName
unsupported_by ExcessData = Some BytesLeft
unsupported_by CommentLarge = Some LargeComments
unsupported_by ApplicationLarge = Some LargeApplication
unsupported_by _ = None

-- the content of a block, or why it is passed over
abbrev pub FoundContent : Type 0
FoundContent = Result Content UnsupportedBlock

-- n bytes that begin with a fault for which they are passed over
abbrev pub PassedOverBytes : ℕ → ℕ → UnsupportedBlock → List ℕ → Type 0
PassedOverBytes type n why t =
    (f : Fault) × (front : List ℕ) × (rest : List ℕ) × BodyFault type n f front
    × (unsupported_by f ≡ Some why) × (length t ≡ n) × (t ≡ front ++ rest)

-- content of this type and length, or as many bytes that are passed over
abbrev pub FoundContentCode : ℕ → ℕ → FoundContent → List ℕ → Type 0
FoundContentCode type n (Ok content) t = Body type n content t
FoundContentCode type n (Err why) t = PassedOverBytes type n why t

-- a fault of content for which it isn't passed over
abbrev pub FoundContentFault : ℕ → ℕ → Fault → List ℕ → Type 0
FoundContentFault type n f t = BodyFault type n f t × (unsupported_by f ≡ None)

-- whether this is the last block, and its content
pub record FoundBlock : Type 0 where
  pub is_last : Bool
  pub content : FoundContent

-- a header, and content of its type and length
abbrev pub FoundBlockCode : FoundBlock → List ℕ → Type 0
FoundBlockCode b t =
    (h : BlockHeader) × (header : List ℕ) × (body : List ℕ) × BlockHeaderCode h header
    × FoundContentCode h.type h.length b.content body × (b.is_last ≡ h.is_last)
    × (t ≡ header ++ body)

-- the faults of the content: a header has none
abbrev pub FoundBlockFault : Fault → List ℕ → Type 0
FoundBlockFault = ThenFault BlockHeaderCode Never (λ h. FoundContentFault h.type h.length)

-- ---- the blocks of a head

abbrev pub is_found_info : FoundContent → Bool
is_found_info (Ok content) = is_info content
is_found_info (Err why) = false

abbrev pub are_found_comments : FoundContent → Bool
are_found_comments (Ok content) = is_comment content
are_found_comments (Err why) = false

-- what isn't supported of this content, where comments were read before it or not: comments stand
-- once in a head (section 8.6)
abbrev pub unsupported_in : Bool → FoundContent → Option UnsupportedBlock
unsupported_in has_comments (Ok content) =
    if has_comments && is_comment content then Some SecondComments else None
unsupported_in has_comments (Err why) = Some why

-- the first that was found, or else the next
abbrev pub first_found : Option UnsupportedBlock → Option UnsupportedBlock
    → Option UnsupportedBlock
first_found None next = next
first_found (Some first) next = Some first

-- the first thing of these blocks that isn't supported, where comments were read before them or not
abbrev pub first_unsupported : Bool → List FoundBlock → Option UnsupportedBlock
first_unsupported has_comments [] = None
first_unsupported has_comments (b ∷ others) =
    first_found (unsupported_in has_comments b.content)
    (first_unsupported (has_comments || are_found_comments b.content) others)

-- the last of these blocks is marked as last, and no other
abbrev pub EndAtLast : FoundBlock → List FoundBlock → Type 0
EndAtLast b [] = b.is_last ≡ true
EndAtLast b (c ∷ others) = (b.is_last ≡ false) × EndAtLast c others

-- the streaminfo, and the first thing that isn't supported of the blocks after it
pub record FoundHead : Type 0 where
  pub info : Streaminfo
  pub unsupported : Option UnsupportedBlock

-- the streaminfo comes first and nowhere else, and the last block is marked as last
pub record IsFoundHead (h : FoundHead) (b : FoundBlock) (others : List FoundBlock) : Type 0 where
  pub info : b.content ≡ Ok (Info h.info)
  pub no_info : list_any (λ b. is_found_info b.content) others ≡ false
  pub few : length others < max_blocks
  pub ends : EndAtLast b others
  pub unsupported : h.unsupported ≡ first_unsupported false others

-- the marker and the blocks
abbrev pub FoundHeadCode : FoundHead → List ℕ → Type 0
FoundHeadCode h t =
    (b : FoundBlock) × (others : List FoundBlock)
    × (marker : List ℕ) × (first_block : List ℕ) × (other_blocks : List ℕ)
    × Big 4 stream_marker marker × FoundBlockCode b first_block
    × Each FoundBlockCode others other_blocks × IsFoundHead h b others
    × (t ≡ marker ++ (first_block ++ other_blocks))

-- the faults of the blocks after the streaminfo, up to a limit of blocks
abbrev pub FoundBlocksFault : ℕ → Fault → List ℕ → Type 0
FoundBlocksFault zero = Met TooManyBlocks
FoundBlocksFault (suc most) =
    ThenFault FoundBlockCode FoundBlockFault (λ b.
    MeetsOr (is_found_info b.content) SecondStreaminfo (
    when b.is_last then Never else FoundBlocksFault most))

-- the first block must be a streaminfo; then the faults of the others
abbrev pub FirstFoundFault : Bool → FoundContent → Fault → List ℕ → Type 0
FirstFoundFault is_last (Ok (Info i)) = when is_last then Never else FoundBlocksFault 65535
FirstFoundFault is_last _ = Met StreaminfoMissing

-- the faults of the fields, in order
abbrev pub FoundHeadFault : Fault → List ℕ → Type 0
FoundHeadFault =
    ThenFault Marker MarkerFault (λ m.
    ThenFault FoundBlockCode FoundBlockFault (λ b. FirstFoundFault b.is_last b.content))

-- ---- memory

-- s begins with the header of an application or comment block of valid length, in a comment block
-- followed by a vendor length that fits.
abbrev pub NeedsMemory : List ℕ → Type 0
NeedsMemory s =
    (h : BlockHeader) × (code : List ℕ) × (content : List ℕ) × BlockHeaderCode h code
    × MayRunOutOfMemory h.type h.length content × (s ≡ code ++ content)

-- It does so after blocks.
abbrev pub NeedsMemoryAfterBlocks : List ℕ → Type 0
NeedsMemoryAfterBlocks s =
    (blocks : List FoundBlock) × (before : List ℕ) × (m : List ℕ)
    × Each FoundBlockCode blocks before × (s ≡ before ++ m) × NeedsMemory m

-- It does so after the marker and blocks.
abbrev pub HeadNeedsMemory : List ℕ → Type 0
HeadNeedsMemory s =
    (marker : List ℕ) × (m : List ℕ) × Marker stream_marker marker × (s ≡ marker ++ m)
    × NeedsMemoryAfterBlocks m

-- `OutOfMemory` is returned only where this holds of the bytes.
abbrev pub OutOfMemoryOnlyWhere : {A : Type 0} → (List ℕ → Type 0) → Result A Error → State ℕ
    → Type 0
OutOfMemoryOnlyWhere P r old = IsOutOfMemory r → RemainingIsKnown old → P old.remaining

-- ---- the readers of these codes, as the code is split

-- of content with a fault all n bytes are passed over, if it is one of these
abbrev pub passed_over : ℕ → List ℕ → Fault → List ℕ → Option UnsupportedBlock
    → Reading ℕ FoundContent
passed_over n s f rest None = Faulty f rest
passed_over n s f rest (Some why) = bind (bytes_at n s) (λ bytes left. Done (Err why) left)

-- s begins with n bytes of content, of which this was read
abbrev pub found_content : ℕ → List ℕ → Reading ℕ Content → Reading ℕ FoundContent
found_content n s (Done content rest) = Done (Ok content) rest
found_content n s (Faulty f rest) = passed_over n s f rest (unsupported_by f)
found_content n s Incomplete = Incomplete

-- the content of a block of this type and length
unfoldable pub found_content_at : ℕ → ℕ → List ℕ → Reading ℕ FoundContent
found_content_at type n s = found_content n s (body_at type n s)

unfoldable pub found_block_at : List ℕ → Reading ℕ FoundBlock
found_block_at =
    and_then block_header_at (λ h.
    and_then (found_content_at h.type h.length) (λ content.
    done (record { is_last = h.is_last; content = content })))

-- what was seen so far, with one block more
unfoldable pub seen_after : Seen → FoundContent → Seen
seen_after seen content = record {
  has_comments = seen.has_comments || are_found_comments content;
  unsupported = first_found seen.unsupported (unsupported_in seen.has_comments content);
}

-- nothing was seen so far
abbrev pub none_seen : Seen
none_seen = record { has_comments = false; unsupported = None }

-- the blocks after the streaminfo up to the last one, of which there are at most so many: the first
-- thing that isn't supported
unfoldable pub found_blocks_at : ℕ → Seen → List ℕ → Reading ℕ (Option UnsupportedBlock)
found_blocks_at zero seen = fails TooManyBlocks
found_blocks_at (suc most) seen =
    and_then found_block_at (λ b.
    test (is_found_info b.content) SecondStreaminfo (
    if b.is_last then done (seen_after seen b.content).unsupported
    else found_blocks_at most (seen_after seen b.content)))

-- what is read after the first block, which has to be the streaminfo
unfoldable pub after_first_found : Bool → FoundContent → List ℕ → Reading ℕ FoundHead
after_first_found is_last (Ok (Info i)) =
    and_then (if is_last then done None else found_blocks_at 65535 none_seen) (λ why.
    done (record { info = i; unsupported = why }))
after_first_found is_last _ = fails StreaminfoMissing

-- the head of a stream
unfoldable pub found_head_at : List ℕ → Reading ℕ FoundHead
found_head_at =
    and_then marker_at (λ m. and_then found_block_at (λ b. after_first_found b.is_last b.content))

-- ---- what the calls return

abbrev pub header_read : HeaderThatIsRead → BlockHeader
header_read header =
    record { is_last = header.is_last; type = header.block_type; length = header.length }

abbrev pub found_content_view : {A : Type 0} → Found A → FoundContent
found_content_view (Read block) = Ok (content_view block)
found_content_view (PassedOver why) = Err why

-- a block, as it is returned
abbrev pub found_block_view : {A : Type 0} → Bool × Found A → FoundBlock
found_block_view found = record { is_last = found.0; content = found_content_view found.1 }

-- a head, as it is returned
abbrev pub found_head_view : StreamInfo × Option UnsupportedBlock → FoundHead
found_head_view found = record { info = info_view found.0; unsupported = found.1 }

-- what reading a head returns
abbrev pub FoundHeadAnswer : Type 0
FoundHeadAnswer = Result (StreamInfo × Option UnsupportedBlock) Error

module _ (old : State ℕ) (result : FoundHeadAnswer) (new : State ℕ) where
  -- What was consumed is such a head, and it is returned.
  abbrev pub FoundHeadIsSound : Type 0
  FoundHeadIsSound = CodeIsSound found_head_view result FoundHeadCode old new

  -- Where the bytes begin with such a head, whatever follows, it is returned and alone consumed, or
  -- memory or the source failed.
  abbrev pub FoundHeadIsComplete : Type 0
  FoundHeadIsComplete = CodeIsComplete found_head_view result FoundHeadCode old new

  -- An Err is `OutOfMemory`, an `IoError`, or the name of a fault that the consumed bytes have.
  abbrev pub FoundFaultIsSound : Type 0
  FoundFaultIsSound = FaultIsSound result FoundHeadFault old new

  -- Where the bytes begin with a fault it is named and alone consumed, or memory or the source
  -- failed.
  abbrev pub FoundFaultIsComplete : Type 0
  FoundFaultIsComplete = FaultIsComplete result FoundHeadFault old new

  -- Where they begin with neither the answer is an `IoError` or `OutOfMemory`.
  abbrev pub FoundHeadElseIoError : Type 0
  FoundHeadElseIoError = ElseIoError result FoundHeadCode FoundHeadFault old new

  -- What the reader on lists gives is returned, or memory or the source failed.
  abbrev pub FoundHeadIsRead : Type 0
  FoundHeadIsRead = GivesOrOutOfMemory found_head_view result found_head_at old new

-- A streaminfo is in its bounds.
abbrev pub FoundHasBounds : {A : Type 0} → Found A → Type 0
FoundHasBounds (Read block) = BlockHasBounds block
FoundHasBounds (PassedOver why) = Unit {0}

-- Of each fault that the error names this is why it is passed over.
abbrev pub TellsWhy : Error → Option UnsupportedBlock → Type 0
TellsWhy error why = (f : Fault) → IsFault f error → unsupported_by f ≡ why

-- Where it names one that is, it is of the bytes.
abbrev pub IsErrorOfBytes : Error → Option UnsupportedBlock → Type 0
IsErrorOfBytes error None = Unit {0}
IsErrorOfBytes error (Some why) = (is_io error ≡ false) × (is_out_of_memory error ≡ false)

-- how many of so many bytes are left at the position `end`, where they began at `start`; positions
-- count modulo 2^64
abbrev pub left_at : ℕ → ℕ → ℕ → ℕ
left_at length start end = length - (end + (2 ^ 64 - start)) % 2 ^ 64

-- It is the streaminfo that was found, if it is one.
abbrev pub IsInfoOf : FoundContent → Option StreamInfo → Type 0
IsInfoOf (Ok (Info i)) info = IsSomeAnd info (λ found. info_view found ≡ i)
IsInfoOf _ info = info ≡ None

-- what is read of one of the blocks after the streaminfo: whether it is the last one, and what was
-- seen up to it
unfoldable pub other_found_at : Seen → List ℕ → Reading ℕ (Bool × Seen)
other_found_at seen =
    and_then found_block_at (λ b.
    test (is_found_info b.content) SecondStreaminfo (
    done (b.is_last, seen_after seen b.content)))
