-- The parts of a head (RFC 9639, sections 6 and 8): its marker, and of each metadata block the
-- header and the content.
use Rattle.std.specs.Prelude.{
  ◌≡◌,
  ℕ,
  ◌-◌,
  min,
  Bool,
  if◌then◌else◌,
  not,
  ◌==◌,
  ◌&&◌,
  ◌||◌,
  nat_lt,
  List,
  Option,
  None,
  Some,
  Result,
  Ok,
  Err,
}
use Rattle.claxon.specs.Error.{IsFault}
use Rattle.claxon.specs.Errors.{Error}
use Rattle.claxon.specs.Errors.TheVariants.{IoError, OutOfMemory}
use Rattle.claxon.specs.Fault.{Fault, TooManyBlocks}
use Rattle.claxon.specs.Metadata.{BlockHeader, max_content_bytes}
use Rattle.claxon.specs.MetadataBlock.{BlockHasBounds, MayRunOutOfMemory, content_view}
use Rattle.claxon.specs.MetadataBlocks.{Content, skipped}
use Rattle.claxon.specs.MetadataBlockVariants.{MetadataBlock}
use Rattle.claxon.specs.read.Bytes.{skipped_at}
use Rattle.claxon.specs.read.Heads.{marker_at}
use Rattle.claxon.specs.read.Metadata.{block_header_at}
use Rattle.claxon.specs.read.MetadataBlocks.{body_at}
use Rattle.claxon.specs.read.Reading.{Reading, Done, Faulty, Incomplete, and_then, done, test}
use Rattle.claxon_stream.specs.HeadRules.{allows_more, refused}
use Rattle.claxon_stream.specs.declared.head.part.BlockHeader.{BlockHeader as CodeHeader}
use Rattle.claxon_stream.specs.declared.head.part.FoundPart.{FoundPart}
use Rattle.claxon_stream.specs.declared.head.part.FoundPart.TheVariants.{
  Block as BlockFound,
  End as EndFound,
  Header as HeaderFound,
  Marker as MarkerFound,
}
use Rattle.claxon_stream.specs.declared.head.part.NextPart.{NextPart}
use Rattle.claxon_stream.specs.declared.head.part.NextPart.TheVariants.{
  Content as ContentNext,
  End as EndNext,
  Header as HeaderNext,
  Marker as MarkerNext,
}
use Rattle.claxon_stream.specs.declared.head.rules.Rules.{Rules}

-- a part that was read; the last one says that the head is whole
pub data HeadPart : Type 0 where
  MarkerPart : HeadPart
  HeaderPart : BlockHeader → HeadPart
  BlockPart : Content → HeadPart
  EndPart : HeadPart

abbrev pub header_view : CodeHeader → BlockHeader
header_view h = record { is_last = h.is_last; type = h.block_type; length = h.length }

abbrev pub part_view : {A : Type 0} → FoundPart A → HeadPart
part_view MarkerFound = MarkerPart
part_view (HeaderFound h) = HeaderPart (header_view h)
part_view (BlockFound block) = BlockPart (content_view block)
part_view EndFound = EndPart

-- ---- the content of a block of this type and length

-- it is passed: whatever it is, it is skipped
abbrev pub is_passed : ℕ → Bool
is_passed type = not (type == 0) && not (type == 2) && not (type == 4) && not (type == 127)

-- how many bytes of it aren't read
abbrev pub passed_bytes : ℕ → ℕ → ℕ
passed_bytes type n = if is_passed type then n - min n 1 else 0

-- how many are needed, from the first one on that is read: none where the length is a fault
abbrev pub content_needs : ℕ → ℕ → ℕ
content_needs type n =
    if is_passed type then min n 1
    else if (type == 127) || nat_lt max_content_bytes n || ((type == 0) && not (n == 34)) then 0
    else n

-- the reader of it, after the bytes that aren't read: where it is passed its last byte shows that
-- the stream has all of them
abbrev pub content_rest_at : ℕ → ℕ → List ℕ → Reading ℕ Content
content_rest_at type n =
    if is_passed type then and_then (skipped_at (min n 1)) (λ u. done (skipped type n))
    else body_at type n

-- ---- the readers of parts

abbrev pub next_header_at : Rules → List ℕ → Reading ℕ BlockHeader
next_header_at r = test (not (allows_more r)) TooManyBlocks block_header_at

-- a content, if it isn't refused
abbrev pub unless_refused : Option Fault → Content → List ℕ → Reading ℕ HeadPart
unless_refused None c s = Done (BlockPart c) s
unless_refused (Some f) c s = Faulty f s

abbrev pub part_at : NextPart → Rules → List ℕ → Reading ℕ HeadPart
part_at MarkerNext r = and_then marker_at (λ m. done MarkerPart)
part_at HeaderNext r = and_then (next_header_at r) (λ h. done (HeaderPart h))
part_at (ContentNext h) r =
    and_then (content_rest_at h.block_type h.length) (λ c. unless_refused (refused r c) c)
part_at EndNext r = done EndPart

-- how many bytes are needed
abbrev pub part_needs : NextPart → Rules → ℕ
part_needs MarkerNext r = 4
part_needs HeaderNext r = if allows_more r then 4 else 0
part_needs (ContentNext h) r = content_needs h.block_type h.length
part_needs EndNext r = 0

-- ---- results

-- The result is what reading gives: a value, an error that names the fault, or an `IoError` where
-- the bytes are too few. Or it is `OutOfMemory`, where memory may be needed.
abbrev pub ReadsAs : {A Y : Type 0} → Type 0 → (A → Y) → Result A Error → Reading ℕ Y → Type 0
ReadsAs Memory view (Ok x) read = (rest : List ℕ) × (read ≡ Done (view x) rest)
ReadsAs Memory view (Err OutOfMemory) read = Memory
ReadsAs Memory view (Err (IoError cause)) read = read ≡ Incomplete
ReadsAs Memory view (Err e) read =
    (f : Fault) × (rest : List ℕ) × IsFault f e × (read ≡ Faulty f rest)

-- of a content
abbrev pub ContentIsReadAs : {A : Type 0} → ℕ → ℕ → List ℕ → Result (MetadataBlock A) Error
    → Type 0
ContentIsReadAs type n bytes result =
    ReadsAs (MayRunOutOfMemory type n bytes) content_view result (content_rest_at type n bytes)

-- Memory may be needed for a content alone.
abbrev pub MayNeedMemory : NextPart → List ℕ → Type 0
MayNeedMemory (ContentNext h) bytes = MayRunOutOfMemory h.block_type h.length bytes
MayNeedMemory _ bytes = ⊥

-- of a part
abbrev pub PartIsReadAs : {A : Type 0} → NextPart → Rules → List ℕ → Result (FoundPart A) Error
    → Type 0
PartIsReadAs next r bytes result =
    ReadsAs (MayNeedMemory next bytes) part_view result (part_at next r bytes)

-- A block is in the bounds of the format.
abbrev pub PartHasBounds : {A : Type 0} → Result (FoundPart A) Error → Type 0
PartHasBounds (Ok (BlockFound block)) = BlockHasBounds block
PartHasBounds _ = Unit {0}
