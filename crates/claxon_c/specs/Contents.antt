-- What calls return that are passed the content of a metadata block, and nothing else: of a
-- streaminfo or of Vorbis comments.
use Rattle.std.specs.Prelude.{
  ◌≡◌,
  ◌≢◌,
  ◌⊎◌,
  ℕ,
  List,
  length,
  take,
  drop,
  None,
  Result,
  IfOk,
  IsErrAnd,
  IsOkAnd,
}
use Rattle.claxon.specs.Fault.{Fault}
use Rattle.claxon.specs.Comments.{Comment, CommentCode}
use Rattle.claxon.specs.MetadataBlocks.{Body, BodyFault, Content}
use Rattle.claxon.specs.Streaminfo.{Streaminfo, StreaminfoCode}
use Rattle.claxon.specs.Error.{IsFault}
use Rattle.claxon.specs.Promises.{HasNeither, IsOutOfMemory}
use Rattle.claxon.specs.Errors.{Error}
use Rattle.claxon.specs.MetadataBlock.{MayRunOutOfMemory}
use Rattle.claxon.specs.OtherErrors.{IfOtherErr}
use Rattle.claxon.specs.Prefix.{BeginsWith}
use Rattle.claxon_c.specs.declared.heads.ClaxonInfo.{ClaxonInfo}
use Rattle.claxon_c.specs.HeadCalls.{ShowsHead}
use Rattle.claxon_c.specs.Status.{FaultIsReported, IsFaultStatus, input_ends, ok, out_of_memory}

-- the types of the two blocks
abbrev pub streaminfo_type : ℕ
streaminfo_type = 0

abbrev pub comment_type : ℕ
comment_type = 4

-- ---- what the calls return

-- It shows this streaminfo. A streaminfo block says nothing of a first frame or of tags: both
-- are 0.
abbrev pub ShowsStreaminfo : Streaminfo → ClaxonInfo → Type 0
ShowsStreaminfo i info = ShowsHead (record { info = i; comment = None }) 0 info

-- the position of the vendor string, after its length in four bytes
abbrev pub vendor_position : ℕ
vendor_position = 4

-- The numbers are those of these comments: where the vendor string is, its length, and how many
-- tags there are.
pub record ShowsVendor (c : Comment) (content : List ℕ) (at count tags : ℕ) : Type 0 where
  pub at_is : at ≡ vendor_position
  pub count_is : count ≡ length c.vendor
  pub stands : take count (drop at content) ≡ c.vendor
  pub tags_are : tags ≡ length c.entries

-- The numbers are changed by `ok` alone.
abbrev pub VendorIsKept : ℕ → ℕ × ℕ × ℕ → ℕ × ℕ × ℕ → Type 0
VendorIsKept status old new = status ≢ ok → new ≡ old

module _ (content : List ℕ) (status : ℕ) where
  -- With `ok` the content is the streaminfo that is shown.
  abbrev pub CStreaminfoIsSound : ClaxonInfo → Type 0
  CStreaminfoIsSound info =
      status ≡ ok → (i : Streaminfo) × StreaminfoCode i content × ShowsStreaminfo i info

  -- A content that is a streaminfo is shown.
  abbrev pub CStreaminfoIsComplete : ClaxonInfo → Type 0
  CStreaminfoIsComplete info =
      (i : Streaminfo) → StreaminfoCode i content → (status ≡ ok) × ShowsStreaminfo i info

  -- With `ok` the content is the comments whose vendor string is found.
  abbrev pub CVendorIsSound : ℕ → ℕ → ℕ → Type 0
  CVendorIsSound at count tags =
      status ≡ ok → (c : Comment) × CommentCode (length content) c content
      × ShowsVendor c content at count tags

  -- Of a content that is comments the vendor string is found, or the status is `out_of_memory`.
  abbrev pub CVendorIsComplete : ℕ → ℕ → ℕ → Type 0
  CVendorIsComplete at count tags =
      (c : Comment) → CommentCode (length content) c content
      → ((status ≡ ok) × ShowsVendor c content at count tags) ⊎ (status ≡ out_of_memory)

  -- `out_of_memory` only where the length of the content and that of its vendor string are valid.
  abbrev pub CVendorOutOfMemoryAfterLengths : Type 0
  CVendorOutOfMemoryAfterLengths =
      status ≡ out_of_memory → MayRunOutOfMemory comment_type (length content) content

  -- No memory is requested for a streaminfo.
  abbrev pub CStreaminfoNeverOutOfMemory : Type 0
  CStreaminfoNeverOutOfMemory = status ≢ out_of_memory

-- ---- what both calls return for faults

module _ (type : ℕ) (content : List ℕ) (status : ℕ) where
  -- The status of a fault reports one of the content, as a block of this type; its text is
  -- written to `new`.
  abbrev pub CContentFaultIsSound : List ℕ → List ℕ → Type 0
  CContentFaultIsSound old new =
      IsFaultStatus status
      → (f : Fault) × BeginsWith (BodyFault type (length content) f) content
      × FaultIsReported f status old new

  -- A fault of the content is reported, or the status is `out_of_memory`.
  abbrev pub CContentFaultIsComplete : List ℕ → List ℕ → Type 0
  CContentFaultIsComplete old new =
      (f : Fault) → BeginsWith (BodyFault type (length content) f) content
      → FaultIsReported f status old new ⊎ (status ≡ out_of_memory)

  -- Where the content is neither valid nor faulty the status is `input_ends` or `out_of_memory`.
  abbrev pub CContentElseIoError : Type 0
  CContentElseIoError =
      HasNeither (Body type (length content)) (BodyFault type (length content)) content
      → (status ≡ input_ends) ⊎ (status ≡ out_of_memory)

-- ---- private calls

-- What is returned is what the content is, where `Code` is the code of its values, and `Bad` has
-- its faults; memory is refused only where `MayAllocate` holds.
pub record ContentIsRead {A Y : Type 0} (view : A → Y) (Code : Y → List ℕ → Type 0)
    (Bad : Fault → List ℕ → Type 0) (MayAllocate : Type 0) (content : List ℕ) (r : Result A Error) :
    Type 0 where
  pub sound : IfOk r (λ x. BeginsWith (Code (view x)) content)
  pub complete : (y : Y) → BeginsWith (Code y) content
      → IsOkAnd r (λ x. view x ≡ y) ⊎ IsOutOfMemory r
  pub fault : IfOtherErr r (λ e. (f : Fault) × IsFault f e × BeginsWith (Bad f) content)
  pub named : (f : Fault) → BeginsWith (Bad f) content → IsErrAnd r (IsFault f) ⊎ IsOutOfMemory r
  pub memory : IsOutOfMemory r → MayAllocate

-- The content of a block of this type is read.
abbrev pub BodyIsRead : {A : Type 0} → (A → Content) → ℕ → List ℕ → Result A Error → Type 0
BodyIsRead view type content =
    ContentIsRead view (Body type (length content)) (BodyFault type (length content)) (
    MayRunOutOfMemory type (length content) content)
    content
