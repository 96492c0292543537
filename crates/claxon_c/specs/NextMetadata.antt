-- What a call returns for the metadata block at a position in bytes.
use Rattle.std.specs.Prelude.{◌≡◌, ◌≢◌, ◌↔◌, ℕ, ◌+◌, ◌<◌, ◌≤◌, List, length, drop}
use Rattle.claxon.specs.Crc.{bit}
use Rattle.claxon.specs.Metadata.{BlockHeader, BlockHeaderCode}
use Rattle.claxon.specs.Prefix.{BeginsWith}
use Rattle.claxon_c.specs.declared.metadata.ClaxonMetadata.{ClaxonMetadata}
use Rattle.claxon_c.specs.Status.{input_ends, ok}

-- the number of bytes of a header
abbrev pub header_length : ℕ
header_length = 4

-- It shows this header, which stands at this position.
pub record ShowsHeader (h : BlockHeader) (from : ℕ) (shown : ClaxonMetadata) : Type 0 where
  pub content : shown.content ≡ from + header_length
  pub length : shown.length ≡ h.length
  pub type : shown.block_type ≡ h.type
  pub is_last : shown.is_last ≡ bit h.is_last

-- The position and what is shown are changed by `ok` alone.
abbrev pub MetadataIsKept : ℕ → ℕ → ℕ → ClaxonMetadata → ClaxonMetadata → Type 0
MetadataIsKept status from to old new = status ≢ ok → (to ≡ from) × (new ≡ old)

-- `from` is the position before the call, and `to` the one after it.
module _ (bytes : List ℕ) (from status to : ℕ) (shown : ClaxonMetadata) where
  -- This header is shown, and the position is after the content that it tells of.
  abbrev pub IsNextHeader : BlockHeader → Type 0
  IsNextHeader h =
      (status ≡ ok) × ShowsHeader h from shown × (to ≡ from + header_length + h.length)

  -- With `ok` the header that is shown stands at the position.
  abbrev pub CMetadataIsSound : Type 0
  CMetadataIsSound =
      status ≡ ok → (h : BlockHeader) × BeginsWith (BlockHeaderCode h) (drop from bytes)
      × IsNextHeader h

  -- A header that stands at the position is shown.
  abbrev pub CMetadataIsComplete : Type 0
  CMetadataIsComplete =
      (h : BlockHeader) → BeginsWith (BlockHeaderCode h) (drop from bytes) → IsNextHeader h

-- `ok` is returned exactly where four bytes or more are left.
abbrev pub CMetadataIffHeaderIsLeft : List ℕ → ℕ → ℕ → Type 0
CMetadataIffHeaderIsLeft bytes from status =
    (status ≡ ok) ↔ (header_length ≤ length (drop from bytes))

-- `input_ends` is returned exactly where fewer are left.
abbrev pub CMetadataInputEndsElse : List ℕ → ℕ → ℕ → Type 0
CMetadataInputEndsElse bytes from status =
    (status ≡ input_ends) ↔ (length (drop from bytes) < header_length)
