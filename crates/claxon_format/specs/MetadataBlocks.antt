-- Metadata blocks (RFC 9639, section 8).
use Rattle.std.specs.Prelude.{
  ◌≡◌,
  ℕ,
  ◌≤◌,
  Bool,
  if◌then◌else◌,
  not,
  ◌==◌,
  ◌||◌,
  nat_lt,
  List,
  ◌++◌,
  length,
}
use Rattle.claxon_format.specs.Fault.{
  Fault,
  StreaminfoLength,
  BlockType,
  ApplicationShort,
  ApplicationLarge,
}
use Rattle.claxon_format.specs.Codes.{when◌then◌else◌, ThenFault, MeetsOr, Never, Mapped}
use Rattle.claxon_format.specs.Metadata.{
  Bytes,
  Big,
  max_content_bytes,
  BlockHeader,
  BlockHeaderCode,
}
use Rattle.claxon_format.specs.Streaminfo.{Streaminfo, StreaminfoCode, StreaminfoFault}
use Rattle.claxon_format.specs.Comments.{Comment, CommentCode, CommentFault}

-- the content of a block
pub data Content : Type 0 where
  Info : Streaminfo → Content
  Padding : ℕ → Content
  Application : ℕ → List ℕ → Content
  Comments : Comment → Content
  Reserved : Content

-- ---- the content of a block of this type and length: a caller can hand in a type of eight bits

-- section 8.2: 34 bytes
abbrev pub InfoBody : ℕ → Content → List ℕ → Type 0
InfoBody n b t = (n ≡ 34) × Mapped Info StreaminfoCode b t

-- section 8.4: an application ID, and application data
abbrev pub ApplicationBody : ℕ → Content → List ℕ → Type 0
ApplicationBody n b t =
    (id : ℕ) × (id_bytes : List ℕ) × (bytes : List ℕ) × (n ≤ max_content_bytes)
    × (length t ≡ n) × Big 4 id id_bytes × (b ≡ Application id bytes) × (t ≡ id_bytes ++ bytes)

-- padding (section 8.3), and seek tables, cue sheets and pictures (8.5, 8.7, 8.8), whose content
-- is skipped
abbrev pub is_padding : ℕ → Bool
is_padding type = (type == 1) || (type == 3) || (type == 5) || (type == 6)

-- what is read of a block whose content is skipped
abbrev pub skipped : ℕ → ℕ → Content
skipped type n = if is_padding type then Padding n else Reserved

-- types 0, 2 and 4 are read, type 127 is forbidden, and any other is skipped
abbrev pub Body : ℕ → ℕ → Content → List ℕ → Type 0
Body type n =
    when type == 0 then InfoBody n
    else when type == 2 then ApplicationBody n
    else when type == 4 then Mapped Comments (CommentCode n)
    else when type == 127 then (λ b t. ⊥)
    else Mapped (λ bytes. skipped type n) (Bytes n)

-- the length is checked first
abbrev pub ApplicationFault : ℕ → Fault → List ℕ → Type 0
ApplicationFault n =
    MeetsOr (nat_lt n 4) ApplicationShort (
    MeetsOr (nat_lt max_content_bytes n) ApplicationLarge Never)

-- the faults of the type and the length, and then those of the content
abbrev pub BodyFault : ℕ → ℕ → Fault → List ℕ → Type 0
BodyFault type n =
    when type == 0 then MeetsOr (not (n == 34)) StreaminfoLength StreaminfoFault
    else when type == 2 then ApplicationFault n
    else when type == 4 then CommentFault n
    else MeetsOr (type == 127) BlockType Never

-- ---- a block with its header

-- whether this is the last block, and its content
pub record MetadataBlock : Type 0 where
  pub is_last : Bool
  pub content : Content

-- a header, and content of its type and length
abbrev pub BlockCode : MetadataBlock → List ℕ → Type 0
BlockCode b t =
    (h : BlockHeader) × (header : List ℕ) × (body : List ℕ) × BlockHeaderCode h header
    × Body h.type h.length b.content body × (b.is_last ≡ h.is_last) × (t ≡ header ++ body)

-- the faults of the content: a header has none
abbrev pub BlockFault : Fault → List ℕ → Type 0
BlockFault = ThenFault BlockHeaderCode Never (λ h. BodyFault h.type h.length)
