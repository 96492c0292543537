-- The head of a stream: its marker and metadata blocks (RFC 9639, sections 6 and 8).
use Rattle.std.specs.Prelude.{
  ◌≡◌,
  ℕ,
  zero,
  suc,
  ◌/◌,
  ◌<◌,
  ◌≤◌,
  Bool,
  true,
  false,
  if◌then◌else◌,
  not,
  ◌==◌,
  ◌&&◌,
  ◌||◌,
  List,
  [],
  ◌∷◌,
  ◌++◌,
  length,
  Option,
  Some,
  None,
}
use Rattle.std.specs.List.{list_any}
use Rattle.claxon_format.specs.Fault.{
  Fault,
  Id3Header,
  StreamMarker,
  StreaminfoMissing,
  SecondComment,
  SecondStreaminfo,
  TooManyBlocks,
}
use Rattle.claxon_format.specs.Codes.{when◌then◌else◌, Each, ThenFault, MeetsOr, Met, Never}
use Rattle.claxon_format.specs.Metadata.{Big}
use Rattle.claxon_format.specs.Streaminfo.{Streaminfo}
use Rattle.claxon_format.specs.Comments.{Comment}
use Rattle.claxon_format.specs.MetadataBlocks.{
  Content,
  Info,
  Comments,
  MetadataBlock,
  BlockCode,
  BlockFault,
}

-- whether metadata alone is read, and whether comments are wanted
pub record Options : Type 0 where
  pub metadata_only : Bool
  pub wants_comment : Bool

-- what is read: the streaminfo, and the comments where they are wanted
pub record Head : Type 0 where
  pub info : Streaminfo
  pub comment : Option Comment

abbrev pub is_info : Content → Bool
is_info (Info i) = true
is_info _ = false

abbrev pub is_comment : Content → Bool
is_comment (Comments c) = true
is_comment _ = false

-- `fLaC`, big-endian
abbrev pub stream_marker : ℕ
stream_marker = 0x664c6143

-- what a stream begins with (section 6)
abbrev pub Marker : ℕ → List ℕ → Type 0
Marker m t = (m ≡ stream_marker) × Big 4 m t

-- the most metadata blocks of a head: the standard sets no limit
abbrev pub max_blocks : ℕ
max_blocks = 65536

-- ---- the code

-- a block after which no more metadata is wanted: the comments, or the streaminfo where comments
-- are not wanted
abbrev pub is_enough : Options → Content → Bool
is_enough o c = o.metadata_only && (if o.wants_comment then is_comment c else is_info c)

-- the last block that is read: the last one of the head, or one after which no more metadata is
-- wanted
abbrev pub is_end : Options → MetadataBlock → Bool
is_end o b = b.is_last || is_enough o b.content

-- reading stops after the last of these blocks, and not before
abbrev pub EndsAtLast : Options → MetadataBlock → List MetadataBlock → Type 0
EndsAtLast o b [] = is_end o b ≡ true
EndsAtLast o b (c ∷ others) = (is_end o b ≡ false) × EndsAtLast o c others

-- the comments of a block, if it has any
abbrev pub comment_of : Content → List Comment
comment_of (Comments c) = c ∷ []
comment_of _ = []

-- the comments of all blocks
abbrev pub comments_in : List MetadataBlock → List Comment
comments_in [] = []
comments_in (b ∷ others) = comment_of b.content ++ comments_in others

abbrev pub first : List Comment → Option Comment
first [] = None
first (c ∷ others) = Some c

-- the streaminfo comes first and nowhere else, at most one block has comments, and reading stops
-- after the last block
pub record IsHead (o : Options) (h : Head) (b : MetadataBlock) (others : List MetadataBlock) : Type
    0 where
  pub info : b.content ≡ Info h.info
  pub no_info : list_any (λ b. is_info b.content) others ≡ false
  pub one_comment : length (comments_in others) ≤ 1
  pub few : length others < max_blocks
  pub ends : EndsAtLast o b others
  pub comment : h.comment ≡ (if o.wants_comment then first (comments_in others) else None)

-- the marker and the blocks that are read
abbrev pub HeadCode : Options → Head → List ℕ → Type 0
HeadCode o h t =
    (b : MetadataBlock) × (others : List MetadataBlock)
    × (marker : List ℕ) × (first_block : List ℕ) × (other_blocks : List ℕ)
    × Big 4 stream_marker marker × BlockCode b first_block × Each BlockCode others other_blocks
    × IsHead o h b others × (t ≡ marker ++ (first_block ++ other_blocks))

-- ---- faults, block by block

abbrev pub is_some : Option Comment → Bool
is_some None = false
is_some (Some c) = true

-- the comments that were found, after one more block
abbrev pub found_with : Option Comment → Content → Option Comment
found_with found (Comments c) = Some c
found_with found _ = found

-- a block has comments, and others were found before
abbrev pub is_second : Option Comment → Content → Bool
is_second found c = is_comment c && is_some found

-- no more metadata is wanted after this block
abbrev pub is_done : Bool → Option Comment → MetadataBlock → Bool
is_done suffices found b = b.is_last || (suffices && is_some (found_with found b.content))

-- the faults of the blocks after the streaminfo, up to a limit of blocks
abbrev pub OthersFault : Bool → ℕ → Option Comment → Fault → List ℕ → Type 0
OthersFault suffices zero found = Met TooManyBlocks
OthersFault suffices (suc k) found =
    ThenFault BlockCode BlockFault (λ b.
    MeetsOr (is_info b.content) SecondStreaminfo (
    MeetsOr (is_second found b.content) SecondComment (
    when is_done suffices found b then Never
    else OthersFault suffices k (found_with found b.content))))

-- no block is read after the streaminfo
abbrev pub streaminfo_ends_head : Options → Bool → Bool
streaminfo_ends_head o is_last = is_last || (o.metadata_only && not o.wants_comment)

-- the first block must be a streaminfo; then the faults of the others
abbrev pub FirstFault : Options → Bool → Content → Fault → List ℕ → Type 0
FirstFault o is_last (Info i) =
    when streaminfo_ends_head o is_last then Never
    else OthersFault o.metadata_only 65535 None
FirstFault o is_last _ = Met StreaminfoMissing

-- an ID3 tag begins with 49 44 33
abbrev pub MarkerFault : Fault → List ℕ → Type 0
MarkerFault =
    ThenFault (Big 4) Never (λ m.
    MeetsOr (m / 256 == 0x494433) Id3Header (MeetsOr (not (m == stream_marker)) StreamMarker Never))

-- the faults of the fields, in order
abbrev pub HeadFault : Options → Fault → List ℕ → Type 0
HeadFault o =
    ThenFault Marker MarkerFault (λ m.
    ThenFault BlockCode BlockFault (λ b. FirstFault o b.is_last b.content))
