-- What a call returns for the next tag in the content of a Vorbis comment block.
use Rattle.std.specs.Prelude.{
  ◌≡◌,
  ◌≢◌,
  ◌⊎◌,
  ◌↔◌,
  ℕ,
  zero,
  suc,
  ◌+◌,
  ◌-◌,
  ◌<◌,
  nat_lt,
  List,
  [],
  ◌∷◌,
  ◌++◌,
  length,
  take,
  drop,
  replicate,
}
use Rattle.claxon.specs.Codes.{Each, MeetsOr, ThenFault}
use Rattle.claxon.specs.Comments.{
  Comment,
  CommentCode,
  EntriesOf,
  Entry,
  EntryOrEmptyFault,
  IsEntry,
  LengthPrefixed,
  TextLength,
  TextLengthFault,
}
use Rattle.claxon.specs.Fault.{CommentShort, EntryLong, ExcessData, Fault, VendorLong}
use Rattle.claxon.specs.Prefix.{BeginsWith}
use Rattle.claxon_c.specs.declared.tags.ClaxonTag.{ClaxonTag}
use Rattle.claxon_c.specs.Status.{FaultIsReported, IsFaultStatus, no_more, ok}

-- ---- entries from a position on

-- The entries that stand from the position on: at 0 those after the vendor string and the four
-- bytes of their number.
abbrev pub EntriesFrom : ℕ → List ℕ → List ℕ → Type 0
EntriesFrom zero content bytes =
    (vendor : List ℕ) × (x : List ℕ) × (y : List ℕ) × LengthPrefixed vendor x × (length y ≡ 4)
    × (content ≡ x ++ (y ++ bytes))
EntriesFrom (suc n) content bytes = bytes ≡ drop (suc n) content

-- empty entries, as old encoders write them
abbrev pub EmptyEntries : List ℕ → Type 0
EmptyEntries t = (n : ℕ) × Each LengthPrefixed (replicate n []) t

-- a tag, and the empty entries before it
abbrev pub NextTag : Entry → List ℕ → Type 0
NextTag e t =
    (x : List ℕ) × (y : List ℕ) × EmptyEntries x × LengthPrefixed e.text y × IsEntry e
    × (t ≡ x ++ y)

-- This is the next tag from the position on, and these bytes follow it.
abbrev pub TagStands : ℕ → List ℕ → Entry → List ℕ → Type 0
TagStands at content e rest =
    (bytes : List ℕ) × (t : List ℕ) × EntriesFrom at content bytes × NextTag e t
    × (bytes ≡ t ++ rest)

-- No tag follows the position: just empty entries.
abbrev pub NoTagIsLeft : ℕ → List ℕ → Type 0
NoTagIsLeft at content = (bytes : List ℕ) × EntriesFrom at content bytes × EmptyEntries bytes

-- ---- faults

-- of an entry and its length in the bytes that are left: they have no whole length, or are fewer
-- than it says, or the entry is ill-formed
abbrev pub PrefixedEntryFault : ℕ → Fault → List ℕ → Type 0
PrefixedEntryFault left =
    MeetsOr (nat_lt left 4) ExcessData
    (ThenFault (TextLength (left - 4)) (TextLengthFault EntryLong (left - 4)) EntryOrEmptyFault)

-- of an entry after empty ones, before the end of the bytes that are left
abbrev pub NextTagFault : ℕ → Fault → List ℕ → Type 0
NextTagFault left f t =
    (x : List ℕ) × (y : List ℕ) × EmptyEntries x × (length x < left)
    × PrefixedEntryFault (left - length x) f y × (t ≡ x ++ y)

-- of what stands before the entries of a content of n bytes
abbrev pub FrontFault : ℕ → Fault → List ℕ → Type 0
FrontFault n = MeetsOr (nat_lt n 8) CommentShort (TextLengthFault VendorLong (n - 8))

-- Instead of a tag this fault stands there.
abbrev pub TagFaultStands : ℕ → List ℕ → Fault → Type 0
TagFaultStands at content f =
    ((at ≡ 0) × BeginsWith (FrontFault (length content) f) content)
    ⊎ ((bytes : List ℕ) × EntriesFrom at content bytes
    × BeginsWith (NextTagFault (length bytes) f) bytes)

-- ---- what the call returns

-- It shows where the name and the value of this tag are. `to` is the position after it, and these
-- bytes follow.
pub record ShowsTag (content : List ℕ) (e : Entry) (rest : List ℕ) (to : ℕ) (shown : ClaxonTag) :
    Type 0 where
  pub after : to + length rest ≡ length content
  pub from : shown.name_at + length e.text ≡ to
  pub name : take shown.name_length (drop shown.name_at content) ≡ take e.place e.text
  pub name_count : shown.name_length ≡ e.place
  pub value : take shown.value_length (drop shown.value_at content) ≡ drop (e.place + 1) e.text
  pub value_count : shown.value_length + (e.place + 1) ≡ length e.text
  pub value_end : shown.value_at + shown.value_length ≡ to

-- The tags from the position on are these, up to the end of the content, and at 0 the content is a
-- whole comment block.
abbrev pub TagsAre : ℕ → List ℕ → List Entry → Type 0
TagsAre zero content entries =
    (c : Comment) × CommentCode (length content) c content × (entries ≡ c.entries)
TagsAre (suc n) content entries =
    (texts : List (List ℕ)) × Each LengthPrefixed texts (drop (suc n) content)
    × EntriesOf texts entries

-- `from` is the position before the call, and `to` the one after it.
module _ (content : List ℕ) (from status : ℕ) where
  -- `no_more` is returned exactly where no tag is left.
  abbrev pub CTagNoMoreIffEnd : Type 0
  CTagNoMoreIffEnd = (status ≡ no_more) ↔ NoTagIsLeft from content

  -- The status is `ok`, `no_more` or that of a fault.
  abbrev pub CTagStatusIsKnown : Type 0
  CTagStatusIsKnown = (status ≡ ok) ⊎ ((status ≡ no_more) ⊎ IsFaultStatus status)

  -- The status of a fault reports one that stands there instead of a tag; its text is written to
  -- `new`.
  abbrev pub CTagFaultIsSound : List ℕ → List ℕ → Type 0
  CTagFaultIsSound old new =
      IsFaultStatus status → (f : Fault) × TagFaultStands from content f
      × FaultIsReported f status old new

  -- A fault that stands there instead of a tag is reported.
  abbrev pub CTagFaultIsComplete : List ℕ → List ℕ → Type 0
  CTagFaultIsComplete old new =
      (f : Fault) → TagFaultStands from content f → FaultIsReported f status old new

  module _ (to : ℕ) (shown : ClaxonTag) where
    -- With `ok` the tag that is shown is the next one.
    abbrev pub CTagIsSound : Type 0
    CTagIsSound =
        status ≡ ok → (e : Entry) × (rest : List ℕ) × TagStands from content e rest
        × ShowsTag content e rest to shown

    -- The next tag is shown.
    abbrev pub CTagIsComplete : Type 0
    CTagIsComplete =
        (e : Entry) (rest : List ℕ) → TagStands from content e rest
        → (status ≡ ok) × ShowsTag content e rest to shown

    -- The call for these tags: it shows the first, and the others follow the new position, or
    -- there is none.
    abbrev pub ShowsFirst : List Entry → Type 0
    ShowsFirst [] = status ≡ no_more
    ShowsFirst (e ∷ others) =
        (status ≡ ok) × (rest : List ℕ) × ShowsTag content e rest to shown
        × TagsAre to content others

    -- So in a comment block calls from position 0 on show its tags one after another, and then
    -- return `no_more`.
    abbrev pub CTagsAreInOrder : Type 0
    CTagsAreInOrder = (entries : List Entry) → TagsAre from content entries → ShowsFirst entries

-- The position and what is shown are changed by `ok` alone.
abbrev pub TagIsKept : ℕ → ℕ → ℕ → ClaxonTag → ClaxonTag → Type 0
TagIsKept status from to old new = status ≢ ok → (to ≡ from) × (new ≡ old)
