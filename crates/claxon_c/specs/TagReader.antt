-- The reader of the next tag in the content of a Vorbis comment block, for private calls.
use Rattle.std.specs.Prelude.{
  ◌≡◌,
  ℕ,
  zero,
  suc,
  ◌+◌,
  ◌-◌,
  ◌≤◌,
  nat_lt,
  if◌then◌else◌,
  List,
  [],
  ◌∷◌,
  length,
  drop,
  Option,
  None,
  Some,
  Result,
  MatchResult,
}
use Rattle.std.specs.List.{position_or_len}
use Rattle.claxon.specs.Comments.{Entry, is_separator}
use Rattle.claxon.specs.Fault.{CommentShort, ExcessData, Fault}
use Rattle.claxon.specs.read.Bytes.{bytes_at}
use Rattle.claxon.specs.read.Comments.{
  entry_at,
  entry_length_at,
  entry_of,
  entry_or_empty_at,
  vendor_length_at,
}
use Rattle.claxon.specs.read.Reading.{Done, Faulty, Reading, and_then, bind, test}
use Rattle.claxon.specs.Error.{IsFault}
use Rattle.claxon.specs.Errors.{Error}
use Rattle.claxon_c.specs.declared.tags.FoundEntry.{FoundEntry}
use Rattle.claxon_c.specs.declared.tags.Tag.{Tag}

-- the length before an entry, where `left` bytes are left
unfoldable pub length_prefix_at : ℕ → List ℕ → Reading ℕ ℕ
length_prefix_at left = test (nat_lt left 4) ExcessData (entry_length_at (left - 4))

-- an entry after its length, or none where it is empty
unfoldable pub prefixed_entry_at : ℕ → List ℕ → Reading ℕ (List Entry)
prefixed_entry_at left = and_then (length_prefix_at left) entry_or_empty_at

-- this entry, or what is read after an empty one
abbrev pub after_entry : (List ℕ → Reading ℕ (Option Entry)) → List Entry → List ℕ
    → Reading ℕ (Option Entry)
after_entry next [] rest = next rest
after_entry next (e ∷ others) rest = Done (Some e) rest

-- of at most `most` entries the first one that isn't empty
unfoldable pub first_entry_at : ℕ → List ℕ → Reading ℕ (Option Entry)
first_entry_at zero s = Done None s
first_entry_at (suc most) s =
    if nat_lt 0 (length s) then
    bind (prefixed_entry_at (length s) s) (after_entry (first_entry_at most))
    else Done None s

-- the length of the vendor string in a content of n bytes
unfoldable pub front_length_at : ℕ → List ℕ → Reading ℕ ℕ
front_length_at n = test (nat_lt n 8) CommentShort (vendor_length_at (n - 8))

-- what stands before the entries
unfoldable pub front_at : ℕ → List ℕ → Reading ℕ (List ℕ)
front_at n = and_then (front_length_at n) (λ v. bytes_at (v + 4))

-- the next tag from a position on
unfoldable pub tag_at : ℕ → List ℕ → Reading ℕ (Option Entry)
tag_at zero content =
    bind (front_at (length content) content) (λ _. first_entry_at (length content))
tag_at (suc n) content = first_entry_at (length content) (drop (suc n) content)

-- ---- what private calls return

-- the fault that was read is that of the error
abbrev pub ReadsFault : {A : Type 0} → Reading ℕ A → Error → Type 0
ReadsFault read e = (f : Fault) × (rest : List ℕ) × IsFault f e × (read ≡ Faulty f rest)

-- The end of the entry whose length is at this position is returned.
abbrev pub EntryEndIsRead : List ℕ → ℕ → Result ℕ Error → Type 0
EntryEndIsRead content at result =
    MatchResult result
    (λ end. (at + 4 ≤ end) × (end ≤ length content)
    × (length_prefix_at (length content - at) (drop at content)
    ≡ Done (end - at - 4) (drop (at + 4) content)))
    (λ e. ReadsFault (length_prefix_at (length content - at) (drop at content)) e)

-- The length of the name of an entry is returned.
abbrev pub NameIsRead : List ℕ → Result ℕ Error → Type 0
NameIsRead text result =
    MatchResult result
    (λ count. (count ≡ position_or_len is_separator text)
    × (entry_at (length text) text ≡ Done (entry_of text) []))
    (λ e. ReadsFault (entry_at (length text) text) e)

-- no entry, or one whose name has this length, and whose text has `count` bytes
abbrev pub IsEntryOf : Option ℕ → ℕ → List Entry → Type 0
IsEntryOf None count entries = entries ≡ []
IsEntryOf (Some n) count entries =
    (e : Entry) × (entries ≡ e ∷ []) × (length e.text ≡ count) × (e.place ≡ n)

-- The entry whose length is at this position is returned.
abbrev pub EntryIsRead : List ℕ → ℕ → Result FoundEntry Error → Type 0
EntryIsRead content at result =
    MatchResult result
    (λ found. (at + 4 ≤ found.end) × (found.end ≤ length content) × ((entries : List Entry)
    × IsEntryOf found.name_length (found.end - at - 4) entries
    × (prefixed_entry_at (length content - at) (drop at content)
    ≡ Done entries (drop found.end content))))
    (λ e. ReadsFault (prefixed_entry_at (length content - at) (drop at content)) e)

-- The tag is that of the entry that was read.
abbrev pub IsTagOf : List ℕ → Reading ℕ (Option Entry) → Option Tag → Type 0
IsTagOf content read None = (rest : List ℕ) × (read ≡ Done None rest)
IsTagOf content read (Some tag) =
    (e : Entry) × (rest : List ℕ) × (read ≡ Done (Some e) rest)
    × (tag.end + length rest ≡ length content) × (tag.name_at + length e.text ≡ tag.end)
    × (tag.name_length ≡ e.place)

-- What was read is returned.
abbrev pub TagIsRead : List ℕ → Reading ℕ (Option Entry) → Result (Option Tag) Error → Type 0
TagIsRead content read result =
    MatchResult result (λ found. IsTagOf content read found) (λ e. ReadsFault read e)

-- The position that entries are read from is returned.
abbrev pub EntriesStartIsRead : ℕ → List ℕ → Result ℕ Error → Type 0
EntriesStartIsRead at content result =
    MatchResult result
    (λ start. (start ≤ length content)
    × (tag_at at content ≡ first_entry_at (length content) (drop start content)))
    (λ e. ReadsFault (tag_at at content) e)
