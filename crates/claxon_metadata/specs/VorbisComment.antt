-- Vorbis comments (RFC 9639, section 8.6) in the code.
use Rattle.std.specs.Prelude.{
  ◌≡◌,
  ◌⊎◌,
  ℕ,
  true,
  false,
  nat_lt,
  Option,
  None,
  Some,
  MatchResult,
  Result,
  List,
  [],
  ◌∷◌,
  ◌++◌,
  string_bytes,
}
use Rattle.std.specs.List.{position_or_len}
use Rattle.std.specs.declared.string.String.{String}
use Rattle.claxon_format.specs.Comments.{
  Entry,
  Comment,
  TextLength,
  has_name,
  has_separator,
  is_separator,
}
use Rattle.claxon_format.specs.Fault.{Fault, NameByte, SeparatorMissing}
use Rattle.claxon_format.specs.read.Reading.{checked_at}
use Rattle.claxon_format.specs.read.Bytes.{little_at}
use Rattle.claxon_format.specs.read.Comments.{entries_end_at}
use Rattle.claxon_input.specs.Error.{IsFault, is_named}
use Rattle.claxon_input.specs.Gives.{Gives}
use Rattle.claxon_input.specs.Promises.{IsOutOfMemory}
use Rattle.claxon_input.specs.Source.{Source}
use Rattle.claxon_input.specs.State.{State, bytes_in, RemainingIsKnown}
use Rattle.claxon_input.specs.declared.error.Error.{Error}
use Rattle.claxon_metadata.specs.declared.metadata.VorbisComment.{VorbisComment}
use Rattle.claxon_metadata.specs.TagEntries.{entry_view, entries_view}

abbrev pub comment_view : {A : Type 0} → VorbisComment A → Comment
comment_view comment =
    record { vendor = string_bytes comment.vendor; entries = entries_view comment.comments.items }

-- an entry, or none for an empty text
abbrev pub entry_or_empty_view : {A : Type 0} → Option (String A × ℕ) → List Entry
entry_or_empty_view None = []
entry_or_empty_view (Some tag_of_entry) = entry_view tag_of_entry ∷ []

-- the bytes begin with a vendor length, which is at most `most`
abbrev pub HasVendorLength : ℕ → List ℕ → Type 0
HasVendorLength most s =
    (v : ℕ) × (x : List ℕ) × (rest : List ℕ) × TextLength most v x × (s ≡ x ++ rest)

-- `OutOfMemory` is returned only if the bytes begin with such a length.
abbrev pub OutOfMemoryAfterVendorLength : {A : Type 0} → ℕ → Result A Error → State ℕ → Type 0
OutOfMemoryAfterVendorLength most r old =
    IsOutOfMemory r → RemainingIsKnown old → HasVendorLength most old.remaining

-- A length of at most `most` was read; a greater one is the fault of this error.
abbrev pub LengthIsRead : {R : Type 0} → (R → Source ℕ) → ℕ → Error → R → Result ℕ Error → R
    → Type 0
LengthIsRead source most too_long old r new =
    (f : Fault) → IsFault f too_long → is_named too_long ≡ true
    → Gives (λ x. x) r (checked_at (nat_lt most) f (little_at 4))
    (bytes_in source old) (bytes_in source new)

-- After the last entry the result is that of the format's reader, and nothing is consumed.
abbrev pub EndIsChecked : {A : Type 0} → ℕ → ℕ → Result A Error → Type 0
EndIsChecked missing left r =
    (here : State ℕ) → Gives (λ x. []) r (entries_end_at missing left) here here

-- no `=`, or else an invalid byte in the name before it
abbrev pub HasSeparatorFault : List ℕ → Error → Type 0
HasSeparatorFault entry error =
    ((has_separator entry ≡ false) × IsFault SeparatorMissing error)
    ⊎ ((has_separator entry ≡ true) × (has_name entry ≡ false) × IsFault NameByte error)

-- The index of the first `=` is returned, and the name before it is valid.
abbrev pub SeparatorIsFound : List ℕ → Result ℕ Error → Type 0
SeparatorIsFound entry result =
    MatchResult result
    (λ place. (place ≡ position_or_len is_separator entry) × (has_separator entry ≡ true)
    × (has_name entry ≡ true))
    (HasSeparatorFault entry)
