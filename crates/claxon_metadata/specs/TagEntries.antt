-- The entries of Vorbis comments (RFC 9639, section 8.6) in the code: texts, each with the index
-- of its first '='.
use Rattle.std.specs.Prelude.{ℕ, ◌<◌, List, All, map, slice_index, length, string_bytes}
use Rattle.std.specs.declared.string.String.{String}
use Rattle.std.specs.Borrow.{Bor}
use Rattle.claxon_format.specs.Comments.{Entry}

-- an entry: its text, and the index of the first `=`
abbrev pub entry_view : {A : Type 0} → String A × ℕ → Entry
entry_view tag_of_entry = record { text = string_bytes tag_of_entry.0; place = tag_of_entry.1 }

abbrev pub entries_view : {A : Type 0} → List (String A × ℕ) → List Entry
entries_view comments = map entry_view comments

-- an ASCII character stands at this index, so a text can be split before and after it
pub record IsSeparatorIndex (bytes : List ℕ) (place : ℕ) : Type 0 where
  pub inside : place < length bytes
  pub ascii : slice_index bytes place < 128

-- the index of each entry is one
abbrev pub HaveSeparatorIndices : {A : Type 0} → List (String A × ℕ) → Type 0
HaveSeparatorIndices comments =
    All (λ tag_of_entry. IsSeparatorIndex (string_bytes tag_of_entry.0) tag_of_entry.1) comments

-- the values of a pair of references
abbrev pub pair_view : Bor (List ℕ) × Bor (List ℕ) → List ℕ × List ℕ
pair_view p = (p.0.now, p.1.now)
