-- Readers of the content of a Vorbis comment block and of its fields (RFC 9639, section 8.6).
use Rattle.std.specs.Prelude.{
  if◌then◌else◌,
  ℕ,
  zero,
  suc,
  ◌-◌,
  ◌/◌,
  not,
  ◌==◌,
  nat_lt,
  nat_le,
  List,
  [],
  ◌∷◌,
  ◌++◌,
}
use Rattle.std.specs.List.{position_or_len}
use Rattle.claxon_format.specs.Fault.{
  CommentShort,
  CommentLarge,
  VendorLong,
  VendorNotUtf8,
  TooManyEntries,
  EntryLong,
  SeparatorMissing,
  NameByte,
  EntryNotUtf8,
  ExcessData,
  EntriesMissing,
}
use Rattle.claxon_format.specs.read.Reading.{Reading, and_then, done, test, checked_at}
use Rattle.claxon_format.specs.Metadata.{max_content_bytes}
use Rattle.claxon_format.specs.read.Bytes.{bytes_at, little_at}
use Rattle.claxon_format.specs.Comments.{
  Entry,
  Comment,
  is_separator,
  has_separator,
  has_name,
  not_utf8,
}

-- the entry that a text is, if it is one
abbrev pub entry_of : List ℕ → Entry
entry_of text = record { text = text; place = position_or_len is_separator text }

unfoldable pub entry_at : ℕ → List ℕ → Reading ℕ Entry
entry_at n =
    and_then (bytes_at n) (λ text.
    test (not (has_separator text)) SeparatorMissing (
    test (not (has_name text)) NameByte (test (not_utf8 text) EntryNotUtf8 (done (entry_of text)))))

-- an empty text has no entry
unfoldable pub entry_or_empty_at : ℕ → List ℕ → Reading ℕ (List Entry)
entry_or_empty_at n = if n == 0 then done [] else and_then (entry_at n) (λ e. done (e ∷ []))

unfoldable pub entry_length_at : ℕ → List ℕ → Reading ℕ ℕ
entry_length_at most = checked_at (nat_lt most) EntryLong (little_at 4)

-- the faults after the last text
abbrev pub entries_end_at : ℕ → ℕ → List ℕ → Reading ℕ (List Entry)
entries_end_at missing left =
    test (nat_lt 0 left) ExcessData (test (nat_lt 0 missing) EntriesMissing (done []))

-- the missing texts in the bytes that are left
unfoldable pub entries_at : ℕ → ℕ → List ℕ → Reading ℕ (List Entry)
entries_at zero left = entries_end_at zero left
entries_at (suc missing) left =
    if nat_lt left 4 then entries_end_at (suc missing) left
    else and_then (entry_length_at (left - 4)) (λ n.
    and_then (entry_or_empty_at n) (λ entries.
    and_then (entries_at missing (left - 4 - n)) (λ others. done (entries ++ others))))

unfoldable pub vendor_length_at : ℕ → List ℕ → Reading ℕ ℕ
vendor_length_at most = checked_at (nat_lt most) VendorLong (little_at 4)

unfoldable pub vendor_at : ℕ → List ℕ → Reading ℕ (List ℕ)
vendor_at n = checked_at not_utf8 VendorNotUtf8 (bytes_at n)

unfoldable pub count_at : ℕ → List ℕ → Reading ℕ ℕ
count_at limit = checked_at (nat_le limit) TooManyEntries (little_at 4)

unfoldable pub comment_at : ℕ → List ℕ → Reading ℕ Comment
comment_at n =
    test (nat_lt n 8) CommentShort (test (nat_lt max_content_bytes n) CommentLarge (
    and_then (vendor_length_at (n - 8)) (λ v. and_then (vendor_at v) (λ vendor.
    and_then (count_at (n / 4)) (λ count. and_then (entries_at count (n - 8 - v)) (λ entries.
    done (record { vendor = vendor; entries = entries })))))))
