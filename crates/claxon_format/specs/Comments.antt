-- The content of a Vorbis comment block (RFC 9639, section 8.6).
use Rattle.std.specs.Prelude.{
  ◌≡◌,
  ℕ,
  zero,
  suc,
  ◌-◌,
  ◌/◌,
  ◌≤◌,
  Bool,
  true,
  false,
  not,
  ◌==◌,
  ◌&&◌,
  nat_lt,
  nat_le,
  List,
  [],
  ◌∷◌,
  ◌++◌,
  length,
  IsUtf8,
}
use Rattle.std.specs.List.{list_all, list_any, position_or_len, before_first}
use Rattle.std.specs.Str.{is_utf8}
use Rattle.claxon_format.specs.Fault.{
  Fault,
  CommentShort,
  CommentLarge,
  VendorLong,
  VendorNotUtf8,
  TooManyEntries,
  EntryLong,
  SeparatorMissing,
  NameByte,
  EntryNotUtf8,
  ExcessData,
  EntriesMissing,
}
use Rattle.claxon_format.specs.Codes.{
  when◌then◌else◌,
  Each,
  ThenFault,
  MeetsOr,
  Never,
  Is,
  Mapped,
  Checked,
  CheckedFault,
}
use Rattle.claxon_format.specs.Metadata.{Bytes, Little, max_content_bytes}

-- an entry: its text, and the position of its first '='
pub record Entry : Type 0 where
  pub text : List ℕ
  pub place : ℕ

-- the vendor string, and the entries
pub record Comment : Type 0 where
  pub vendor : List ℕ
  pub entries : List Entry

-- ---- the code

-- '='
abbrev pub is_separator : ℕ → Bool
is_separator y = y == 0x3d

-- a byte that a name may have; the standard has 0x7e too
abbrev pub is_name_byte : ℕ → Bool
is_name_byte y = nat_le 0x20 y && nat_le y 0x7d

-- a name, which may be empty, the first '=', and a value: UTF-8 as a whole
abbrev pub IsEntry : Entry → Type 0
IsEntry e =
    (name : List ℕ) × (value : List ℕ) × (e.text ≡ name ++ (0x3d ∷ value)) × (e.place ≡ length name)
    × (list_any is_separator name ≡ false) × (list_all is_name_byte name ≡ true) × IsUtf8 e.text

-- the length of a text in four bytes, little-endian, and the text
abbrev pub LengthPrefixed : List ℕ → List ℕ → Type 0
LengthPrefixed text t =
    (length_bytes : List ℕ) × Little 4 (length text) length_bytes × (t ≡ length_bytes ++ text)

-- the entries of texts: an empty text has none, any other is one
abbrev pub EntriesOf : List (List ℕ) → List Entry → Type 0
EntriesOf [] [] = Unit {0}
EntriesOf [] (e ∷ entries) = ⊥
EntriesOf ([] ∷ texts) entries = EntriesOf texts entries
EntriesOf ((y ∷ ys) ∷ texts) [] = ⊥
EntriesOf ((y ∷ ys) ∷ texts) (e ∷ entries) = (e.text ≡ y ∷ ys) × IsEntry e × EntriesOf texts entries

-- n bytes: the vendor string, the number of texts, and the texts
abbrev pub CommentCode : ℕ → Comment → List ℕ → Type 0
CommentCode n c t =
    (texts : List (List ℕ)) × (vendor : List ℕ) × (count : List ℕ) × (entries : List ℕ)
    × (n ≤ max_content_bytes) × (length t ≡ n) × LengthPrefixed c.vendor vendor
    × IsUtf8 c.vendor × Little 4 (length texts) count × Each LengthPrefixed texts entries
    × EntriesOf texts c.entries × (t ≡ vendor ++ (count ++ entries))

-- ---- faults

abbrev pub has_separator : List ℕ → Bool
has_separator text = nat_lt (position_or_len is_separator text) (length text)

abbrev pub has_name : List ℕ → Bool
has_name text = list_all is_name_byte (before_first is_separator text)

abbrev pub not_utf8 : List ℕ → Bool
not_utf8 text = not (is_utf8 text)

-- a text of n bytes that is no entry
abbrev pub EntryFault : ℕ → Fault → List ℕ → Type 0
EntryFault n =
    ThenFault (Bytes n) Never (λ text.
    MeetsOr (not (has_separator text)) SeparatorMissing (
    MeetsOr (not (has_name text)) NameByte (MeetsOr (not_utf8 text) EntryNotUtf8 Never)))

-- a text of n bytes that is an entry
abbrev pub EntryCode : ℕ → Entry → List ℕ → Type 0
EntryCode n e t = (length t ≡ n) × (e.text ≡ t) × IsEntry e

-- a text of n bytes and its entries: none if it is empty, or else one
abbrev pub EntryOrEmpty : ℕ → List Entry → List ℕ → Type 0
EntryOrEmpty n = when n == 0 then Is [] else Mapped (λ e. e ∷ []) (EntryCode n)

-- an empty text has no fault
abbrev pub EntryOrEmptyFault : ℕ → Fault → List ℕ → Type 0
EntryOrEmptyFault n = when n == 0 then Never else EntryFault n

-- the length of the vendor string or of an entry: at most the bytes that are left
abbrev pub TextLength : ℕ → ℕ → List ℕ → Type 0
TextLength most = Checked (nat_lt most) (Little 4)

-- a length that is more, which is this fault
abbrev pub TextLengthFault : Fault → ℕ → Fault → List ℕ → Type 0
TextLengthFault fault most = CheckedFault (nat_lt most) fault (Little 4) Never

-- the vendor string: n bytes of UTF-8
abbrev pub Vendor : ℕ → List ℕ → List ℕ → Type 0
Vendor n = Checked not_utf8 (Bytes n)

-- n bytes that are not UTF-8
abbrev pub VendorFault : ℕ → Fault → List ℕ → Type 0
VendorFault n = CheckedFault not_utf8 VendorNotUtf8 (Bytes n) Never

-- the number of texts, below the limit
abbrev pub Count : ℕ → ℕ → List ℕ → Type 0
Count limit = Checked (nat_le limit) (Little 4)

-- a number that reaches the limit
abbrev pub CountFault : ℕ → Fault → List ℕ → Type 0
CountFault limit = CheckedFault (nat_le limit) TooManyEntries (Little 4) Never

-- after the last text: bytes are left over, or texts are missing
abbrev pub EntriesEndFault : ℕ → ℕ → Fault → List ℕ → Type 0
EntriesEndFault missing left =
    MeetsOr (nat_lt 0 left) ExcessData (MeetsOr (nat_lt 0 missing) EntriesMissing Never)

-- the faults of the missing texts in the bytes that are left
abbrev pub EntriesFault : ℕ → ℕ → Fault → List ℕ → Type 0
EntriesFault zero left = EntriesEndFault zero left
EntriesFault (suc missing) left =
    when nat_lt left 4 then EntriesEndFault (suc missing) left
    else ThenFault (TextLength (left - 4)) (TextLengthFault EntryLong (left - 4)) (λ n.
    ThenFault (EntryOrEmpty n) (EntryOrEmptyFault n) (λ entries.
    EntriesFault missing (left - 4 - n)))

-- the faults of the fields, in order
abbrev pub CommentFault : ℕ → Fault → List ℕ → Type 0
CommentFault n =
    MeetsOr (nat_lt n 8) CommentShort (
    MeetsOr (nat_lt max_content_bytes n) CommentLarge (
    ThenFault (TextLength (n - 8)) (TextLengthFault VendorLong (n - 8)) (λ v.
    ThenFault (Vendor v) (VendorFault v) (λ vendor.
    ThenFault (Count (n / 4)) (CountFault (n / 4)) (λ count. EntriesFault count (n - 8 - v))))))
