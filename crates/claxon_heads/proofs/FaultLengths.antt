-- Faults for which a block is passed over are within its content.
use Rattle.std.proofs.Common.{◌≡◌, ℕ, zero, suc, ◌+◌, ◌-◌, ◌/◌, ◌≤◌, Bool, true, false, cond, not, eqb, ltb, leb, List, [], ◌∷◌, length, None, Some, refl, ap, ◌∙◌, arith, length-append, inl, inr}
use Rattle.std.proofs.lemmas.Bool.{ltb-false, eqb-true}
use Rattle.claxon_format.specs.Codes.{CheckedFault, Is, Mapped, MeetsOr, Never, ThenFault}
use Rattle.claxon_format.specs.Comments.{CommentFault, Count, CountFault, EntriesEndFault, EntriesFault, Entry, EntryCode, EntryFault, EntryOrEmpty, EntryOrEmptyFault, TextLength, TextLengthFault, Vendor, VendorFault, has_name, has_separator, not_utf8}
use Rattle.claxon_format.specs.Fault.{ApplicationLarge, ApplicationShort, BlockSizeBounds, BlockSizeSmall, BlockType, CommentLarge, CommentShort, EntriesMissing, EntryLong, EntryNotUtf8, ExcessData, Fault, FrameSizeBounds, NameByte, SampleRate, SeparatorMissing, StreaminfoLength, TooManyEntries, VendorLong, VendorNotUtf8}
use Rattle.claxon_format.specs.Metadata.{Bytes, Little, max_content_bytes}
use Rattle.claxon_format.specs.MetadataBlocks.{ApplicationFault, BodyFault}
use Rattle.claxon_format.specs.Bits.{Bits}
use Rattle.claxon_format.specs.Streaminfo.{StreaminfoBitsFault, StreaminfoFault, block_sizes_inconsistent, block_small, frame_sizes_inconsistent, rate_invalid}
use Rattle.claxon_format.proofs.Metadata.{little_length}
use Rattle.claxon_heads.specs.StreamHead.{unsupported_by}
use Rattle.claxon_heads.specs.declared.head.UnsupportedBlock.{UnsupportedBlock}

-- ---- how faults are put together

-- a fault of a field, or of what follows it
then_within : {A : Type 0} (C : A → List ℕ → Type 0) (F : Fault → List ℕ → Type 0) (G : A → Fault → List ℕ → Type 0) (n : ℕ) (f : Fault) → ((t : List ℕ) → F f t → length t ≤ n)
    → ((a : A) (t u : List ℕ) → C a t → G a f u → length t + length u ≤ n) → (t : List ℕ) → ThenFault C F G f t → length t ≤ n
then_within C F G n f early late t c =
    elim c [
      | inl p ↦ early t p
      | inr p ↦
          (let total : length t ≡ length p.1 + length p.2 = ap length p.5 ∙ length-append p.1 p.2 in
          let most : length p.1 + length p.2 ≤ n = late p.0 p.1 p.2 p.3 p.4 in
          omega arith)
    ]

-- a test, or a later fault
meets_within : (b : Bool) (e : Fault) (F : Fault → List ℕ → Type 0) (n : ℕ) (f : Fault) → ((t : List ℕ) → b ≡ false → F f t → length t ≤ n) → (t : List ℕ) → MeetsOr b e F f t → length t ≤ n
meets_within b e F n f late t c =
    elim c [
      | inl p ↦ (let none : length t ≡ 0 = ap length p.2 in omega arith)
      | inr p ↦ late t p.0 p.1
    ]

-- a value that is bad
checked_within : {A : Type 0} (bad : A → Bool) (e : Fault) (C : A → List ℕ → Type 0) (n : ℕ) (f : Fault) → ((a : A) (t : List ℕ) → C a t → length t ≤ n) → (t : List ℕ) → CheckedFault bad e C Never f t → length t ≤ n
checked_within bad e C n f long =
    then_within C Never (λ a. MeetsOr (bad a) e Never) n f (λ t p. absurd p) (λ a t u c g.
    let none : length u ≤ 0 = meets_within (bad a) e Never 0 f (λ w b p. absurd p) u g in
    let most : length t ≤ n = long a t c in
    omega arith)

-- one of two
cond_within : (b : Bool) (F G : Fault → List ℕ → Type 0) (n : ℕ) (f : Fault) → (b ≡ true → (t : List ℕ) → F f t → length t ≤ n) → (b ≡ false → (t : List ℕ) → G f t → length t ≤ n) → (t : List ℕ) → cond b F G f t → length t ≤ n
cond_within true F G n f one other = one refl
cond_within false F G n f one other = other refl

-- ---- comments

text_length_within : (most : ℕ) (e f : Fault) (t : List ℕ) → TextLengthFault e most f t → length t ≤ 4
text_length_within most e f = checked_within (ltb most) e (Little 4) 4 f (λ n t c. let long : length t ≡ 4 = little_length 4 n t c in omega arith)

vendor_within : (n : ℕ) (f : Fault) (t : List ℕ) → VendorFault n f t → length t ≤ n
vendor_within n f = checked_within not_utf8 VendorNotUtf8 (Bytes n) n f (λ xs t c. let same : length t ≡ length xs = ap length c.1 in let long : length xs ≡ n = c.0 in omega arith)

count_within : (limit : ℕ) (f : Fault) (t : List ℕ) → CountFault limit f t → length t ≤ 4
count_within limit f = checked_within (leb limit) TooManyEntries (Little 4) 4 f (λ n t c. let long : length t ≡ 4 = little_length 4 n t c in omega arith)

entry_within : (n : ℕ) (f : Fault) (t : List ℕ) → EntryFault n f t → length t ≤ n
entry_within n f =
    then_within (Bytes n) Never (λ text. MeetsOr (not (has_separator text)) SeparatorMissing (MeetsOr (not (has_name text)) NameByte (MeetsOr (not_utf8 text) EntryNotUtf8 Never))) n f (λ t p. absurd p) (λ text t u c g.
    let none : length u ≤ 0 =
    meets_within (not (has_separator text)) SeparatorMissing (MeetsOr (not (has_name text)) NameByte (MeetsOr (not_utf8 text) EntryNotUtf8 Never)) 0 f (λ w a p.
    meets_within (not (has_name text)) NameByte (MeetsOr (not_utf8 text) EntryNotUtf8 Never) 0 f (λ y b q. meets_within (not_utf8 text) EntryNotUtf8 Never 0 f (λ z d r. absurd r) y q) w p) u g in
    let same : length t ≡ length text = ap length c.1 in
    let long : length text ≡ n = c.0 in
    omega arith)

entry_or_empty_within : (n : ℕ) (f : Fault) (t : List ℕ) → EntryOrEmptyFault n f t → length t ≤ n
entry_or_empty_within n f = cond_within (eqb n 0) Never (EntryFault n) n f (λ e t p. absurd p) (λ e t p. entry_within n f t p)

entry_or_empty_length : (n : ℕ) (entries : List Entry) (t : List ℕ) → EntryOrEmpty n entries t → length t ≡ n
entry_or_empty_length n entries t c = go (eqb n 0) refl c
  where
    go : (q : Bool) → eqb n 0 ≡ q → cond q (Is []) (Mapped (λ e. e ∷ []) (EntryCode n)) entries t → length t ≡ n
    go true e c = let none : length t ≡ 0 = ap length c.1 in let zero_bytes : n ≡ 0 = eqb-true n 0 e in omega arith
    go false e c = c.1.0

entries_end_within : (missing left : ℕ) (f : Fault) (t : List ℕ) → EntriesEndFault missing left f t → length t ≤ 0
entries_end_within missing left f = meets_within (ltb 0 left) ExcessData (MeetsOr (ltb 0 missing) EntriesMissing Never) 0 f (λ t a p. meets_within (ltb 0 missing) EntriesMissing Never 0 f (λ w b q. absurd q) t p)

-- a text and those after it
abbrev TextsFault : ℕ → ℕ → Fault → List ℕ → Type 0
TextsFault missing left =
    ThenFault (TextLength (left - 4)) (TextLengthFault EntryLong (left - 4)) (λ n. ThenFault (EntryOrEmpty n) (EntryOrEmptyFault n) (λ entries. EntriesFault missing (left - 4 - n)))

texts_within : (missing left : ℕ) (f : Fault) → 4 ≤ left → ((less : ℕ) (t : List ℕ) → EntriesFault missing less f t → length t ≤ less) → (t : List ℕ) → TextsFault missing left f t → length t ≤ left
texts_within missing left f some again =
    then_within (TextLength (left - 4)) (TextLengthFault EntryLong (left - 4)) (λ n. ThenFault (EntryOrEmpty n) (EntryOrEmptyFault n) (λ entries. EntriesFault missing (left - 4 - n))) left f
    (λ t p. let four : length t ≤ 4 = text_length_within (left - 4) EntryLong f t p in omega arith) (λ n t u c g.
    let four : length t ≡ 4 = little_length 4 n t c.1 in
    let few : n ≤ left - 4 = ltb-false (left - 4) n c.0 in
    let later : length u ≤ left - 4 =
    then_within (EntryOrEmpty n) (EntryOrEmptyFault n) (λ entries. EntriesFault missing (left - 4 - n)) (left - 4) f (λ w p. let k : length w ≤ n = entry_or_empty_within n f w p in omega arith)
    (λ entries w x d h. let k : length w ≡ n = entry_or_empty_length n entries w d in let j : length x ≤ left - 4 - n = again (left - 4 - n) x h in omega arith) u g in
    omega arith)

entries_within : (missing left : ℕ) (f : Fault) (t : List ℕ) → EntriesFault missing left f t → length t ≤ left
entries_within zero left f t c = let none : length t ≤ 0 = entries_end_within zero left f t c in omega arith
entries_within (suc missing) left f t c =
    cond_within (ltb left 4) (EntriesEndFault (suc missing) left) (TextsFault missing left) left f (λ e w p. let none : length w ≤ 0 = entries_end_within (suc missing) left f w p in omega arith)
    (λ e w p. texts_within missing left f (ltb-false left 4 e) (λ less x q. entries_within missing less f x q) w p) t c

-- what follows the vendor string
abbrev CountsFault : ℕ → ℕ → Fault → List ℕ → Type 0
CountsFault n v = ThenFault (Count (n / 4)) (CountFault (n / 4)) (λ count. EntriesFault count (n - 8 - v))

counts_within : (n v : ℕ) (f : Fault) → 8 ≤ n → v ≤ n - 8 → (t : List ℕ) → CountsFault n v f t → length t ≤ n - 4 - v
counts_within n v f long few =
    then_within (Count (n / 4)) (CountFault (n / 4)) (λ count. EntriesFault count (n - 8 - v)) (n - 4 - v) f (λ t p. let four : length t ≤ 4 = count_within (n / 4) f t p in omega arith)
    (λ count t u c g. let four : length t ≡ 4 = little_length 4 count t c.1 in let k : length u ≤ n - 8 - v = entries_within count (n - 8 - v) f u g in omega arith)

-- the vendor string and what follows it
abbrev VendorsFault : ℕ → ℕ → Fault → List ℕ → Type 0
VendorsFault n v = ThenFault (Vendor v) (VendorFault v) (λ vendor. CountsFault n v)

vendors_within : (n v : ℕ) (f : Fault) → 8 ≤ n → v ≤ n - 8 → (t : List ℕ) → VendorsFault n v f t → length t ≤ n - 4
vendors_within n v f long few =
    then_within (Vendor v) (VendorFault v) (λ vendor. CountsFault n v) (n - 4) f (λ t p. let k : length t ≤ v = vendor_within v f t p in omega arith) (λ vendor t u c g.
    let same : length t ≡ length vendor = ap length c.1.1 in
    let size : length vendor ≡ v = c.1.0 in
    let k : length u ≤ n - 4 - v = counts_within n v f long few u g in
    omega arith)

fields_within : (n : ℕ) (f : Fault) → 8 ≤ n → (t : List ℕ) → ThenFault (TextLength (n - 8)) (TextLengthFault VendorLong (n - 8)) (λ v. VendorsFault n v) f t → length t ≤ n
fields_within n f long =
    then_within (TextLength (n - 8)) (TextLengthFault VendorLong (n - 8)) (λ v. VendorsFault n v) n f (λ t p. let four : length t ≤ 4 = text_length_within (n - 8) VendorLong f t p in omega arith) (λ v t u c g.
    let four : length t ≡ 4 = little_length 4 v t c.1 in
    let k : length u ≤ n - 4 = vendors_within n v f long (ltb-false (n - 8) v c.0) u g in
    omega arith)

comment_within : (n : ℕ) (f : Fault) (t : List ℕ) → CommentFault n f t → length t ≤ n
comment_within n f =
    meets_within (ltb n 8) CommentShort (MeetsOr (ltb max_content_bytes n) CommentLarge (ThenFault (TextLength (n - 8)) (TextLengthFault VendorLong (n - 8)) (λ v. VendorsFault n v))) n f (λ t a p.
    meets_within (ltb max_content_bytes n) CommentLarge (ThenFault (TextLength (n - 8)) (TextLengthFault VendorLong (n - 8)) (λ v. VendorsFault n v)) n f (λ u b q. fields_within n f (ltb-false n 8 a) u q) t p)

-- ---- content

application_within : (n : ℕ) (f : Fault) (t : List ℕ) → ApplicationFault n f t → length t ≤ n
application_within n f = meets_within (ltb n 4) ApplicationShort (MeetsOr (ltb max_content_bytes n) ApplicationLarge Never) n f (λ t a p. meets_within (ltb max_content_bytes n) ApplicationLarge Never n f (λ u b q. absurd q) t p)

-- a streaminfo with a fault isn't passed over
none_met : (b : Bool) (e : Fault) (F : Fault → Bits → Type 0) (f : Fault) (t : Bits) → unsupported_by e ≡ None → (F f t → unsupported_by f ≡ None) → MeetsOr b e F f t → unsupported_by f ≡ None
none_met b e F f t none late c =
    elim c [
      | inl p ↦ ap unsupported_by p.1 ∙ none
      | inr p ↦ late p.1
    ]

streaminfo_not_passed : (f : Fault) (t : Bits) → StreaminfoBitsFault f t → unsupported_by f ≡ None
streaminfo_not_passed f t c =
    elim c [
      | inl p ↦ absurd p
      | inr p ↦
          (let i = p.0 in
          none_met (block_sizes_inconsistent i) BlockSizeBounds (MeetsOr (block_small i) BlockSizeSmall (MeetsOr (frame_sizes_inconsistent i) FrameSizeBounds (MeetsOr (rate_invalid i) SampleRate Never))) f p.2 refl (λ a.
          none_met (block_small i) BlockSizeSmall (MeetsOr (frame_sizes_inconsistent i) FrameSizeBounds (MeetsOr (rate_invalid i) SampleRate Never)) f p.2 refl (λ b.
          none_met (frame_sizes_inconsistent i) FrameSizeBounds (MeetsOr (rate_invalid i) SampleRate Never) f p.2 refl (λ d. none_met (rate_invalid i) SampleRate Never f p.2 refl (λ q. absurd q) d) b) a) p.4)
    ]

pub body_within : (type n : ℕ) (f : Fault) (why : UnsupportedBlock) (t : List ℕ) → unsupported_by f ≡ Some why → BodyFault type n f t → length t ≤ n
body_within type n f why t is =
    cond_within (eqb type 0) (MeetsOr (not (eqb n 34)) StreaminfoLength StreaminfoFault) (cond (eqb type 2) (ApplicationFault n) (cond (eqb type 4) (CommentFault n) (MeetsOr (eqb type 127) BlockType Never))) n f
    (λ a. meets_within (not (eqb n 34)) StreaminfoLength StreaminfoFault n f (λ u b p. let none : unsupported_by f ≡ None = streaminfo_not_passed f p.0 p.2 in absurd cc))
    (λ a. cond_within (eqb type 2) (ApplicationFault n) (cond (eqb type 4) (CommentFault n) (MeetsOr (eqb type 127) BlockType Never)) n f (λ b. application_within n f)
    (λ b. cond_within (eqb type 4) (CommentFault n) (MeetsOr (eqb type 127) BlockType Never) n f (λ d. comment_within n f) (λ d. meets_within (eqb type 127) BlockType Never n f (λ u e p. absurd p)))) t
