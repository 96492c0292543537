-- The content of a Vorbis comment block, and its reader.
use Rattle.std.proofs.Common.{◌≡◌, ℕ, zero, suc, ◌+◌, ◌-◌, ◌*◌, ◌/◌, ◌<◌, ◌≤◌, Bool, true, false, cond, not, eqb, ltb, leb, List, [], ◌∷◌, ◌++◌, length, take, refl, sym, ap, ap₂, subst, ◌∙◌, append_assoc, arith}
use Rattle.std.specs.Prelude.{◌||◌}
use Rattle.std.specs.List.{list_any, position_or_len, before_first}
use Rattle.std.specs.Str.{is_utf8}
use Rattle.std.proofs.Math.Dec.{eqb-suc-zero}
use Rattle.std.proofs.lemmas.Bool.{lt-leb, eq-eqb, eqb-true, ltb-true, ltb-false, lt-ltb, le-ltb}
use Rattle.std.proofs.lemmas.List.{take_at, length-append, append-nil}
use Rattle.std.proofs.lemmas.Str.{IsUtf8-from_is_utf8, is_utf8-from_IsUtf8}
use Rattle.claxon_format.specs.Fault.{CommentShort, CommentLarge, VendorLong, VendorNotUtf8, TooManyEntries, EntryLong, SeparatorMissing, NameByte, EntryNotUtf8, ExcessData, EntriesMissing}
use Rattle.claxon_format.specs.read.Reading.{Reads}
use Rattle.claxon_format.proofs.Laws.{Then, Reads-then, Reads-same, Reads-test, Reads-done, Reads-map, Reads-cond, Reads-checked}
use Rattle.claxon_format.specs.Codes.{Is, Each, Mapped}
use Rattle.claxon_format.specs.Metadata.{Bytes, Little, max_content_bytes}
use Rattle.claxon_format.specs.Comments.{Entry, is_separator, IsEntry, LengthPrefixed, EntriesOf, has_separator, has_name, not_utf8, EntryFault, EntryCode, EntryOrEmpty, EntryOrEmptyFault, TextLength, TextLengthFault, EntriesEndFault, EntriesFault, Vendor, VendorFault, Count, CountFault, Comment, CommentCode, CommentFault}
use Rattle.claxon_format.specs.read.Comments.{entry_of, entry_at, entry_or_empty_at, entry_length_at, entries_end_at, entries_at, vendor_length_at, vendor_at, count_at, comment_at}
use Rattle.claxon_format.proofs.Metadata.{Reads-bytes, Reads-little, little_length}

-- ---- a text before and after its first '='

pub or_false : (a b : Bool) → (a || b) ≡ false → (a ≡ false) × (b ≡ false)
or_false true b e = absurd cc
or_false false b e = (refl, e)

pub not_true : (b : Bool) → not b ≡ false → b ≡ true
not_true true e = refl
not_true false e = absurd cc

pub not_false : (b : Bool) → b ≡ true → not b ≡ false
not_false b e = rw e refl

-- the first '=' is right after the name
position_is : (name value : List ℕ) → list_any is_separator name ≡ false → position_or_len is_separator (name ++ (0x3d ∷ value)) ≡ length name
position_is [] value none = refl
position_is (y ∷ name) value none =
    let e = or_false (is_separator y) (list_any is_separator name) none in
    rw (e.0, position_is name value e.1) (omega arith)

-- a text split at its first '='
pub record AtSeparator (text : List ℕ) (name value : List ℕ) : Type 0 where
  pub joined : text ≡ name ++ (0x3d ∷ value)
  pub place : position_or_len is_separator text ≡ length name
  pub none : list_any is_separator name ≡ false

separator_is : (y : ℕ) → is_separator y ≡ true → y ≡ 0x3d
separator_is y e = eqb-true y 0x3d e

split_cons : (y : ℕ) (text name value : List ℕ) → is_separator y ≡ false → AtSeparator text name value → AtSeparator (y ∷ text) (y ∷ name) value
split_cons y text name value e c = record { joined = ap (λ (z : List ℕ). y ∷ z) c.joined; place = rw (e, c.place) (omega arith); none = rw e c.none }

HasSeparator : List ℕ → Type 0
HasSeparator text = (name : List ℕ) × (value : List ℕ) × AtSeparator text name value

split_step : (y : ℕ) (text : List ℕ) (b : Bool) → is_separator y ≡ b → cond (not b) (1 + position_or_len is_separator text) 0 < suc (length text) → (position_or_len is_separator text < length text → HasSeparator text) → HasSeparator (y ∷ text)
unfolding HasSeparator
split_step y text true e lt rest = ([], text, record { joined = ap (λ (z : ℕ). z ∷ text) (separator_is y e); place = rw e refl; none = refl })
split_step y text false e lt rest = let c = rest (omega arith) in (y ∷ c.0, c.1, split_cons y text c.0 c.1 e c.2)

split_text : (text : List ℕ) → position_or_len is_separator text < length text → HasSeparator text
split_text [] lt = absurd (omega arith)
split_text (y ∷ text) lt = split_step y text (is_separator y) refl lt (split_text text)

before_is : (text name value : List ℕ) → AtSeparator text name value → before_first is_separator text ≡ name
before_is text name value c = ap (λ (n : ℕ). take n text) c.place ∙ ap (take (length name)) c.joined ∙ take_at name (0x3d ∷ value) (length name) refl

-- ---- an entry

entry_is : (text name value : List ℕ) → AtSeparator text name value → has_name text ≡ true → is_utf8 text ≡ true → IsEntry (entry_of text)
entry_is text name value c named utf8 =
    (name, value, c.joined, c.place, c.none, rw (before_is text name value c) at named, IsUtf8-from_is_utf8 text utf8)

split_of : (text name value : List ℕ) → text ≡ name ++ (0x3d ∷ value) → list_any is_separator name ≡ false → AtSeparator text name value
split_of text name value joined none = record { joined = joined; place = ap (position_or_len is_separator) joined ∙ position_is name value none; none = none }

split_has_separator : (text name value : List ℕ) → AtSeparator text name value → has_separator text ≡ true
split_has_separator text name value c =
    let len : length text ≡ length name + length (0x3d ∷ value) = ap length c.joined ∙ length-append name (0x3d ∷ value) in
    let p = c.place in
    lt-ltb _ _ (omega arith)

EntryTested : ℕ → Entry → List ℕ → Type 0
EntryTested n = Then (Bytes n) (λ text e t. (not (has_separator text) ≡ false) × ((not (has_name text) ≡ false) × ((not_utf8 text ≡ false) × Is (entry_of text) e t)))

entry_to : (n : ℕ) (e : Entry) (t : List ℕ) → EntryTested n e t → EntryCode n e t
unfolding EntryTested HasSeparator
entry_to n e t (text, x, u, (len, x-is), (a, (b, (c, (e-is, u-is)))), t-is) =
    let k = split_text text (ltb-true _ _ (not_true _ a)) in
    let text-is : t ≡ text = t-is ∙ rw (x-is, u-is) (append-nil text) in
    (ap length text-is ∙ len, ap (λ (z : Entry). z.text) e-is ∙ sym text-is, subst IsEntry (sym e-is) (entry_is text k.0 k.1 k.2 (not_true _ b) (not_true _ c)))

entry_from : (n : ℕ) (e : Entry) (t : List ℕ) → EntryCode n e t → EntryTested n e t
unfolding EntryTested
entry_from n e t (len, text-is, (name, value, joined, place, none, allowed, utf8)) =
    let k = split_of e.text name value joined none in
    let named : has_name e.text ≡ true = rw (before_is e.text name value k) allowed in
    (e.text, e.text, [], (ap length text-is ∙ len, refl), (not_false _ (split_has_separator e.text name value k), (not_false _ named, (not_false _ (is_utf8-from_IsUtf8 e.text utf8), (ap (λ (p : ℕ). record { text = e.text; place = p }) (place ∙ sym k.place), refl)))), sym text-is ∙ sym (append-nil e.text))

pub Reads-entry : (n : ℕ) → Reads ℕ Entry (entry_at n) (EntryCode n) (EntryFault n)
unfolding entry_at EntryTested
Reads-entry n =
    Reads-same (Reads-then (Reads-bytes n) (λ text t c. Reads-test (not (has_separator text)) SeparatorMissing (λ a. Reads-test (not (has_name text)) NameByte (λ b. Reads-test (not_utf8 text) EntryNotUtf8 (λ d. Reads-done Entry (entry_of text))))))
    (entry_to n) (entry_from n) (λ f t c. c) (λ f t c. c)

pub Reads-entry_or_empty : (n : ℕ) → Reads ℕ (List Entry) (entry_or_empty_at n) (EntryOrEmpty n) (EntryOrEmptyFault n)
unfolding entry_or_empty_at
Reads-entry_or_empty n = Reads-cond (eqb n 0) (λ e. Reads-done (List Entry) []) (λ e. Reads-map (λ e. e ∷ []) (Reads-entry n))

-- ---- entries

entry_or_empty_length : (n : ℕ) (es : List Entry) (t : List ℕ) → EntryOrEmpty n es t → length t ≡ n
entry_or_empty_length n es t c = go (eqb n 0) refl c
  where
    go : (b : Bool) → eqb n 0 ≡ b → cond b (Is []) (Mapped (λ e. e ∷ []) (EntryCode n)) es t → length t ≡ n
    go true e c = ap length c.1 ∙ sym (eqb-true n 0 e)
    go false e c = c.1.0

entries_of_nonempty : (text : List ℕ) (texts : List (List ℕ)) (e : Entry) (others : List Entry) → (length text ≡ 0 → ⊥) → e.text ≡ text → IsEntry e → EntriesOf texts others → EntriesOf (text ∷ texts) (e ∷ others)
entries_of_nonempty [] texts e others nonempty is entry rest = absurd (nonempty refl)
entries_of_nonempty (y ∷ ys) texts e others nonempty is entry rest = (is, entry, rest)

entries_of_cons : (n : ℕ) (es others : List Entry) (t : List ℕ) (texts : List (List ℕ)) → EntryOrEmpty n es t → EntriesOf texts others → EntriesOf (t ∷ texts) (es ++ others)
entries_of_cons n es others t texts c rest = go (eqb n 0) refl c
  where
    go : (b : Bool) → eqb n 0 ≡ b → cond b (Is []) (Mapped (λ e. e ∷ []) (EntryCode n)) es t → EntriesOf (t ∷ texts) (es ++ others)
    go true e c = rw (c.0, c.1) rest
    go false e c =
        let len = c.1.0 in
        let some : length t ≡ 0 → ⊥ = λ z. (let k : eqb n 0 ≡ true = eq-eqb n 0 (sym len ∙ z) in cc) in
        rw c.2 (entries_of_nonempty t texts c.0 others some c.1.1 c.1.2 rest)

record SplitEntries (text : List ℕ) (texts : List (List ℕ)) (es : List Entry) : Type 0 where
  first : List Entry
  others : List Entry
  entry_code : EntryOrEmpty (length text) first text
  rest : EntriesOf texts others
  joined : es ≡ first ++ others

entry_or_empty_filled : (y : ℕ) (ys : List ℕ) (e : Entry) → e.text ≡ y ∷ ys → IsEntry e → EntryOrEmpty (length (y ∷ ys)) (e ∷ []) (y ∷ ys)
entry_or_empty_filled y ys e is entry = rw (eqb-suc-zero (length ys)) (e, (refl, is, entry), refl)

entries_of_parts : (text : List ℕ) (texts : List (List ℕ)) (es : List Entry) → EntriesOf (text ∷ texts) es → SplitEntries text texts es
entries_of_parts [] texts es m = record { first = []; others = es; entry_code = (refl, refl); rest = m; joined = refl }
entries_of_parts (y ∷ ys) texts [] m = absurd m
entries_of_parts (y ∷ ys) texts (e ∷ es) m = record { first = e ∷ []; others = es; entry_code = entry_or_empty_filled y ys e m.0 m.1; rest = m.2; joined = refl }

EntriesEndTested : ℕ → ℕ → List Entry → List ℕ → Type 0
EntriesEndTested missing left es t = (ltb 0 left ≡ false) × ((ltb 0 missing ≡ false) × Is [] es t)

NextTested : (ℕ → List Entry → List ℕ → Type 0) → ℕ → List Entry → List ℕ → Type 0
NextTested rest left = Then (TextLength (left - 4)) (λ n. Then (EntryOrEmpty n) (λ es. Mapped (λ others. es ++ others) (rest (left - 4 - n))))

EntriesTested : ℕ → ℕ → List Entry → List ℕ → Type 0
EntriesTested zero left = EntriesEndTested zero left
EntriesTested (suc missing) left = cond (ltb left 4) (EntriesEndTested (suc missing) left) (NextTested (EntriesTested missing) left)

-- count texts, with their lengths in left bytes, and the entries that they are
record Entries (count left : ℕ) (es : List Entry) (t : List ℕ) : Type 0 where
  texts : List (List ℕ)
  count_is : length texts ≡ count
  each : Each LengthPrefixed texts t
  entries_are : EntriesOf texts es
  fills : length t ≡ left

entries_end_to : (count left : ℕ) (es : List Entry) (t : List ℕ) → count ≡ 0 → EntriesEndTested count left es t → Entries count left es t
unfolding EntriesEndTested
entries_end_to count left es t zero-is (empty, (none, (es-is, t-is))) =
    let k = ltb-false _ _ empty in
    record { texts = []; count_is = sym zero-is; each = t-is; entries_are = rw es-is tt; fills = ap length t-is ∙ omega arith }

next_to : (count left : ℕ) (es : List Entry) (t : List ℕ) → 4 ≤ left → ((l : ℕ) (es : List Entry) (t : List ℕ) → EntriesTested count l es t → Entries count l es t) → NextTested (EntriesTested count) left es t → Entries (suc count) left es t
unfolding NextTested
next_to count left es t enough rest (n, x, u, (small, code), (ks, y, z, entry_code, (others, tested, es-is), u-is), t-is) =
    let len = little_length 4 n x code in
    let r = rest (left - 4 - n) others z tested in
    let l : length y ≡ n = entry_or_empty_length n ks y entry_code in
    let le : n ≤ left - 4 = ltb-false _ _ small in
    let lt : length t ≡ length x + (length y + length z) = ap length (t-is ∙ ap (λ (q : List ℕ). x ++ q) u-is) ∙ length-append x (y ++ z) ∙ ap (λ (m : ℕ). length x + m) (length-append y z) in
    let f = r.fills in
    record {
      texts = y ∷ r.texts;
      count_is = ap suc r.count_is;
      each = (x ++ y, z, (x, subst (λ (k : ℕ). Little 4 k x) (sym l) code, refl), r.each, t-is ∙ ap (λ (q : List ℕ). x ++ q) u-is ∙ sym (append_assoc x y z));
      entries_are = rw es-is (entries_of_cons n ks others y r.texts entry_code r.entries_are);
      fills = omega arith;
    }

no_entries_end : (count left : ℕ) (es : List Entry) (t : List ℕ) → EntriesEndTested (suc count) left es t → ⊥
unfolding EntriesEndTested
no_entries_end count left es t c = let k = ltb-false _ _ c.1.0 in omega arith

entries_to : (count left : ℕ) (es : List Entry) (t : List ℕ) → EntriesTested count left es t → Entries count left es t
unfolding EntriesTested EntriesEndTested
entries_to zero left es t c = entries_end_to zero left es t refl c
entries_to (suc count) left es t c = cond_to (ltb left 4) refl c (entries_to count)
  where
    cond_to : (b : Bool) → ltb left 4 ≡ b → cond b (EntriesEndTested (suc count) left) (NextTested (EntriesTested count) left) es t → ((l : ℕ) (es : List Entry) (t : List ℕ) → EntriesTested count l es t → Entries count l es t) → Entries (suc count) left es t
    cond_to true e c rest = absurd (no_entries_end count left es t c)
    cond_to false e c rest = next_to count left es t (ltb-false _ _ e) rest c

-- the length of each text has four bytes
at_least_4_bytes_each : (texts : List (List ℕ)) (t : List ℕ) → Each LengthPrefixed texts t → 4 * length texts ≤ length t
at_least_4_bytes_each [] t c = omega arith
at_least_4_bytes_each (x ∷ texts) t (p, q, (h, code, p-is), rest, t-is) =
    let len = little_length 4 (length x) h code in
    let k = at_least_4_bytes_each texts q rest in
    let e : length t ≡ (length h + length x) + length q = ap length (t-is ∙ ap (λ (z : List ℕ). z ++ q) p-is) ∙ length-append (h ++ x) q ∙ ap (λ (m : ℕ). m + length q) (length-append h x) in
    omega arith

entries_from : (texts : List (List ℕ)) (count left : ℕ) (es : List Entry) (t : List ℕ) → length texts ≡ count → Each LengthPrefixed texts t → EntriesOf texts es → length t ≡ left → EntriesTested count left es t
unfolding EntriesTested EntriesEndTested NextTested
entries_from [] zero left [] t n c m len =
    let e : length t ≡ 0 = ap length c in
    (le-ltb _ _ (omega arith), (refl, (refl, c)))
entries_from [] zero left (e ∷ es) t n c m len = absurd m
entries_from [] (suc count) left es t n c m len = absurd (let k : 0 ≡ suc count = n in omega arith)
entries_from (x ∷ texts) zero left es t n c m len = absurd (let k : suc (length texts) ≡ 0 = n in omega arith)
entries_from (x ∷ texts) (suc count) left es t n (p, q, (h, code, p-is), rest, t-is) m len =
    let hlen = little_length 4 (length x) h code in
    let parts = entries_of_parts x texts es m in
    let e : length t ≡ (length h + length x) + length q = ap length (t-is ∙ ap (λ (z : List ℕ). z ++ q) p-is) ∙ length-append (h ++ x) q ∙ ap (λ (m : ℕ). m + length q) (length-append h x) in
    let k : suc (length texts) ≡ suc count = n in
    let after : length q ≡ left - 4 - length x = omega arith in
    let others = entries_from texts count (left - 4 - length x) parts.others q (omega arith) rest parts.rest after in
    let enough : ltb left 4 ≡ false = le-ltb _ _ (omega arith) in
    let small : ltb (left - 4) (length x) ≡ false = le-ltb _ _ (omega arith) in
    rw enough (length x, h, x ++ q, (small, code), (parts.first, x, q, parts.entry_code, (parts.others, others, parts.joined), refl), t-is ∙ ap (λ (z : List ℕ). z ++ q) p-is ∙ append_assoc h x q)

pub Reads-entry_length : (most : ℕ) → Reads ℕ ℕ (entry_length_at most) (TextLength most) (TextLengthFault EntryLong most)
unfolding entry_length_at
Reads-entry_length most = Reads-checked (ltb most) EntryLong (Reads-little 4)

Reads-entries_end : (missing left : ℕ) → Reads ℕ (List Entry) (entries_end_at missing left) (EntriesEndTested missing left) (EntriesEndFault missing left)
unfolding EntriesEndTested
Reads-entries_end missing left = Reads-test (ltb 0 left) ExcessData (λ e. Reads-test (ltb 0 missing) EntriesMissing (λ k. Reads-done (List Entry) []))

Reads-entries : (missing left : ℕ) → Reads ℕ (List Entry) (entries_at missing left) (EntriesTested missing left) (EntriesFault missing left)
unfolding entries_at EntriesTested NextTested
Reads-entries zero left = Reads-entries_end zero left
Reads-entries (suc missing) left =
    Reads-cond (ltb left 4) (λ e. Reads-entries_end (suc missing) left)
    (λ e. Reads-then (Reads-entry_length (left - 4)) (λ n t c. Reads-then (Reads-entry_or_empty n) (λ es u d. Reads-map (λ others. es ++ others) (Reads-entries missing (left - 4 - n)))))

-- ---- the whole

CommentTested : ℕ → Comment → List ℕ → Type 0
CommentTested n c t =
    (ltb n 8 ≡ false) × ((ltb max_content_bytes n ≡ false) × Then (TextLength (n - 8)) (λ v. Then (Vendor v) (λ vendor. Then (Count (n / 4)) (λ count. Mapped (λ entries. record { vendor = vendor; entries = entries }) (EntriesTested count (n - 8 - v))))) c t)

comment_to : (n : ℕ) (c : Comment) (t : List ℕ) → CommentTested n c t → CommentCode n c t
unfolding CommentTested
comment_to n c t (short, (large, (v, x, u, (vendor_small, x-code), (vendor, y, w, (utf8, (y-len, y-is)), (count, z, q, (count_small, z-code), (entries, tested, c-is), w-is), u-is), t-is))) =
    let x-len = little_length 4 v x x-code in
    let z-len = little_length 4 count z z-code in
    let e = entries_to count (n - 8 - v) entries q tested in
    let a : 8 ≤ n = ltb-false _ _ short in
    let b : v ≤ n - 8 = ltb-false _ _ vendor_small in
    let fills = e.fills in
    let joined : t ≡ (x ++ y) ++ (z ++ q) = t-is ∙ ap (λ (r : List ℕ). x ++ r) (u-is ∙ ap (λ (r : List ℕ). y ++ r) w-is) ∙ sym (append_assoc x y (z ++ q)) in
    let len : length t ≡ (length x + length y) + (length z + length q) = ap length joined ∙ length-append (x ++ y) (z ++ q) ∙ ap₂ (λ (a b : ℕ). a + b) (length-append x y) (length-append z q) in
    let vendor-len : length y ≡ v = ap length y-is ∙ y-len in
    rw c-is (
      e.texts,
      x ++ y,
      z,
      q,
      ltb-false _ _ large,
      omega arith,
      (x, subst (λ (k : ℕ). Little 4 k x) (sym y-len) x-code, ap (λ (r : List ℕ). x ++ r) y-is),
      IsUtf8-from_is_utf8 vendor (not_true _ utf8),
      subst (λ (k : ℕ). Little 4 k z) (sym e.count_is) z-code,
      e.each,
      e.entries_are,
      joined,
    )

comment_from : (n : ℕ) (c : Comment) (t : List ℕ) → CommentCode n c t → CommentTested n c t
unfolding CommentTested
comment_from n c t (texts, x, y, z, most, len, (h, h-code, x-is), utf8, y-code, each, entries_are, t-is) =
    let h-len = little_length 4 (length c.vendor) h h-code in
    let y-len = little_length 4 (length texts) y y-code in
    let joined : t ≡ h ++ (c.vendor ++ (y ++ z)) = t-is ∙ ap (λ (r : List ℕ). r ++ (y ++ z)) x-is ∙ append_assoc h c.vendor (y ++ z) in
    let lens : length t ≡ length h + (length c.vendor + (length y + length z)) = ap length joined ∙ length-append h (c.vendor ++ (y ++ z)) ∙ ap (λ (m : ℕ). length h + m) (length-append c.vendor (y ++ z) ∙ ap (λ (m : ℕ). length c.vendor + m) (length-append y z)) in
    let least = at_least_4_bytes_each texts z each in
    let after : length z ≡ n - 8 - length c.vendor = omega arith in (
      le-ltb _ _ (omega arith),
      (
        le-ltb _ _ most,
        (
          length c.vendor,
          h,
          c.vendor ++ (y ++ z),
          (le-ltb _ _ (omega arith), h-code),
          (
            c.vendor,
            c.vendor,
            y ++ z,
            (not_false _ (is_utf8-from_IsUtf8 c.vendor utf8), (refl, refl)),
            (length texts, y, z, (lt-leb _ _ (omega arith), y-code), (c.entries, entries_from texts (length texts) (n - 8 - length c.vendor) c.entries z refl each entries_are after, refl), refl),
            refl,
          ),
          joined,
        ),
      ),
    )

pub Reads-vendor_length : (most : ℕ) → Reads ℕ ℕ (vendor_length_at most) (TextLength most) (TextLengthFault VendorLong most)
unfolding vendor_length_at
Reads-vendor_length most = Reads-checked (ltb most) VendorLong (Reads-little 4)

pub Reads-vendor : (n : ℕ) → Reads ℕ (List ℕ) (vendor_at n) (Vendor n) (VendorFault n)
unfolding vendor_at
Reads-vendor n = Reads-checked not_utf8 VendorNotUtf8 (Reads-bytes n)

pub Reads-count : (limit : ℕ) → Reads ℕ ℕ (count_at limit) (Count limit) (CountFault limit)
unfolding count_at
Reads-count limit = Reads-checked (leb limit) TooManyEntries (Reads-little 4)

pub Reads-comment : (n : ℕ) → Reads ℕ Comment (comment_at n) (CommentCode n) (CommentFault n)
unfolding comment_at CommentTested
Reads-comment n =
    Reads-same (Reads-test (ltb n 8) CommentShort (λ p. Reads-test (ltb max_content_bytes n) CommentLarge (λ q.
    Reads-then (Reads-vendor_length (n - 8)) (λ v t c. Reads-then (Reads-vendor v) (λ vendor u d.
    Reads-then (Reads-count (n / 4)) (λ count w e. Reads-map (λ entries. record { vendor = vendor; entries = entries }) (Reads-entries count (n - 8 - v))))))))
    (comment_to n) (comment_from n) (λ f t c. c) (λ f t c. c)
