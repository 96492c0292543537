-- The reader of the next tag takes just what the definitions say.
use Rattle.std.proofs.Common.{◌≡◌, ◌⊎◌, inl, inr, ℕ, zero, suc, ◌+◌, ◌-◌, ◌<◌, ◌≤◌, false, ltb, List, [], ◌∷◌, ◌++◌, length, take, drop, refl, sym, ap, subst, ◌∙◌, arith, length-append, append-nil, append_assoc, Option, None, Some}
use Rattle.std.specs.Prelude.{replicate}
use Rattle.std.proofs.Math.Dec.{eqb-suc-zero}
use Rattle.std.proofs.lemmas.Bool.{le-ltb, lt-ltb}
use Rattle.std.proofs.lemmas.List.{length-drop, length-take, take-append-drop}
use Rattle.claxon.specs.Codes.{Each, Mapped, MeetsOr, ThenFault}
use Rattle.claxon.specs.Comments.{Entry, EntryCode, EntryOrEmpty, EntryOrEmptyFault, IsEntry, LengthPrefixed, TextLength, TextLengthFault}
use Rattle.claxon.specs.Fault.{CommentShort, EntryLong, ExcessData, Fault}
use Rattle.claxon.specs.Metadata.{Bytes, Little}
use Rattle.claxon.specs.read.Reading.{Done, Faulty, Incomplete, Reading, Reads, bind}
use Rattle.claxon.proofs.Comments.{Reads-entry_length, Reads-entry_or_empty, Reads-vendor_length}
use Rattle.claxon.proofs.Laws.{Reads-same, Reads-test, Reads-then, Then}
use Rattle.claxon.proofs.Metadata.{Reads-bytes, little_length}
use Rattle.claxon.specs.Prefix.{BeginsWith}
use Rattle.claxon_c.specs.NextTag.{EmptyEntries, EntriesFrom, FrontFault, NextTag, NextTagFault, NoTagIsLeft, PrefixedEntryFault, TagFaultStands, TagStands}
use Rattle.claxon_c.specs.TagReader.{after_entry, first_entry_at, front_at, front_length_at, length_prefix_at, prefixed_entry_at, tag_at}

-- ---- one entry

PrefixedEntryCode : ℕ → List Entry → List ℕ → Type 0
PrefixedEntryCode left = Then (λ n t. (ltb left 4 ≡ false) × TextLength (left - 4) n t) EntryOrEmpty

Reads-prefixed_entry : (left : ℕ) → Reads ℕ (List Entry) (prefixed_entry_at left) (PrefixedEntryCode left) (PrefixedEntryFault left)
unfolding prefixed_entry_at length_prefix_at PrefixedEntryCode
Reads-prefixed_entry left =
    Reads-same (Reads-then (Reads-test (ltb left 4) ExcessData (λ e. Reads-entry_length (left - 4))) (λ n t c. Reads-entry_or_empty n)) (λ a t c. c) (λ a t c. c) fault_to fault_from
  where
    fault_to : (f : Fault) (t : List ℕ) → ThenFault (λ n t. (ltb left 4 ≡ false) × TextLength (left - 4) n t) (MeetsOr (ltb left 4) ExcessData (TextLengthFault EntryLong (left - 4))) EntryOrEmptyFault f t → PrefixedEntryFault left f t
    fault_to f t (inl (inl met)) = inl met
    fault_to f t (inl (inr (b, c))) = inr (b, inl c)
    fault_to f t (inr (n, x, y, (b, c), d, e)) = inr (b, inr (n, x, y, c, d, e))

    fault_from : (f : Fault) (t : List ℕ) → PrefixedEntryFault left f t → ThenFault (λ n t. (ltb left 4 ≡ false) × TextLength (left - 4) n t) (MeetsOr (ltb left 4) ExcessData (TextLengthFault EntryLong (left - 4))) EntryOrEmptyFault f t
    fault_from f t (inl met) = inl (inl met)
    fault_from f t (inr (b, inl c)) = inl (inr (b, c))
    fault_from f t (inr (b, inr (n, x, y, c, d, e))) = inr (n, x, y, (b, c), d, e)

-- an empty one
empty_code : (left : ℕ) (h : List ℕ) → Little 4 0 h → 4 ≤ left → PrefixedEntryCode left [] h
unfolding PrefixedEntryCode
empty_code left h code enough = (0, h, [], (le-ltb _ _ enough, (le-ltb _ _ (omega arith), code)), (refl, refl), sym (append-nil h))

-- and one that isn't empty
entry_code : (left : ℕ) (e : Entry) (h : List ℕ) → Little 4 (length e.text) h → IsEntry e → 4 + length e.text ≤ left → PrefixedEntryCode left (e ∷ []) (h ++ e.text)
unfolding PrefixedEntryCode
entry_code left e h code is enough = (length e.text, h, e.text, (le-ltb _ _ (omega arith), (le-ltb _ _ (omega arith), code)), go (length e.text) refl (some is), refl)
  where
    some : IsEntry e → 0 < length e.text
    some (name, value, text, separator, none, named, utf8) = omega (arith, ap length text, length-append name (0x3d ∷ value))

    go : (n : ℕ) → n ≡ length e.text → 0 < length e.text → EntryOrEmpty n (e ∷ []) e.text
    go zero same more = absurd (omega arith)
    go (suc n) same more = rw (eqb-suc-zero n) (e, (sym same, refl, is), refl)

-- a text and its entries: none of an empty one, or else one
record EntryText (es : List Entry) (t : List ℕ) : Type 0 where
  text : List ℕ
  prefixed : LengthPrefixed text t
  is : ((es ≡ []) × (text ≡ [])) ⊎ ((e : Entry) × (es ≡ e ∷ []) × (e.text ≡ text) × IsEntry e)

some_entry : (n : ℕ) (es : List Entry) (y : List ℕ) → EntryOrEmpty (suc n) es y → Mapped (λ e. e ∷ []) (EntryCode (suc n)) es y
some_entry n es y d = rw (eqb-suc-zero n) at d

entry_text_of_code : (left : ℕ) (es : List Entry) (t : List ℕ) → PrefixedEntryCode left es t → EntryText es t
unfolding PrefixedEntryCode
entry_text_of_code left es t (n, x, y, (b, (c, code)), d, e) = go n code d
  where
    go : (n : ℕ) → Little 4 n x → EntryOrEmpty n es y → EntryText es t
    go zero code (es-is, y-is) = record { text = []; prefixed = (x, code, e ∙ ap (λ (z : List ℕ). x ++ z) y-is); is = inl (es-is, refl) }
    go (suc n) code d =
        let (k, (len, text-is, is), es-is) = some_entry n es y d in
        record { text = y; prefixed = (x, subst (λ (m : ℕ). Little 4 m x) (sym len) code, e); is = inr (k, es-is, text-is, is) }

prefixed_length : (text t : List ℕ) → LengthPrefixed text t → length t ≡ 4 + length text
prefixed_length text t (h, code, is) = omega (arith, ap length is, length-append h text, little_length 4 (length text) h code)

-- ---- empty entries

no_entries : EmptyEntries []
no_entries = (0, refl)

one_more : (t s : List ℕ) → LengthPrefixed [] t → EmptyEntries s → EmptyEntries (t ++ s)
one_more t s p (n, each) = (suc n, (t, s, p, each, refl))

-- ---- the first entry

first_of_none : (most : ℕ) → first_entry_at most [] ≡ Done None []
unfolding first_entry_at
first_of_none zero = refl
first_of_none (suc most) = refl

first_step : (most : ℕ) (s : List ℕ) → 0 < length s → first_entry_at (suc most) s ≡ bind (prefixed_entry_at (length s) s) (after_entry (first_entry_at most))
unfolding first_entry_at
first_step most s some = rw (lt-ltb 0 (length s) some) refl

-- empty entries are passed over
skip_empty : (n most : ℕ) (x s : List ℕ) → Each LengthPrefixed (replicate n []) x → length (x ++ s) ≤ most → (k : ℕ) × (length s ≤ k) × (first_entry_at most (x ++ s) ≡ first_entry_at k s)
skip_empty zero most x s each le = (most, subst (λ (z : List ℕ). length (z ++ s) ≤ most) each le, ap (λ (z : List ℕ). first_entry_at most (z ++ s)) each)
skip_empty (suc n) zero x s (t, u, p, each, x-is) le =
    absurd (omega (arith, prefixed_length [] t p, ap length x-is, length-append t u, length-append x s))
skip_empty (suc n) (suc most) x s (t, u, (h, code, t-is), each, x-is) le =
    let len = prefixed_length [] t (h, code, t-is) in
    let all : length (x ++ s) ≡ length t + length (u ++ s) = ap length (ap (λ (z : List ℕ). z ++ s) x-is ∙ append_assoc t u s) ∙ length-append t (u ++ s) in
    let joined : x ++ s ≡ h ++ (u ++ s) = ap (λ (z : List ℕ). z ++ s) x-is ∙ append_assoc t u s ∙ ap (λ (z : List ℕ). z ++ (u ++ s)) (t-is ∙ append-nil h) in
    let read : prefixed_entry_at (length (x ++ s)) (x ++ s) ≡ Done [] (u ++ s) = ap (prefixed_entry_at (length (x ++ s))) joined ∙ (Reads-prefixed_entry (length (x ++ s))).again [] h (u ++ s) (empty_code (length (x ++ s)) h code (omega arith)) in
    let rest = skip_empty n most u s each (omega arith) in
    (rest.0, rest.1, first_step most (x ++ s) (omega arith) ∙ ap (λ (z : Reading ℕ (List Entry)). bind z (after_entry (first_entry_at most))) read ∙ rest.2)

-- what is read is what the definitions say

ReadsAs : ℕ → List ℕ → Reading ℕ (Option Entry) → Type 0
ReadsAs left s (Done None rest) = EmptyEntries s
ReadsAs left s (Done (Some e) rest) = (t : List ℕ) × NextTag e t × (s ≡ t ++ rest)
ReadsAs left s (Faulty f rest) = BeginsWith (NextTagFault left f) s
ReadsAs left s Incomplete = Unit {0}

prepend : (t s : List ℕ) (r : Reading ℕ (Option Entry)) (left : ℕ) → LengthPrefixed [] t → left ≡ length t + length s → ReadsAs (length s) s r → ReadsAs left (t ++ s) r
unfolding ReadsAs
prepend t s (Done None rest) left p len h = one_more t s p h
prepend t s (Done (Some e) rest) left p len (u, (x, y, empty, prefixed, is, u-is), s-is) =
    let tag : NextTag e (t ++ u) = (t ++ x, y, one_more t x p empty, prefixed, is, ap (λ (z : List ℕ). t ++ z) u-is ∙ sym (append_assoc t x y)) in
    let joined : t ++ s ≡ (t ++ u) ++ rest = ap (λ (z : List ℕ). t ++ z) s-is ∙ sym (append_assoc t u rest) in
    (t ++ u, tag, joined)
prepend t s (Faulty f rest) left p len (u, more, (x, y, empty, inside, fault, u-is), s-is) =
    let same : length s - length x ≡ left - length (t ++ x) = omega (arith, len, length-append t x) in
    (t ++ u, more, (t ++ x, y, one_more t x p empty, omega (arith, len, length-append t x), subst (λ (n : ℕ). PrefixedEntryFault n f y) same fault, ap (λ (z : List ℕ). t ++ z) u-is ∙ sym (append_assoc t x y)), ap (λ (z : List ℕ). t ++ z) s-is ∙ sym (append_assoc t u more))
prepend t s Incomplete left p len h = tt

end_reads_as : (most : ℕ) → ReadsAs 0 [] (first_entry_at most [])
unfolding ReadsAs
end_reads_as most = subst (ReadsAs 0 []) (sym (first_of_none most)) no_entries

first_reads_as : (most : ℕ) (s : List ℕ) → length s ≤ most → ReadsAs (length s) s (first_entry_at most s)
unfolding ReadsAs
first_reads_as most [] le = end_reads_as most
first_reads_as zero (a ∷ s) le = absurd (omega arith)
first_reads_as (suc most) (a ∷ s) le =
    subst (ReadsAs (length (a ∷ s)) (a ∷ s)) (sym (first_step most (a ∷ s) (omega arith))) (go (prefixed_entry_at (length (a ∷ s)) (a ∷ s)) refl (λ z less. first_reads_as most z less))
  where
    step : (es : List Entry) (t rest : List ℕ) → EntryText es t → a ∷ s ≡ t ++ rest → ((z : List ℕ) → length z ≤ most → ReadsAs (length z) z (first_entry_at most z)) → ReadsAs (length (a ∷ s)) (a ∷ s) (after_entry (first_entry_at most) es rest)
    step [] t rest read e more =
        let empty : read.text ≡ [] = elim read.is [ inl p ↦ p.1 | inr k ↦ absurd cc ] in
        let p : LengthPrefixed [] t = subst (λ (z : List ℕ). LengthPrefixed z t) empty read.prefixed in
        let len : length (a ∷ s) ≡ length t + length rest = ap length e ∙ length-append t rest in
        let four = prefixed_length [] t p in
        subst (λ (z : List ℕ). ReadsAs (length (a ∷ s)) z (first_entry_at most rest)) (sym e) (prepend t rest (first_entry_at most rest) (length (a ∷ s)) p len (more rest (omega arith)))
    step (k ∷ es) t rest read e more =
        let is : (k.text ≡ read.text) × IsEntry k = elim read.is [
          | inl p ↦ absurd cc
          | inr q ↦ (let same : k ≡ q.0 = cc in (ap (λ (z : Entry). z.text) same ∙ q.2, subst IsEntry (sym same) q.3))
        ] in
        let tag : NextTag k t = ([], t, no_entries, subst (λ (z : List ℕ). LengthPrefixed z t) (sym is.0) read.prefixed, is.1, refl) in
        (t, tag, e)

    go : (r : Reading ℕ (List Entry)) → prefixed_entry_at (length (a ∷ s)) (a ∷ s) ≡ r → ((z : List ℕ) → length z ≤ most → ReadsAs (length z) z (first_entry_at most z)) → ReadsAs (length (a ∷ s)) (a ∷ s) (bind r (after_entry (first_entry_at most)))
    go (Done es rest) e more = let k = (Reads-prefixed_entry (length (a ∷ s))).takes (a ∷ s) es rest e in step es k.0 rest (entry_text_of_code (length (a ∷ s)) es k.0 k.1) k.2 more
    go (Faulty f rest) e more =
        let k = (Reads-prefixed_entry (length (a ∷ s))).bad (a ∷ s) f rest e in
        let all : length (a ∷ s) ≡ length (a ∷ s) - 0 = omega arith in
        (k.0, rest, ([], k.0, no_entries, omega arith, subst (λ (n : ℕ). PrefixedEntryFault n f k.0) all k.1, refl), k.2)
    go Incomplete e more = tt

-- and whatever they say is read

pub entry_is_read : (most : ℕ) (e : Entry) (t rest : List ℕ) → NextTag e t → length (t ++ rest) ≤ most → first_entry_at most (t ++ rest) ≡ Done (Some e) rest
entry_is_read most e t rest (x, y, (n, each), (h, code, y-is), is, t-is) le =
    let joined : t ++ rest ≡ x ++ (y ++ rest) = ap (λ (z : List ℕ). z ++ rest) t-is ∙ append_assoc x y rest in
    let skipped = skip_empty n most x (y ++ rest) each (subst (λ (z : List ℕ). length z ≤ most) joined le) in
    let len : length (y ++ rest) ≡ 4 + length e.text + length rest = length-append y rest ∙ ap (λ (m : ℕ). m + length rest) (prefixed_length e.text y (h, code, y-is)) in
    let read : prefixed_entry_at (length (y ++ rest)) (y ++ rest) ≡ Done (e ∷ []) rest =
    ap (λ (z : List ℕ). prefixed_entry_at (length (y ++ rest)) (z ++ rest)) y-is ∙ (Reads-prefixed_entry (length (y ++ rest))).again (e ∷ []) (h ++ e.text) rest (entry_code (length (y ++ rest)) e h code is (omega arith)) in
    ap (first_entry_at most) joined ∙ skipped.2 ∙ found skipped.0 skipped.1 len read
  where
    found : (k : ℕ) → length (y ++ rest) ≤ k → length (y ++ rest) ≡ 4 + length e.text + length rest → prefixed_entry_at (length (y ++ rest)) (y ++ rest) ≡ Done (e ∷ []) rest → first_entry_at k (y ++ rest) ≡ Done (Some e) rest
    found zero small len read = absurd (omega arith)
    found (suc k) small len read = first_step k (y ++ rest) (omega arith) ∙ ap (λ (z : Reading ℕ (List Entry)). bind z (after_entry (first_entry_at k))) read

pub end_is_read : (most : ℕ) (s : List ℕ) → EmptyEntries s → length s ≤ most → first_entry_at most s ≡ Done None []
end_is_read most s (n, each) le =
    let joined = sym (append-nil s) in
    let skipped = skip_empty n most s [] each (subst (λ (z : List ℕ). length z ≤ most) joined le) in
    ap (first_entry_at most) joined ∙ skipped.2 ∙ first_of_none skipped.0

pub fault_is_read : (most : ℕ) (f : Fault) (t rest : List ℕ) → NextTagFault (length (t ++ rest)) f t → length (t ++ rest) ≤ most → first_entry_at most (t ++ rest) ≡ Faulty f rest
fault_is_read most f t rest (x, y, (n, each), inside, fault, t-is) le =
    let joined : t ++ rest ≡ x ++ (y ++ rest) = ap (λ (z : List ℕ). z ++ rest) t-is ∙ append_assoc x y rest in
    let skipped = skip_empty n most x (y ++ rest) each (subst (λ (z : List ℕ). length z ≤ most) joined le) in
    let len : length (t ++ rest) ≡ length x + length (y ++ rest) = ap length joined ∙ length-append x (y ++ rest) in
    let left : length (t ++ rest) - length x ≡ length (y ++ rest) = omega arith in
    let read = (Reads-prefixed_entry (length (y ++ rest))).bad_again f y rest (subst (λ (m : ℕ). PrefixedEntryFault m f y) left fault) in
    ap (first_entry_at most) joined ∙ skipped.2 ∙ found skipped.0 skipped.1 (omega arith) read
  where
    found : (k : ℕ) → length (y ++ rest) ≤ k → 0 < length (y ++ rest) → prefixed_entry_at (length (y ++ rest)) (y ++ rest) ≡ Faulty f rest → first_entry_at k (y ++ rest) ≡ Faulty f rest
    found zero small some read = absurd (omega arith)
    found (suc k) small some read = first_step k (y ++ rest) some ∙ ap (λ (z : Reading ℕ (List Entry)). bind z (after_entry (first_entry_at k))) read

-- ---- what stands before the entries

FrontCode : ℕ → List ℕ → List ℕ → Type 0
FrontCode n = Then (λ v t. (ltb n 8 ≡ false) × TextLength (n - 8) v t) (λ v. Bytes (v + 4))

Reads-front : (n : ℕ) → Reads ℕ (List ℕ) (front_at n) (FrontCode n) (FrontFault n)
unfolding front_at front_length_at FrontCode
Reads-front n =
    Reads-same (Reads-then (Reads-test (ltb n 8) CommentShort (λ e. Reads-vendor_length (n - 8))) (λ v t c. Reads-bytes (v + 4))) (λ a t c. c) (λ a t c. c) (λ f t c. elim c [ inl p ↦ p | inr p ↦ absurd p.4 ]) (λ f t c. inl c)

front_to : (n : ℕ) (z t : List ℕ) → FrontCode n z t → (vendor : List ℕ) × (x : List ℕ) × (y : List ℕ) × LengthPrefixed vendor x × (length y ≡ 4) × (t ≡ x ++ y)
unfolding FrontCode
front_to n z t (v, h, u, (b, (c, code)), (len, u-is), t-is) =
    let vendor-len : length (take v u) ≡ v = omega (arith, length-take v u, ap length u-is, len) in
    let y-len : length (drop v u) ≡ 4 = omega (arith, length-drop v u, ap length u-is, len) in
    (take v u, h ++ take v u, drop v u, (h, subst (λ (m : ℕ). Little 4 m h) (sym vendor-len) code, refl), y-len, t-is ∙ ap (λ (w : List ℕ). h ++ w) (sym (take-append-drop v u)) ∙ sym (append_assoc h (take v u) (drop v u)))

front_from : (n : ℕ) (vendor x y : List ℕ) → LengthPrefixed vendor x → length y ≡ 4 → length x + 4 ≤ n → FrontCode n (vendor ++ y) (x ++ y)
unfolding FrontCode
front_from n vendor x y (h, code, x-is) len enough =
    let x-len = prefixed_length vendor x (h, code, x-is) in
    (length vendor, h, vendor ++ y, (le-ltb _ _ (omega arith), (le-ltb _ _ (omega arith), code)), (length-append vendor y ∙ ap (λ (m : ℕ). length vendor + m) len, refl), ap (λ (w : List ℕ). w ++ y) x-is ∙ append_assoc h vendor y)

-- ---- from a position on

entries_length : (at : ℕ) (content bytes : List ℕ) → EntriesFrom at content bytes → length bytes ≤ length content
entries_length zero content bytes (vendor, x, y, p, len, is) = omega (arith, ap length is, length-append x (y ++ bytes), length-append y bytes)
entries_length (suc n) content bytes is = omega (arith, ap length is, length-drop (suc n) content)

entries_read : (at : ℕ) (content bytes : List ℕ) → EntriesFrom at content bytes → tag_at at content ≡ first_entry_at (length content) bytes
unfolding tag_at
entries_read zero content bytes (vendor, x, y, p, len, is) =
    let joined : content ≡ (x ++ y) ++ bytes = is ∙ sym (append_assoc x y bytes) in
    let long : length content ≡ length x + 4 + length bytes = omega (arith, ap length joined, length-append (x ++ y) bytes, length-append x y, len) in
    let read : front_at (length content) content ≡ Done (vendor ++ y) bytes = ap (front_at (length content)) joined ∙ (Reads-front (length content)).again (vendor ++ y) (x ++ y) bytes (front_from (length content) vendor x y p len (omega arith)) in
    ap (λ (r : Reading ℕ (List ℕ)). bind r (λ _. first_entry_at (length content))) read
entries_read (suc n) content bytes is = ap (first_entry_at (length content)) (sym is)

-- the entries, or a fault before them
Begins : ℕ → List ℕ → Type 0
Begins at content = ((bytes : List ℕ) × EntriesFrom at content bytes × (tag_at at content ≡ first_entry_at (length content) bytes))
    ⊎ (((f : Fault) × (rest : List ℕ) × (at ≡ 0) × BeginsWith (FrontFault (length content) f) content × (tag_at at content ≡ Faulty f rest)) ⊎ (tag_at at content ≡ Incomplete))

begins : (at : ℕ) (content : List ℕ) → Begins at content
unfolding Begins tag_at
begins zero content = go (front_at (length content) content) refl
  where
    go : (r : Reading ℕ (List ℕ)) → front_at (length content) content ≡ r → Begins zero content
    go (Done z bytes) e =
        let k = (Reads-front (length content)).takes content z bytes e in
        let front = front_to (length content) z k.0 k.1 in
        inl (bytes, (front.0, front.1, front.2, front.3, front.4, k.2 ∙ ap (λ (w : List ℕ). w ++ bytes) front.5 ∙ append_assoc front.1 front.2 bytes), ap (λ (r : Reading ℕ (List ℕ)). bind r (λ _. first_entry_at (length content))) e)
    go (Faulty f rest) e =
        let k = (Reads-front (length content)).bad content f rest e in
        inr (inl (f, rest, refl, (k.0, rest, k.1, k.2), ap (λ (r : Reading ℕ (List ℕ)). bind r (λ _. first_entry_at (length content))) e))
    go Incomplete e = inr (inr (ap (λ (r : Reading ℕ (List ℕ)). bind r (λ _. first_entry_at (length content))) e))
begins (suc n) content = inl (drop (suc n) content, refl, refl)

module _ (at : ℕ) (content : List ℕ) where
  pub tag_read : (e : Entry) (rest : List ℕ) → TagStands at content e rest → tag_at at content ≡ Done (Some e) rest
  tag_read e rest (bytes, t, from, tag, is) =
      entries_read at content bytes from ∙ ap (first_entry_at (length content)) is ∙ entry_is_read (length content) e t rest tag (subst (λ (z : List ℕ). length z ≤ length content) is (entries_length at content bytes from))

  pub end_read : NoTagIsLeft at content → tag_at at content ≡ Done None []
  end_read (bytes, from, empty) = entries_read at content bytes from ∙ end_is_read (length content) bytes empty (entries_length at content bytes from)

  pub fault_read : (f : Fault) → TagFaultStands at content f → (rest : List ℕ) × (tag_at at content ≡ Faulty f rest)
  unfolding tag_at
  fault_read f (inl (zero-is, (t, rest, fault, is))) =
      let read : front_at (length content) content ≡ Faulty f rest = ap (front_at (length content)) is ∙ (Reads-front (length content)).bad_again f t rest fault in
      (rest, ap (λ (p : ℕ). tag_at p content) zero-is ∙ ap (λ (r : Reading ℕ (List ℕ)). bind r (λ _. first_entry_at (length content))) read)
  fault_read f (inr (bytes, from, (t, rest, fault, is))) =
      let small = subst (λ (z : List ℕ). length z ≤ length content) is (entries_length at content bytes from) in
      (rest, entries_read at content bytes from ∙ ap (first_entry_at (length content)) is ∙ fault_is_read (length content) f t rest (subst (λ (z : List ℕ). NextTagFault (length z) f t) is fault) small)

  reads_as : (bytes : List ℕ) (r : Reading ℕ (Option Entry)) → EntriesFrom at content bytes → tag_at at content ≡ first_entry_at (length content) bytes → tag_at at content ≡ r → ReadsAs (length bytes) bytes r
  reads_as bytes r from same is = subst (ReadsAs (length bytes) bytes) (sym same ∙ is) (first_reads_as (length content) bytes (entries_length at content bytes from))

  pub tag_stands : (e : Entry) (rest : List ℕ) → tag_at at content ≡ Done (Some e) rest → TagStands at content e rest
  unfolding Begins ReadsAs
  tag_stands e rest is = elim (begins at content) [
    | inl (bytes, from, same) ↦ (let k = reads_as bytes (Done (Some e) rest) from same is in (bytes, k.0, from, k.1, k.2))
    | inr (inl k) ↦ absurd (let p = sym is ∙ k.4 in cc)
    | inr (inr k) ↦ absurd (let p = sym is ∙ k in cc)
  ]

  pub end_stands : (rest : List ℕ) → tag_at at content ≡ Done None rest → NoTagIsLeft at content
  unfolding Begins ReadsAs
  end_stands rest is = elim (begins at content) [
    | inl (bytes, from, same) ↦ (bytes, from, reads_as bytes (Done None rest) from same is)
    | inr (inl k) ↦ absurd (let p = sym is ∙ k.4 in cc)
    | inr (inr k) ↦ absurd (let p = sym is ∙ k in cc)
  ]

  pub fault_stands : (f : Fault) (rest : List ℕ) → tag_at at content ≡ Faulty f rest → TagFaultStands at content f
  unfolding Begins ReadsAs
  fault_stands f rest is = elim (begins at content) [
    | inl (bytes, from, same) ↦ inr (bytes, from, reads_as bytes (Faulty f rest) from same is)
    | inr (inl k) ↦ inl (k.2, (let p = sym is ∙ k.4 in let g : f ≡ k.0 = cc in subst (λ (z : Fault). BeginsWith (FrontFault (length content) z) content) (sym g) k.3))
    | inr (inr k) ↦ absurd (let p = sym is ∙ k in cc)
  ]

-- ---- one entry after another

module _ (content : List ℕ) (at most : ℕ) (inside : at < length content) (enough : length content - at ≤ most) where
  step_from : (k : ℕ) → first_entry_at (suc k) (drop at content) ≡ bind (prefixed_entry_at (length content - at) (drop at content)) (after_entry (first_entry_at k))
  step_from k = first_step k (drop at content) (omega (arith, length-drop at content)) ∙ ap (λ (n : ℕ). bind (prefixed_entry_at n (drop at content)) (after_entry (first_entry_at k))) (length-drop at content)

  more_entries : (k : ℕ) × (most ≡ suc k)
  more_entries = (most - 1, omega arith)

  pub after_empty : (end : ℕ) → at + 4 ≤ end → prefixed_entry_at (length content - at) (drop at content) ≡ Done [] (drop end content)
      → (k : ℕ) × (length content - end ≤ k) × (first_entry_at most (drop at content) ≡ first_entry_at k (drop end content))
  after_empty end le read =
      let (k, is) = more_entries in
      (k, omega arith, ap (λ (m : ℕ). first_entry_at m (drop at content)) is ∙ step_from k ∙ ap (λ (r : Reading ℕ (List Entry)). bind r (after_entry (first_entry_at k))) read)

  pub at_entry : (e : Entry) (rest : List ℕ) → prefixed_entry_at (length content - at) (drop at content) ≡ Done (e ∷ []) rest → first_entry_at most (drop at content) ≡ Done (Some e) rest
  at_entry e rest read =
      let (k, is) = more_entries in
      ap (λ (m : ℕ). first_entry_at m (drop at content)) is ∙ step_from k ∙ ap (λ (r : Reading ℕ (List Entry)). bind r (after_entry (first_entry_at k))) read

  pub at_fault : (f : Fault) (rest : List ℕ) → prefixed_entry_at (length content - at) (drop at content) ≡ Faulty f rest → first_entry_at most (drop at content) ≡ Faulty f rest
  at_fault f rest read =
      let (k, is) = more_entries in
      ap (λ (m : ℕ). first_entry_at m (drop at content)) is ∙ step_from k ∙ ap (λ (r : Reading ℕ (List Entry)). bind r (after_entry (first_entry_at k))) read

pub at_end : (content : List ℕ) (at most : ℕ) → length content ≤ at → first_entry_at most (drop at content) ≡ Done None []
at_end content at most le = ap (first_entry_at most) (none (drop at content) (omega (arith, length-drop at content))) ∙ first_of_none most
  where
    none : (s : List ℕ) → length s ≡ 0 → s ≡ []
    none [] e = refl
    none (x ∷ s) e = absurd cc
