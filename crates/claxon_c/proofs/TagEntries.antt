-- Entries of Vorbis comments in memory, one by one.
use Rattle.std.proofs.Common.{◌≡◌, ℕ, zero, suc, ◌+◌, ◌*◌, ◌-◌, ◌<◌, ◌≤◌, Bool, true, false, not, ltb, cond, List, [], ◌∷◌, ◌++◌, length, take, drop, get_or, refl, sym, ap, ◌∙◌, inl, inr, arith, append-nil, append_assoc, min}
use Rattle.std.specs.Prelude.{IsUtf8}
use Rattle.std.specs.Str.{is_utf8}
use Rattle.std.proofs.Math.Dec.{eqb-suc-zero}
use Rattle.std.proofs.lemmas.Bool.{cases_lt, le-ltb, lt-ltb}
use Rattle.std.proofs.lemmas.Str.{is_utf8-from_IsUtf8, IsUtf8-from_is_utf8}
use Rattle.std.proofs.lemmas.List.{drop-drop, drop_more, length-drop, length-take, take-append-drop}
use Rattle.claxon.specs.Comments.{Entry, has_name, has_separator}
use Rattle.claxon.specs.Fault.{CommentShort, EntryLong, EntryNotUtf8, ExcessData, Fault, NameByte, SeparatorMissing, VendorLong}
use Rattle.claxon.specs.read.Bytes.{bytes_at, little_at, little_endian}
use Rattle.claxon.specs.read.Comments.{entry_at, entry_length_at, entry_of, entry_or_empty_at, vendor_length_at}
use Rattle.claxon.specs.read.Reading.{Done, Faulty, Reading, bind, done, test}
use Rattle.claxon.specs.Errors.{Error}
use Rattle.claxon.specs.VorbisComment.{HasSeparatorFault}
use Rattle.claxon.proofs.Comments.{Reads-entry}
use Rattle.claxon.proofs.Metadata.{Reads-bytes}
use Rattle.claxon_c.specs.TagReader.{ReadsFault, first_entry_at, front_at, front_length_at, length_prefix_at, prefixed_entry_at, tag_at}

-- ---- a length

one_byte : (bytes : List ℕ) (i n : ℕ) → i < length bytes → take (suc n) (drop i bytes) ≡ get_or bytes i 0 ∷ take n (drop (i + 1) bytes)
one_byte bytes i n h = ap (take (suc n)) (drop_more bytes i 0 h)

four_bytes : (bytes : List ℕ) (i : ℕ) → i + 4 ≤ length bytes → take 4 (drop i bytes) ≡ get_or bytes i 0 ∷ get_or bytes (i + 1) 0 ∷ get_or bytes (i + 2) 0 ∷ get_or bytes (i + 3) 0 ∷ []
four_bytes bytes i h =
    let p : i + 1 + 1 ≡ i + 2 = omega arith in
    let q : i + 2 + 1 ≡ i + 3 = omega arith in
    one_byte bytes i 3 (omega arith) ∙ ap (λ (t : List ℕ). get_or bytes i 0 ∷ t) (one_byte bytes (i + 1) 2 (omega arith) ∙ ap (λ (t : List ℕ). get_or bytes (i + 1) 0 ∷ t) (
    ap (λ (j : ℕ). take 2 (drop j bytes)) p ∙ one_byte bytes (i + 2) 1 (omega arith) ∙ ap (λ (t : List ℕ). get_or bytes (i + 2) 0 ∷ t) (
    ap (λ (j : ℕ). take 1 (drop j bytes)) q ∙ one_byte bytes (i + 3) 0 (omega arith))))

pub length_read : (bytes : List ℕ) (i n : ℕ) → i + 4 ≤ length bytes → ((k : ℕ) → get_or bytes k 0 < 256)
    → n ≡ ((get_or bytes (i + 3) 0 * 256 + get_or bytes (i + 2) 0) * 256 + get_or bytes (i + 1) 0) * 256 + get_or bytes i 0 → little_at 4 (drop i bytes) ≡ Done n (drop (i + 4) bytes)
unfolding little_at bytes_at little_endian
length_read bytes i n h small e =
    let enough : ltb (length (drop i bytes)) 4 ≡ false = le-ltb _ _ (omega (arith, length-drop i bytes)) in
    let a = small i in
    let b = small (i + 1) in
    let c = small (i + 2) in
    let d = small (i + 3) in
    rw (enough, four_bytes bytes i h, drop-drop 4 i bytes, e) (ap (λ (m : ℕ). Done m (drop (i + 4) bytes)) (omega (arith, a, b, c, d)))

-- ---- an entry

pub utf8_is : (text : List ℕ) → IsUtf8 text → is_utf8 text ≡ true
utf8_is text u = is_utf8-from_IsUtf8 text u

pub utf8_is_not : (text : List ℕ) → (IsUtf8 text → ⊥) → is_utf8 text ≡ false
utf8_is_not text h = go (is_utf8 text) refl
  where
    go : (b : Bool) → is_utf8 text ≡ b → is_utf8 text ≡ false
    go true e = absurd (h (IsUtf8-from_is_utf8 text e))
    go false e = e

pub entry_read : (text : List ℕ) (a b d : Bool) → has_separator text ≡ a → has_name text ≡ b → is_utf8 text ≡ d
    → entry_at (length text) text ≡ test (not a) SeparatorMissing (test (not b) NameByte (test (not d) EntryNotUtf8 (done (entry_of text)))) []
unfolding entry_at
entry_read text a b d p q r =
    let all : bytes_at (length text) text ≡ Done text [] = ap (bytes_at (length text)) (sym (append-nil text)) ∙ (Reads-bytes (length text)).again text text [] (refl, refl) in
    rw (all, p, q, r) refl

-- without an `=`, or with an invalid byte before it, the text is no entry
pub separator_fault : (text : List ℕ) (e : Error) → HasSeparatorFault text e → ReadsFault (entry_at (length text) text) e
separator_fault text e (inl (none, fault)) = (SeparatorMissing, [], fault, entry_read text false (has_name text) (is_utf8 text) none refl refl)
separator_fault text e (inr (some, byte, fault)) = (NameByte, [], fault, entry_read text true false (is_utf8 text) some byte refl)

-- ---- the length of an entry, and the entry

pub length_missing : (left : ℕ) (s : List ℕ) → left < 4 → length_prefix_at left s ≡ Faulty ExcessData s
unfolding length_prefix_at
length_missing left s few = rw (lt-ltb left 4 few) refl

pub length_tested : (left n : ℕ) (b : Bool) (s rest : List ℕ) → 4 ≤ left → little_at 4 s ≡ Done n rest → ltb (left - 4) n ≡ b → length_prefix_at left s ≡ cond b (Faulty EntryLong rest) (Done n rest)
unfolding length_prefix_at entry_length_at
length_tested left n b s rest enough read e = rw (le-ltb left 4 enough, read, e) refl

pub length_stops : (left : ℕ) (f : Fault) (s rest : List ℕ) → length_prefix_at left s ≡ Faulty f rest → prefixed_entry_at left s ≡ Faulty f rest
unfolding prefixed_entry_at
length_stops left f s rest e = rw e refl

after_length : (left n : ℕ) (s rest : List ℕ) → length_prefix_at left s ≡ Done n rest → prefixed_entry_at left s ≡ entry_or_empty_at n rest
unfolding prefixed_entry_at
after_length left n s rest e = rw e refl

zero_read : (rest : List ℕ) → entry_or_empty_at 0 rest ≡ Done [] rest
unfolding entry_or_empty_at
zero_read rest = refl

pub empty_read : (left n : ℕ) (s rest : List ℕ) → length_prefix_at left s ≡ Done n rest → n ≡ 0 → prefixed_entry_at left s ≡ Done [] rest
empty_read left n s rest e none = after_length left n s rest e ∙ ap (λ (m : ℕ). entry_or_empty_at m rest) none ∙ zero_read rest

not_empty : (n : ℕ) (s : List ℕ) → 0 < n → entry_or_empty_at n s ≡ bind (entry_at n s) (λ e rest. Done (e ∷ []) rest)
unfolding entry_or_empty_at
not_empty zero s some = absurd (omega arith)
not_empty (suc n) s some = rw (eqb-suc-zero n) refl

-- `more` follows the text
module _ (left n : ℕ) (s text more : List ℕ) (length-is : length_prefix_at left s ≡ Done n (text ++ more)) (len : length text ≡ n) (some : 0 < n) where
  pub entry_found : (e : Entry) → entry_at (length text) text ≡ Done e [] → prefixed_entry_at left s ≡ Done (e ∷ []) more
  entry_found e read =
      let k = (Reads-entry n).takes text e [] (ap (λ (m : ℕ). entry_at m text) (sym len) ∙ read) in
      let again = (Reads-entry n).again e k.0 more k.1 in
      let same : text ≡ k.0 = k.2 ∙ append-nil k.0 in
      after_length left n s (text ++ more) length-is ∙ not_empty n (text ++ more) some ∙ ap (λ (r : Reading ℕ Entry). bind r (λ e rest. Done (e ∷ []) rest)) (ap (λ (t : List ℕ). entry_at n (t ++ more)) same ∙ again)

  pub entry_faulty : (f : Fault) (rest : List ℕ) → entry_at (length text) text ≡ Faulty f rest → prefixed_entry_at left s ≡ Faulty f (rest ++ more)
  entry_faulty f rest read =
      let k = (Reads-entry n).bad text f rest (ap (λ (m : ℕ). entry_at m text) (sym len) ∙ read) in
      let again = (Reads-entry n).bad_again f k.0 (rest ++ more) k.1 in
      let same : text ++ more ≡ k.0 ++ (rest ++ more) = ap (λ (t : List ℕ). t ++ more) k.2 ∙ append_assoc k.0 rest more in
      after_length left n s (text ++ more) length-is ∙ not_empty n (text ++ more) some ∙ ap (λ (r : Reading ℕ Entry). bind r (λ e rest. Done (e ∷ []) rest)) (ap (entry_at n) same ∙ again)

-- an entry is between its length and its end
pub entry_split : (content : List ℕ) (from end : ℕ) → from ≤ end → drop from content ≡ take (end - from) (drop from content) ++ drop end content
entry_split content from end le =
    let sum : from + (end - from) ≡ end = omega arith in
    sym (take-append-drop (end - from) (drop from content)) ∙ ap (λ (t : List ℕ). take (end - from) (drop from content) ++ t) (drop-drop (end - from) from content ∙ ap (λ (m : ℕ). drop m content) sum)

pub entry_length : (content : List ℕ) (from end : ℕ) → from ≤ end → end ≤ length content → length (take (end - from) (drop from content)) ≡ end - from
entry_length content from end le inside = omega (arith, length-take (end - from) (drop from content), length-drop from content)

-- ---- what stands before the entries

pub front_missing : (content : List ℕ) → length content < 8 → tag_at 0 content ≡ Faulty CommentShort content
unfolding tag_at front_at front_length_at
front_missing content few = rw (lt-ltb (length content) 8 few) refl

pub vendor_too_long : (content rest : List ℕ) (v : ℕ) → 8 ≤ length content → little_at 4 content ≡ Done v rest → length content - 8 < v → tag_at 0 content ≡ Faulty VendorLong rest
unfolding tag_at front_at front_length_at vendor_length_at
vendor_too_long content rest v enough read long = rw (le-ltb (length content) 8 enough, read, lt-ltb (length content - 8) v long) refl

pub vendor_passed : (content : List ℕ) (v : ℕ) → 8 ≤ length content → little_at 4 content ≡ Done v (drop 4 content) → v ≤ length content - 8 → tag_at 0 content ≡ first_entry_at (length content) (drop (v + 8) content)
unfolding tag_at front_at front_length_at vendor_length_at bytes_at
vendor_passed content v enough read fits =
    let inside : ltb (length (drop 4 content)) (v + 4) ≡ false = le-ltb _ _ (omega (arith, length-drop 4 content)) in
    let after : drop (v + 4) (drop 4 content) ≡ drop (v + 8) content = drop-drop (v + 4) 4 content ∙ ap (λ (n : ℕ). drop n content) (omega arith) in
    rw (le-ltb (length content) 8 enough, read, le-ltb (length content - 8) v fits, inside, after) refl

pub start_passed : (at : ℕ) (content : List ℕ) → 0 < at → tag_at at content ≡ first_entry_at (length content) (drop (min (length content) at) content)
unfolding tag_at
start_passed zero content some = absurd (omega arith)
start_passed (suc n) content some = ap (first_entry_at (length content)) (elim (cases_lt (length content) (suc n)) [
  | inl past ↦ (let e : min (length content) (suc n) ≡ length content = omega arith in no_bytes (drop (suc n) content) (omega (arith, length-drop (suc n) content)) ∙ sym (no_bytes (drop (min (length content) (suc n)) content) (omega (arith, length-drop (min (length content) (suc n)) content, e))))
  | inr inside ↦ (let e : suc n ≡ min (length content) (suc n) = omega arith in ap (λ (m : ℕ). drop m content) e)
])
  where
    no_bytes : (s : List ℕ) → length s ≡ 0 → s ≡ []
    no_bytes [] e = refl
    no_bytes (x ∷ s) e = absurd cc
