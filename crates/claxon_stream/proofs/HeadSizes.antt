-- How many bytes the parts of a head have: that many are read, and that many suffice.
use Rattle.std.proofs.Common.{◌≡◌, inl, inr, ℕ, zero, suc, ◌+◌, ◌-◌, ◌≤◌, min, Bool, true, false, cond, not, eqb, ltb, List, [], ◌∷◌, ◌++◌, length, drop, Option, None, Some, refl, sym, ap, subst, ◌∙◌, arith, length-append}
use Rattle.std.specs.Prelude.{◌/◌, ◌==◌, nat_le}
use Rattle.std.proofs.lemmas.Bool.{cases_lt, eqb-true, false≢true, le-ltb, lt-ltb, ltb-false}
use Rattle.std.proofs.lemmas.List.{drop-drop, drop_at, length-drop}
use Rattle.claxon.specs.Codes.{Mapped}
use Rattle.claxon.specs.Comments.{Comment, CommentCode, Entry, has_name, has_separator, not_utf8}
use Rattle.claxon.specs.Fault.{ApplicationLarge, ApplicationShort, BlockSizeBounds, BlockSizeSmall, CommentLarge, CommentShort, EntriesMissing, EntryLong, EntryNotUtf8, ExcessData, Fault, FrameSizeBounds, Id3Header, NameByte, SampleRate, SeparatorMissing, StreamMarker, StreaminfoLength, TooManyEntries, VendorLong, VendorNotUtf8}
use Rattle.claxon.specs.Heads.{stream_marker}
use Rattle.claxon.specs.Metadata.{Bytes, max_content_bytes}
use Rattle.claxon.specs.MetadataBlocks.{Application, ApplicationBody, Body, Comments, Content, Info, skipped}
use Rattle.claxon.specs.read.Bytes.{big_at, bytes_at, little_at, skipped_at}
use Rattle.claxon.specs.read.Comments.{comment_at, count_at, entries_at, entries_end_at, entry_at, entry_length_at, entry_of, entry_or_empty_at, vendor_at, vendor_length_at}
use Rattle.claxon.specs.read.Heads.{marker_at}
use Rattle.claxon.specs.read.Metadata.{block_header_at}
use Rattle.claxon.specs.read.MetadataBlocks.{application_at, body_at, info_body_at}
use Rattle.claxon.specs.read.Reading.{Reading, Done, Faulty, Incomplete, and_then, bind, checked_at, done, test}
use Rattle.claxon.specs.read.Streaminfo.{format_at, info_fields_at, md5_at, sizes_at, streaminfo_at}
use Rattle.claxon.specs.Streaminfo.{block_sizes_inconsistent, block_small, frame_sizes_inconsistent, rate_invalid}
use Rattle.claxon.proofs.Laws.{bind_done}
use Rattle.claxon_format.proofs.MetadataBlocks.{Reads-body}
use Rattle.claxon_stream.specs.HeadPart.{BlockPart, EndPart, HeaderPart, MarkerPart, content_needs, content_rest_at, is_passed, part_at, part_needs, unless_refused}
use Rattle.claxon_stream.specs.HeadRules.{allows_more, refused}
use Rattle.claxon_stream.specs.declared.head.part.NextPart.{NextPart}
use Rattle.claxon_stream.specs.declared.head.part.NextPart.TheVariants.{Content as ContentNext, End as EndNext, Header as HeaderNext, Marker as MarkerNext}
use Rattle.claxon_stream.specs.declared.head.rules.Rules.{Rules}

-- A value is read of n bytes.
abbrev pub Takes : {A : Type 0} → ℕ → (List ℕ → Reading ℕ A) → Type 0
Takes {A} n r = (s : List ℕ) (a : A) (rest : List ℕ) → r s ≡ Done a rest → (n ≤ length s) × (rest ≡ drop n s)

-- n bytes aren't too few.
abbrev pub Suffices : {A : Type 0} → ℕ → (List ℕ → Reading ℕ A) → Type 0
Suffices n r = (s : List ℕ) → n ≤ length s → r s ≡ Incomplete → ⊥

record HasSize {A : Type 0} (n : ℕ) (r : List ℕ → Reading ℕ A) : Type 0 where
  pub takes : Takes n r
  pub suffices : Suffices n r

size_bytes : (n : ℕ) → HasSize n (bytes_at n)
unfolding bytes_at
size_bytes n = record {
  takes = λ s a rest e. elim (cases_lt (length s) n) [
    | inl lt ↦ absurd (let k = rw (lt-ltb (length s) n lt) at e in cc)
    | inr le ↦ (le, let k = rw (le-ltb (length s) n le) at e in let same : drop n s ≡ rest = cc in sym same)
  ];
  suffices = λ s le e. let k = rw (le-ltb (length s) n le) at e in cc;
}

size_none : {A : Type 0} (a : A) → HasSize 0 (done a)
size_none a = record {
  takes = λ s b rest e. (omega arith, let same : s ≡ rest = cc in sym same);
  suffices = λ s le e. cc;
}

size_test : {A : Type 0} {r : List ℕ → Reading ℕ A} (b : Bool) (f : Fault) (n : ℕ) → HasSize n r → HasSize n (test b f r)
size_test true f n h = record { takes = λ s a rest e. absurd cc; suffices = λ s le e. cc }
size_test false f n h = h

-- n bytes, and then what is left of some more
suffices_then : {A B : Type 0} {r : List ℕ → Reading ℕ A} {f : A → List ℕ → Reading ℕ B} (n whole : ℕ) → HasSize n r → n ≤ whole → ((s : List ℕ) (a : A) (rest : List ℕ) → r s ≡ Done a rest → Suffices (whole - n) (f a)) → Suffices whole (and_then r f)
suffices_then {A = A} {r = r} {f = f} n whole first within second s le e = go (r s) refl e
  where
    go : (x : Reading ℕ A) → r s ≡ x → bind x f ≡ Incomplete → ⊥
    go (Done a m) is k =
        let p = first.takes s a m is in
        let long : whole - n ≤ length m = subst (λ (z : List ℕ). whole - n ≤ length z) (sym p.1) (omega (arith, le, length-drop n s)) in
        second s a m is m long k
    go (Faulty g m) is k = cc
    go Incomplete is k = first.suffices s (omega (arith, le, within)) is

takes_then : {A B : Type 0} {r : List ℕ → Reading ℕ A} {f : A → List ℕ → Reading ℕ B} (n m : ℕ) → Takes n r → ((a : A) → Takes m (f a)) → Takes (n + m) (and_then r f)
takes_then {r = r} {f = f} n m first second s b rest e =
    let k = bind_done (r s) f b rest e in
    let p = first s k.0 k.1 k.2 in
    let q = second k.0 k.1 b rest k.3 in
    let long : m ≤ length (drop n s) = subst (λ (z : List ℕ). m ≤ length z) p.1 q.0 in
    (omega (arith, p.0, long, length-drop n s), q.1 ∙ ap (drop m) p.1 ∙ drop-drop m n s)

size_then : {A B : Type 0} {r : List ℕ → Reading ℕ A} {f : A → List ℕ → Reading ℕ B} (n m : ℕ) → HasSize n r → ((a : A) → HasSize m (f a)) → HasSize (n + m) (and_then r f)
size_then {A = A} {r = r} {f = f} n m first second = record {
  takes = takes_then n m first.takes (λ a. (second a).takes);
  suffices = suffices_then n (n + m) first (omega arith) (λ s a rest is t le e. (second a).suffices t (omega (arith, le)) e);
}

-- a test, or another value, after n bytes
size_and : {A B : Type 0} {r : List ℕ → Reading ℕ A} {f : A → List ℕ → Reading ℕ B} (n : ℕ) → HasSize n r → ((a : A) → HasSize 0 (f a)) → HasSize n (and_then r f)
size_and {r = r} {f = f} n first second = let same : n + 0 ≡ n = omega arith in subst (λ (z : ℕ). HasSize z (and_then r f)) same (size_then n 0 first second)

size_big : (w : ℕ) → HasSize w (big_at w)
unfolding big_at
size_big w = size_and w (size_bytes w) (λ xs. size_none _)

size_little : (w : ℕ) → HasSize w (little_at w)
unfolding little_at
size_little w = size_and w (size_bytes w) (λ xs. size_none _)

size_skipped : (n : ℕ) → HasSize n (skipped_at n)
unfolding skipped_at
size_skipped n = size_and n (size_bytes n) (λ xs. size_none tt)

-- ---- the marker, a header, a streaminfo

size_marker : HasSize 4 marker_at
unfolding marker_at
size_marker = size_and 4 (size_big 4) (λ m. size_test (m / 256 == 0x494433) Id3Header 0 (size_test (not (m == stream_marker)) StreamMarker 0 (size_none m)))

size_header : HasSize 4 block_header_at
unfolding block_header_at
size_header = size_then 1 3 (size_big 1) (λ first. size_and 3 (size_big 3) (λ size. size_none _))

size_sizes : HasSize 10 sizes_at
unfolding sizes_at
size_sizes = size_then 2 8 (size_big 2) (λ a. size_then 2 6 (size_big 2) (λ b. size_then 3 3 (size_big 3) (λ c. size_and 3 (size_big 3) (λ d. size_none _))))

size_format : HasSize 8 format_at
unfolding format_at
size_format = size_then 4 4 (size_big 4) (λ high. size_and 4 (size_big 4) (λ low. size_none _))

size_md5 : HasSize 16 md5_at
unfolding md5_at
size_md5 = size_and 16 (size_bytes 16) (λ ys. size_none _)

size_fields : HasSize 34 info_fields_at
unfolding info_fields_at
size_fields = size_then 10 24 size_sizes (λ sizes. size_then 8 16 size_format (λ format. size_and 16 size_md5 (λ md5. size_none _)))

size_streaminfo : HasSize 34 streaminfo_at
unfolding streaminfo_at
size_streaminfo =
    size_and 34 size_fields (λ i. size_test (block_sizes_inconsistent i) BlockSizeBounds 0 (size_test (block_small i) BlockSizeSmall 0 (size_test (frame_sizes_inconsistent i) FrameSizeBounds 0 (size_test (rate_invalid i) SampleRate 0 (size_none i)))))

-- ---- comments

size_checked : {A : Type 0} {r : List ℕ → Reading ℕ A} (bad : A → Bool) (f : Fault) (n : ℕ) → HasSize n r → HasSize n (checked_at bad f r)
size_checked bad f n h = size_and n h (λ a. size_test (bad a) f 0 (size_none a))

-- a length that was read is at most what is left
length_fits : (most : ℕ) (f : Fault) (s : List ℕ) (v : ℕ) (rest : List ℕ) → checked_at (ltb most) f (little_at 4) s ≡ Done v rest → v ≤ most
length_fits most f s v rest e =
    let k = bind_done (little_at 4 s) (λ a. test (ltb most a) f (done a)) v rest e in
    go k.0 k.1 (ltb most k.0) refl k.3
  where
    go : (a : ℕ) (m : List ℕ) (b : Bool) → ltb most a ≡ b → test b f (done a) m ≡ Done v rest → v ≤ most
    go a m true is k = absurd cc
    go a m false is k = let same : a ≡ v = cc in let le = ltb-false most a is in omega (arith, le, same)

size_entry : (n : ℕ) → HasSize n (entry_at n)
unfolding entry_at
size_entry n = size_and n (size_bytes n) (λ text. size_test (not (has_separator text)) SeparatorMissing 0 (size_test (not (has_name text)) NameByte 0 (size_test (not_utf8 text) EntryNotUtf8 0 (size_none (entry_of text)))))

size_entry_or_empty : (n : ℕ) → HasSize n (entry_or_empty_at n)
unfolding entry_or_empty_at
size_entry_or_empty n = go (eqb n 0) refl
  where
    go : (b : Bool) → eqb n 0 ≡ b → HasSize n (entry_or_empty_at n)
    go true is = rw is (subst (λ (z : ℕ). HasSize z (done {X = ℕ} {A = List Entry} [])) (sym (eqb-true n 0 is)) (size_none []))
    go false is = rw is (size_and n (size_entry n) (λ e. size_none (e ∷ [])))

end_suffices : (missing left n : ℕ) → Suffices n (entries_end_at missing left)
end_suffices missing left n s le = (size_test (ltb 0 left) ExcessData 0 (size_test (ltb 0 missing) EntriesMissing 0 (size_none []))).suffices s (omega arith)

suffices_mapped : {A B : Type 0} {r : List ℕ → Reading ℕ A} (g : A → B) (n : ℕ) → Suffices n r → Suffices n (and_then r (λ a. done (g a)))
suffices_mapped {A = A} {r = r} g n h s le e = go (r s) refl e
  where
    go : (x : Reading ℕ A) → r s ≡ x → bind x (λ a. done (g a)) ≡ Incomplete → ⊥
    go (Done a m) is k = cc
    go (Faulty f m) is k = cc
    go Incomplete is k = h s le is

entries_suffice : (missing left : ℕ) → Suffices left (entries_at missing left)
unfolding entries_at entry_length_at
entries_suffice zero left = end_suffices zero left left
entries_suffice (suc missing) left = elim (cases_lt left 4) [
  | inl lt ↦ rw (lt-ltb left 4 lt) (end_suffices (suc missing) left left)
  | inr le ↦ rw (le-ltb left 4 le) (suffices_then 4 left (size_checked (ltb (left - 4)) EntryLong 4 (size_little 4)) le (λ s n rest is.
      let fits = length_fits (left - 4) EntryLong s n rest is in
      suffices_then n (left - 4) (size_entry_or_empty n) fits (λ t entries m found. suffices_mapped (λ others. entries ++ others) (left - 4 - n) (entries_suffice missing (left - 4 - n)))))
]

comment_suffices : (n : ℕ) → Suffices n (comment_at n)
unfolding comment_at vendor_length_at vendor_at count_at
comment_suffices n = elim (cases_lt n 8) [
  | inl lt ↦ (λ s le e. let k = rw (lt-ltb n 8 lt) at e in cc)
  | inr le ↦ elim (cases_lt max_content_bytes n) [
    | inl lt ↦ (λ s long e. let k = rw (le-ltb n 8 le, lt-ltb max_content_bytes n lt) at e in cc)
    | inr most ↦ rw (le-ltb n 8 le, le-ltb max_content_bytes n most) (suffices_then 4 n (size_checked (ltb (n - 8)) VendorLong 4 (size_little 4)) (omega (arith, le)) (λ s v rest is.
        let fits = length_fits (n - 8) VendorLong s v rest is in
        suffices_then v (n - 4) (size_checked not_utf8 VendorNotUtf8 v (size_bytes v)) (omega (arith, fits, le)) (λ t vendor m there.
        suffices_then 4 (n - 4 - v) (size_checked (nat_le (n / 4)) TooManyEntries 4 (size_little 4)) (omega (arith, fits, le)) (λ u count k found.
        let left : n - 4 - v - 4 ≡ n - 8 - v = omega arith in
        rw left (suffices_mapped (λ entries. record { vendor = vendor; entries = entries }) (n - 8 - v) (entries_suffice count (n - 8 - v)))))))
  ]
]

-- ---- the content of a block

application_suffices : (n : ℕ) → Suffices n (application_at n)
unfolding application_at
application_suffices n = elim (cases_lt n 4) [
  | inl lt ↦ (λ s le e. let k = rw (lt-ltb n 4 lt) at e in cc)
  | inr le ↦ elim (cases_lt max_content_bytes n) [
    | inl lt ↦ (λ s long e. let k = rw (le-ltb n 4 le, lt-ltb max_content_bytes n lt) at e in cc)
    | inr most ↦ rw (le-ltb n 4 le, le-ltb max_content_bytes n most) (suffices_then 4 n (size_big 4) le (λ s id rest is. suffices_mapped (λ bytes. Application id bytes) (n - 4) (size_bytes (n - 4)).suffices))
  ]
]

-- a content that is too large is a fault
large_application : (n : ℕ) → ltb max_content_bytes n ≡ true → Suffices 0 (application_at n)
unfolding application_at
large_application n large s le e = go (ltb n 4) (rw large at e)
  where
    go : (b : Bool) → (let x : Reading ℕ Content = cond b (Faulty ApplicationShort s) (Faulty ApplicationLarge s) in x) ≡ Incomplete → ⊥
    go true k = cc
    go false k = cc

large_comment : (n : ℕ) → ltb max_content_bytes n ≡ true → Suffices 0 (comment_at n)
unfolding comment_at
large_comment n large s le e = go (ltb n 8) (rw large at e)
  where
    go : (b : Bool) → (let x : Reading ℕ Comment = cond b (Faulty CommentShort s) (Faulty CommentLarge s) in x) ≡ Incomplete → ⊥
    go true k = cc
    go false k = cc

needs_application : (n : ℕ) → n ≤ max_content_bytes → content_needs 2 n ≡ n
needs_application n h = rw (le-ltb _ _ h) refl

needs_comment : (n : ℕ) → n ≤ max_content_bytes → content_needs 4 n ≡ n
needs_comment n h = rw (le-ltb _ _ h) refl

module _ (type n : ℕ) (kept : is_passed type ≡ false) where
  not_passed : eqb type 0 ≡ false → eqb type 2 ≡ false → eqb type 4 ≡ false → eqb type 127 ≡ false → ⊥
  not_passed a b c d = let passed : is_passed type ≡ true = rw (a, b, c, d) refl in false≢true (sym kept ∙ passed)

  -- a body other than a streaminfo's
  body_length : (c : Content) (t : List ℕ) → eqb type 0 ≡ false → Body type n c t → length t ≡ content_needs type n
  body_length c t not_info code = two (eqb type 2) refl (rw not_info at code)
    where
      last : (b : Bool) → eqb type 2 ≡ false → eqb type 4 ≡ false → eqb type 127 ≡ b → cond b (λ c t. ⊥) (Mapped (λ bytes. skipped type n) (Bytes n)) c t → length t ≡ content_needs type n
      last true a e is h = absurd h
      last false a e is h = absurd (not_passed not_info a e is)

      four : (b : Bool) → eqb type 2 ≡ false → eqb type 4 ≡ b → cond b (Mapped Comments (CommentCode n)) (cond (eqb type 127) (λ c t. ⊥) (Mapped (λ bytes. skipped type n) (Bytes n))) c t → length t ≡ content_needs type n
      four true a is h = let k = h.1 in k.5 ∙ sym (needs_comment n k.4) ∙ ap (λ (z : ℕ). content_needs z n) (sym (eqb-true type 4 is))
      four false a is h = last (eqb type 127) a is refl h

      two : (b : Bool) → eqb type 2 ≡ b → cond b (ApplicationBody n) (cond (eqb type 4) (Mapped Comments (CommentCode n)) (cond (eqb type 127) (λ c t. ⊥) (Mapped (λ bytes. skipped type n) (Bytes n)))) c t → length t ≡ content_needs type n
      two true is h = h.4 ∙ sym (needs_application n h.3) ∙ ap (λ (z : ℕ). content_needs z n) (sym (eqb-true type 2 is))
      two false is h = four (eqb type 4) is refl h

  size_info : eqb type 0 ≡ true → HasSize (content_needs type n) (and_then (info_body_at n) (λ i. done (Info i)))
  unfolding info_body_at
  size_info info_type = go (eqb n 34) refl
    where
      go : (b : Bool) → eqb n 34 ≡ b → HasSize (content_needs type n) (and_then (test (not (eqb n 34)) StreaminfoLength streaminfo_at) (λ i. done (Info i)))
      go true is =
          let size : n ≡ 34 = eqb-true n 34 is in
          let needed : content_needs type n ≡ 34 = rw (eqb-true type 0 info_type, size) refl in
          rw (needed, is) (size_and 34 size_streaminfo (λ i. size_none (Info i)))
      go false is = record { takes = λ s a rest e. absurd (let k = rw is at e in cc); suffices = λ s le e. let k = rw is at e in cc }

  takes_body : Takes (content_needs type n) (body_at type n)
  unfolding body_at
  takes_body s a rest e = go (eqb type 0) refl
    where
      go : (b : Bool) → eqb type 0 ≡ b → (content_needs type n ≤ length s) × (rest ≡ drop (content_needs type n) s)
      go true info_type = (size_info info_type).takes s a rest (rw info_type at e)
      go false not_info =
          let k = (Reads-body type n).takes s a rest e in
          let size = body_length a k.0 not_info k.1 in
          (omega (arith, size, ap length k.2, length-append k.0 rest), sym (drop_at k.0 rest (content_needs type n) size) ∙ ap (drop (content_needs type n)) (sym k.2))

  application_enough : eqb type 2 ≡ true → Suffices (content_needs type n) (application_at n)
  application_enough is = go (ltb max_content_bytes n) refl
    where
      go : (b : Bool) → ltb max_content_bytes n ≡ b → Suffices (content_needs type n) (application_at n)
      go true large = λ s le e. large_application n large s (omega arith) e
      go false small =
          let needed : content_needs type n ≡ n = ap (λ (z : ℕ). content_needs z n) (eqb-true type 2 is) ∙ needs_application n (ltb-false _ _ small) in
          rw needed (application_suffices n)

  comment_enough : eqb type 4 ≡ true → Suffices (content_needs type n) (and_then (comment_at n) (λ c. done (Comments c)))
  comment_enough is = suffices_mapped Comments (content_needs type n) (go (ltb max_content_bytes n) refl)
    where
      go : (b : Bool) → ltb max_content_bytes n ≡ b → Suffices (content_needs type n) (comment_at n)
      go true large = λ s le e. large_comment n large s (omega arith) e
      go false small =
          let needed : content_needs type n ≡ n = ap (λ (z : ℕ). content_needs z n) (eqb-true type 4 is) ∙ needs_comment n (ltb-false _ _ small) in
          rw needed (comment_suffices n)

  body_suffices : Suffices (content_needs type n) (body_at type n)
  unfolding body_at
  body_suffices s le e = go (eqb type 0) (eqb type 2) (eqb type 4) (eqb type 127) refl refl refl refl
    where
      go : (a b c d : Bool) → eqb type 0 ≡ a → eqb type 2 ≡ b → eqb type 4 ≡ c → eqb type 127 ≡ d → ⊥
      go true b c d p q r t = (size_info p).suffices s le (rw p at e)
      go false true c d p q r t = application_enough q s le (rw (p, q) at e)
      go false false true d p q r t = comment_enough r s le (rw (p, q, r) at e)
      go false false false true p q r t = let k = rw (p, q, r, t) at e in cc
      go false false false false p q r t = not_passed p q r t

size_content : (type n : ℕ) → HasSize (content_needs type n) (content_rest_at type n)
size_content type n = go (is_passed type) refl
  where
    go : (b : Bool) → is_passed type ≡ b → HasSize (content_needs type n) (content_rest_at type n)
    go true is = rw is (size_and (min n 1) (size_skipped (min n 1)) (λ u. size_none (skipped type n)))
    go false is = record { takes = λ s a rest e. takes_body type n is s a rest (rw is at e); suffices = λ s le e. body_suffices type n is s le (rw is at e) }

-- ---- parts

size_unless : (f : Option Fault) (c : Content) → HasSize 0 (unless_refused f c)
size_unless None c = size_none (BlockPart c)
size_unless (Some f) c = record { takes = λ s a rest e. absurd cc; suffices = λ s le e. cc }

size_next_header : (r : Rules) → HasSize (part_needs HeaderNext r) (part_at HeaderNext r)
size_next_header r = go (allows_more r) refl
  where
    go : (b : Bool) → allows_more r ≡ b → HasSize (part_needs HeaderNext r) (part_at HeaderNext r)
    go true is = rw is (size_and 4 size_header (λ h. size_none (HeaderPart h)))
    go false is = rw is (record { takes = λ s a rest e. absurd cc; suffices = λ s le e. cc })

size_part : (next : NextPart) (r : Rules) → HasSize (part_needs next r) (part_at next r)
size_part MarkerNext r = size_and 4 size_marker (λ m. size_none MarkerPart)
size_part HeaderNext r = size_next_header r
size_part (ContentNext h) r = size_and (content_needs h.block_type h.length) (size_content h.block_type h.length) (λ c. size_unless (refused r c) c)
size_part EndNext r = size_none EndPart

pub takes_part : (next : NextPart) (r : Rules) → Takes (part_needs next r) (part_at next r)
takes_part next r = (size_part next r).takes

pub part_suffices : (next : NextPart) (r : Rules) → Suffices (part_needs next r) (part_at next r)
part_suffices next r = (size_part next r).suffices
