-- What calls return for the next tag in the content of a Vorbis comment block.
use Rattle.std.proofs.Common.{◌≡◌, inl, inr, ℕ, zero, suc, ◌+◌, ◌-◌, ◌<◌, ◌≤◌, List, [], ◌∷◌, Option, ◌++◌, length, take, drop, refl, sym, ap, subst, ◌∙◌, arith, length-append, append_assoc, None, Some}
use Rattle.std.proofs.lemmas.List.{drop-drop, drop_at, length-drop, length-take, take-append-drop, take_at}
use Rattle.claxon.specs.Codes.{Each}
use Rattle.claxon.specs.Comments.{EntriesOf, Entry, IsEntry, LengthPrefixed}
use Rattle.claxon.specs.Fault.{Fault}
use Rattle.claxon.specs.read.Reading.{Done}
use Rattle.claxon.proofs.Metadata.{little_length}
use Rattle.claxon.specs.Error.{IsFault}
use Rattle.claxon.specs.Errors.{Error}
use Rattle.claxon.specs.Errors.TheVariants.{IoError, FormatError, Unsupported, OutOfMemory}
use Rattle.claxon_c.specs.NextTag.{CTagFaultIsComplete, CTagFaultIsSound, CTagIsComplete, CTagIsSound, CTagNoMoreIffEnd, CTagsAreInOrder, EmptyEntries, EntriesFrom, NextTag, ShowsTag, TagStands, TagsAre}
use Rattle.claxon_c.specs.Status.{ErrorIsReported, FaultIsReported, IsFaultStatus, no_more}
use Rattle.claxon_c.specs.TagReader.{IsTagOf, ReadsFault, tag_at}
use Rattle.claxon_c.specs.declared.tags.ClaxonTag.{ClaxonTag}
use Rattle.claxon_c.specs.declared.tags.Tag.{Tag}
use Rattle.claxon_c.proofs.Reports.{reported_fault}
use Rattle.claxon_c.proofs.TagsRead.{end_read, end_stands, fault_read, fault_stands, tag_read, tag_stands}

-- ---- where a tag is

-- the content begins with something before the entry's text
record InContent (content : List ℕ) (e : Entry) (rest : List ℕ) : Type 0 where
  front : List ℕ
  joined : content ≡ front ++ (e.text ++ rest)
  some : 0 < length front

four_before : (e : Entry) (t rest bytes front content : List ℕ) → NextTag e t → bytes ≡ t ++ rest → content ≡ front ++ bytes → InContent content e rest
four_before e t rest bytes front content (x, y, empty, (h, code, y-is), is, t-is) bytes-is content-is =
    let len = little_length 4 (length e.text) h code in
    let joined : content ≡ (front ++ (x ++ h)) ++ (e.text ++ rest) = content-is ∙ ap (λ (z : List ℕ). front ++ z) (bytes-is ∙ ap (λ (z : List ℕ). z ++ rest) (t-is ∙ ap (λ (z : List ℕ). x ++ z) y-is)
    ∙ append_assoc x (h ++ e.text) rest ∙ ap (λ (z : List ℕ). x ++ z) (append_assoc h e.text rest) ∙ sym (append_assoc x h (e.text ++ rest))) ∙ sym (append_assoc front (x ++ h) (e.text ++ rest)) in
    record { front = front ++ (x ++ h); joined = joined; some = omega (arith, len, length-append front (x ++ h), length-append x h) }

in_content : (at : ℕ) (content : List ℕ) (e : Entry) (rest : List ℕ) → TagStands at content e rest → InContent content e rest
in_content zero content e rest (bytes, t, (vendor, x, y, p, len, is), tag, bytes-is) = four_before e t rest bytes (x ++ y) content tag bytes-is (is ∙ sym (append_assoc x y bytes))
in_content (suc n) content e rest (bytes, t, is, tag, bytes-is) = four_before e t rest bytes (take (suc n) content) content tag bytes-is (sym (take-append-drop (suc n) content) ∙ ap (λ (z : List ℕ). take (suc n) content ++ z) (sym is))

entry_of_stands : (at : ℕ) (content : List ℕ) (e : Entry) (rest : List ℕ) → TagStands at content e rest → IsEntry e
entry_of_stands at content e rest (bytes, t, from, (x, y, empty, p, is, t-is), bytes-is) = is

separator_inside : (e : Entry) → IsEntry e → e.place + 1 ≤ length e.text
separator_inside e (name, value, text, separator, none, named, utf8) = omega (arith, ap length text, length-append name (0x3d ∷ value), separator)

module _ (at : ℕ) (content : List ℕ) (e : Entry) (rest : List ℕ) (stands : TagStands at content e rest) (to : ℕ) (shown : ClaxonTag)
    (after : to + length rest ≡ length content) (from : shown.name_at + length e.text ≡ to) (count : shown.name_length ≡ e.place) (value-at : shown.value_at ≡ shown.name_at + shown.name_length + 1) (value-count : shown.value_length ≡ to - shown.value_at) where
  pub shows_tag : ShowsTag content e rest to shown
  shows_tag =
      let k = in_content at content e rest stands in
      let inside = separator_inside e (entry_of_stands at content e rest stands) in
      let len : length content ≡ length k.front + (length e.text + length rest) = ap length k.joined ∙ length-append k.front (e.text ++ rest) ∙ ap (λ (n : ℕ). length k.front + n) (length-append e.text rest) in
      let front : length k.front ≡ shown.name_at = omega arith in
      let left : drop shown.name_at content ≡ e.text ++ rest = ap (drop shown.name_at) k.joined ∙ drop_at k.front (e.text ++ rest) shown.name_at front in
      let split : e.text ++ rest ≡ take e.place e.text ++ (drop e.place e.text ++ rest) = ap (λ (z : List ℕ). z ++ rest) (sym (take-append-drop e.place e.text)) ∙ append_assoc (take e.place e.text) (drop e.place e.text) rest in
      let value-split : e.text ++ rest ≡ take (e.place + 1) e.text ++ (drop (e.place + 1) e.text ++ rest) = ap (λ (z : List ℕ). z ++ rest) (sym (take-append-drop (e.place + 1) e.text)) ∙ append_assoc (take (e.place + 1) e.text) (drop (e.place + 1) e.text) rest in
      let name-len : length (take e.place e.text) ≡ shown.name_length = omega (arith, length-take e.place e.text) in
      let before-len : length (take (e.place + 1) e.text) ≡ e.place + 1 = omega (arith, length-take (e.place + 1) e.text) in
      let value-len : length (drop (e.place + 1) e.text) ≡ shown.value_length = omega (arith, length-drop (e.place + 1) e.text) in
      let value-left : drop shown.value_at content ≡ drop (e.place + 1) e.text ++ rest = ap (λ (n : ℕ). drop n content) (omega (arith, value-at, count)) ∙ sym (drop-drop (e.place + 1) shown.name_at content) ∙ ap (drop (e.place + 1)) (left ∙ value-split) ∙ drop_at (take (e.place + 1) e.text) (drop (e.place + 1) e.text ++ rest) (e.place + 1) before-len in
      record {
        after = after;
        from = from;
        name = ap (take shown.name_length) (left ∙ split) ∙ take_at (take e.place e.text) (drop e.place e.text ++ rest) shown.name_length name-len;
        name_count = count;
        value = ap (take shown.value_length) value-left ∙ take_at (drop (e.place + 1) e.text) rest shown.value_length value-len;
        value_count = omega (arith, length-drop (e.place + 1) e.text, value-len, inside);
        value_end = omega (arith, from, count, value-at, value-count, inside);
      }

  rest_is : drop to content ≡ rest
  rest_is =
      let k = in_content at content e rest stands in
      let len : length content ≡ length k.front + (length e.text + length rest) = ap length k.joined ∙ length-append k.front (e.text ++ rest) ∙ ap (λ (n : ℕ). length k.front + n) (length-append e.text rest) in
      let there : length (k.front ++ e.text) ≡ to = omega (arith, length-append k.front e.text) in
      ap (drop to) (k.joined ∙ sym (append_assoc k.front e.text rest)) ∙ drop_at (k.front ++ e.text) rest to there

  not_first : 0 < to
  not_first =
      let k = in_content at content e rest stands in
      let len : length content ≡ length k.front + (length e.text + length rest) = ap length k.joined ∙ length-append k.front (e.text ++ rest) ∙ ap (λ (n : ℕ). length k.front + n) (length-append e.text rest) in
      omega (arith, k.some)

-- ---- tags in order

-- the first of the entries of texts, or none
record FirstTag (texts : List (List ℕ)) (s : List ℕ) (e : Entry) (others : List Entry) : Type 0 where
  code : List ℕ
  rest : List ℕ
  tag : NextTag e code
  joined : s ≡ code ++ rest
  later : List (List ℕ)
  each : Each LengthPrefixed later rest
  entries : EntriesOf later others

first_tag_of : (texts : List (List ℕ)) (s : List ℕ) (e : Entry) (others : List Entry) → Each LengthPrefixed texts s → EntriesOf texts (e ∷ others) → FirstTag texts s e others
first_tag_of [] s e others each m = absurd m
first_tag_of ([] ∷ texts) s e others (t, u, p, each, s-is) m =
    let k = first_tag_of texts u e others each m in
    let (x, y, (n, empty), q, is, code-is) = k.tag in
    record {
      code = t ++ k.code;
      rest = k.rest;
      tag = (t ++ x, y, (suc n, (t, x, p, empty, refl)), q, is, ap (λ (z : List ℕ). t ++ z) code-is ∙ sym (append_assoc t x y));
      joined = s-is ∙ ap (λ (z : List ℕ). t ++ z) k.joined ∙ sym (append_assoc t k.code k.rest);
      later = k.later;
      each = k.each;
      entries = k.entries;
    }
first_tag_of ((y ∷ ys) ∷ texts) s e others (t, u, p, each, s-is) (text-is, is, m) = record {
  code = t;
  rest = u;
  tag = ([], t, (0, refl), subst (λ (z : List ℕ). LengthPrefixed z t) (sym text-is) p, is, refl);
  joined = s-is;
  later = texts;
  each = each;
  entries = m;
}

all_empty : (texts : List (List ℕ)) (s : List ℕ) → Each LengthPrefixed texts s → EntriesOf texts [] → EmptyEntries s
all_empty [] s each m = (0, each)
all_empty ([] ∷ texts) s (t, u, p, each, s-is) m = let k = all_empty texts u each m in (suc k.0, (t, u, p, k.1, s-is))
all_empty ((y ∷ ys) ∷ texts) s each m = absurd m

-- the texts of the entries that these tags are
record EntriesStand (at : ℕ) (content : List ℕ) (entries : List Entry) : Type 0 where
  bytes : List ℕ
  from : EntriesFrom at content bytes
  texts : List (List ℕ)
  each : Each LengthPrefixed texts bytes
  are : EntriesOf texts entries

entries_stand : (at : ℕ) (content : List ℕ) (entries : List Entry) → TagsAre at content entries → EntriesStand at content entries
entries_stand zero content entries (c, (texts, x, y, z, most, len, p, utf8, count, each, m, is), same) = record {
  bytes = z;
  from = (c.vendor, x, y, p, little_length 4 (length texts) y count, is);
  texts = texts;
  each = each;
  are = subst (EntriesOf texts) (sym same) m;
}
entries_stand (suc n) content entries (texts, each, m) = record { bytes = drop (suc n) content; from = refl; texts = texts; each = each; are = m }

tags_after : (to : ℕ) (content rest : List ℕ) (texts : List (List ℕ)) (others : List Entry) → 0 < to → drop to content ≡ rest → Each LengthPrefixed texts rest → EntriesOf texts others → TagsAre to content others
tags_after zero content rest texts others some is each m = absurd (omega arith)
tags_after (suc n) content rest texts others some is each m = (texts, subst (Each LengthPrefixed texts) (sym is) each, m)

-- ---- the clauses

-- the entry of a tag that was found
pub record FoundTag (at : ℕ) (content : List ℕ) (tag : Tag) : Type 0 where
  pub entry : Entry
  pub rest : List ℕ
  pub read : tag_at at content ≡ Done (Some entry) rest
  pub after : tag.end + length rest ≡ length content
  pub from : tag.name_at + length entry.text ≡ tag.end
  pub count : tag.name_length ≡ entry.place
  -- the value begins within the tag
  pub inside : tag.name_at + tag.name_length + 1 ≤ tag.end

pub found_tag : (at : ℕ) (content : List ℕ) (found : Option Tag) (tag : Tag) → found ≡ Some tag → IsTagOf content (tag_at at content) found → FoundTag at content tag
found_tag at content found tag is h =
    let (e, rest, read, after, from, count) = subst (IsTagOf content (tag_at at content)) is h in
    let separator = separator_inside e (entry_of_stands at content e rest (tag_stands at content e rest read)) in
    record { entry = e; rest = rest; read = read; after = after; from = from; count = count; inside = omega arith }

same_tag : (d e : Entry) (r s : List ℕ) → Done (Some d) r ≡ Done (Some e) s → (d ≡ e) × (r ≡ s)
same_tag d e r s p = (let q : Some d ≡ Some e = cc in cc, cc)

-- a tag is returned
module _ (at : ℕ) (content : List ℕ) {tag : Tag} (t : FoundTag at content tag) where
  pub found_no_more : CTagNoMoreIffEnd content at 0
  found_no_more = (λ says. absurd cc, λ left. absurd (let p = sym t.read ∙ end_read at content left in let q : Some t.entry ≡ None = cc in cc))

  pub found_named : (old new : List ℕ) → CTagFaultIsComplete content at 0 old new
  found_named old new f stands = absurd (let p = sym t.read ∙ (fault_read at content f stands).1 in cc)

  stands_here : TagStands at content t.entry t.rest
  stands_here = tag_stands at content t.entry t.rest t.read

  module _ (to : ℕ) (shown : ClaxonTag)
      (after : to + length t.rest ≡ length content) (from : shown.name_at + length t.entry.text ≡ to) (count : shown.name_length ≡ t.entry.place) (value-at : shown.value_at ≡ shown.name_at + shown.name_length + 1) (value-count : shown.value_length ≡ to - shown.value_at) where
    found_shows : ShowsTag content t.entry t.rest to shown
    found_shows = shows_tag at content t.entry t.rest stands_here to shown after from count value-at value-count

    pub found_sound : CTagIsSound content at 0 to shown
    found_sound says = (t.entry, t.rest, stands_here, found_shows)

    pub found_complete : CTagIsComplete content at 0 to shown
    found_complete d s stands =
        let same = same_tag t.entry d t.rest s (sym t.read ∙ tag_read at content d s stands) in
        (refl, subst (λ (z : List ℕ). ShowsTag content d z to shown) same.1 (subst (λ (z : Entry). ShowsTag content z t.rest to shown) same.0 found_shows))

    pub found_in_order : CTagsAreInOrder content at 0 to shown
    found_in_order [] are =
        let k = entries_stand at content [] are in
        absurd (let p = sym t.read ∙ end_read at content (k.bytes, k.from, all_empty k.texts k.bytes k.each k.are) in let q : Some t.entry ≡ None = cc in cc)
    found_in_order (d ∷ others) are =
        let k = entries_stand at content (d ∷ others) are in
        let first = first_tag_of k.texts k.bytes d others k.each k.are in
        let stands : TagStands at content d first.rest = (k.bytes, first.code, k.from, first.tag, first.joined) in
        let complete = found_complete d first.rest stands in
        let same = same_tag t.entry d t.rest first.rest (sym t.read ∙ tag_read at content d first.rest stands) in
        let is : drop to content ≡ first.rest = rest_is at content t.entry t.rest stands_here to shown after from count value-at value-count ∙ same.1 in
        let some = not_first at content t.entry t.rest stands_here to shown after from count value-at value-count in
        (refl, first.rest, complete.1, tags_after to content first.rest first.later others some is first.each first.entries)

-- no tag is left
module _ (at : ℕ) (content : List ℕ) (rest : List ℕ) (read : tag_at at content ≡ Done None rest) where
  pub none_no_more : CTagNoMoreIffEnd content at 5
  none_no_more = (λ says. end_stands at content rest read, λ left. refl)

  pub none_named : (old new : List ℕ) → CTagFaultIsComplete content at 5 old new
  none_named old new f stands = absurd (let p = sym read ∙ (fault_read at content f stands).1 in cc)

  module _ (to : ℕ) (shown : ClaxonTag) where
    pub none_complete : CTagIsComplete content at 5 to shown
    none_complete d s stands = absurd (let p = sym read ∙ tag_read at content d s stands in let q : None ≡ Some d = cc in cc)

    pub none_in_order : CTagsAreInOrder content at 5 to shown
    none_in_order [] are = refl
    none_in_order (d ∷ others) are =
        let k = entries_stand at content (d ∷ others) are in
        let first = first_tag_of k.texts k.bytes d others k.each k.are in
        absurd (let p = sym read ∙ tag_read at content d first.rest (k.bytes, first.code, k.from, first.tag, first.joined) in let q : None ≡ Some d = cc in cc)

-- there is a fault
fault_status : (status : ℕ) (old new : List ℕ) (f : Fault) (e : Error) → IsFault f e → ErrorIsReported e status old new → IsFaultStatus status
fault_status status old new f (FormatError reason) is t = inl t.0
fault_status status old new f (Unsupported feature) is t = inr t.0
fault_status status old new f (IoError cause) is t = absurd is
fault_status status old new f OutOfMemory is t = absurd is

module _ (at : ℕ) (content : List ℕ) (e : Error) (fault : ReadsFault (tag_at at content) e) (status : ℕ) (old new : List ℕ) (reported : ErrorIsReported e status old new) where
  pub faulty_is : IsFaultStatus status
  faulty_is = fault_status status old new fault.0 e fault.2 reported

  not_no_more : IsFaultStatus status → status ≡ no_more → ⊥
  not_no_more (inl p) q = absurd cc
  not_no_more (inr p) q = absurd cc

  pub faulty_no_more : CTagNoMoreIffEnd content at status
  faulty_no_more = (λ says. absurd (not_no_more faulty_is says), λ left. absurd (let p = sym fault.3 ∙ end_read at content left in cc))

  pub faulty_sound : CTagFaultIsSound content at status old new
  faulty_sound says = (fault.0, fault_stands at content fault.0 fault.1 fault.3, reported_fault status old new fault.0 e fault.2 reported)

  pub faulty_named : CTagFaultIsComplete content at status old new
  faulty_named f stands =
      let p = sym fault.3 ∙ (fault_read at content f stands).1 in
      let same : fault.0 ≡ f = cc in
      subst (λ (z : Fault). FaultIsReported z status old new) same (reported_fault status old new fault.0 e fault.2 reported)

  module _ (to : ℕ) (shown : ClaxonTag) where
    pub faulty_complete : CTagIsComplete content at status to shown
    faulty_complete d s stands = absurd (let p = sym fault.3 ∙ tag_read at content d s stands in cc)

    pub faulty_in_order : CTagsAreInOrder content at status to shown
    faulty_in_order [] are =
        let k = entries_stand at content [] are in
        absurd (let p = sym fault.3 ∙ end_read at content (k.bytes, k.from, all_empty k.texts k.bytes k.each k.are) in cc)
    faulty_in_order (d ∷ others) are =
        let k = entries_stand at content (d ∷ others) are in
        let first = first_tag_of k.texts k.bytes d others k.each k.are in
        absurd (let p = sym fault.3 ∙ tag_read at content d first.rest (k.bytes, first.code, k.from, first.tag, first.joined) in cc)
