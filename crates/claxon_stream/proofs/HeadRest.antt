-- The rest of a head, as reading gives it, in each state of a decoder: no answer changes it. So the answers add up to the reading of
-- the whole head.
use Rattle.std.proofs.Common.{◌≡◌, ◌⊎◌, inl, inr, ℕ, suc, ◌+◌, ◌-◌, ◌<◌, ◌≤◌, min, Bool, true, false, cond, not, ltb, eqb, List, drop, length, Option, None, Some, refl, sym, ap, subst, ◌∙◌, arith}
use Rattle.std.specs.Prelude.{◌&&◌, ◌||◌}
use Rattle.std.proofs.lemmas.Bool.{cases_lt, le-ltb, lt-ltb, ltb-false, ltb-true}
use Rattle.std.proofs.lemmas.List.{drop-drop, length-drop}
use Rattle.claxon.specs.Comments.{Comment}
use Rattle.claxon.specs.Fault.{Fault, SecondComment, SecondStreaminfo, StreaminfoMissing, TooManyBlocks}
use Rattle.claxon.specs.Heads.{Head, Options, found_with, is_comment, is_done, is_info, is_second, is_some, max_blocks, streaminfo_ends_head}
use Rattle.claxon.specs.Metadata.{BlockHeader}
use Rattle.claxon.specs.MetadataBlocks.{Application, Comments, Content, Info, MetadataBlock, Padding, Reserved, skipped}
use Rattle.claxon.specs.read.Bytes.{bytes_at, skipped_at}
use Rattle.claxon.specs.read.Heads.{after_first, head_at, marker_at, others_at}
use Rattle.claxon.specs.read.Metadata.{block_header_at}
use Rattle.claxon.specs.read.MetadataBlocks.{block_at, body_at}
use Rattle.claxon.specs.read.Reading.{Reading, Done, Faulty, Incomplete, and_then, bind, done, test}
use Rattle.claxon.specs.ReadHead.{options_view}
use Rattle.claxon.specs.Streaminfo.{Streaminfo}
use Rattle.claxon.proofs.Laws.{bind_done, bind_fault}
use Rattle.claxon.proofs.Metadata.{Reads-block_header}
use Rattle.claxon_stream.specs.HeadLaws.{info_with}
use Rattle.claxon_stream.specs.HeadPart.{BlockPart, EndPart, HeadPart, HeaderPart, MarkerPart, content_rest_at, is_passed, next_header_at, part_at, passed_bytes, unless_refused}
use Rattle.claxon_stream.specs.HeadRules.{allows_more, ends_head, has_second_comment, has_second_info, misses_info, refused, rules_after}
use Rattle.claxon_stream.specs.HeadState.{is_last, kept_header, part_after}
use Rattle.claxon_stream.specs.declared.head.part.NextPart.{NextPart}
use Rattle.claxon_stream.specs.declared.head.part.NextPart.TheVariants.{Content as ContentNext, End as EndNext, Header as HeaderNext, Marker as MarkerNext}
use Rattle.claxon_stream.specs.declared.head.rules.Rules.{Rules}

-- ---- the rest of a head, where this streaminfo was read so far, and these comments

abbrev pub head_with : Options → Streaminfo → Option Comment → Head
head_with o i found = record { info = i; comment = cond o.wants_comment found None }

-- after a content, where k blocks more are allowed
abbrev block_then : Options → ℕ → Option Comment → Bool → Content → List ℕ → Reading ℕ (Option Comment)
block_then o k found is_last c =
    test (is_info c) SecondStreaminfo (
    test (is_second found c) SecondComment (cond (is_done o.metadata_only found (record { is_last = is_last; content = c })) (done (found_with found c)) (others_at o.metadata_only k (found_with found c))))

abbrev content_then : Options → ℕ → Option Streaminfo → Option Comment → Bool → Content → List ℕ → Reading ℕ Head
content_then o k None found is_last c = after_first o is_last c
content_then o k (Some i) found is_last c = and_then (block_then o k found is_last c) (λ f. done (head_with o i f))

abbrev blocks_at : Options → ℕ → Option Streaminfo → Option Comment → List ℕ → Reading ℕ Head
blocks_at o most None found = and_then block_at (λ b. after_first o b.is_last b.content)
blocks_at o most (Some i) found = and_then (others_at o.metadata_only most found) (λ f. done (head_with o i f))

abbrev end_at : Options → Option Streaminfo → Option Comment → List ℕ → Reading ℕ Head
end_at o None found s = Incomplete
end_at o (Some i) found s = Done (head_with o i found) s

abbrev pub rest_at : NextPart → Rules → Option Streaminfo → Option Comment → List ℕ → Reading ℕ Head
rest_at MarkerNext r info found = head_at (options_view r.options)
rest_at HeaderNext r info found = blocks_at (options_view r.options) r.most info found
rest_at (ContentNext h) r info found = and_then (content_rest_at h.block_type h.length) (λ c. content_then (options_view r.options) (r.most - 1) info found h.is_last c)
rest_at EndNext r info found = end_at (options_view r.options) info found

-- the rules know what was read
abbrev RulesFit : Rules → Option Streaminfo → Option Comment → Type 0
RulesFit r None found = (r.has_info ≡ false) × (r.has_comment ≡ false) × (found ≡ None) × (r.most ≡ max_blocks)
RulesFit r (Some i) found = (r.has_info ≡ true) × (r.has_comment ≡ is_some found)

abbrev HasInfo : Option Streaminfo → Type 0
HasInfo None = ⊥
HasInfo (Some i) = Unit {0}

abbrev pub StateFits : NextPart → Rules → Option Streaminfo → Option Comment → Type 0
StateFits MarkerNext r info found = (info ≡ None) × RulesFit r info found
StateFits EndNext r info found = HasInfo info × RulesFit r info found
StateFits HeaderNext r info found = RulesFit r info found
StateFits (ContentNext h) r info found = RulesFit r info found

-- ---- a content that is passed up to its last byte

kinds : (a b c d : Bool) → (not a && not b && not c && not d) ≡ true → (a ≡ false) × (b ≡ false) × (c ≡ false) × (d ≡ false)
kinds false false false false e = (refl, refl, refl, refl)
kinds true b c d e = absurd cc
kinds false true c d e = absurd cc
kinds false false true d e = absurd cc
kinds false false false true e = absurd cc

skip_last : (n : ℕ) (rest : List ℕ) (c : Content) → bind (skipped_at (min n 1) (drop (n - min n 1) rest)) (λ u. done c) ≡ bind (bytes_at n rest) (λ bytes. done c)
unfolding skipped_at bytes_at
skip_last n rest c = elim (cases_lt (length rest) n) [
  | inl lt ↦ (let short : ltb (length (drop (n - min n 1) rest)) (min n 1) ≡ true = lt-ltb _ _ (omega (arith, lt, length-drop (n - min n 1) rest)) in
      rw (short, lt-ltb (length rest) n lt) refl)
  | inr le ↦ (let long : ltb (length (drop (n - min n 1) rest)) (min n 1) ≡ false = le-ltb _ _ (omega (arith, le, length-drop (n - min n 1) rest)) in
      let all : n - min n 1 + min n 1 ≡ n = omega arith in
      let same : drop (min n 1) (drop (n - min n 1) rest) ≡ drop n rest = drop-drop (min n 1) (n - min n 1) rest ∙ ap (λ (k : ℕ). drop k rest) all in
      rw (long, le-ltb (length rest) n le, same) refl)
]

body_passed : (type n : ℕ) (s : List ℕ) → is_passed type ≡ true → body_at type n s ≡ bind (bytes_at n s) (λ bytes. done (skipped type n))
unfolding body_at
body_passed type n s is = let k = kinds (eqb type 0) (eqb type 2) (eqb type 4) (eqb type 127) is in rw (k.0, k.1, k.2, k.3) refl

content_skip : (type n : ℕ) (rest : List ℕ) → content_rest_at type n (drop (passed_bytes type n) rest) ≡ body_at type n rest
content_skip type n rest = go (is_passed type) refl
  where
    go : (b : Bool) → is_passed type ≡ b → content_rest_at type n (drop (passed_bytes type n) rest) ≡ body_at type n rest
    go true is = rw is (skip_last n rest (skipped type n) ∙ sym (body_passed type n rest is))
    go false is = rw is refl

-- ---- what a reading of parts says

unless_done : (f : Option Fault) (c d : Content) (m rest : List ℕ) → unless_refused f c m ≡ Done (BlockPart d) rest → (f ≡ None) × (c ≡ d) × (m ≡ rest)
unless_done None c d m rest e = (refl, cc, cc)
unless_done (Some f) c d m rest e = absurd cc

unless_faulty : (f : Option Fault) (c : Content) (g : Fault) (m rest : List ℕ) → unless_refused f c m ≡ Faulty g rest → f ≡ Some g
unless_faulty None c g m rest e = absurd cc
unless_faulty (Some f) c g m rest e = let same : f ≡ g = cc in ap (λ (z : Fault). Some z) same

unless_other : (f : Option Fault) (c : Content) (m : List ℕ) (x : HeadPart) (rest : List ℕ) → ((d : Content) → x ≡ BlockPart d → ⊥) → unless_refused f c m ≡ Done x rest → ⊥
unless_other None c m x rest other e = let same : BlockPart c ≡ x = cc in other c (sym same)
unless_other (Some f) c m x rest other e = cc

unless_incomplete : (f : Option Fault) (c : Content) (m : List ℕ) → unless_refused f c m ≡ Incomplete → ⊥
unless_incomplete None c m e = cc
unless_incomplete (Some f) c m e = cc

bind_incomplete : {A B : Type 0} (x : Reading ℕ A) (f : A → List ℕ → Reading ℕ B) → bind x f ≡ Incomplete → (x ≡ Incomplete) ⊎ ((a : A) × (m : List ℕ) × (x ≡ Done a m) × (f a m ≡ Incomplete))
bind_incomplete (Done a m) f e = inr (a, m, refl, e)
bind_incomplete (Faulty g m) f e = absurd cc
bind_incomplete Incomplete f e = inl refl

-- a header that may come
header_is : (r : Rules) (bytes : List ℕ) (h : BlockHeader) (rest : List ℕ) → part_at HeaderNext r bytes ≡ Done (HeaderPart h) rest → (0 < r.most) × (block_header_at bytes ≡ Done h rest)
header_is r bytes h rest e =
    let k = bind_done (next_header_at r bytes) (λ x. done (HeaderPart x)) (HeaderPart h) rest e in
    let same : k.0 ≡ h = cc k.3 in
    let there : k.1 ≡ rest = cc k.3 in
    let both = go (allows_more r) refl k.0 k.1 k.2 in
    (both.0, both.1 ∙ ap (λ (z : BlockHeader). Done z k.1) same ∙ ap (λ (z : List ℕ). Done h z) there)
  where
    go : (b : Bool) → allows_more r ≡ b → (x : BlockHeader) (m : List ℕ) → next_header_at r bytes ≡ Done x m → (0 < r.most) × (block_header_at bytes ≡ Done x m)
    go true is x m read = (ltb-true _ _ is, rw is at read)
    go false is x m read = let no = rw is at read in absurd cc

none_of : {F : Type 0} (a b d : Bool) (x y z : F) → (let whole : Option F = cond a (Some x) (cond b (Some y) (cond d (Some z) None)) in whole) ≡ None → (a ≡ false) × (b ≡ false) × (d ≡ false)
none_of true b d x y z e = absurd cc
none_of false true d x y z e = absurd cc
none_of false false true x y z e = absurd cc
none_of false false false x y z e = (refl, refl, refl)

and_swap : (a b : Bool) → (a && b) ≡ (b && a)
and_swap true true = refl
and_swap true false = refl
and_swap false true = refl
and_swap false false = refl

found_some : (found : Option Comment) (c : Content) → is_some (found_with found c) ≡ (is_some found || is_comment c)
found_some None (Info i) = refl
found_some None (Padding n) = refl
found_some None (Application id bytes) = refl
found_some None (Comments c) = refl
found_some None Reserved = refl
found_some (Some x) (Info i) = refl
found_some (Some x) (Padding n) = refl
found_some (Some x) (Application id bytes) = refl
found_some (Some x) (Comments c) = refl
found_some (Some x) Reserved = refl

info_kept : (i : Streaminfo) (c : Content) → is_info c ≡ false → info_with (Some i) c ≡ Some i
info_kept i (Info j) e = absurd cc
info_kept i (Padding n) e = refl
info_kept i (Application id bytes) e = refl
info_kept i (Comments c) e = refl
info_kept i Reserved e = refl

-- ---- the marker

after_marker : (o : Options) (most : ℕ) (found : Option Comment) (bytes : List ℕ) (m : ℕ) (s : List ℕ) → marker_at bytes ≡ Done m s → head_at o bytes ≡ blocks_at o most None found s
unfolding head_at
after_marker o most found bytes m s is = rw is refl

pub marker_step : (next : NextPart) (r : Rules) (info : Option Streaminfo) (found : Option Comment) (bytes rest : List ℕ) → part_at next r bytes ≡ Done MarkerPart rest → StateFits next r info found
    → (rest_at next r info found bytes ≡ rest_at HeaderNext r info found rest) × StateFits HeaderNext r info found
marker_step MarkerNext r None found bytes rest e fits =
    let k = bind_done (marker_at bytes) (λ m. done MarkerPart) MarkerPart rest e in
    let there : k.1 ≡ rest = cc k.3 in
    (after_marker (options_view r.options) r.most found bytes k.0 k.1 k.2 ∙ ap (blocks_at (options_view r.options) r.most None found) there, fits.1)
marker_step MarkerNext r (Some i) found bytes rest e fits = absurd (let no = fits.0 in cc)
marker_step HeaderNext r info found bytes rest e fits = absurd (let k = bind_done (next_header_at r bytes) (λ h. done (HeaderPart h)) MarkerPart rest e in let no = k.3 in cc)
marker_step (ContentNext h) r info found bytes rest e fits =
    let k = bind_done (content_rest_at h.block_type h.length bytes) (λ c. unless_refused (refused r c) c) MarkerPart rest e in
    absurd (unless_other (refused r k.0) k.0 k.1 MarkerPart rest (λ d is. cc) k.3)
marker_step EndNext r info found bytes rest e fits = absurd cc

-- ---- a header

others_more : (md : Bool) (n k : ℕ) (found : Option Comment) (s : List ℕ) → n ≡ suc k
    → others_at md n found s ≡ and_then block_at (λ b. test (is_info b.content) SecondStreaminfo (test (is_second found b.content) SecondComment (cond (is_done md found b) (done (found_with found b.content)) (others_at md k (found_with found b.content))))) s
unfolding others_at
others_more md n k found s e = rw e refl

others_none : (md : Bool) (n : ℕ) (found : Option Comment) (s : List ℕ) → n ≡ 0 → others_at md n found s ≡ Faulty TooManyBlocks s
unfolding others_at
others_none md n found s e = rw e refl

two_binds : {A B D : Type 0} (x : Reading ℕ A) (f : A → B) (t : B → List ℕ → Reading ℕ D) → bind (bind x (λ a. done (f a))) t ≡ bind x (λ a m. t (f a) m)
two_binds (Done a m) f t = refl
two_binds (Faulty g m) f t = refl
two_binds Incomplete f t = refl

three_binds : {A B D E : Type 0} (x : Reading ℕ A) (f : A → B) (t : B → List ℕ → Reading ℕ D) (g : D → List ℕ → Reading ℕ E) → bind (bind (bind x (λ a. done (f a))) t) g ≡ bind x (λ a m. bind (t (f a) m) g)
three_binds (Done a m) f t g = refl
three_binds (Faulty e m) f t g = refl
three_binds Incomplete f t g = refl

abbrev with_flag : Bool → Content → MetadataBlock
with_flag is_last c = record { is_last = is_last; content = c }

block_by_header : (bytes : List ℕ) (h : BlockHeader) (rest : List ℕ) → block_header_at bytes ≡ Done h rest → block_at bytes ≡ bind (body_at h.type h.length rest) (λ c. done (with_flag h.is_last c))
unfolding block_at
block_by_header bytes h rest e = rw e refl

blocks_by_header : (o : Options) (most : ℕ) (info : Option Streaminfo) (found : Option Comment) (bytes : List ℕ) (h : BlockHeader) (rest : List ℕ) → 0 < most → block_header_at bytes ≡ Done h rest
    → blocks_at o most info found bytes ≡ bind (body_at h.type h.length rest) (λ c. content_then o (most - 1) info found h.is_last c)
blocks_by_header o most None found bytes h rest some e =
    ap (λ (x : Reading ℕ MetadataBlock). bind x (λ b. after_first o b.is_last b.content)) (block_by_header bytes h rest e) ∙ two_binds (body_at h.type h.length rest) (with_flag h.is_last) (λ b. after_first o b.is_last b.content)
blocks_by_header o most (Some i) found bytes h rest some e =
    let one : most ≡ suc (most - 1) = omega (arith, some) in
    let finish : Option Comment → List ℕ → Reading ℕ Head = λ f. done (head_with o i f) in
    let others : MetadataBlock → List ℕ → Reading ℕ (Option Comment) = λ b. test (is_info b.content) SecondStreaminfo (test (is_second found b.content) SecondComment (cond (is_done o.metadata_only found b) (done (found_with found b.content)) (others_at o.metadata_only (most - 1) (found_with found b.content)))) in
    ap (λ (x : Reading ℕ (Option Comment)). bind x finish) (others_more o.metadata_only most (most - 1) found bytes one ∙ ap (λ (x : Reading ℕ MetadataBlock). bind x others) (block_by_header bytes h rest e)) ∙ three_binds (body_at h.type h.length rest) (with_flag h.is_last) others finish

pub header_step : (next : NextPart) (r : Rules) (info : Option Streaminfo) (found : Option Comment) (bytes rest : List ℕ) (h : BlockHeader) → part_at next r bytes ≡ Done (HeaderPart h) rest → StateFits next r info found
    → (rest_at next r info found bytes ≡ rest_at (ContentNext (kept_header h)) r info found (drop (passed_bytes h.type h.length) rest)) × StateFits (ContentNext (kept_header h)) r info found
header_step MarkerNext r info found bytes rest h e fits = absurd (let k = bind_done (marker_at bytes) (λ m. done MarkerPart) (HeaderPart h) rest e in let no = k.3 in cc)
header_step HeaderNext r info found bytes rest h e fits =
    let k = header_is r bytes h rest e in (
      blocks_by_header (options_view r.options) r.most info found bytes h rest k.0 k.1 ∙ ap (λ (x : Reading ℕ Content). bind x (λ c. content_then (options_view r.options) (r.most - 1) info found h.is_last c)) (sym (content_skip h.type h.length rest)),
      fits,
    )
header_step (ContentNext x) r info found bytes rest h e fits =
    let k = bind_done (content_rest_at x.block_type x.length bytes) (λ c. unless_refused (refused r c) c) (HeaderPart h) rest e in
    absurd (unless_other (refused r k.0) k.0 k.1 (HeaderPart h) rest (λ d is. cc) k.3)
header_step EndNext r info found bytes rest h e fits = absurd cc

-- ---- a content

-- one that isn't refused
content_is : (h : _) (r : Rules) (bytes : List ℕ) (c : Content) (rest : List ℕ) → part_at (ContentNext h) r bytes ≡ Done (BlockPart c) rest → (content_rest_at h.block_type h.length bytes ≡ Done c rest) × (refused r c ≡ None)
content_is h r bytes c rest e =
    let k = bind_done (content_rest_at h.block_type h.length bytes) (λ d. unless_refused (refused r d) d) (BlockPart c) rest e in
    let u = unless_done (refused r k.0) k.0 c k.1 rest k.3 in
    (k.2 ∙ ap (λ (z : Content). Done z k.1) u.1 ∙ ap (λ (z : List ℕ). Done c z) u.2, subst (λ (z : Content). refused r z ≡ None) u.1 u.0)

module _ (r : Rules) (is_last : Bool) (rest : List ℕ) where
  abbrev o : Options
  o = options_view r.options

  -- what comes after this content
  abbrev Continues : Option Streaminfo → Option Comment → Content → Type 0
  Continues info found c =
      (content_then o (r.most - 1) info found is_last c rest ≡ rest_at (part_after (ends_head r is_last c)) (rules_after r c) (info_with info c) (found_with found c) rest)
      × StateFits (part_after (ends_head r is_last c)) (rules_after r c) (info_with info c) (found_with found c)

  after_info : (i : Streaminfo) → RulesFit r None None → (b : Bool) → ends_head r is_last (Info i) ≡ b
      → (after_first o is_last (Info i) rest ≡ rest_at (part_after b) (rules_after r (Info i)) (Some i) None rest) × StateFits (part_after b) (rules_after r (Info i)) (Some i) None
  unfolding after_first
  after_info i fits true is =
      let ends : streaminfo_ends_head o is_last ≡ true = rw fits.0 at is in
      (rw ends refl, (tt, (refl, rw fits.1 refl)))
  after_info i fits false is =
      let ends : streaminfo_ends_head o is_last ≡ false = rw fits.0 at is in
      let most : r.most - 1 ≡ 65535 = omega (arith, fits.3) in
      (rw (ends, most) refl, (refl, rw fits.1 refl))

  first_content : (c : Content) (found : Option Comment) → found ≡ None → RulesFit r None found → refused r c ≡ None → Continues None found c
  first_content (Info i) found none fits allowed = rw none (after_info i (rw none at fits) (ends_head r is_last (Info i)) refl)
  first_content (Padding n) found none fits allowed = absurd (let k = rw fits.0 at allowed in cc)
  first_content (Application id bytes) found none fits allowed = absurd (let k = rw fits.0 at allowed in cc)
  first_content (Comments x) found none fits allowed = absurd (let k = rw fits.0 at allowed in cc)
  first_content Reserved found none fits allowed = absurd (let k = rw fits.0 at allowed in cc)

  module _ (i : Streaminfo) (found : Option Comment) (c : Content) (fits : RulesFit r (Some i) found) where
    later : is_info c ≡ false → is_second found c ≡ false → (b : Bool) → ends_head r is_last c ≡ b
        → (content_then o (r.most - 1) (Some i) found is_last c rest ≡ rest_at (part_after b) (rules_after r c) (Some i) (found_with found c) rest) × StateFits (part_after b) (rules_after r c) (Some i) (found_with found c)
    later no_info no_second b is = go b is
      where
        known : (r.has_comment || is_comment c) ≡ is_some (found_with found c)
        known = ap (λ (z : Bool). z || is_comment c) fits.1 ∙ sym (found_some found c)

        same : is_done o.metadata_only found (with_flag is_last c) ≡ ends_head r is_last c
        same = rw (fits.0, known) refl

        go : (b : Bool) → ends_head r is_last c ≡ b → (content_then o (r.most - 1) (Some i) found is_last c rest ≡ rest_at (part_after b) (rules_after r c) (Some i) (found_with found c) rest) × StateFits (part_after b) (rules_after r c) (Some i) (found_with found c)
        go true is = (rw (no_info, no_second, same ∙ is) refl, (tt, (refl, known)))
        go false is = (rw (no_info, no_second, same ∙ is) refl, (refl, known))

    later_content : refused r c ≡ None → Continues (Some i) found c
    later_content allowed =
        let k = none_of (misses_info r c) (has_second_info r c) (has_second_comment r c) StreaminfoMissing SecondStreaminfo SecondComment allowed in
        let no_info : is_info c ≡ false = rw fits.0 at k.1 in
        let no_second : is_second found c ≡ false = and_swap (is_comment c) (is_some found) ∙ ap (λ (z : Bool). z && is_comment c) (sym fits.1) ∙ k.2 in
        rw (info_kept i c no_info) (later no_info no_second (ends_head r is_last c) refl)

  content_continues : (info : Option Streaminfo) (found : Option Comment) (c : Content) → RulesFit r info found → refused r c ≡ None → Continues info found c
  content_continues None found c fits allowed = first_content c found fits.2 fits allowed
  content_continues (Some i) found c fits allowed = later_content i found c fits allowed

pub block_step : (next : NextPart) (r : Rules) (info : Option Streaminfo) (found : Option Comment) (bytes rest : List ℕ) (c : Content) → part_at next r bytes ≡ Done (BlockPart c) rest → StateFits next r info found
    → (rest_at next r info found bytes ≡ rest_at (part_after (ends_head r (is_last next) c)) (rules_after r c) (info_with info c) (found_with found c) rest) × StateFits (part_after (ends_head r (is_last next) c)) (rules_after r c) (info_with info c) (found_with found c)
block_step MarkerNext r info found bytes rest c e fits = absurd (let k = bind_done (marker_at bytes) (λ m. done MarkerPart) (BlockPart c) rest e in let no = k.3 in cc)
block_step HeaderNext r info found bytes rest c e fits = absurd (let k = bind_done (next_header_at r bytes) (λ h. done (HeaderPart h)) (BlockPart c) rest e in let no = k.3 in cc)
block_step (ContentNext h) r info found bytes rest c e fits =
    let k = content_is h r bytes c rest e in
    let more = content_continues r h.is_last rest info found c fits k.1 in
    (ap (λ (x : Reading ℕ Content). bind x (λ d. content_then (options_view r.options) (r.most - 1) info found h.is_last d)) k.0 ∙ more.0, more.1)
block_step EndNext r info found bytes rest c e fits = absurd cc

-- ---- the end of the head

pub end_step : (next : NextPart) (r : Rules) (info : Option Streaminfo) (found : Option Comment) (bytes rest : List ℕ) → part_at next r bytes ≡ Done EndPart rest → StateFits next r info found
    → (i : Streaminfo) × (info ≡ Some i) × (rest_at next r info found bytes ≡ Done (head_with (options_view r.options) i found) bytes)
end_step MarkerNext r info found bytes rest e fits = absurd (let k = bind_done (marker_at bytes) (λ m. done MarkerPart) EndPart rest e in let no = k.3 in cc)
end_step HeaderNext r info found bytes rest e fits = absurd (let k = bind_done (next_header_at r bytes) (λ h. done (HeaderPart h)) EndPart rest e in let no = k.3 in cc)
end_step (ContentNext h) r info found bytes rest e fits =
    let k = bind_done (content_rest_at h.block_type h.length bytes) (λ c. unless_refused (refused r c) c) EndPart rest e in
    absurd (unless_other (refused r k.0) k.0 k.1 EndPart rest (λ d is. cc) k.3)
end_step EndNext r None found bytes rest e fits = absurd fits.0
end_step EndNext r (Some i) found bytes rest e fits = (i, refl, refl)

-- ---- faults

abbrev IsFaultyWith : Fault → Reading ℕ Head → Type 0
IsFaultyWith f x = (m : List ℕ) × (x ≡ Faulty f m)

marker_faulty : (o : Options) (bytes : List ℕ) (f : Fault) (rest : List ℕ) → marker_at bytes ≡ Faulty f rest → head_at o bytes ≡ Faulty f rest
unfolding head_at
marker_faulty o bytes f rest e = rw e refl

too_many : (r : Rules) (info : Option Streaminfo) (found : Option Comment) (bytes : List ℕ) → r.most ≡ 0 → RulesFit r info found → blocks_at (options_view r.options) r.most info found bytes ≡ Faulty TooManyBlocks bytes
too_many r None found bytes none fits = absurd (omega (arith, none, fits.3))
too_many r (Some i) found bytes none fits = ap (λ (x : Reading ℕ (Option Comment)). bind x (λ f. done (head_with (options_view r.options) i f))) (others_none r.options.metadata_only r.most found bytes none)

header_faulty : (r : Rules) (info : Option Streaminfo) (found : Option Comment) (bytes : List ℕ) (f : Fault) (rest : List ℕ) → next_header_at r bytes ≡ Faulty f rest → RulesFit r info found → IsFaultyWith f (blocks_at (options_view r.options) r.most info found bytes)
header_faulty r info found bytes f rest e fits = go (allows_more r) refl
  where
    go : (b : Bool) → allows_more r ≡ b → IsFaultyWith f (blocks_at (options_view r.options) r.most info found bytes)
    go true is = let k = Reads-block_header.bad bytes f rest (rw is at e) in absurd k.1
    go false is =
        let k = rw is at e in
        let same : TooManyBlocks ≡ f = cc in
        let none : r.most ≡ 0 = let le : r.most ≤ 0 = ltb-false _ _ is in omega (arith, le) in
        (bytes, too_many r info found bytes none fits ∙ ap (λ (z : Fault). Faulty z bytes) same)

refused_first : (r : Rules) (is_last : Bool) (found : Option Comment) (c : Content) (m : List ℕ) (f : Fault) → RulesFit r None found → refused r c ≡ Some f → after_first (options_view r.options) is_last c m ≡ Faulty f m
unfolding after_first
refused_first r is_last found (Info i) m f fits e = absurd (let k = rw (fits.0, fits.1) at e in cc)
refused_first r is_last found (Padding n) m f fits e = let k = rw fits.0 at e in let same : StreaminfoMissing ≡ f = cc in ap (λ (z : Fault). Faulty z m) same
refused_first r is_last found (Application id bytes) m f fits e = let k = rw fits.0 at e in let same : StreaminfoMissing ≡ f = cc in ap (λ (z : Fault). Faulty z m) same
refused_first r is_last found (Comments x) m f fits e = let k = rw fits.0 at e in let same : StreaminfoMissing ≡ f = cc in ap (λ (z : Fault). Faulty z m) same
refused_first r is_last found Reserved m f fits e = let k = rw fits.0 at e in let same : StreaminfoMissing ≡ f = cc in ap (λ (z : Fault). Faulty z m) same

-- of a later block: a second streaminfo, or second comments
second_faulty : (a b : Bool) (f : Fault) (x : Reading ℕ (Option Comment)) (m : List ℕ) → (let whole : Option Fault = cond a (Some SecondStreaminfo) (cond b (Some SecondComment) None) in whole) ≡ Some f → cond a (Faulty SecondStreaminfo m) (cond b (Faulty SecondComment m) x) ≡ Faulty f m
second_faulty true b f x m e = let same : SecondStreaminfo ≡ f = cc in ap (λ (z : Fault). Faulty z m) same
second_faulty false true f x m e = let same : SecondComment ≡ f = cc in ap (λ (z : Fault). Faulty z m) same
second_faulty false false f x m e = absurd cc

refused_later : (r : Rules) (is_last : Bool) (i : Streaminfo) (found : Option Comment) (c : Content) (m : List ℕ) (f : Fault) → RulesFit r (Some i) found → refused r c ≡ Some f → content_then (options_view r.options) (r.most - 1) (Some i) found is_last c m ≡ Faulty f m
refused_later r is_last i found c m f fits e =
    let second : is_second found c ≡ has_second_comment r c = and_swap (is_comment c) (is_some found) ∙ ap (λ (z : Bool). z && is_comment c) (sym fits.1) in
    let is : (let whole : Option Fault = cond (is_info c) (Some SecondStreaminfo) (cond (has_second_comment r c) (Some SecondComment) None) in whole) ≡ Some f = rw fits.0 at e in
    rw second (ap (λ (x : Reading ℕ (Option Comment)). bind x (λ g. done (head_with (options_view r.options) i g)))
    (second_faulty (is_info c) (has_second_comment r c) f (cond (is_done r.options.metadata_only found (with_flag is_last c)) (done (found_with found c)) (others_at r.options.metadata_only (r.most - 1) (found_with found c)) m) m is))

refused_content : (r : Rules) (is_last : Bool) (info : Option Streaminfo) (found : Option Comment) (c : Content) (m : List ℕ) (f : Fault) → RulesFit r info found → refused r c ≡ Some f → content_then (options_view r.options) (r.most - 1) info found is_last c m ≡ Faulty f m
refused_content r is_last None found c m f fits e = refused_first r is_last found c m f fits e
refused_content r is_last (Some i) found c m f fits e = refused_later r is_last i found c m f fits e

pub faulty_step : (next : NextPart) (r : Rules) (info : Option Streaminfo) (found : Option Comment) (bytes : List ℕ) (f : Fault) (rest : List ℕ) → part_at next r bytes ≡ Faulty f rest → StateFits next r info found → IsFaultyWith f (rest_at next r info found bytes)
faulty_step MarkerNext r info found bytes f rest e fits = elim (bind_fault (marker_at bytes) (λ m. done MarkerPart) f rest e) [ inl p ↦ (rest, marker_faulty (options_view r.options) bytes f rest p) | inr k ↦ absurd (let no = k.3 in cc) ]
faulty_step HeaderNext r info found bytes f rest e fits = elim (bind_fault (next_header_at r bytes) (λ h. done (HeaderPart h)) f rest e) [ inl p ↦ header_faulty r info found bytes f rest p fits | inr k ↦ absurd (let no = k.3 in cc) ]
faulty_step (ContentNext h) r info found bytes f rest e fits = elim (bind_fault (content_rest_at h.block_type h.length bytes) (λ c. unless_refused (refused r c) c) f rest e) [
  | inl p ↦ (rest, rw p refl)
  | inr k ↦ (k.1, ap (λ (x : Reading ℕ Content). bind x (λ d. content_then (options_view r.options) (r.most - 1) info found h.is_last d)) k.2 ∙ refused_content r h.is_last info found k.0 k.1 f fits (unless_faulty (refused r k.0) k.0 f k.1 rest k.3))
]
faulty_step EndNext r info found bytes f rest e fits = absurd cc

-- ---- too few bytes

marker_short : (o : Options) (bytes : List ℕ) → marker_at bytes ≡ Incomplete → head_at o bytes ≡ Incomplete
unfolding head_at
marker_short o bytes e = rw e refl

block_short : (bytes : List ℕ) → block_header_at bytes ≡ Incomplete → block_at bytes ≡ Incomplete
unfolding block_at
block_short bytes e = rw e refl

blocks_short : (o : Options) (most : ℕ) (info : Option Streaminfo) (found : Option Comment) (bytes : List ℕ) → 0 < most → block_header_at bytes ≡ Incomplete → blocks_at o most info found bytes ≡ Incomplete
blocks_short o most None found bytes some e = ap (λ (x : Reading ℕ MetadataBlock). bind x (λ b. after_first o b.is_last b.content)) (block_short bytes e)
blocks_short o most (Some i) found bytes some e =
    let one : most ≡ suc (most - 1) = omega (arith, some) in
    let others : MetadataBlock → List ℕ → Reading ℕ (Option Comment) = λ b. test (is_info b.content) SecondStreaminfo (test (is_second found b.content) SecondComment (cond (is_done o.metadata_only found b) (done (found_with found b.content)) (others_at o.metadata_only (most - 1) (found_with found b.content)))) in
    ap (λ (x : Reading ℕ (Option Comment)). bind x (λ f. done (head_with o i f))) (others_more o.metadata_only most (most - 1) found bytes one ∙ ap (λ (x : Reading ℕ MetadataBlock). bind x others) (block_short bytes e))

header_short : (r : Rules) (info : Option Streaminfo) (found : Option Comment) (bytes : List ℕ) → next_header_at r bytes ≡ Incomplete → blocks_at (options_view r.options) r.most info found bytes ≡ Incomplete
header_short r info found bytes e = go (allows_more r) refl
  where
    go : (b : Bool) → allows_more r ≡ b → blocks_at (options_view r.options) r.most info found bytes ≡ Incomplete
    go true is = blocks_short (options_view r.options) r.most info found bytes (ltb-true _ _ is) (rw is at e)
    go false is = absurd (let k = rw is at e in cc)

pub cut_step : (next : NextPart) (r : Rules) (info : Option Streaminfo) (found : Option Comment) (bytes : List ℕ) → part_at next r bytes ≡ Incomplete → rest_at next r info found bytes ≡ Incomplete
cut_step MarkerNext r info found bytes e = elim (bind_incomplete (marker_at bytes) (λ m. done MarkerPart) e) [ inl p ↦ marker_short (options_view r.options) bytes p | inr k ↦ absurd (let no = k.3 in cc) ]
cut_step HeaderNext r info found bytes e = elim (bind_incomplete (next_header_at r bytes) (λ h. done (HeaderPart h)) e) [ inl p ↦ header_short r info found bytes p | inr k ↦ absurd (let no = k.3 in cc) ]
cut_step (ContentNext h) r info found bytes e = elim (bind_incomplete (content_rest_at h.block_type h.length bytes) (λ c. unless_refused (refused r c) c) e) [
  | inl p ↦ rw p refl
  | inr k ↦ absurd (unless_incomplete (refused r k.0) k.0 k.1 k.3)
]
cut_step EndNext r info found bytes e = absurd cc
