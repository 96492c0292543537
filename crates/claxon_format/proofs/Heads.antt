-- The head of a stream, and its reader.
use Rattle.std.proofs.Common.{◌≡◌, ℕ, zero, suc, ◌/◌, ◌<◌, ◌≤◌, Bool, true, false, cond, not, eqb, List, [], ◌∷◌, ◌++◌, length, refl, sym, ap, ◌∙◌, append_assoc, arith, subst}
use Rattle.std.specs.Prelude.{◌&&◌, ◌||◌, Option, Some, None}
use Rattle.std.specs.List.{list_any}
use Rattle.std.proofs.lemmas.Bool.{eqb-true}
use Rattle.std.proofs.lemmas.List.{append-nil}
use Rattle.claxon_format.specs.Fault.{Id3Header, StreamMarker, StreaminfoMissing, SecondComment, SecondStreaminfo, TooManyBlocks}
use Rattle.claxon_format.specs.read.Reading.{Reads, done}
use Rattle.claxon_format.specs.Codes.{Each, Is, Mapped}
use Rattle.claxon_format.proofs.Laws.{Then, Reads-then, Reads-same, Reads-test, Reads-done, Reads-map, Reads-cond, Reads-fails}
use Rattle.claxon_format.specs.Metadata.{Big}
use Rattle.claxon_format.specs.Streaminfo.{Streaminfo}
use Rattle.claxon_format.specs.Comments.{Comment}
use Rattle.claxon_format.specs.MetadataBlocks.{Content, Info, Padding, Application, Comments, Reserved, MetadataBlock, BlockCode}
use Rattle.claxon_format.specs.Heads.{Options, Head, is_info, is_comment, stream_marker, Marker, MarkerFault, is_end, EndsAtLast, comment_of, comments_in, first, IsHead, HeadCode, HeadFault, is_some, found_with, is_second, is_done, OthersFault, streaminfo_ends_head, FirstFault}
use Rattle.claxon_format.specs.read.Heads.{marker_at, others_at, after_first, head_at}
use Rattle.claxon_format.proofs.Metadata.{Reads-big}
use Rattle.claxon_format.proofs.MetadataBlocks.{Reads-block}
use Rattle.claxon_format.proofs.Comments.{not_true, or_false}

-- ---- the marker

MarkerTested : ℕ → List ℕ → Type 0
MarkerTested = Then (Big 4) (λ m k t. (eqb (m / 256) 0x494433 ≡ false) × ((not (eqb m stream_marker) ≡ false) × Is m k t))

marker_to : (m : ℕ) (t : List ℕ) → MarkerTested m t → Marker m t
unfolding MarkerTested
marker_to m t (k, x, u, code, (a, (b, (m-is, u-is))), t-is) =
    let e : t ≡ x = t-is ∙ ap (λ (z : List ℕ). x ++ z) u-is ∙ append-nil x in
    (m-is ∙ eqb-true k stream_marker (not_true _ b), subst (λ (z : List ℕ). Big 4 m z) (sym e) (subst (λ (q : ℕ). Big 4 q x) (sym m-is) code))

marker_from : (m : ℕ) (t : List ℕ) → Marker m t → MarkerTested m t
unfolding MarkerTested
marker_from m t (m-is, big) = (m, t, [], big, (rw m-is refl, (rw m-is refl, (refl, refl))), sym (append-nil t))

pub Reads-marker : Reads ℕ ℕ marker_at Marker MarkerFault
unfolding marker_at MarkerTested
Reads-marker =
    Reads-same (Reads-then (Reads-big 4) (λ m t c. Reads-test (eqb (m / 256) 0x494433) Id3Header (λ a. Reads-test (not (eqb m stream_marker)) StreamMarker (λ b. Reads-done ℕ m))))
    marker_to marker_from (λ f t c. c) (λ f t c. c)

-- ---- the blocks after the first

LaterTested : (Option Comment → Option Comment → List ℕ → Type 0) → Bool → Option Comment → Option Comment → List ℕ → Type 0
LaterTested rest suffices found =
    Then BlockCode (λ b r t. (is_info b.content ≡ false) × ((is_second found b.content ≡ false) × cond (is_done suffices found b) (Is (found_with found b.content)) (rest (found_with found b.content)) r t))

OthersTested : Bool → ℕ → Option Comment → Option Comment → List ℕ → Type 0
OthersTested suffices zero found r t = ⊥
OthersTested suffices (suc k) found r t = LaterTested (OthersTested suffices k) suffices found r t

Reads-others : (suffices : Bool) (k : ℕ) (found : Option Comment) → Reads ℕ (Option Comment) (others_at suffices k found) (OthersTested suffices k found) (OthersFault suffices k found)
unfolding others_at OthersTested LaterTested
Reads-others suffices zero found = Reads-fails (Option Comment) TooManyBlocks
Reads-others suffices (suc k) found =
    Reads-then Reads-block (λ b t c. Reads-test (is_info b.content) SecondStreaminfo (λ p. Reads-test (is_second found b.content) SecondComment (λ q.
    Reads-cond (is_done suffices found b) (λ e. Reads-done (Option Comment) (found_with found b.content)) (λ e. Reads-others suffices k (found_with found b.content)))))

-- ---- the comments found so far, and those of a block

listed : Option Comment → List Comment
listed None = []
listed (Some c) = c ∷ []

first_listed : (found : Option Comment) → found ≡ first (listed found)
unfolding listed
first_listed None = refl
first_listed (Some c) = refl

at_most_one : (found : Option Comment) → length (listed found) ≤ 1
unfolding listed
at_most_one None = omega arith
at_most_one (Some c) = omega arith

found_listed : (found : Option Comment) (c : Content) → is_second found c ≡ false → listed (found_with found c) ≡ listed found ++ comment_of c
unfolding listed
found_listed None (Comments c) e = refl
found_listed (Some d) (Comments c) e = absurd cc
found_listed found (Info i) e = sym (append-nil (listed found))
found_listed found (Padding n) e = sym (append-nil (listed found))
found_listed found (Application id bytes) e = sym (append-nil (listed found))
found_listed found Reserved e = sym (append-nil (listed found))

not_second : (found : Option Comment) (c : Content) (rest : List Comment) → length (listed found ++ (comment_of c ++ rest)) ≤ 1 → is_second found c ≡ false
unfolding listed
not_second None (Comments c) rest le = refl
not_second (Some d) (Comments c) rest le = absurd (omega arith)
not_second found (Info i) rest le = refl
not_second found (Padding n) rest le = refl
not_second found (Application id bytes) rest le = refl
not_second found Reserved rest le = refl

some_found : (c : Content) → is_some (found_with None c) ≡ is_comment c
some_found (Comments c) = refl
some_found (Info i) = refl
some_found (Padding n) = refl
some_found (Application id bytes) = refl
some_found Reserved = refl

is_none : (found : Option Comment) → is_some found ≡ false → found ≡ None
is_none None e = refl
is_none (Some c) e = absurd cc

-- where a head ends at its comments, none were found so far
enough_same : (only wants : Bool) (found : Option Comment) (c : Content) → (only && not wants) ≡ false → (only ≡ true → found ≡ None) → (only && is_some (found_with found c)) ≡ (only && cond wants (is_comment c) (is_info c))
enough_same false wants found c e none = refl
enough_same true false found c e none = absurd cc
enough_same true true found c e none = rw (none refl) (some_found c)

record WantsMore (o : Options) (found : Option Comment) : Type 0 where
  more : (o.metadata_only && not o.wants_comment) ≡ false
  none : o.metadata_only ≡ true → found ≡ None

end_same : (o : Options) (found : Option Comment) (b : MetadataBlock) → WantsMore o found → is_done o.metadata_only found b ≡ is_end o b
end_same o found b w = ap (λ (q : Bool). b.is_last || q) (enough_same o.metadata_only o.wants_comment found b.content w.more w.none)

wants_more_next : (o : Options) (found : Option Comment) (b : MetadataBlock) → WantsMore o found → is_done o.metadata_only found b ≡ false → WantsMore o (found_with found b.content)
wants_more_next o found b w e = record {
  more = w.more;
  none = λ only. is_none _ (let k = or_false b.is_last (o.metadata_only && is_some (found_with found b.content)) e in let k1 = k.1 in rw only at k1);
}

-- ---- the blocks after the first as a list

record Others (o : Options) (k : ℕ) (found r : Option Comment) (t : List ℕ) : Type 0 where
  next : MetadataBlock
  others : List MetadataBlock
  few : length others < k
  each : Each BlockCode (next ∷ others) t
  no_info : list_any (λ b. is_info b.content) (next ∷ others) ≡ false
  one : length (listed found ++ comments_in (next ∷ others)) ≤ 1
  ends : EndsAtLast o next others
  shown : r ≡ first (listed found ++ comments_in (next ∷ others))

later_last : (o : Options) (k : ℕ) (found r : Option Comment) (t x u : List ℕ) (b : MetadataBlock) → WantsMore o found → BlockCode b x → is_info b.content ≡ false → is_second found b.content ≡ false → is_done o.metadata_only found b ≡ true
    → r ≡ found_with found b.content → u ≡ [] → t ≡ x ++ u → Others o (suc k) found r t
later_last o k found r t x u b w code not_info single done r-is u-is t-is =
    let l : listed found ++ comments_in (b ∷ []) ≡ listed (found_with found b.content) = ap (λ (z : List Comment). listed found ++ z) (append-nil (comment_of b.content)) ∙ sym (found_listed found b.content single) in
    record {
      next = b;
      others = [];
      few = omega arith;
      each = (x, u, code, u-is, t-is);
      no_info = rw not_info refl;
      one = rw l (at_most_one (found_with found b.content));
      ends = sym (end_same o found b w) ∙ done;
      shown = r-is ∙ first_listed (found_with found b.content) ∙ ap first (sym l);
    }

later_more : (o : Options) (k : ℕ) (found r : Option Comment) (t x u : List ℕ) (b : MetadataBlock) → WantsMore o found → BlockCode b x → is_info b.content ≡ false → is_second found b.content ≡ false → is_done o.metadata_only found b ≡ false
    → Others o k (found_with found b.content) r u → t ≡ x ++ u → Others o (suc k) found r t
later_more o k found r t x u b w code not_info single going rest t-is =
    let l : listed found ++ comments_in (b ∷ rest.next ∷ rest.others) ≡ listed (found_with found b.content) ++ comments_in (rest.next ∷ rest.others) =
    sym (append_assoc (listed found) (comment_of b.content) (comments_in (rest.next ∷ rest.others))) ∙ ap (λ (z : List Comment). z ++ comments_in (rest.next ∷ rest.others)) (sym (found_listed found b.content single)) in
    let f = rest.few in
    record {
      next = b;
      others = rest.next ∷ rest.others;
      few = omega arith;
      each = (x, u, code, rest.each, t-is);
      no_info = rw not_info rest.no_info;
      one = rw l rest.one;
      ends = (sym (end_same o found b w) ∙ going, rest.ends);
      shown = rest.shown ∙ ap first (sym l);
    }

others_to : (o : Options) (k : ℕ) (found r : Option Comment) (t : List ℕ) → WantsMore o found → OthersTested o.metadata_only k found r t → Others o k found r t
unfolding OthersTested LaterTested
others_to o zero found r t w c = absurd c
others_to o (suc k) found r t w (b, x, u, code, (not_info, (single, tail)), t-is) =
    go (is_done o.metadata_only found b) refl tail (λ v. others_to o k (found_with found b.content) r u v)
  where
    go : (q : Bool) → is_done o.metadata_only found b ≡ q → cond q (Is (found_with found b.content)) (OthersTested o.metadata_only k (found_with found b.content)) r u
        → (WantsMore o (found_with found b.content) → OthersTested o.metadata_only k (found_with found b.content) r u → Others o k (found_with found b.content) r u) → Others o (suc k) found r t
    go true e c rest = later_last o k found r t x u b w code not_info single e c.0 c.1 t-is
    go false e c rest = later_more o k found r t x u b w code not_info single e (rest (wants_more_next o found b w e) c) t-is

others_from : (o : Options) (others : List MetadataBlock) (k : ℕ) (b : MetadataBlock) (found r : Option Comment) (t : List ℕ) → WantsMore o found → length others < k → Each BlockCode (b ∷ others) t
    → list_any (λ b. is_info b.content) (b ∷ others) ≡ false → length (listed found ++ comments_in (b ∷ others)) ≤ 1 → EndsAtLast o b others → r ≡ first (listed found ++ comments_in (b ∷ others)) → OthersTested o.metadata_only k found r t
unfolding OthersTested LaterTested
others_from o others zero b found r t w few each not_info one ends shown = absurd (omega arith)
others_from o [] (suc k) b found r t w few (x, u, code, u-is, t-is) not_info one ends shown =
    let p = or_false _ _ not_info in
    let single = not_second found b.content [] one in
    let l : listed found ++ comments_in (b ∷ []) ≡ listed (found_with found b.content) = ap (λ (z : List Comment). listed found ++ z) (append-nil (comment_of b.content)) ∙ sym (found_listed found b.content single) in
    let done : is_done o.metadata_only found b ≡ true = end_same o found b w ∙ ends in
    (b, x, u, code, (p.0, (single, rw done (shown ∙ ap first l ∙ sym (first_listed (found_with found b.content)), u-is))), t-is)
others_from o (c ∷ others) (suc k) b found r t w few (x, u, code, each, t-is) not_info one ends shown =
    let p : (is_info b.content ≡ false) × (list_any (λ b. is_info b.content) (c ∷ others) ≡ false) = or_false _ _ not_info in
    let single = not_second found b.content (comments_in (c ∷ others)) one in
    let l : listed found ++ comments_in (b ∷ c ∷ others) ≡ listed (found_with found b.content) ++ comments_in (c ∷ others) =
    sym (append_assoc (listed found) (comment_of b.content) (comments_in (c ∷ others))) ∙ ap (λ (z : List Comment). z ++ comments_in (c ∷ others)) (sym (found_listed found b.content single)) in
    let going : is_done o.metadata_only found b ≡ false = end_same o found b w ∙ ends.0 in
    let rest = others_from o others k c (found_with found b.content) r u (wants_more_next o found b w going) (omega arith) each p.1 (rw (← l) one) ends.1 (shown ∙ ap first l) in
    (b, x, u, code, (p.0, (single, rw going rest)), t-is)

-- ---- the whole

FirstTested : Options → Bool → Content → Head → List ℕ → Type 0
FirstTested o is_last (Info i) h t = Mapped (λ found. record { info = i; comment = cond o.wants_comment found None }) (cond (streaminfo_ends_head o is_last) (Is None) (OthersTested o.metadata_only 65535 None)) h t
FirstTested o is_last _ h t = ⊥

Reads-first : (o : Options) (is_last : Bool) (c : Content) → Reads ℕ Head (after_first o is_last c) (FirstTested o is_last c) (FirstFault o is_last c)
unfolding after_first FirstTested
Reads-first o is_last (Info i) =
    Reads-map (λ found. record { info = i; comment = cond o.wants_comment found None })
    (Reads-cond (streaminfo_ends_head o is_last) (λ e. Reads-done (Option Comment) None) (λ e. Reads-others o.metadata_only 65535 None))
Reads-first o is_last (Comments c) = Reads-fails Head StreaminfoMissing
Reads-first o is_last (Padding n) = Reads-fails Head StreaminfoMissing
Reads-first o is_last (Application id bytes) = Reads-fails Head StreaminfoMissing
Reads-first o is_last Reserved = Reads-fails Head StreaminfoMissing

HeadTested : Options → Head → List ℕ → Type 0
HeadTested o = Then Marker (λ m. Then BlockCode (λ b. FirstTested o b.is_last b.content))

-- a head ends at streaminfo where that is marked as the last block, or the options ask for no more
streaminfo_ends_head_is : (o : Options) (b : MetadataBlock) (i : Streaminfo) → b.content ≡ Info i → is_end o b ≡ streaminfo_ends_head o b.is_last
streaminfo_ends_head_is o b i e = ap (λ (c : Content). b.is_last || (o.metadata_only && cond o.wants_comment (is_comment c) (is_info c))) e ∙ ap (λ (q : Bool). b.is_last || (o.metadata_only && q)) (wants_same o.wants_comment)
  where
    wants_same : (wants : Bool) → cond wants false true ≡ not wants
    wants_same true = refl
    wants_same false = refl

wants_more_first : (o : Options) (is_last : Bool) → streaminfo_ends_head o is_last ≡ false → WantsMore o None
wants_more_first o is_last e = record { more = (or_false is_last (o.metadata_only && not o.wants_comment) e).1; none = λ only. refl }

record FirstIs (o : Options) (b : MetadataBlock) (h : Head) (t : List ℕ) : Type 0 where
  info : b.content ≡ Info h.info
  found : Option Comment
  comment : h.comment ≡ cond o.wants_comment found None
  rest : cond (streaminfo_ends_head o b.is_last) (Is None) (OthersTested o.metadata_only 65535 None) found t

first_is : (o : Options) (is_last : Bool) (c : Content) (h : Head) (t : List ℕ) → FirstTested o is_last c h t → FirstIs o (record { is_last = is_last; content = c }) h t
unfolding FirstTested
first_is o is_last (Info i) h t (found, rest, h-is) = record { info = ap (λ (z : Head). Info z.info) (sym h-is); found = found; comment = ap (λ (z : Head). z.comment) h-is; rest = rest }
first_is o is_last (Comments c) h t c' = absurd c'
first_is o is_last (Padding n) h t c' = absurd c'
first_is o is_last (Application id bytes) h t c' = absurd c'
first_is o is_last Reserved h t c' = absurd c'

streaminfo_only : (o : Options) (h : Head) (b : MetadataBlock) (found : Option Comment) → streaminfo_ends_head o b.is_last ≡ true → b.content ≡ Info h.info → h.comment ≡ cond o.wants_comment found None → found ≡ None → IsHead o h b []
streaminfo_only o h b found e info shown none = record {
  info = info;
  no_info = refl;
  one_comment = omega arith;
  few = omega arith;
  ends = streaminfo_ends_head_is o b h.info info ∙ e;
  comment = shown ∙ ap (λ (z : Option Comment). cond o.wants_comment z None) none;
}

head_with_blocks : (o : Options) (h : Head) (b : MetadataBlock) (found : Option Comment) (t : List ℕ) → streaminfo_ends_head o b.is_last ≡ false → b.content ≡ Info h.info → h.comment ≡ cond o.wants_comment found None
    → (r : Others o 65535 None found t) → IsHead o h b (r.next ∷ r.others)
unfolding listed
head_with_blocks o h b found t e info shown r =
    let f = r.few in
    record {
      info = info;
      no_info = r.no_info;
      one_comment = r.one;
      few = omega arith;
      ends = (streaminfo_ends_head_is o b h.info info ∙ e, r.ends);
      comment = shown ∙ ap (λ (z : Option Comment). cond o.wants_comment z None) r.shown;
    }

head_to : (o : Options) (h : Head) (t : List ℕ) → HeadTested o h t → HeadCode o h t
unfolding HeadTested
head_to o h t (m, x, u, (m-is, marker), (b, y, v, code, tested, u-is), t-is) =
    let f = first_is o b.is_last b.content h v tested in
    go (streaminfo_ends_head o b.is_last) refl f.found f.rest f.info f.comment (t-is ∙ ap (λ (z : List ℕ). x ++ z) u-is)
  where
    go : (q : Bool) → streaminfo_ends_head o b.is_last ≡ q → (found : Option Comment) → cond q (Is None) (OthersTested o.metadata_only 65535 None) found v → b.content ≡ Info h.info → h.comment ≡ cond o.wants_comment found None → t ≡ x ++ (y ++ v) → HeadCode o h t
    go true e found c info shown joined = (b, [], x, y, v, subst (λ (q : ℕ). Big 4 q x) m-is marker, code, c.1, streaminfo_only o h b found e info shown c.0, joined)
    go false e found c info shown joined =
        let r = others_to o 65535 None found v (wants_more_first o b.is_last e) c in
        (b, r.next ∷ r.others, x, y, v, subst (λ (q : ℕ). Big 4 q x) m-is marker, code, r.each, head_with_blocks o h b found v e info shown r, joined)

first_from : (o : Options) (is_last : Bool) (c : Content) (h : Head) (found : Option Comment) (t : List ℕ) → c ≡ Info h.info → h.comment ≡ cond o.wants_comment found None
    → cond (streaminfo_ends_head o is_last) (Is None) (OthersTested o.metadata_only 65535 None) found t → FirstTested o is_last c h t
unfolding FirstTested
first_from o is_last c h found t info shown rest = rw info (found, rest, ap (λ (z : Option Comment). record { info = h.info; comment = z }) shown)

others_none : (o : Options) (others : List MetadataBlock) (b : MetadataBlock) (r : Option Comment) (t : List ℕ) → WantsMore o None → length others < 65535 → Each BlockCode (b ∷ others) t
    → list_any (λ b. is_info b.content) (b ∷ others) ≡ false → length (comments_in (b ∷ others)) ≤ 1 → EndsAtLast o b others → r ≡ first (comments_in (b ∷ others)) → OthersTested o.metadata_only 65535 None r t
unfolding listed
others_none o others b r t = others_from o others 65535 b None r t

head_from : (o : Options) (h : Head) (t : List ℕ) → HeadCode o h t → HeadTested o h t
unfolding HeadTested
head_from o h t (b, others, x, y, z, marker, code, each, is, t-is) =
    (stream_marker, x, y ++ z, (refl, marker), (b, y, z, code, go others each is, refl), t-is)
  where
    go : (others : List MetadataBlock) → Each BlockCode others z → IsHead o h b others → FirstTested o b.is_last b.content h z
    go [] each is =
        let e : streaminfo_ends_head o b.is_last ≡ true = sym (streaminfo_ends_head_is o b h.info is.info) ∙ is.ends in
        first_from o b.is_last b.content h None z is.info is.comment (rw e (refl, each))
    go (c ∷ others) each is =
        let ends = is.ends in
        let e : streaminfo_ends_head o b.is_last ≡ false = sym (streaminfo_ends_head_is o b h.info is.info) ∙ ends.0 in
        let few = is.few in
        let rest = others_none o others c (first (comments_in (c ∷ others))) z (wants_more_first o b.is_last e) (omega arith) each is.no_info is.one_comment ends.1 refl in
        first_from o b.is_last b.content h (first (comments_in (c ∷ others))) z is.info is.comment (rw e rest)

pub Reads-head : (o : Options) → Reads ℕ Head (head_at o) (HeadCode o) (HeadFault o)
unfolding head_at HeadTested
Reads-head o =
    Reads-same (Reads-then Reads-marker (λ m t c. Reads-then Reads-block (λ b u d. Reads-first o b.is_last b.content)))
    (head_to o) (head_from o) (λ f t c. c) (λ f t c. c)
