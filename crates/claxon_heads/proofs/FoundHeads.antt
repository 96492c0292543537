-- A head of which blocks may be passed over, and its reader.
use Rattle.std.proofs.Common.{◌≡◌, ℕ, zero, suc, ◌<◌, ◌≤◌, Bool, true, false, cond, List, [], ◌∷◌, ◌++◌, length, Option, None, Some, refl, sym, ap, subst, ◌∙◌, append_assoc, arith}
use Rattle.std.specs.Prelude.{Ok, Err, ◌||◌}
use Rattle.std.specs.List.{list_any}
use Rattle.claxon_format.specs.Codes.{Each, Is, Mapped, Never}
use Rattle.claxon_format.specs.Fault.{Fault, SecondStreaminfo, StreaminfoMissing, TooManyBlocks}
use Rattle.claxon_format.specs.Heads.{Marker, stream_marker}
use Rattle.claxon_format.specs.Metadata.{Big, BlockHeaderCode}
use Rattle.claxon_format.specs.MetadataBlocks.{Content, Info, Padding, Application, Comments, Reserved}
use Rattle.claxon_format.specs.read.Bytes.{bytes_at}
use Rattle.claxon_format.specs.read.MetadataBlocks.{body_at}
use Rattle.claxon_format.specs.read.Reading.{Reading, Reads, Done, Faulty, Incomplete, bind}
use Rattle.claxon_format.proofs.Comments.{or_false}
use Rattle.claxon_format.proofs.Heads.{Reads-marker}
use Rattle.claxon_format.proofs.Laws.{Then, Reads-cond, Reads-done, Reads-fails, Reads-map, Reads-same, Reads-test, Reads-then}
use Rattle.claxon_format.proofs.Metadata.{Reads-block_header, Reads-bytes}
use Rattle.claxon_format.proofs.MetadataBlocks.{Reads-body}
use Rattle.claxon_heads.specs.StreamHead.{EndAtLast, FirstFoundFault, FoundBlock, FoundBlockCode, FoundBlockFault, FoundBlocksFault, FoundContent, FoundContentCode, FoundContentFault, FoundHead, FoundHeadCode, FoundHeadFault, IsFoundHead, after_first_found, are_found_comments, first_found, first_unsupported, found_block_at, found_blocks_at, found_content, found_content_at, found_head_at, is_found_info, none_seen, passed_over, seen_after, unsupported_by, unsupported_in}
use Rattle.claxon_heads.specs.declared.head.Seen.{Seen}
use Rattle.claxon_heads.specs.declared.head.UnsupportedBlock.{UnsupportedBlock}
use Rattle.claxon_heads.proofs.FaultLengths.{body_within}

-- ---- content

-- of two fronts of a list the shorter one begins the other
front_within : (front xs r q : List ℕ) → front ++ r ≡ xs ++ q → length front ≤ length xs → (rest : List ℕ) × (xs ≡ front ++ rest)
front_within [] xs r q e le = (xs, refl)
front_within (y ∷ front) [] r q e le = absurd (omega arith)
front_within (y ∷ front) (x ∷ xs) r q e le =
    let same : y ≡ x = cc in
    let others : front ++ r ≡ xs ++ q = cc in
    let k = front_within front xs r q others (omega arith) in
    (k.0, ap (λ (z : List ℕ). x ∷ z) k.1 ∙ ap (λ (z : ℕ). z ∷ (front ++ k.0)) (sym same))

record IsPassedOver (n : ℕ) (s rest : List ℕ) (content : FoundContent) (f : Fault) : Type 0 where
  why : UnsupportedBlock
  is_why : unsupported_by f ≡ Some why
  content_is : content ≡ Err why
  bytes : List ℕ
  taken : bytes_at n s ≡ Done bytes rest

passed : (n : ℕ) (s rest m : List ℕ) (content : FoundContent) (f : Fault) (why : Option UnsupportedBlock) → unsupported_by f ≡ why → passed_over n s f m why ≡ Done content rest → IsPassedOver n s rest content f
passed n s rest m content f None is e = absurd cc
passed n s rest m content f (Some why) is e = go (bytes_at n s) refl e
  where
    go : (x : Reading ℕ (List ℕ)) → bytes_at n s ≡ x → bind x (λ bytes left. Done (Err why) left) ≡ Done content rest → IsPassedOver n s rest content f
    go (Done bytes left) t e = let l : left ≡ rest = cc in record { why = why; is_why = is; content_is = cc; bytes = bytes; taken = t ∙ ap (λ (z : List ℕ). Done bytes z) l }
    go (Faulty g left) t e = absurd cc
    go Incomplete t e = absurd cc

content_passed : (type n : ℕ) (f : Fault) (s m rest : List ℕ) (content : FoundContent) → body_at type n s ≡ Faulty f m → IsPassedOver n s rest content f → (t : List ℕ) × FoundContentCode type n content t × (s ≡ t ++ rest)
content_passed type n f s m rest content e p =
    let x = (Reads-body type n).bad s f m e in
    let y = (Reads-bytes n).takes s p.bytes rest p.taken in
    let size : length y.0 ≡ n = ap length y.1.1 ∙ y.1.0 in
    let most : length x.0 ≤ n = body_within type n f p.why x.0 p.is_why x.1 in
    let k = front_within x.0 y.0 m rest (sym x.2 ∙ y.2) (omega arith) in
    (y.0, subst (λ (z : FoundContent). FoundContentCode type n z y.0) (sym p.content_is) (f, x.0, k.0, x.1, p.is_why, size, k.1), y.2)

content_takes : (type n : ℕ) (s : List ℕ) (content : FoundContent) (rest : List ℕ) → found_content_at type n s ≡ Done content rest → (t : List ℕ) × FoundContentCode type n content t × (s ≡ t ++ rest)
unfolding found_content_at
content_takes type n s content rest e = go (body_at type n s) refl e
  where
    go : (x : Reading ℕ Content) → body_at type n s ≡ x → found_content n s x ≡ Done content rest → (t : List ℕ) × FoundContentCode type n content t × (s ≡ t ++ rest)
    go (Done c m) is e =
        let l : m ≡ rest = cc in
        let k : Ok c ≡ content = cc in
        let x = (Reads-body type n).takes s c rest (is ∙ ap (λ (z : List ℕ). Done c z) l) in
        (x.0, subst (λ (z : FoundContent). FoundContentCode type n z x.0) k x.1, x.2)
    go (Faulty f m) is e = content_passed type n f s m rest content is (passed n s rest m content f (unsupported_by f) refl e)
    go Incomplete is e = absurd cc

content_again : (type n : ℕ) (content : FoundContent) (t rest : List ℕ) → FoundContentCode type n content t → found_content_at type n (t ++ rest) ≡ Done content rest
unfolding found_content_at
content_again type n (Ok content) t rest c = rw ((Reads-body type n).again content t rest c) refl
content_again type n (Err why) t rest (f, front, more, fault, is_why, size, t-is) =
    let s-is : t ++ rest ≡ front ++ (more ++ rest) = ap (λ (z : List ℕ). z ++ rest) t-is ∙ append_assoc front more rest in
    let e : body_at type n (t ++ rest) ≡ Faulty f (more ++ rest) = ap (body_at type n) s-is ∙ (Reads-body type n).bad_again f front (more ++ rest) fault in
    let bytes = (Reads-bytes n).again t t rest (size, refl) in
    rw (e, is_why, bytes) refl

content_bad : (type n : ℕ) (s : List ℕ) (f : Fault) (rest : List ℕ) → found_content_at type n s ≡ Faulty f rest → (t : List ℕ) × FoundContentFault type n f t × (s ≡ t ++ rest)
unfolding found_content_at
content_bad type n s f rest e = go (body_at type n s) refl e
  where
    kept : (g : Fault) (m : List ℕ) (why : Option UnsupportedBlock) → passed_over n s g m why ≡ Faulty f rest → (g ≡ f) × (m ≡ rest) × (why ≡ None)
    kept g m None e = (cc, cc, refl)
    kept g m (Some why) e = absurd (no_fault (bytes_at n s) (λ h left p. (Reads-bytes n).bad s h left p) e)
      where
        no_fault : (x : Reading ℕ (List ℕ)) → ((h : Fault) (left : List ℕ) → x ≡ Faulty h left → (t : List ℕ) × Never h t × (s ≡ t ++ left)) → bind x (λ bytes left. Done (let r : FoundContent = Err why in r) left) ≡ Faulty f rest → ⊥
        no_fault (Done bytes left) none e = cc
        no_fault (Faulty h left) none e = (none h left refl).1
        no_fault Incomplete none e = cc

    go : (x : Reading ℕ Content) → body_at type n s ≡ x → found_content n s x ≡ Faulty f rest → (t : List ℕ) × FoundContentFault type n f t × (s ≡ t ++ rest)
    go (Done c m) is e = absurd cc
    go (Faulty g m) is e =
        let k = kept g m (unsupported_by g) e in
        let here : body_at type n s ≡ Faulty f rest = is ∙ ap (λ (z : Fault). Faulty z m) k.0 ∙ ap (λ (z : List ℕ). Faulty f z) k.1 in
        let x = (Reads-body type n).bad s f rest here in
        (x.0, (x.1, ap unsupported_by (sym k.0) ∙ k.2), x.2)
    go Incomplete is e = absurd cc

content_bad_again : (type n : ℕ) (f : Fault) (t rest : List ℕ) → FoundContentFault type n f t → found_content_at type n (t ++ rest) ≡ Faulty f rest
unfolding found_content_at
content_bad_again type n f t rest c = rw ((Reads-body type n).bad_again f t rest c.0, c.1) refl

pub Reads-found_content : (type n : ℕ) → Reads ℕ FoundContent (found_content_at type n) (FoundContentCode type n) (FoundContentFault type n)
Reads-found_content type n = record { takes = content_takes type n; again = content_again type n; bad = content_bad type n; bad_again = content_bad_again type n }

-- ---- a block with its header

BlockThen : FoundBlock → List ℕ → Type 0
BlockThen = Then BlockHeaderCode (λ h. Mapped (λ content. record { is_last = h.is_last; content = content }) (FoundContentCode h.type h.length))

block_to : (b : FoundBlock) (t : List ℕ) → BlockThen b t → FoundBlockCode b t
unfolding BlockThen
block_to b t (h, x, y, header, (content, body, b-is), t-is) = (h, x, y, header, rw b-is body, rw b-is refl, t-is)

block_from : (b : FoundBlock) (t : List ℕ) → FoundBlockCode b t → BlockThen b t
unfolding BlockThen
block_from b t (h, x, y, header, body, last, t-is) = (h, x, y, header, (b.content, body, ap (λ (q : Bool). record { is_last = q; content = b.content }) last), t-is)

pub Reads-found_block : Reads ℕ FoundBlock found_block_at FoundBlockCode FoundBlockFault
unfolding found_block_at BlockThen
Reads-found_block =
    Reads-same (Reads-then Reads-block_header (λ h t c. Reads-map (λ content. record { is_last = h.is_last; content = content }) (Reads-found_content h.type h.length)))
    block_to block_from (λ f t c. c) (λ f t c. c)

-- ---- the blocks after the streaminfo

LaterTested : (Seen → Option UnsupportedBlock → List ℕ → Type 0) → Seen → Option UnsupportedBlock → List ℕ → Type 0
LaterTested rest seen =
    Then FoundBlockCode (λ b r t. (is_found_info b.content ≡ false) × cond b.is_last (Is (seen_after seen b.content).unsupported) (rest (seen_after seen b.content)) r t)

BlocksTested : ℕ → Seen → Option UnsupportedBlock → List ℕ → Type 0
BlocksTested zero seen r t = ⊥
BlocksTested (suc k) seen r t = LaterTested (BlocksTested k) seen r t

Reads-blocks : (k : ℕ) (seen : Seen) → Reads ℕ (Option UnsupportedBlock) (found_blocks_at k seen) (BlocksTested k seen) (FoundBlocksFault k)
unfolding found_blocks_at BlocksTested LaterTested
Reads-blocks zero seen = Reads-fails (Option UnsupportedBlock) TooManyBlocks
Reads-blocks (suc k) seen =
    Reads-then Reads-found_block (λ b t c. Reads-test (is_found_info b.content) SecondStreaminfo (λ p.
    Reads-cond b.is_last (λ e. Reads-done (Option UnsupportedBlock) (seen_after seen b.content).unsupported) (λ e. Reads-blocks k (seen_after seen b.content))))

-- what was seen, and what is seen of more blocks
abbrev told : Seen → List FoundBlock → Option UnsupportedBlock
told seen blocks = first_found seen.unsupported (first_unsupported seen.has_comments blocks)

first_none : (a : Option UnsupportedBlock) → a ≡ first_found a None
first_none None = refl
first_none (Some why) = refl

first_assoc : (a b c : Option UnsupportedBlock) → first_found (first_found a b) c ≡ first_found a (first_found b c)
first_assoc None b c = refl
first_assoc (Some why) b c = refl

told_last : (seen : Seen) (b : FoundBlock) → (seen_after seen b.content).unsupported ≡ told seen (b ∷ [])
unfolding seen_after
told_last seen b = ap (first_found seen.unsupported) (first_none (unsupported_in seen.has_comments b.content))

told_more : (seen : Seen) (b : FoundBlock) (others : List FoundBlock) → told (seen_after seen b.content) others ≡ told seen (b ∷ others)
unfolding seen_after
told_more seen b others = first_assoc seen.unsupported (unsupported_in seen.has_comments b.content) (first_unsupported (seen.has_comments || are_found_comments b.content) others)

record Others (k : ℕ) (seen : Seen) (r : Option UnsupportedBlock) (t : List ℕ) : Type 0 where
  next : FoundBlock
  others : List FoundBlock
  few : length others < k
  each : Each FoundBlockCode (next ∷ others) t
  no_info : list_any (λ b. is_found_info b.content) (next ∷ others) ≡ false
  ends : EndAtLast next others
  shown : r ≡ told seen (next ∷ others)

others_to : (k : ℕ) (seen : Seen) (r : Option UnsupportedBlock) (t : List ℕ) → BlocksTested k seen r t → Others k seen r t
unfolding BlocksTested LaterTested
others_to zero seen r t c = absurd c
others_to (suc k) seen r t (b, x, u, code, (not_info, tail), t-is) = go b.is_last refl tail (λ v. others_to k (seen_after seen b.content) r u v)
  where
    go : (q : Bool) → b.is_last ≡ q → cond q (Is (seen_after seen b.content).unsupported) (BlocksTested k (seen_after seen b.content)) r u
        → (BlocksTested k (seen_after seen b.content) r u → Others k (seen_after seen b.content) r u) → Others (suc k) seen r t
    go true e c rest = record {
      next = b;
      others = [];
      few = omega arith;
      each = (x, u, code, c.1, t-is);
      no_info = rw not_info refl;
      ends = e;
      shown = c.0 ∙ told_last seen b;
    }
    go false e c rest =
        let o = rest c in
        let f = o.few in
        record {
          next = b;
          others = o.next ∷ o.others;
          few = omega arith;
          each = (x, u, code, o.each, t-is);
          no_info = rw not_info o.no_info;
          ends = (e, o.ends);
          shown = o.shown ∙ told_more seen b (o.next ∷ o.others);
        }

others_from : (others : List FoundBlock) (k : ℕ) (b : FoundBlock) (seen : Seen) (r : Option UnsupportedBlock) (t : List ℕ) → length others < k → Each FoundBlockCode (b ∷ others) t
    → list_any (λ b. is_found_info b.content) (b ∷ others) ≡ false → EndAtLast b others → r ≡ told seen (b ∷ others) → BlocksTested k seen r t
unfolding BlocksTested LaterTested
others_from others zero b seen r t few each not_info ends shown = absurd (omega arith)
others_from [] (suc k) b seen r t few (x, u, code, u-is, t-is) not_info ends shown =
    let p = or_false _ _ not_info in
    (b, x, u, code, (p.0, rw ends (shown ∙ sym (told_last seen b), u-is)), t-is)
others_from (c ∷ others) (suc k) b seen r t few (x, u, code, each, t-is) not_info ends shown =
    let p : (is_found_info b.content ≡ false) × (list_any (λ b. is_found_info b.content) (c ∷ others) ≡ false) = or_false _ _ not_info in
    let rest = others_from others k c (seen_after seen b.content) r u (omega arith) each p.1 ends.1 (shown ∙ sym (told_more seen b (c ∷ others))) in
    (b, x, u, code, (p.0, rw (ends.0) rest), t-is)

-- ---- the whole

FirstTested : Bool → FoundContent → FoundHead → List ℕ → Type 0
FirstTested is_last (Ok (Info i)) h t = Mapped (λ why. record { info = i; unsupported = why }) (cond is_last (Is None) (BlocksTested 65535 none_seen)) h t
FirstTested is_last _ h t = ⊥

Reads-first : (is_last : Bool) (content : FoundContent) → Reads ℕ FoundHead (after_first_found is_last content) (FirstTested is_last content) (FirstFoundFault is_last content)
unfolding after_first_found FirstTested
Reads-first is_last (Ok (Info i)) =
    Reads-map (λ why. record { info = i; unsupported = why }) (Reads-cond is_last (λ e. Reads-done (Option UnsupportedBlock) None) (λ e. Reads-blocks 65535 none_seen))
Reads-first is_last (Ok (Comments c)) = Reads-fails FoundHead StreaminfoMissing
Reads-first is_last (Ok (Padding n)) = Reads-fails FoundHead StreaminfoMissing
Reads-first is_last (Ok (Application id bytes)) = Reads-fails FoundHead StreaminfoMissing
Reads-first is_last (Ok Reserved) = Reads-fails FoundHead StreaminfoMissing
Reads-first is_last (Err why) = Reads-fails FoundHead StreaminfoMissing

HeadTested : FoundHead → List ℕ → Type 0
HeadTested = Then Marker (λ m. Then FoundBlockCode (λ b. FirstTested b.is_last b.content))

record FirstIs (is_last : Bool) (content : FoundContent) (h : FoundHead) (t : List ℕ) : Type 0 where
  info : content ≡ Ok (Info h.info)
  rest : cond is_last (Is None) (BlocksTested 65535 none_seen) h.unsupported t

first_is : (is_last : Bool) (content : FoundContent) (h : FoundHead) (t : List ℕ) → FirstTested is_last content h t → FirstIs is_last content h t
unfolding FirstTested
first_is is_last (Ok (Info i)) h t (why, rest, h-is) = record {
  info = ap (λ (z : FoundHead). Ok (Info z.info)) (sym h-is);
  rest = subst (λ (z : Option UnsupportedBlock). cond is_last (Is None) (BlocksTested 65535 none_seen) z t) (ap (λ (z : FoundHead). z.unsupported) (sym h-is)) rest;
}
first_is is_last (Ok (Comments c)) h t p = absurd p
first_is is_last (Ok (Padding n)) h t p = absurd p
first_is is_last (Ok (Application id bytes)) h t p = absurd p
first_is is_last (Ok Reserved) h t p = absurd p
first_is is_last (Err why) h t p = absurd p

head_to : (h : FoundHead) (t : List ℕ) → HeadTested h t → FoundHeadCode h t
unfolding HeadTested
head_to h t (m, x, u, (m-is, marker), (b, y, v, code, tested, u-is), t-is) =
    let f = first_is b.is_last b.content h v tested in
    go b.is_last refl f.rest f.info (t-is ∙ ap (λ (z : List ℕ). x ++ z) u-is)
  where
    go : (q : Bool) → b.is_last ≡ q → cond q (Is None) (BlocksTested 65535 none_seen) h.unsupported v → b.content ≡ Ok (Info h.info) → t ≡ x ++ (y ++ v) → FoundHeadCode h t
    go true e c info joined =
        (b, [], x, y, v, subst (λ (q : ℕ). Big 4 q x) m-is marker, code, c.1, record { info = info; no_info = refl; few = omega arith; ends = e; unsupported = c.0 }, joined)
    go false e c info joined =
        let r = others_to 65535 none_seen h.unsupported v c in
        let f = r.few in
        (b, r.next ∷ r.others, x, y, v, subst (λ (q : ℕ). Big 4 q x) m-is marker, code, r.each, record { info = info; no_info = r.no_info; few = omega arith; ends = (e, r.ends); unsupported = r.shown }, joined)

first_from : (is_last : Bool) (content : FoundContent) (h : FoundHead) (t : List ℕ) → content ≡ Ok (Info h.info) → cond is_last (Is None) (BlocksTested 65535 none_seen) h.unsupported t → FirstTested is_last content h t
unfolding FirstTested
first_from is_last content h t info rest = rw info (h.unsupported, rest, refl)

head_from : (h : FoundHead) (t : List ℕ) → FoundHeadCode h t → HeadTested h t
unfolding HeadTested
head_from h t (b, others, x, y, z, marker, code, each, is, t-is) = (stream_marker, x, y ++ z, (refl, marker), (b, y, z, code, go others each is, refl), t-is)
  where
    go : (others : List FoundBlock) → Each FoundBlockCode others z → IsFoundHead h b others → FirstTested b.is_last b.content h z
    go [] each is = first_from b.is_last b.content h z is.info (rw (is.ends) (is.unsupported, each))
    go (c ∷ others) each is =
        let ends = is.ends in
        let few = is.few in
        let rest = others_from others 65535 c none_seen h.unsupported z (omega arith) each is.no_info ends.1 is.unsupported in
        first_from b.is_last b.content h z is.info (rw (ends.0) rest)

pub Reads-found_head : Reads ℕ FoundHead found_head_at FoundHeadCode FoundHeadFault
unfolding found_head_at HeadTested
Reads-found_head =
    Reads-same (Reads-then Reads-marker (λ m t c. Reads-then Reads-found_block (λ b u d. Reads-first b.is_last b.content)))
    head_to head_from (λ f t c. c) (λ f t c. c)
