-- A head of which nothing is passed over is one of the format, and the other way round.
use Rattle.std.proofs.Common.{◌≡◌, ℕ, zero, suc, Bool, true, false, cond, not, List, ◌++◌, Option, None, Some, refl, sym, ap, subst, ◌∙◌}
use Rattle.std.specs.Prelude.{Ok, Err, ◌&&◌, ◌||◌}
use Rattle.claxon_format.specs.Comments.{Comment}
use Rattle.claxon_format.specs.Fault.{Fault, SecondComment, SecondStreaminfo}
use Rattle.claxon_format.specs.Heads.{Head, HeadCode, found_with, is_comment, is_done, is_info, is_second, is_some}
use Rattle.claxon_format.specs.MetadataBlocks.{Content, Info, Padding, Application, Comments, Reserved, MetadataBlock}
use Rattle.claxon_format.specs.Streaminfo.{Streaminfo}
use Rattle.claxon_format.specs.Streams.{with_samples}
use Rattle.claxon_format.specs.read.Bytes.{bytes_at}
use Rattle.claxon_format.specs.read.Heads.{after_first, head_at, marker_at, others_at}
use Rattle.claxon_format.specs.read.Metadata.{block_header_at}
use Rattle.claxon_format.specs.read.MetadataBlocks.{block_at, body_at}
use Rattle.claxon_format.specs.read.Reading.{Reading, Done, Faulty, Incomplete, bind, test, done}
use Rattle.claxon_format.proofs.Heads.{Reads-head}
use Rattle.claxon_format.proofs.Laws.{bind_done}
use Rattle.claxon_heads.specs.StreamHead.{FoundBlock, FoundContent, FoundHead, after_first_found, first_found, found_block_at, found_blocks_at, found_content, found_content_at, found_head_at, is_found_info, none_seen, passed_over, seen_after, unsupported_by, unsupported_in}
use Rattle.claxon_heads.specs.declared.head.Seen.{Seen}
use Rattle.claxon_heads.specs.declared.head.UnsupportedBlock.{UnsupportedBlock}
use Rattle.claxon_heads.specs.declared.head.UnsupportedBlock.TheVariants.{SecondComments}

-- ---- one block

not_passed : (n : ℕ) (content : Content) (s rest m : List ℕ) (f : Fault) (why : Option UnsupportedBlock) → passed_over n s f rest why ≡ Done (Ok content) m → ⊥
not_passed n content s rest m f None e = absurd cc
not_passed n content s rest m f (Some why) e = go (bytes_at n s) e
  where
    go : (x : Reading ℕ (List ℕ)) → bind x (λ bytes left. Done (Err why) left) ≡ Done (Ok content) m → ⊥
    go (Done bytes left) e = absurd cc
    go (Faulty g left) e = absurd cc
    go Incomplete e = absurd cc

content_supported : (type n : ℕ) (content : Content) (s m : List ℕ) → found_content_at type n s ≡ Done (Ok content) m → body_at type n s ≡ Done content m
unfolding found_content_at
content_supported type n content s m e = go (body_at type n s) e
  where
    go : (x : Reading ℕ Content) → found_content n s x ≡ Done (Ok content) m → x ≡ Done content m
    go (Done c rest) e = cc
    go (Faulty f rest) e = absurd (not_passed n content s rest m f (unsupported_by f) e)
    go Incomplete e = absurd cc

content_found : (type n : ℕ) (content : Content) (s m : List ℕ) → body_at type n s ≡ Done content m → found_content_at type n s ≡ Done (Ok content) m
unfolding found_content_at
content_found type n content s m e = rw e refl

abbrev as_found : MetadataBlock → FoundBlock
as_found b = record { is_last = b.is_last; content = Ok b.content }

block_supported : (b : MetadataBlock) (s m : List ℕ) → found_block_at s ≡ Done (as_found b) m → block_at s ≡ Done b m
unfolding found_block_at block_at
block_supported b s m e =
    let p = bind_done (block_header_at s) (λ h. λ k. bind (found_content_at h.type h.length k) (λ content. done (record { is_last = h.is_last; content = content }))) (as_found b) m e in
    let q = bind_done (found_content_at p.0.type p.0.length p.1) (λ content. done (record { is_last = p.0.is_last; content = content })) (as_found b) m p.3 in
    let both : record { is_last = p.0.is_last; content = q.0 } ≡ as_found b = cc q.3 in
    let last : p.0.is_last ≡ b.is_last = ap (λ (z : FoundBlock). z.is_last) both in
    let content : q.0 ≡ Ok b.content = ap (λ (z : FoundBlock). z.content) both in
    let left : q.1 ≡ m = cc q.3 in
    let is : found_content_at p.0.type p.0.length p.1 ≡ Done (Ok b.content) m = q.2 ∙ ap (λ (z : FoundContent). Done z q.1) content ∙ ap (λ (z : List ℕ). Done (Ok b.content) z) left in
    let read = content_supported p.0.type p.0.length b.content p.1 m is in
    rw (p.2, read) (ap (λ (z : Bool). Done (record { is_last = z; content = b.content }) m) last)

block_found : (b : MetadataBlock) (s m : List ℕ) → block_at s ≡ Done b m → found_block_at s ≡ Done (as_found b) m
unfolding found_block_at block_at
block_found b s m e =
    let p = bind_done (block_header_at s) (λ h. λ k. bind (body_at h.type h.length k) (λ content. done (record { is_last = h.is_last; content = content }))) b m e in
    let q = bind_done (body_at p.0.type p.0.length p.1) (λ content. done (record { is_last = p.0.is_last; content = content })) b m p.3 in
    let both : record { is_last = p.0.is_last; content = q.0 } ≡ b = cc q.3 in
    let left : q.1 ≡ m = cc q.3 in
    let found = content_found p.0.type p.0.length q.0 p.1 q.1 q.2 in
    rw (p.2, found) (ap (λ (z : MetadataBlock). Done (as_found z) q.1) both ∙ ap (λ (z : List ℕ). Done (as_found b) z) left)

-- ---- the blocks after the streaminfo

test_passed : {A : Type 0} (b : Bool) (f : Fault) (r : List ℕ → Reading ℕ A) (x : A) (s m : List ℕ) → test b f r s ≡ Done x m → (b ≡ false) × (r s ≡ Done x m)
test_passed true f r x s m e = absurd cc
test_passed false f r x s m e = (refl, e)

-- what is read after a block
abbrev after : ℕ → Seen → FoundBlock → List ℕ → Reading ℕ (Option UnsupportedBlock)
after k seen b = cond b.is_last (done (seen_after seen b.content).unsupported) (found_blocks_at k (seen_after seen b.content))

record BlockFound (k : ℕ) (seen : Seen) (s m : List ℕ) (why : Option UnsupportedBlock) : Type 0 where
  block : FoundBlock
  left : List ℕ
  is : found_block_at s ≡ Done block left
  not_info : is_found_info block.content ≡ false
  rest : after k seen block left ≡ Done why m

block_of : (k : ℕ) (seen : Seen) (s m : List ℕ) (why : Option UnsupportedBlock) → found_blocks_at (suc k) seen s ≡ Done why m → BlockFound k seen s m why
unfolding found_blocks_at
block_of k seen s m why e =
    let p = bind_done (found_block_at s) (λ b. test (is_found_info b.content) SecondStreaminfo (after k seen b)) why m e in
    let q = test_passed (is_found_info p.0.content) SecondStreaminfo (after k seen p.0) why p.1 m p.3 in
    record { block = p.0; left = p.1; is = p.2; not_info = q.0; rest = q.1 }

stays : (first : UnsupportedBlock) (old next : Option UnsupportedBlock) → old ≡ Some first → first_found old next ≡ Some first
stays first old next e = rw e refl

stays_seen : (first : UnsupportedBlock) (seen : Seen) (content : FoundContent) → seen.unsupported ≡ Some first → (seen_after seen content).unsupported ≡ Some first
unfolding seen_after
stays_seen first seen content e = stays first seen.unsupported (unsupported_in seen.has_comments content) e

-- what was seen is told
seen_is_told : (k : ℕ) (first : UnsupportedBlock) (seen : Seen) (s m : List ℕ) → seen.unsupported ≡ Some first → found_blocks_at k seen s ≡ Done None m → ⊥
unfolding found_blocks_at
seen_is_told zero first seen s m is e = absurd cc
seen_is_told (suc k) first seen s m is e =
    let p = block_of k seen s m None e in
    go (λ next left. seen_is_told k first next left m) p.block.is_last (seen_after seen p.block.content) p.left (stays_seen first seen p.block.content is) p.rest
  where
    go : ((next : Seen) (left : List ℕ) → next.unsupported ≡ Some first → found_blocks_at k next left ≡ Done None m → ⊥) → (q : Bool) (next : Seen) (left : List ℕ) → next.unsupported ≡ Some first → cond q (done next.unsupported) (found_blocks_at k next) left ≡ Done None m → ⊥
    go again true next left is e = let none : next.unsupported ≡ None = cc in absurd cc
    go again false next left is e = again next left is e

nothing_seen : (k : ℕ) (seen : Seen) (s m : List ℕ) → found_blocks_at k seen s ≡ Done None m → seen.unsupported ≡ None
nothing_seen k seen s m e = go seen.unsupported refl
  where
    go : (o : Option UnsupportedBlock) → seen.unsupported ≡ o → seen.unsupported ≡ None
    go None is = is
    go (Some first) is = absurd (seen_is_told k first seen s m is e)

-- a block of which nothing isn't supported
record Supported (has : Bool) (content : FoundContent) : Type 0 where
  block : Content
  is : content ≡ Ok block
  not_second : (has && is_comment block) ≡ false

none_of : (old next : Option UnsupportedBlock) → first_found old next ≡ None → (old ≡ None) × (next ≡ None)
none_of None next e = (refl, e)
none_of (Some first) next e = absurd cc

supported : (has : Bool) (content : FoundContent) → unsupported_in has content ≡ None → Supported has content
supported has (Ok block) e = record { block = block; is = refl; not_second = go (has && is_comment block) e }
  where
    go : (q : Bool) → cond q (Some SecondComments) None ≡ None → q ≡ false
    go true e = absurd cc
    go false e = refl
supported has (Err why) e = absurd cc

or_none : (b : Bool) → b ≡ (b || false)
or_none true = refl
or_none false = refl

-- comments were found by one where they were read by the other
found_after : (found : Option Comment) (has : Bool) (c : Content) → is_some found ≡ has → is_some (found_with found c) ≡ (has || is_comment c)
found_after found has (Comments c) e = go has
  where
    go : (has : Bool) → true ≡ (has || true)
    go true = refl
    go false = refl
found_after found has (Info i) e = e ∙ or_none has
found_after found has (Padding n) e = e ∙ or_none has
found_after found has (Application id bytes) e = e ∙ or_none has
found_after found has Reserved e = e ∙ or_none has

and_other_way : (a b : Bool) → (a && b) ≡ (b && a)
and_other_way true true = refl
and_other_way true false = refl
and_other_way false true = refl
and_other_way false false = refl

second_same : (found : Option Comment) (has : Bool) (c : Content) → is_some found ≡ has → is_second found c ≡ (has && is_comment c)
second_same found has c e = and_other_way (is_comment c) (is_some found) ∙ ap (λ (z : Bool). z && is_comment c) e

done_same : (found : Option Comment) (b : MetadataBlock) → is_done false found b ≡ b.is_last
done_same found b = sym (or_none b.is_last)

-- what is read by the other after a block
abbrev later : ℕ → Option Comment → MetadataBlock → List ℕ → Reading ℕ (Option Comment)
later k found b = cond b.is_last (done (found_with found b.content)) (others_at false k (found_with found b.content))

others_after : (k : ℕ) (found : Option Comment) (b : MetadataBlock) (s m : List ℕ) → block_at s ≡ Done b m → is_info b.content ≡ false → is_second found b.content ≡ false → others_at false (suc k) found s ≡ later k found b m
unfolding others_at
others_after k found b s m e info second = rw (e, info, second, done_same found b) refl

blocks_after : (k : ℕ) (seen : Seen) (b : FoundBlock) (s m : List ℕ) → found_block_at s ≡ Done b m → is_found_info b.content ≡ false → found_blocks_at (suc k) seen s ≡ after k seen b m
unfolding found_blocks_at
blocks_after k seen b s m e info = rw (e, info) refl

seen_none : (seen : Seen) (c : Content) → seen.unsupported ≡ None → (seen.has_comments && is_comment c) ≡ false → (seen_after seen (Ok c)).unsupported ≡ None
unfolding seen_after
seen_none seen c none single = rw (none, single) refl

seen_comments : (seen : Seen) (c : Content) → (seen_after seen (Ok c)).has_comments ≡ (seen.has_comments || is_comment c)
unfolding seen_after
seen_comments seen c = refl

seen_parts : (seen : Seen) (content : FoundContent) → (seen_after seen content).unsupported ≡ first_found seen.unsupported (unsupported_in seen.has_comments content)
unfolding seen_after
seen_parts seen content = refl

supported_blocks : (k : ℕ) (seen : Seen) (found : Option Comment) (s m : List ℕ) → is_some found ≡ seen.has_comments → found_blocks_at k seen s ≡ Done None m → (r : Option Comment) × (others_at false k found s ≡ Done r m)
unfolding found_blocks_at
supported_blocks zero seen found s m same e = absurd cc
supported_blocks (suc k) seen found s m same e =
    let p = block_of k seen s m None e in
    let told : (seen_after seen p.block.content).unsupported ≡ None = none_after p.block.is_last (seen_after seen p.block.content) p.left p.rest in
    let parts = none_of seen.unsupported (unsupported_in seen.has_comments p.block.content) (sym (seen_parts seen p.block.content) ∙ told) in
    let is = supported seen.has_comments p.block.content parts.1 in
    let b : MetadataBlock = record { is_last = p.block.is_last; content = is.block } in
    let found_is : found_block_at s ≡ Done (as_found b) p.left = p.is ∙ ap (λ (z : FoundContent). Done (record { is_last = p.block.is_last; content = z }) p.left) is.is in
    let read = block_supported b s p.left found_is in
    let info : is_info is.block ≡ false = subst (λ (z : FoundContent). is_found_info z ≡ false) is.is p.not_info in
    let second : is_second found is.block ≡ false = second_same found seen.has_comments is.block same ∙ is.not_second in
    let next : is_some (found_with found is.block) ≡ (seen_after seen p.block.content).has_comments
    = found_after found seen.has_comments is.block same ∙ sym (seen_comments seen is.block) ∙ ap (λ (z : FoundContent). (seen_after seen z).has_comments) (sym is.is) in
    let w = go (λ next known left. supported_blocks k next known left m) p.block.is_last (seen_after seen p.block.content) (found_with found is.block) p.left next p.rest in
    (w.0, others_after k found b s p.left read info second ∙ w.1)
  where
    none_after : (q : Bool) (next : Seen) (left : List ℕ) → cond q (done next.unsupported) (found_blocks_at k next) left ≡ Done None m → next.unsupported ≡ None
    none_after true next left e = cc
    none_after false next left e = nothing_seen k next left m e

    go : ((next : Seen) (known : Option Comment) (left : List ℕ) → is_some known ≡ next.has_comments → found_blocks_at k next left ≡ Done None m → (r : Option Comment) × (others_at false k known left ≡ Done r m)) → (q : Bool) (next : Seen) (known : Option Comment) (left : List ℕ) → is_some known ≡ next.has_comments
        → cond q (done next.unsupported) (found_blocks_at k next) left ≡ Done None m → (r : Option Comment) × (cond q (done known) (others_at false k known) left ≡ Done r m)
    go again true next known left same e = let l : left ≡ m = cc in (known, ap (λ (z : List ℕ). Done known z) l)
    go again false next known left same e = again next known left same e

-- the other way round
abbrev ended : ℕ → Option Comment → MetadataBlock → List ℕ → Reading ℕ (Option Comment)
ended k found b = cond (is_done false found b) (done (found_with found b.content)) (others_at false k (found_with found b.content))

record OtherBlock (k : ℕ) (found : Option Comment) (s m : List ℕ) (r : Option Comment) : Type 0 where
  block : MetadataBlock
  left : List ℕ
  is : block_at s ≡ Done block left
  not_info : is_info block.content ≡ false
  not_second : is_second found block.content ≡ false
  rest : cond block.is_last (done (found_with found block.content)) (others_at false k (found_with found block.content)) left ≡ Done r m

other_of : (k : ℕ) (found : Option Comment) (s m : List ℕ) (r : Option Comment) → others_at false (suc k) found s ≡ Done r m → OtherBlock k found s m r
unfolding others_at
other_of k found s m r e =
    let p = bind_done (block_at s) (λ b. test (is_info b.content) SecondStreaminfo (test (is_second found b.content) SecondComment (ended k found b))) r m e in
    let q = test_passed (is_info p.0.content) SecondStreaminfo (test (is_second found p.0.content) SecondComment (ended k found p.0)) r p.1 m p.3 in
    let t = test_passed (is_second found p.0.content) SecondComment (ended k found p.0) r p.1 m q.1 in
    record { block = p.0; left = p.1; is = p.2; not_info = q.0; not_second = t.0; rest = subst (λ (z : Bool). cond z (done (found_with found p.0.content)) (others_at false k (found_with found p.0.content)) p.1 ≡ Done r m) (done_same found p.0) t.1 }

found_blocks : (k : ℕ) (seen : Seen) (found r : Option Comment) (s m : List ℕ) → is_some found ≡ seen.has_comments → seen.unsupported ≡ None → others_at false k found s ≡ Done r m → found_blocks_at k seen s ≡ Done None m
unfolding others_at
found_blocks zero seen found r s m same none e = absurd cc
found_blocks (suc k) seen found r s m same none e =
    let p = other_of k found s m r e in
    let is = block_found p.block s p.left p.is in
    let single : (seen.has_comments && is_comment p.block.content) ≡ false = sym (second_same found seen.has_comments p.block.content same) ∙ p.not_second in
    let told = seen_none seen p.block.content none single in
    let next : is_some (found_with found p.block.content) ≡ (seen_after seen (Ok p.block.content)).has_comments = found_after found seen.has_comments p.block.content same ∙ sym (seen_comments seen p.block.content) in
    blocks_after k seen (as_found p.block) s p.left is p.not_info ∙ go (λ next known left. found_blocks k next known r left m) p.block.is_last (seen_after seen (Ok p.block.content)) (found_with found p.block.content) p.left next told p.rest
  where
    go : ((next : Seen) (known : Option Comment) (left : List ℕ) → is_some known ≡ next.has_comments → next.unsupported ≡ None → others_at false k known left ≡ Done r m → found_blocks_at k next left ≡ Done None m) → (q : Bool) (next : Seen) (known : Option Comment) (left : List ℕ) → is_some known ≡ next.has_comments → next.unsupported ≡ None → cond q (done known) (others_at false k known) left ≡ Done r m → cond q (done next.unsupported) (found_blocks_at k next) left ≡ Done None m
    go again true next known left same none e = let l : left ≡ m = cc in rw none (ap (λ (z : List ℕ). Done None z) l)
    go again false next known left same none e = again next known left same none e

-- ---- the whole head

first_supported : (is_last : Bool) (content : FoundContent) (info : Streaminfo) (n m : List ℕ) → after_first_found is_last content n ≡ Done (record { info = info; unsupported = None }) m
    → (content ≡ Ok (Info info)) × ((c : Option Comment) × (after_first (with_samples true) is_last (Info info) n ≡ Done (record { info = info; comment = c }) m))
unfolding after_first_found after_first
first_supported is_last (Ok (Info i)) info n m e =
    let p = bind_done (cond is_last (done None) (found_blocks_at 65535 none_seen) n) (λ why. done (record { info = i; unsupported = why })) (record { info = info; unsupported = None }) m e in
    let both : record { info = i; unsupported = p.0 } ≡ record { info = info; unsupported = None } = cc p.3 in
    let same : i ≡ info = ap (λ (z : FoundHead). z.info) both in
    let none : p.0 ≡ None = ap (λ (z : FoundHead). z.unsupported) both in
    let left : p.1 ≡ m = cc p.3 in
    let read : cond is_last (done None) (found_blocks_at 65535 none_seen) n ≡ Done None m = p.2 ∙ ap (λ (z : Option UnsupportedBlock). Done z p.1) none ∙ ap (λ (z : List ℕ). Done None z) left in
    (ap (λ (z : Streaminfo). Ok (Info z)) same, go is_last read)
  where
    go : (q : Bool) → cond q (done None) (found_blocks_at 65535 none_seen) n ≡ Done None m
        → (c : Option Comment) × (bind {B = Head} (cond (q || (false && not true)) (done None) (others_at false 65535 None) n) (λ found. done (record { info = info; comment = found })) ≡ Done (record { info = info; comment = c }) m)
    go true e = let l : n ≡ m = cc in (None, ap (λ (z : List ℕ). Done (record { info = info; comment = None }) z) l)
    go false e = let k = supported_blocks 65535 none_seen None n m refl e in (k.0, rw k.1 refl)
first_supported is_last (Ok (Padding k)) info n m e = absurd cc
first_supported is_last (Ok (Application id bytes)) info n m e = absurd cc
first_supported is_last (Ok (Comments c)) info n m e = absurd cc
first_supported is_last (Ok Reserved) info n m e = absurd cc
first_supported is_last (Err why) info n m e = absurd cc

head_read : (h : Head) (k : ℕ) (b : MetadataBlock) (s n l m : List ℕ) → marker_at s ≡ Done k n → block_at n ≡ Done b l → after_first (with_samples true) b.is_last b.content l ≡ Done h m → head_at (with_samples true) s ≡ Done h m
unfolding head_at
head_read h k b s n l m e f g = rw (e, f) g

found_read : (h : FoundHead) (k : ℕ) (b : FoundBlock) (s n l m : List ℕ) → marker_at s ≡ Done k n → found_block_at n ≡ Done b l → after_first_found b.is_last b.content l ≡ Done h m → found_head_at s ≡ Done h m
unfolding found_head_at
found_read h k b s n l m e f g = rw (e, f) g

-- a head of which all is supported is one of the format
pub head_supported : (info : Streaminfo) (s m : List ℕ) → found_head_at s ≡ Done (record { info = info; unsupported = None }) m → (c : Option Comment) × (front : List ℕ) × HeadCode (with_samples true) (record { info = info; comment = c }) front × (s ≡ front ++ m)
unfolding found_head_at head_at
head_supported info s m e =
    let p = bind_done (marker_at s) (λ k. λ n. bind (found_block_at n) (λ b. after_first_found b.is_last b.content)) (record { info = info; unsupported = None }) m e in
    let q = bind_done (found_block_at p.1) (λ b. after_first_found b.is_last b.content) (record { info = info; unsupported = None }) m p.3 in
    let f = first_supported q.0.is_last q.0.content info q.1 m q.3 in
    let b : MetadataBlock = record { is_last = q.0.is_last; content = Info info } in
    let is : found_block_at p.1 ≡ Done (as_found b) q.1 = q.2 ∙ ap (λ (z : FoundContent). Done (record { is_last = q.0.is_last; content = z }) q.1) f.0 in
    let read = block_supported b p.1 q.1 is in
    let whole : head_at (with_samples true) s ≡ Done (record { info = info; comment = f.1.0 }) m = head_read (record { info = info; comment = f.1.0 }) p.0 b s p.1 q.1 m p.2 read f.1.1 in
    let k = (Reads-head (with_samples true)).takes s (record { info = info; comment = f.1.0 }) m whole in
    (f.1.0, k.0, k.1, k.2)

first_found_again : (is_last : Bool) (content : Content) (h : Head) (n m : List ℕ) → after_first (with_samples true) is_last content n ≡ Done h m → after_first_found is_last (Ok content) n ≡ Done (record { info = h.info; unsupported = None }) m
unfolding after_first_found after_first
first_found_again is_last (Info i) h n m e =
    let p = bind_done (cond (is_last || (false && not true)) (done None) (others_at false 65535 None) n) (λ found. done (record { info = i; comment = found })) h m e in
    let both : record { info = i; comment = p.0 } ≡ h = cc p.3 in
    let same : i ≡ h.info = ap (λ (z : Head). z.info) both in
    let left : p.1 ≡ m = cc p.3 in
    let read : cond (is_last || false) (done None) (others_at false 65535 None) n ≡ Done p.0 m = p.2 ∙ ap (λ (z : List ℕ). Done p.0 z) left in
    rw (go is_last p.0 read) (ap (λ (z : Streaminfo). Done (record { info = z; unsupported = None }) m) same)
  where
    go : (q : Bool) (r : Option Comment) → cond (q || false) (done None) (others_at false 65535 None) n ≡ Done r m → cond q (done None) (found_blocks_at 65535 none_seen) n ≡ Done None m
    go true r e = let l : n ≡ m = cc in ap (λ (z : List ℕ). Done None z) l
    go false r e = found_blocks 65535 none_seen None r n m refl refl e
first_found_again is_last (Padding k) h n m e = absurd cc
first_found_again is_last (Application id bytes) h n m e = absurd cc
first_found_again is_last (Comments c) h n m e = absurd cc
first_found_again is_last Reserved h n m e = absurd cc

-- of a head of the format nothing is passed over
pub head_found : (h : Head) (front m : List ℕ) → HeadCode (with_samples true) h front → found_head_at (front ++ m) ≡ Done (record { info = h.info; unsupported = None }) m
unfolding found_head_at head_at
head_found h front m code =
    let s : List ℕ = front ++ m in
    let e = (Reads-head (with_samples true)).again h front m code in
    let p = bind_done (marker_at s) (λ k. λ n. bind (block_at n) (λ b. after_first (with_samples true) b.is_last b.content)) h m e in
    let q = bind_done (block_at p.1) (λ b. after_first (with_samples true) b.is_last b.content) h m p.3 in
    let is = block_found q.0 p.1 q.1 q.2 in
    found_read (record { info = h.info; unsupported = None }) p.0 (as_found q.0) s p.1 q.1 m p.2 is (first_found_again q.0.is_last q.0.content h q.1 m q.3)
