-- The reader of a head, in the steps of the code.
use Rattle.std.proofs.Common.{◌≡◌, ℕ, zero, suc, ◌-◌, ◌<◌, Bool, true, false, cond, List, Option, None, Some, refl, ap, ◌∙◌, arith}
use Rattle.std.specs.Prelude.{◌&&◌, ◌||◌}
use Rattle.claxon_format.specs.MetadataBlocks.{Content, Info, MetadataBlock as Block}
use Rattle.claxon_format.specs.read.MetadataBlocks.{block_at}
use Rattle.claxon_format.specs.Comments.{Comment}
use Rattle.claxon_format.specs.Fault.{Fault, SecondComment, SecondStreaminfo, StreaminfoMissing, TooManyBlocks}
use Rattle.claxon_format.specs.Heads.{Options, Head, is_info, is_some, is_second, is_done, streaminfo_ends_head, found_with, stream_marker}
use Rattle.claxon_format.specs.read.Heads.{marker_at, others_at, after_first, head_at}
use Rattle.claxon_format.specs.read.Reading.{Reading, Done, Faulty, Incomplete, bind, test, done}
use Rattle.claxon_format.specs.Streaminfo.{Streaminfo}
use Rattle.std.specs.Option as Options
use Rattle.claxon_input.specs.State.{State}
use Rattle.claxon_input.specs.Gives.{Consumes}
use Rattle.claxon_input.proofs.ConsecutiveCalls.{consumes_then, consumes_map, StopsAs}
use Rattle.claxon_metadata.specs.MetadataBlock.{metadata_block_view, content_view, info_view}
use Rattle.claxon.specs.ReadHead.{comments_at, found_view, max_other_blocks, other_at}
use Rattle.claxon.proofs.HeadMemory.{ConsumesBlocks, consumes_blocks_both, consumes_other_block}
use Rattle.claxon_metadata.specs.declared.metadata.streaminfo.StreamInfo.{StreamInfo}
use Rattle.claxon_metadata.specs.declared.metadata.VorbisComment.{VorbisComment}
use Rattle.claxon_metadata.specs.declared.metadata.MetadataBlock.{MetadataBlock}
use Rattle.claxon_metadata.specs.declared.metadata.MetadataBlock.TheVariants.{StreamInfo as InfoBlock, Padding as PaddingBlock, Application as ApplicationBlock, SeekTable, VorbisComment as CommentBlock, CueSheet, Picture, Reserved as ReservedBlock}
use Rattle.claxon_metadata.proofs.ContentByType.{stops_with}

-- ---- one of the blocks after the streaminfo

pub other_stops : (found : Option Comment) (s : List ℕ) → StopsAs (block_at s) (other_at found s)
unfolding other_at
other_stops found s = stops_with _ refl

found_stops : (p q : Bool) (f g : Fault) (y : Option Comment) (z : Bool × Option Comment) (m : List ℕ) → StopsAs (cond p (Faulty f m) (cond q (Faulty g m) (Done y m))) (cond p (Faulty f m) (cond q (Faulty g m) (Done z m)))
found_stops true q f g y z m = record { fault = λ h rest e. cc; incomplete = λ e. absurd cc }
found_stops false true f g y z m = record { fault = λ h rest e. cc; incomplete = λ e. absurd cc }
found_stops false false f g y z m = record { fault = λ h rest e. absurd cc; incomplete = λ e. absurd cc }

found_done : (p q : Bool) (f g : Fault) (is_last : Bool) (y z : Option Comment) (m rest : List ℕ) → cond p (Faulty f m) (cond q (Faulty g m) (Done y m)) ≡ Done z rest → cond {A = Reading ℕ (Bool × Option Comment)} p (Faulty f m) (cond q (Faulty g m) (Done (is_last, y) m)) ≡ Done (is_last, z) rest
found_done true q f g is_last y z m rest e = absurd cc
found_done false true f g is_last y z m rest e = absurd cc
found_done false false f g is_last y z m rest e = cc

-- after the block
pub other_tested : (found : Option Comment) (b : Block) (s m : List ℕ) → block_at s ≡ Done b m → StopsAs (comments_at found b.content m) (other_at found s)
unfolding other_at
other_tested found b s m e = rw e (found_stops (is_info b.content) (is_second found b.content) SecondStreaminfo SecondComment (found_with found b.content) (b.is_last, found_with found b.content) m)

pub other_done : (found known : Option Comment) (b : Block) (s m rest : List ℕ) → block_at s ≡ Done b m → comments_at found b.content m ≡ Done known rest → other_at found s ≡ Done (b.is_last, known) rest
unfolding other_at
other_done found known b s m rest e k = rw e (found_done (is_info b.content) (is_second found b.content) SecondStreaminfo SecondComment b.is_last (found_with found b.content) known m rest k)

-- ---- what the code keeps of blocks

pub is_found : {A : Type 0} (found : Option (VorbisComment A)) → is_some (found_view found) ≡ Options.is_some found
is_found None = refl
is_found (Some comment) = refl

abbrev pub NoInfo : {A : Type 0} → MetadataBlock A → Type 0
NoInfo block = (info : StreamInfo) → block ≡ InfoBlock info → ⊥

pub not_info : {A : Type 0} (block : MetadataBlock A) → NoInfo block → is_info (content_view block) ≡ false
not_info (InfoBlock info) h = absurd (h info refl)
not_info (PaddingBlock n) h = refl
not_info (ApplicationBlock id bytes) h = refl
not_info (SeekTable table) h = refl
not_info (CommentBlock comment) h = refl
not_info CueSheet h = refl
not_info Picture h = refl
not_info ReservedBlock h = refl

pub not_second : {A : Type 0} (found : Option Comment) (block : MetadataBlock A) → ((comment : VorbisComment A) → block ≡ CommentBlock comment → ⊥) → (is_second found (content_view block) ≡ false) × (found_with found (content_view block) ≡ found)
not_second found (InfoBlock info) h = (refl, refl)
not_second found (PaddingBlock n) h = (refl, refl)
not_second found (ApplicationBlock id bytes) h = (refl, refl)
not_second found (SeekTable table) h = (refl, refl)
not_second found (CommentBlock comment) h = absurd (h comment refl)
not_second found CueSheet h = (refl, refl)
not_second found Picture h = (refl, refl)
not_second found ReservedBlock h = (refl, refl)

pub comments_second : (found : Option Comment) (c : Content) (s : List ℕ) → is_info c ≡ false → is_second found c ≡ true → comments_at found c s ≡ Faulty SecondComment s
comments_second found c s i k = rw (i, k) refl

pub comments_done : (found : Option Comment) (c : Content) (s : List ℕ) → is_info c ≡ false → is_second found c ≡ false → comments_at found c s ≡ Done (found_with found c) s
comments_done found c s i k = rw (i, k) refl

pub comments_kept : {A : Type 0} (found : Option Comment) (block : MetadataBlock A) (s : List ℕ) → NoInfo block → ((comment : VorbisComment A) → block ≡ CommentBlock comment → ⊥) → comments_at found (content_view block) s ≡ Done found s
comments_kept found block s h k =
    let n = not_second found block k in
    comments_done found (content_view block) s (not_info block h) n.0 ∙ ap (λ (z : Option Comment). Done z s) n.1

-- ---- all blocks after the streaminfo

-- what is kept of one of them
abbrev other_of : Option Comment → Block → Bool × Option Comment
other_of found b = (b.is_last, found_with found b.content)

-- where a block was read that doesn't end the head, the others are read
tested : (suffices : Bool) (k : ℕ) (found next : Option Comment) (is_last : Bool) (b : Block) (rest m : List ℕ) (p q : Bool)
    → cond p (Faulty SecondStreaminfo rest) (cond q (Faulty SecondComment rest) (Done (other_of found b) rest)) ≡ Done (is_last, next) m
    → cond p (Faulty SecondStreaminfo rest) (cond q (Faulty SecondComment rest) (cond (is_done suffices found b) (done (found_with found b.content)) (others_at suffices k (found_with found b.content)) rest))
    ≡ cond (is_last || (suffices && is_some next)) (done next) (others_at suffices k next) m
tested suffices k found next is_last b rest m true q e = absurd cc
tested suffices k found next is_last b rest m false true e = absurd cc
tested suffices k found next is_last b rest m false false e =
    let both : other_of found b ≡ (is_last, next) = cc in
    let l : b.is_last ≡ is_last = ap (λ (z : Bool × Option Comment). z.0) both in
    let f : found_with found b.content ≡ next = ap (λ (z : Bool × Option Comment). z.1) both in
    let r : rest ≡ m = cc in
    rw (l, f, r) refl

other_then : (suffices : Bool) (k : ℕ) (found next : Option Comment) (is_last : Bool) (s m : List ℕ) → 0 < k → other_at found s ≡ Done (is_last, next) m
    → others_at suffices k found s ≡ cond (is_last || (suffices && is_some next)) (done next) (others_at suffices (k - 1) next) m
unfolding other_at others_at
other_then suffices zero found next is_last s m some e = absurd (omega arith)
other_then suffices (suc k) found next is_last s m some e =
    let o : suc k - 1 ≡ k = omega arith in
    rw o (go (block_at s) e)
  where
    go : (x : Reading ℕ Block) → bind x (λ b. test (is_info b.content) SecondStreaminfo (test (is_second found b.content) SecondComment (done (other_of found b)))) ≡ Done (is_last, next) m
        → bind x (λ b. test (is_info b.content) SecondStreaminfo (test (is_second found b.content) SecondComment (cond (is_done suffices found b) (done (found_with found b.content)) (others_at suffices k (found_with found b.content)))))
        ≡ cond (is_last || (suffices && is_some next)) (done next) (others_at suffices k next) m
    go (Done b rest) h = tested suffices k found next is_last b rest m (is_info b.content) (is_second found b.content) h
    go (Faulty f rest) h = absurd cc
    go Incomplete h = absurd cc

tested_stops : (suffices : Bool) (k : ℕ) (found : Option Comment) (b : Block) (rest : List ℕ) (p q : Bool) (x : Reading ℕ (Option Comment))
    → StopsAs (cond p (Faulty SecondStreaminfo rest) (cond q (Faulty SecondComment rest) (Done (other_of found b) rest))) (cond p (Faulty SecondStreaminfo rest) (cond q (Faulty SecondComment rest) x))
tested_stops suffices k found b rest true q x = record { fault = λ f r e. cc; incomplete = λ e. absurd cc }
tested_stops suffices k found b rest false true x = record { fault = λ f r e. cc; incomplete = λ e. absurd cc }
tested_stops suffices k found b rest false false x = record { fault = λ f r e. absurd cc; incomplete = λ e. absurd cc }

others_stops : (suffices : Bool) (k : ℕ) (found : Option Comment) (s : List ℕ) → 0 < k → StopsAs (other_at found s) (others_at suffices k found s)
unfolding other_at others_at
others_stops suffices zero found s some = absurd (omega arith)
others_stops suffices (suc k) found s some = go (block_at s)
  where
    go : (x : Reading ℕ Block)
        → StopsAs (bind x (λ b. test (is_info b.content) SecondStreaminfo (test (is_second found b.content) SecondComment (done (other_of found b)))))
        (bind x (λ b. test (is_info b.content) SecondStreaminfo (test (is_second found b.content) SecondComment (cond (is_done suffices found b) (done (found_with found b.content)) (others_at suffices k (found_with found b.content))))))
    go (Done b rest) = tested_stops suffices k found b rest (is_info b.content) (is_second found b.content) _
    go (Faulty f rest) = record { fault = λ g r e. cc; incomplete = λ e. absurd cc }
    go Incomplete = record { fault = λ g r e. absurd cc; incomplete = λ e. refl }

-- this many blocks are still allowed, and these comments were found
pub record OthersSoFar (suffices : Bool) (most : ℕ) (found : Option Comment) (old new : State ℕ) : Type 0 where
  pub so_far : Consumes old new (λ s m. others_at suffices max_other_blocks None s ≡ others_at suffices most found m)
  pub consumed_blocks : Consumes old new ConsumesBlocks

pub others_next : {suffices : Bool} {most : ℕ} {found : Option Comment} (is_last : Bool) (next : Option Comment) {a b c : State ℕ} → 0 < most → (is_last || (suffices && is_some next)) ≡ false → OthersSoFar suffices most found a b
    → Consumes b c (λ s m. other_at found s ≡ Done (is_last, next) m) → OthersSoFar suffices (most - 1) next a c
others_next {suffices = suffices} {most = most} {found = found} is_last next some going h k =
    record {
      so_far = consumes_then _ h.so_far k (λ p q. p ∙ other_then suffices most found next is_last _ _ some q ∙ rw going refl);
      consumed_blocks = consumes_then _ h.consumed_blocks k (λ p q. consumes_blocks_both p (consumes_other_block found (is_last, next) _ _ q));
    }

pub others_done : {suffices : Bool} {most : ℕ} {found : Option Comment} (is_last : Bool) (next : Option Comment) {a b c : State ℕ} → 0 < most → (is_last || (suffices && is_some next)) ≡ true → OthersSoFar suffices most found a b
    → Consumes b c (λ s m. other_at found s ≡ Done (is_last, next) m) → Consumes a c (λ s m. others_at suffices max_other_blocks None s ≡ Done next m)
others_done {suffices = suffices} {most = most} {found = found} is_last next some ends h k =
    consumes_then _ h.so_far k (λ p q. p ∙ other_then suffices most found next is_last _ _ some q ∙ rw ends refl)

pub others_stop : {suffices : Bool} {most : ℕ} {found : Option Comment} {a b : State ℕ} → 0 < most → OthersSoFar suffices most found a b → Consumes a b (λ s m. StopsAs (other_at found m) (others_at suffices max_other_blocks None s))
others_stop {suffices = suffices} {most = most} {found = found} {b = b} some h = consumes_map _ h.so_far (λ p. rw p (others_stops suffices most found b.remaining some))

others_end : (suffices : Bool) (k : ℕ) (found : Option Comment) (s : List ℕ) → k ≡ 0 → others_at suffices k found s ≡ Faulty TooManyBlocks s
unfolding others_at
others_end suffices zero found s e = refl
others_end suffices (suc k) found s e = absurd (omega arith)

pub others_too_many : {suffices : Bool} {most : ℕ} {found : Option Comment} {a b : State ℕ} → most ≡ 0 → OthersSoFar suffices most found a b → Consumes a b (λ s m. others_at suffices max_other_blocks None s ≡ Faulty TooManyBlocks m)
others_too_many {suffices = suffices} {most = most} {found = found} {b = b} none h = consumes_map _ h.so_far (λ p. p ∙ others_end suffices most found b.remaining none)

-- ---- the whole head

pub marker_stops : (o : Options) (s : List ℕ) → StopsAs (marker_at s) (head_at o s)
unfolding head_at
marker_stops o s = stops_with _ refl

pub first_stops : (o : Options) (k : ℕ) (s m : List ℕ) → marker_at s ≡ Done k m → StopsAs (block_at m) (head_at o s)
unfolding head_at
first_stops o k s m e = stops_with (λ b. after_first o b.is_last b.content) (rw e refl)

after_block : (o : Options) (k : ℕ) (b : Block) (s m n : List ℕ) → marker_at s ≡ Done k m → block_at m ≡ Done b n → head_at o s ≡ after_first o b.is_last b.content n
unfolding head_at
after_block o k b s m n e f = rw (e, f) refl

first_missing : {A : Type 0} (o : Options) (is_last : Bool) (block : MetadataBlock A) (n : List ℕ) → NoInfo block → after_first o is_last (content_view block) n ≡ Faulty StreaminfoMissing n
unfolding after_first
first_missing o is_last (InfoBlock info) n h = absurd (h info refl)
first_missing o is_last (PaddingBlock k) n h = refl
first_missing o is_last (ApplicationBlock id bytes) n h = refl
first_missing o is_last (SeekTable table) n h = refl
first_missing o is_last (CommentBlock comment) n h = refl
first_missing o is_last CueSheet n h = refl
first_missing o is_last Picture n h = refl
first_missing o is_last ReservedBlock n h = refl

pub no_streaminfo : {A : Type 0} (o : Options) (k : ℕ) (is_last : Bool) (block : MetadataBlock A) (s m n : List ℕ) → NoInfo block → marker_at s ≡ Done k m → block_at m ≡ Done (metadata_block_view is_last block) n → head_at o s ≡ Faulty StreaminfoMissing n
no_streaminfo o k is_last block s m n h e f = after_block o k (metadata_block_view is_last block) s m n e f ∙ first_missing o is_last block n h

-- the streaminfo, and what is shown of the blocks after it
abbrev pub head_with : Options → Streaminfo → Option Comment → Head
head_with o info found = record { info = info; comment = cond o.wants_comment found None }

pub streaminfo_only : (o : Options) (k : ℕ) (is_last : Bool) (info : Streaminfo) (s m n : List ℕ) → streaminfo_ends_head o is_last ≡ true → marker_at s ≡ Done k m → block_at m ≡ Done (record { is_last = is_last; content = Info info }) n
    → head_at o s ≡ Done (head_with o info None) n
unfolding after_first
streaminfo_only o k is_last info s m n short e f = after_block o k (record { is_last = is_last; content = Info info }) s m n e f ∙ rw short refl

head_with_blocks : (o : Options) (k : ℕ) (is_last : Bool) (info : Streaminfo) (s m n : List ℕ) → streaminfo_ends_head o is_last ≡ false → marker_at s ≡ Done k m → block_at m ≡ Done (record { is_last = is_last; content = Info info }) n
    → head_at o s ≡ bind (others_at o.metadata_only max_other_blocks None n) (λ found. done (head_with o info found))
unfolding after_first
head_with_blocks o k is_last info s m n long e f = after_block o k (record { is_last = is_last; content = Info info }) s m n e f ∙ rw long refl

pub later_stops : (o : Options) (k : ℕ) (is_last : Bool) (info : Streaminfo) (s m n : List ℕ) → streaminfo_ends_head o is_last ≡ false → marker_at s ≡ Done k m → block_at m ≡ Done (record { is_last = is_last; content = Info info }) n
    → StopsAs (others_at o.metadata_only max_other_blocks None n) (head_at o s)
later_stops o k is_last info s m n long e f = stops_with (λ found. done (head_with o info found)) (head_with_blocks o k is_last info s m n long e f)

pub head_whole : (o : Options) (k : ℕ) (is_last : Bool) (info : Streaminfo) (found : Option Comment) (s m n rest : List ℕ) → streaminfo_ends_head o is_last ≡ false → marker_at s ≡ Done k m → block_at m ≡ Done (record { is_last = is_last; content = Info info }) n
    → others_at o.metadata_only max_other_blocks None n ≡ Done found rest → head_at o s ≡ Done (head_with o info found) rest
head_whole o k is_last info found s m n rest long e f q = head_with_blocks o k is_last info s m n long e f ∙ rw q refl

-- ---- after the marker and the streaminfo

Begun : Bool → Streaminfo → List ℕ → List ℕ → Type 0
Begun is_last info s n = (m : List ℕ) × (marker_at s ≡ Done stream_marker m) × (block_at m ≡ Done (record { is_last = is_last; content = Info info }) n)

pub record HeadBegun (is_last : Bool) (info : Streaminfo) (old new : State ℕ) : Type 0 where
  begun : Consumes old new (Begun is_last info)

pub head_begun : {A : Type 0} {is_last : Bool} {block : MetadataBlock A} (info : StreamInfo) {a b c : State ℕ} → block ≡ InfoBlock info → Consumes a b (λ s m. marker_at s ≡ Done stream_marker m)
    → Consumes b c (λ s m. block_at s ≡ Done (metadata_block_view is_last block) m) → HeadBegun is_last (info_view info) a c
unfolding Begun
head_begun info {b = b} e h k = record { begun = consumes_then _ h k (λ p q. (b.remaining, p, rw e at q)) }

shown_none : (wants : Bool) → cond wants None None ≡ (let none : Option Comment = None in none)
shown_none true = refl
shown_none false = refl

pub begun_short : (o : Options) {is_last : Bool} {info : Streaminfo} {a b : State ℕ} → streaminfo_ends_head o is_last ≡ true → HeadBegun is_last info a b → Consumes a b (λ s m. head_at o s ≡ Done (record { info = info; comment = None }) m)
unfolding Begun
begun_short o {is_last = is_last} {info = info} {b = b} short h =
    consumes_map _ h.begun (λ p. streaminfo_only o stream_marker is_last info _ p.0 b.remaining short p.1 p.2 ∙ ap (λ (z : Option Comment). Done (record { info = info; comment = z }) b.remaining) (shown_none o.wants_comment))

pub begun_stops : (o : Options) {is_last : Bool} {info : Streaminfo} {a b : State ℕ} → streaminfo_ends_head o is_last ≡ false → HeadBegun is_last info a b → Consumes a b (λ s m. StopsAs (others_at o.metadata_only max_other_blocks None m) (head_at o s))
unfolding Begun
begun_stops o {is_last = is_last} {info = info} {b = b} long h = consumes_map _ h.begun (λ p. later_stops o stream_marker is_last info _ p.0 b.remaining long p.1 p.2)

begun_whole : (o : Options) {is_last : Bool} {info : Streaminfo} {a b c : State ℕ} (found shown : Option Comment) → streaminfo_ends_head o is_last ≡ false → cond o.wants_comment found None ≡ shown → HeadBegun is_last info a b
    → Consumes b c (λ s m. others_at o.metadata_only max_other_blocks None s ≡ Done found m) → Consumes a c (λ s m. head_at o s ≡ Done (record { info = info; comment = shown }) m)
unfolding Begun
begun_whole o {is_last = is_last} {info = info} {b = b} {c = c} found shown long e h k =
    consumes_then _ h.begun k (λ p q. head_whole o stream_marker is_last info found _ p.0 b.remaining c.remaining long p.1 p.2 q ∙ ap (λ (z : Option Comment). Done (record { info = info; comment = z }) c.remaining) e)

pub begun_with : (o : Options) {is_last : Bool} {info : Streaminfo} {a b c : State ℕ} (found : Option Comment) → streaminfo_ends_head o is_last ≡ false → o.wants_comment ≡ true → HeadBegun is_last info a b
    → Consumes b c (λ s m. others_at o.metadata_only max_other_blocks None s ≡ Done found m) → Consumes a c (λ s m. head_at o s ≡ Done (record { info = info; comment = found }) m)
begun_with o found long requested h k = begun_whole o found found long (rw requested refl) h k

pub begun_without : (o : Options) {is_last : Bool} {info : Streaminfo} {a b c : State ℕ} (found : Option Comment) → streaminfo_ends_head o is_last ≡ false → o.wants_comment ≡ false → HeadBegun is_last info a b
    → Consumes b c (λ s m. others_at o.metadata_only max_other_blocks None s ≡ Done found m) → Consumes a c (λ s m. head_at o s ≡ Done (record { info = info; comment = None }) m)
begun_without o found long requested h k = begun_whole o found None long (rw requested refl) h k
