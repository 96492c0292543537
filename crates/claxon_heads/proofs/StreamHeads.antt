-- The head of a stream of which blocks may be passed over, in the steps of the code.
use Rattle.std.proofs.Common.{◌≡◌, ℕ, zero, suc, ◌+◌, ◌-◌, ◌<◌, ◌≤◌, ◌%◌, ◌^◌, Bool, true, false, cond, ltb, List, [], ◌∷◌, ◌++◌, length, Option, None, Some, refl, sym, ap, ◌∙◌, arith, append_assoc, length-append}
use Rattle.std.specs.Prelude.{Result, Ok, Err}
use Rattle.std.specs.Option.{option_or}
use Rattle.std.proofs.lemmas.Bool.{ltb-true, lt-ltb}
use Rattle.claxon_format.specs.Codes.{Each}
use Rattle.claxon_format.specs.Fault.{Fault, SecondStreaminfo, StreaminfoMissing, TooManyBlocks}
use Rattle.claxon_format.specs.Heads.{stream_marker}
use Rattle.claxon_format.specs.Metadata.{BlockHeader, BlockHeaderCode}
use Rattle.claxon_format.specs.MetadataBlocks.{Content, Info, Padding, Application, Comments, Reserved}
use Rattle.claxon_format.specs.Streaminfo.{Streaminfo}
use Rattle.claxon_format.specs.read.Bytes.{bytes_at}
use Rattle.claxon_format.specs.read.Heads.{marker_at}
use Rattle.claxon_format.specs.read.Metadata.{block_header_at}
use Rattle.claxon_format.specs.read.MetadataBlocks.{body_at}
use Rattle.claxon_format.specs.read.Reading.{Reading, Done, Faulty, Incomplete, bind, test, done}
use Rattle.claxon_format.proofs.Heads.{Reads-marker}
use Rattle.claxon_format.proofs.Metadata.{Reads-bytes}
use Rattle.claxon_input.specs.declared.error.Error.{Error}
use Rattle.claxon_input.specs.declared.error.Error.TheVariants.{IoError, FormatError, Unsupported, OutOfMemory}
use Rattle.claxon_input.specs.Error.{IsFault, is_io, is_out_of_memory}
use Rattle.claxon_input.specs.Gives.{Consumes, GivesOrOutOfMemory, IsFaultOf, ReadFailedOrRemaining, Stops}
use Rattle.claxon_input.specs.Promises.{ConsumesAtMost}
use Rattle.claxon_input.specs.Source.{Source}
use Rattle.claxon_input.specs.State.{State, RemainingIsKnown}
use Rattle.claxon_input.specs.declared.running.RunningReader.{RunningReader}
use Rattle.claxon_input.proofs.Promises.{fault_is}
use Rattle.claxon_input.proofs.ConsecutiveCalls.{StopsAs, consumes_map, consumes_then, failure_or_after, failure_or_known}
use Rattle.claxon_metadata.specs.MetadataBlock.{MayRunOutOfMemory, info_view}
use Rattle.claxon_metadata.specs.declared.metadata.streaminfo.StreamInfo.{StreamInfo}
use Rattle.claxon_metadata.proofs.ContentByType.{stops_with}
use Rattle.claxon_heads.specs.StreamHead.{FoundBlock, FoundBlockCode, FoundContent, HeadNeedsMemory, IsInfoOf, NeedsMemory, NeedsMemoryAfterBlocks, TellsWhy, after_first_found, first_found, found_block_at, found_blocks_at, found_content, found_content_at, found_head_at, is_found_info, left_at, none_seen, other_found_at, seen_after, unsupported_by}
use Rattle.claxon_heads.specs.BytesRead.{counted_bytes, position_of}
use Rattle.claxon_heads.specs.declared.bytes_read.BytesRead.{BytesRead}
use Rattle.claxon_heads.specs.declared.head.Seen.{Seen}
use Rattle.claxon_heads.specs.declared.head.UnsupportedBlock.{UnsupportedBlock}
use Rattle.claxon_heads.proofs.FoundHeads.{Reads-found_block}
use Rattle.claxon_heads.proofs.Positions.{front_of}

-- ---- content that is passed over

-- bytes, and more bytes
bytes_joined : (k n : ℕ) (s t m xs rest : List ℕ) → s ≡ t ++ m → length t + k ≡ n → bytes_at k m ≡ Done xs rest → bytes_at n s ≡ Done (t ++ xs) rest
bytes_joined k n s t m xs rest joined len e =
    let x = (Reads-bytes k).takes m xs rest e in
    let size : length xs ≡ k = x.1.0 in
    let m-is : m ≡ xs ++ rest = x.2 ∙ ap (λ (z : List ℕ). z ++ rest) x.1.1 in
    let s-is : s ≡ (t ++ xs) ++ rest = joined ∙ ap (λ (z : List ℕ). t ++ z) m-is ∙ sym (append_assoc t xs rest) in
    let all : length (t ++ xs) ≡ n = omega (arith, length-append t xs) in
    ap (bytes_at n) s-is ∙ (Reads-bytes n).again (t ++ xs) (t ++ xs) rest (all, refl)

is_short : (b : Bool) (xs rest : List ℕ) → cond b Incomplete (Done xs rest) ≡ Incomplete → b ≡ true
is_short true xs rest e = refl
is_short false xs rest e = absurd cc

-- too few of them
bytes_short : (k n : ℕ) (s t m : List ℕ) → s ≡ t ++ m → length t + k ≡ n → bytes_at k m ≡ Incomplete → bytes_at n s ≡ Incomplete
unfolding bytes_at
bytes_short k n s t m joined len e =
    let few : length m < k = ltb-true _ _ (is_short (ltb (length m) k) _ _ e) in
    let total : length s ≡ length t + length m = ap length joined ∙ length-append t m in
    let short : ltb (length s) n ≡ true = lt-ltb _ _ (omega arith) in
    rw short refl

-- A fault, and how many bytes of the content are left after it.
pub record FaultBefore (type n k : ℕ) (e : Error) (s m : List ℕ) : Type 0 where
  pub fault : Fault
  pub named : IsFault fault e
  pub is : body_at type n s ≡ Faulty fault m
  pub front : List ℕ
  pub joined : s ≡ front ++ m
  pub left : length front + k ≡ n

left_is : (n x y f left : ℕ) → x < 2 ^ 64 → n < 2 ^ 32 → f ≤ n → y % 2 ^ 64 ≡ (x + f) % 2 ^ 64 → left ≡ left_at n x y → f + left ≡ n
left_is n x y f left start small within at is = omega arith

-- by the positions before and after what was read of it
pub fault_before : {R : Type 0} (source : R → Source ℕ) (x y : RunningReader R BytesRead) (type n left : ℕ) (e : Error) → position_of x < 2 ^ 64 → n < 2 ^ 32 → ConsumesAtMost n (counted_bytes source x) (counted_bytes source y) → left ≡ left_at n (position_of x) (position_of y)
    → Consumes (counted_bytes source x) (counted_bytes source y) (λ s m. IsFaultOf e (body_at type n s) m) → Consumes (counted_bytes source x) (counted_bytes source y) (FaultBefore type n left e)
fault_before source x y type n left e start small most is h = record {
  errors = h.errors;
  empty_reads = h.empty_reads;
  loans = h.loans;
  known = λ t.
      let k = h.known t in
      let f = fault_is e (body_at type n (counted_bytes source x).remaining) (counted_bytes source y).remaining k.is in
      let front = front_of source x y h t in
      let total : length (counted_bytes source x).remaining ≡ length front.0 + length (counted_bytes source y).remaining = ap length front.1 ∙ length-append front.0 (counted_bytes source y).remaining in
      let within : length front.0 ≤ n = omega (arith, most, total) in
      record {
        known = k.known;
        is = record {
          fault = f.0;
          named = f.1;
          is = f.2;
          front = front.0;
          joined = front.1;
          left = left_is n (position_of x) (position_of y) (length front.0) left start small within front.2 is;
        };
        rest = k.rest;
        values = k.values;
      };
}

content_passed : (type n k : ℕ) (e : Error) (why : UnsupportedBlock) (s m xs rest : List ℕ) → TellsWhy e (Some why) → FaultBefore type n k e s m → bytes_at k m ≡ Done xs rest → found_content_at type n s ≡ Done (Err why) rest
unfolding found_content_at
content_passed type n k e why s m xs rest tells h p =
    let bytes = bytes_joined k n s h.front m xs rest h.joined h.left p in
    let kind : unsupported_by h.fault ≡ Some why = tells h.fault h.named in
    rw (h.is, kind, bytes) refl

content_short : (type n k : ℕ) (e : Error) (why : UnsupportedBlock) (s m : List ℕ) → TellsWhy e (Some why) → FaultBefore type n k e s m → bytes_at k m ≡ Incomplete → found_content_at type n s ≡ Incomplete
unfolding found_content_at
content_short type n k e why s m tells h p =
    let bytes = bytes_short k n s h.front m h.joined h.left p in
    let kind : unsupported_by h.fault ≡ Some why = tells h.fault h.named in
    rw (h.is, kind, bytes) refl

pub passes_over : {type n k : ℕ} {e : Error} {why : UnsupportedBlock} {xs : List ℕ} {a b c : State ℕ} → TellsWhy e (Some why) → Consumes a b (FaultBefore type n k e) → Consumes b c (λ s m. bytes_at k s ≡ Done xs m) → Consumes a c (λ s m. found_content_at type n s ≡ Done (Err why) m)
passes_over {type = type} {n = n} {k = k} {e = e} {why = why} {xs = xs} tells h w = consumes_then _ h w (λ p q. content_passed type n k e why _ _ xs _ tells p q)

pub ends_in_it : {type n k : ℕ} {e : Error} {why : UnsupportedBlock} {a b c : State ℕ} → TellsWhy e (Some why) → Consumes a b (FaultBefore type n k e) → ReadFailedOrRemaining b c (λ s. bytes_at k s ≡ Incomplete) → ReadFailedOrRemaining a c (λ s. found_content_at type n s ≡ Incomplete)
ends_in_it {type = type} {n = n} {k = k} {e = e} {why = why} tells h w = failure_or_after (λ s. found_content_at type n s ≡ Incomplete) h w (λ p q. content_short type n k e why _ _ tells p q)

-- ---- content that is read, or has another fault

pub content_read : (type n : ℕ) (content : Content) (s m : List ℕ) → body_at type n s ≡ Done content m → found_content_at type n s ≡ Done (Ok content) m
unfolding found_content_at
content_read type n content s m e = rw e refl

content_incomplete : (type n : ℕ) (s : List ℕ) → body_at type n s ≡ Incomplete → found_content_at type n s ≡ Incomplete
unfolding found_content_at
content_incomplete type n s e = rw e refl

content_faulty : (type n : ℕ) (e : Error) (s m : List ℕ) → TellsWhy e None → IsFaultOf e (body_at type n s) m → IsFaultOf e (found_content_at type n s) m
unfolding found_content_at
content_faulty type n e s m tells h = go (body_at type n s) h
  where
    go : (x : Reading ℕ Content) → IsFaultOf e x m → IsFaultOf e (found_content n s x) m
    go (Done content rest) h = absurd h
    go (Faulty f rest) h = rw (tells f h.0) h
    go Incomplete h = absurd h

pub other_fault : {A B : Type 0} (view : A → Content) (seen : B → FoundContent) (type n : ℕ) (e : Error) (a b : State ℕ) → TellsWhy e None → GivesOrOutOfMemory view (Err e) (body_at type n) a b → GivesOrOutOfMemory seen (Err e) (found_content_at type n) a b
other_fault view seen type n e a b tells h = go e tells h
  where
    stops : (e : Error) → TellsWhy e None → Stops e (body_at type n) a b → Stops e (found_content_at type n) a b
    stops e tells k = record {
      failure = λ i. failure_or_known (λ s. found_content_at type n s ≡ Incomplete) (k.failure i) (λ t p. content_incomplete type n a.remaining p);
      fault = λ i. consumes_map (λ s m. IsFaultOf e (found_content_at type n s) m) (k.fault i) (λ p. content_faulty type n e a.remaining b.remaining tells p);
      named = k.named;
    }

    go : (e : Error) → TellsWhy e None → GivesOrOutOfMemory view (Err e) (body_at type n) a b → GivesOrOutOfMemory seen (Err e) (found_content_at type n) a b
    go (IoError cause) tells h = stops (IoError cause) tells h
    go (FormatError text) tells h = stops (FormatError text) tells h
    go (Unsupported text) tells h = stops (Unsupported text) tells h
    go OutOfMemory tells h = h

-- an error of the bytes names their fault
pub named_fault : {X A Y : Type 0} (view : A → Y) (e : Error) (read : List X → Reading X Y) (a b : State X) → is_io e ≡ false → is_out_of_memory e ≡ false → GivesOrOutOfMemory view (Err e) read a b → Consumes a b (λ s m. IsFaultOf e (read s) m)
named_fault view (IoError cause) read a b io memory h = absurd cc
named_fault view (FormatError text) read a b io memory h = h.fault refl
named_fault view (Unsupported text) read a b io memory h = h.fault refl
named_fault view OutOfMemory read a b io memory h = absurd cc

-- ---- what was seen

pub or_same : (a b : Option UnsupportedBlock) → option_or a b ≡ first_found a b
or_same None b = refl
or_same (Some first) b = refl

-- ---- one of the blocks after the streaminfo

pub other_stops : (seen : Seen) (s : List ℕ) → StopsAs (found_block_at s) (other_found_at seen s)
unfolding other_found_at
other_stops seen s = stops_with _ refl

pub other_info : (seen : Seen) (b : FoundBlock) (s m : List ℕ) → found_block_at s ≡ Done b m → is_found_info b.content ≡ true → other_found_at seen s ≡ Faulty SecondStreaminfo m
unfolding other_found_at
other_info seen b s m e i = rw (e, i) refl

pub other_done : (seen : Seen) (b : FoundBlock) (s m : List ℕ) → found_block_at s ≡ Done b m → is_found_info b.content ≡ false → other_found_at seen s ≡ Done (b.is_last, seen_after seen b.content) m
unfolding other_found_at
other_done seen b s m e i = rw (e, i) refl

-- what is kept of one of them
abbrev other_of : Seen → FoundBlock → Bool × Seen
other_of seen b = (b.is_last, seen_after seen b.content)

tested : (k : ℕ) (seen next : Seen) (is_last : Bool) (b : FoundBlock) (rest m : List ℕ) (p : Bool) → cond p (Faulty SecondStreaminfo rest) (Done (other_of seen b) rest) ≡ Done (is_last, next) m
    → cond p (Faulty SecondStreaminfo rest) (cond b.is_last (done (seen_after seen b.content).unsupported) (found_blocks_at k (seen_after seen b.content)) rest) ≡ cond is_last (done next.unsupported) (found_blocks_at k next) m
tested k seen next is_last b rest m true e = absurd cc
tested k seen next is_last b rest m false e =
    let both : other_of seen b ≡ (is_last, next) = cc in
    let l : b.is_last ≡ is_last = ap (λ (z : Bool × Seen). z.0) both in
    let n : seen_after seen b.content ≡ next = ap (λ (z : Bool × Seen). z.1) both in
    let r : rest ≡ m = cc in
    rw (l, n, r) refl

-- where a block was read that isn't the last one, the others are read
other_then : (k : ℕ) (seen next : Seen) (is_last : Bool) (s m : List ℕ) → 0 < k → other_found_at seen s ≡ Done (is_last, next) m → found_blocks_at k seen s ≡ cond is_last (done next.unsupported) (found_blocks_at (k - 1) next) m
unfolding other_found_at found_blocks_at
other_then zero seen next is_last s m some e = absurd (omega arith)
other_then (suc k) seen next is_last s m some e =
    let o : suc k - 1 ≡ k = omega arith in
    rw o (go (found_block_at s) e)
  where
    go : (x : Reading ℕ FoundBlock) → bind x (λ b. test (is_found_info b.content) SecondStreaminfo (done (other_of seen b))) ≡ Done (is_last, next) m
        → bind x (λ b. test (is_found_info b.content) SecondStreaminfo (cond b.is_last (done (seen_after seen b.content).unsupported) (found_blocks_at k (seen_after seen b.content)))) ≡ cond is_last (done next.unsupported) (found_blocks_at k next) m
    go (Done b rest) h = tested k seen next is_last b rest m (is_found_info b.content) h
    go (Faulty f rest) h = absurd cc
    go Incomplete h = absurd cc

tested_stops : (seen : Seen) (b : FoundBlock) (rest : List ℕ) (p : Bool) (x : Reading ℕ (Option UnsupportedBlock)) → StopsAs (cond p (Faulty SecondStreaminfo rest) (Done (other_of seen b) rest)) (cond p (Faulty SecondStreaminfo rest) x)
tested_stops seen b rest true x = record { fault = λ f r e. cc; incomplete = λ e. absurd cc }
tested_stops seen b rest false x = record { fault = λ f r e. absurd cc; incomplete = λ e. absurd cc }

blocks_stop_here : (k : ℕ) (seen : Seen) (s : List ℕ) → 0 < k → StopsAs (other_found_at seen s) (found_blocks_at k seen s)
unfolding other_found_at found_blocks_at
blocks_stop_here zero seen s some = absurd (omega arith)
blocks_stop_here (suc k) seen s some = go (found_block_at s)
  where
    go : (x : Reading ℕ FoundBlock) → StopsAs (bind x (λ b. test (is_found_info b.content) SecondStreaminfo (done (other_of seen b))))
        (bind x (λ b. test (is_found_info b.content) SecondStreaminfo (cond b.is_last (done (seen_after seen b.content).unsupported) (found_blocks_at k (seen_after seen b.content)))))
    go (Done b rest) = tested_stops seen b rest (is_found_info b.content) _
    go (Faulty f rest) = record { fault = λ g r e. cc; incomplete = λ e. absurd cc }
    go Incomplete = record { fault = λ g r e. absurd cc; incomplete = λ e. refl }

-- ---- blocks that were read

-- s begins with so many blocks, and then m is left
abbrev pub BlocksBefore : ℕ → List ℕ → List ℕ → Type 0
BlocksBefore zero s m = s ≡ m
BlocksBefore (suc count) s m = (b : FoundBlock) × (n : List ℕ) × (found_block_at s ≡ Done b n) × BlocksBefore count n m

-- so many, whatever their number is
abbrev pub SomeBlocksBefore : List ℕ → List ℕ → Type 0
SomeBlocksBefore s m = (count : ℕ) × BlocksBefore count s m

before_push : (count : ℕ) (b : FoundBlock) (s m n : List ℕ) → BlocksBefore count s m → found_block_at m ≡ Done b n → BlocksBefore (suc count) s n
before_push zero b s m n h e = (b, n, rw h e, refl)
before_push (suc count) b s m n h e = (h.0, h.1, h.2, before_push count b h.1 m n h.3 e)

other_block : (seen : Seen) (y : Bool × Seen) (s m : List ℕ) → other_found_at seen s ≡ Done y m → (b : FoundBlock) × (found_block_at s ≡ Done b m)
unfolding other_found_at
other_block seen y s m e = go (found_block_at s) refl e
  where
    rest_is : (p : Bool) (b : FoundBlock) (rest : List ℕ) → cond p (Faulty SecondStreaminfo rest) (Done (other_of seen b) rest) ≡ Done y m → rest ≡ m
    rest_is true b rest e = absurd cc
    rest_is false b rest e = cc

    go : (x : Reading ℕ FoundBlock) → found_block_at s ≡ x → bind x (λ b. test (is_found_info b.content) SecondStreaminfo (done (other_of seen b))) ≡ Done y m → (b : FoundBlock) × (found_block_at s ≡ Done b m)
    go (Done b rest) q e = (b, q ∙ ap (λ (z : List ℕ). Done b z) (rest_is (is_found_info b.content) b rest e))
    go (Faulty f rest) q e = absurd cc
    go Incomplete q e = absurd cc

before_more : (seen : Seen) (y : Bool × Seen) (s m n : List ℕ) → SomeBlocksBefore s m → other_found_at seen m ≡ Done y n → SomeBlocksBefore s n
before_more seen y s m n h e = let b = other_block seen y m n e in (suc h.0, before_push h.0 b.0 s m n h.1 b.1)

-- So many blocks are still allowed, and this was seen.
pub record BlocksSoFar (most : ℕ) (seen : Seen) (old new : State ℕ) : Type 0 where
  pub so_far : Consumes old new (λ s m. found_blocks_at 65535 none_seen s ≡ found_blocks_at most seen m)
  pub before : Consumes old new SomeBlocksBefore

pub blocks_next : {most : ℕ} {seen : Seen} (is_last : Bool) (next : Seen) {a b c : State ℕ} → 0 < most → is_last ≡ false → BlocksSoFar most seen a b → Consumes b c (λ s m. other_found_at seen s ≡ Done (is_last, next) m) → BlocksSoFar (most - 1) next a c
blocks_next {most = most} {seen = seen} is_last next some going h k = record {
  so_far = consumes_then _ h.so_far k (λ p q. p ∙ other_then most seen next is_last _ _ some q ∙ rw going refl);
  before = consumes_then _ h.before k (λ p q. before_more seen (is_last, next) _ _ _ p q);
}

pub blocks_done : {most : ℕ} {seen : Seen} (is_last : Bool) (next : Seen) {a b c : State ℕ} → 0 < most → is_last ≡ true → BlocksSoFar most seen a b → Consumes b c (λ s m. other_found_at seen s ≡ Done (is_last, next) m) → Consumes a c (λ s m. found_blocks_at 65535 none_seen s ≡ Done next.unsupported m)
blocks_done {most = most} {seen = seen} is_last next some ends h k = consumes_then _ h.so_far k (λ p q. p ∙ other_then most seen next is_last _ _ some q ∙ rw ends refl)

pub blocks_stop : {most : ℕ} {seen : Seen} {a b : State ℕ} → 0 < most → BlocksSoFar most seen a b → Consumes a b (λ s m. StopsAs (other_found_at seen m) (found_blocks_at 65535 none_seen s))
blocks_stop {most = most} {seen = seen} {b = b} some h = consumes_map _ h.so_far (λ p. rw p (blocks_stop_here most seen b.remaining some))

blocks_end : (k : ℕ) (seen : Seen) (s : List ℕ) → k ≡ 0 → found_blocks_at k seen s ≡ Faulty TooManyBlocks s
unfolding found_blocks_at
blocks_end zero seen s e = refl
blocks_end (suc k) seen s e = absurd (omega arith)

pub blocks_too_many : {most : ℕ} {seen : Seen} {a b : State ℕ} → most ≡ 0 → BlocksSoFar most seen a b → Consumes a b (λ s m. found_blocks_at 65535 none_seen s ≡ Faulty TooManyBlocks m)
blocks_too_many {most = most} {seen = seen} {b = b} none h = consumes_map _ h.so_far (λ p. p ∙ blocks_end most seen b.remaining none)

-- ---- the whole head

pub marker_stops : (s : List ℕ) → StopsAs (marker_at s) (found_head_at s)
unfolding found_head_at
marker_stops s = stops_with _ refl

pub first_stops : (k : ℕ) (s m : List ℕ) → marker_at s ≡ Done k m → StopsAs (found_block_at m) (found_head_at s)
unfolding found_head_at
first_stops k s m e = stops_with (λ b. after_first_found b.is_last b.content) (rw e refl)

after_block : (k : ℕ) (b : FoundBlock) (s m n : List ℕ) → marker_at s ≡ Done k m → found_block_at m ≡ Done b n → found_head_at s ≡ after_first_found b.is_last b.content n
unfolding found_head_at
after_block k b s m n e f = rw (e, f) refl

first_missing : (is_last : Bool) (content : FoundContent) (n : List ℕ) → IsInfoOf content None → after_first_found is_last content n ≡ Faulty StreaminfoMissing n
unfolding after_first_found
first_missing is_last (Ok (Info i)) n h = absurd h
first_missing is_last (Ok (Padding k)) n h = refl
first_missing is_last (Ok (Application id bytes)) n h = refl
first_missing is_last (Ok (Comments c)) n h = refl
first_missing is_last (Ok Reserved) n h = refl
first_missing is_last (Err why) n h = refl

has_info : (content : FoundContent) (info : StreamInfo) → IsInfoOf content (Some info) → content ≡ Ok (Info (info_view info))
has_info (Ok (Info i)) info h = ap (λ (z : Streaminfo). Ok (Info z)) (sym h)
has_info (Ok (Padding k)) info h = absurd cc
has_info (Ok (Application id bytes)) info h = absurd cc
has_info (Ok (Comments c)) info h = absurd cc
has_info (Ok Reserved) info h = absurd cc
has_info (Err why) info h = absurd cc

-- The marker and a first block were read.
pub Begun : FoundBlock → List ℕ → List ℕ → Type 0
Begun b s n = (m : List ℕ) × (marker_at s ≡ Done stream_marker m) × (found_block_at m ≡ Done b n)

pub record HeadBegun (b : FoundBlock) (old new : State ℕ) : Type 0 where
  pub begun : Consumes old new (Begun b)

pub head_begun : {block : FoundBlock} {a b c : State ℕ} → Consumes a b (λ s m. marker_at s ≡ Done stream_marker m) → Consumes b c (λ s m. found_block_at s ≡ Done block m) → HeadBegun block a c
unfolding Begun
head_begun {b = b} h k = record { begun = consumes_then _ h k (λ p q. (b.remaining, p, q)) }

pub begun_missing : {block : FoundBlock} {a b : State ℕ} → IsInfoOf block.content None → HeadBegun block a b → Consumes a b (λ s m. found_head_at s ≡ Faulty StreaminfoMissing m)
unfolding Begun
begun_missing {block = block} {b = b} none h = consumes_map _ h.begun (λ p. after_block stream_marker block _ p.0 b.remaining p.1 p.2 ∙ first_missing block.is_last block.content b.remaining none)

short_head : (is_last : Bool) (content : FoundContent) (info : Streaminfo) (n : List ℕ) → is_last ≡ true → content ≡ Ok (Info info) → after_first_found is_last content n ≡ Done (record { info = info; unsupported = None }) n
unfolding after_first_found
short_head is_last content info n ends is = rw (ends, is) refl

pub begun_short : {block : FoundBlock} (info : StreamInfo) {a b : State ℕ} → IsInfoOf block.content (Some info) → block.is_last ≡ true → HeadBegun block a b → Consumes a b (λ s m. found_head_at s ≡ Done (record { info = info_view info; unsupported = None }) m)
unfolding Begun
begun_short {block = block} info {b = b} is ends h = consumes_map _ h.begun (λ p. after_block stream_marker block _ p.0 b.remaining p.1 p.2 ∙ short_head block.is_last block.content (info_view info) b.remaining ends (has_info block.content info is))

long_head : (is_last : Bool) (content : FoundContent) (info : Streaminfo) (n : List ℕ) → is_last ≡ false → content ≡ Ok (Info info) → after_first_found is_last content n ≡ bind (found_blocks_at 65535 none_seen n) (λ why. done (record { info = info; unsupported = why }))
unfolding after_first_found
long_head is_last content info n going is = rw (going, is) refl

pub begun_stops : {block : FoundBlock} (info : StreamInfo) {a b : State ℕ} → IsInfoOf block.content (Some info) → block.is_last ≡ false → HeadBegun block a b → Consumes a b (λ s m. StopsAs (found_blocks_at 65535 none_seen m) (found_head_at s))
unfolding Begun
begun_stops {block = block} info {b = b} is going h =
    consumes_map _ h.begun (λ p. stops_with (λ why. done (record { info = info_view info; unsupported = why })) (after_block stream_marker block _ p.0 b.remaining p.1 p.2 ∙ long_head block.is_last block.content (info_view info) b.remaining going (has_info block.content info is)))

pub begun_whole : {block : FoundBlock} (info : StreamInfo) (why : Option UnsupportedBlock) {a b c : State ℕ} → IsInfoOf block.content (Some info) → block.is_last ≡ false → HeadBegun block a b → Consumes b c (λ s m. found_blocks_at 65535 none_seen s ≡ Done why m)
    → Consumes a c (λ s m. found_head_at s ≡ Done (record { info = info_view info; unsupported = why }) m)
unfolding Begun
begun_whole {block = block} info why {b = b} is going h k =
    consumes_then _ h.begun k (λ p q. after_block stream_marker block _ p.0 b.remaining p.1 p.2 ∙ long_head block.is_last block.content (info_view info) b.remaining going (has_info block.content info is) ∙ rw q refl)

-- ---- out of memory

error_is_out_of_memory : {A : Type 0} (r : Result A Error) (e : Error) → (y : Error) × (r ≡ Err y) × (y ≡ e) → r ≡ Err OutOfMemory → e ≡ OutOfMemory
error_is_out_of_memory r e p h =
    let both : Err p.0 ≡ Err OutOfMemory = sym p.1 ∙ h in
    let same : p.0 ≡ OutOfMemory = cc both in
    sym p.2 ∙ same

-- an Err of a later call, after what was consumed
pub memory_later : {A B : Type 0} {r : Result A Error} {e : Error} {a b : State ℕ} {W : List ℕ → List ℕ → Type 0} (P Q : List ℕ → Type 0) → (y : Error) × (r ≡ Err y) × (y ≡ e) → Consumes a b W → ((let q : Result B Error = Err e in q) ≡ Err OutOfMemory → RemainingIsKnown b → P b.remaining) → (W a.remaining b.remaining → P b.remaining → Q a.remaining) → r ≡ Err OutOfMemory → RemainingIsKnown a → Q a.remaining
memory_later {r = r} {e = e} P Q p w h f out known =
    let x = w.known known in
    f x.is (h (ap (λ (z : Error). Err z) (error_is_out_of_memory r e p out)) x.known)

pub needs_after_header : (h : BlockHeader) (s m : List ℕ) → (t : List ℕ) × BlockHeaderCode h t × (s ≡ t ++ m) → MayRunOutOfMemory h.type h.length m → NeedsMemory s
needs_after_header h s m t may = (h, t.0, m, t.1, may, t.2)

-- their codes
blocks_of : (count : ℕ) (s m : List ℕ) → BlocksBefore count s m → (blocks : List FoundBlock) × (before : List ℕ) × Each FoundBlockCode blocks before × (s ≡ before ++ m)
blocks_of zero s m e = ([], [], refl, e)
blocks_of (suc count) s m h =
    let x = Reads-found_block.takes s h.0 h.1 h.2 in
    let k = blocks_of count h.1 m h.3 in
    (h.0 ∷ k.0, x.0 ++ k.1, (x.0, k.1, x.1, k.2, refl), x.2 ∙ ap (λ (z : List ℕ). x.0 ++ z) k.3 ∙ sym (append_assoc x.0 k.1 m))

pub needs_after_blocks : (s m : List ℕ) → SomeBlocksBefore s m → NeedsMemory m → NeedsMemoryAfterBlocks s
needs_after_blocks s m h needs = let k = blocks_of h.0 s m h.1 in (k.0, k.1, m, k.2, k.3, needs)

pub needs_after_marker : (s m : List ℕ) → marker_at s ≡ Done stream_marker m → NeedsMemory m → HeadNeedsMemory s
needs_after_marker s m e needs = let x = Reads-marker.takes s stream_marker m e in (x.0, m, x.1, x.2, ([], [], m, refl, refl, needs))

pub needs_after_first : (block : FoundBlock) (s m : List ℕ) → Begun block s m → NeedsMemoryAfterBlocks m → HeadNeedsMemory s
unfolding Begun
needs_after_first block s m h needs =
    let x = Reads-marker.takes s stream_marker h.0 h.1 in
    let y = Reads-found_block.takes h.0 block m h.2 in
    let joined : h.0 ≡ (y.0 ++ needs.1) ++ needs.2 = y.2 ∙ ap (λ (z : List ℕ). y.0 ++ z) needs.4 ∙ sym (append_assoc y.0 needs.1 needs.2) in
    (x.0, h.0, x.1, x.2, (block ∷ needs.0, y.0 ++ needs.1, needs.2, (y.0, needs.1, y.1, needs.3, refl), joined, needs.5))

-- ---- a block with its header

pub header_stops : (s : List ℕ) → StopsAs (block_header_at s) (found_block_at s)
unfolding found_block_at
header_stops s = stops_with _ refl

pub content_stops : (h : BlockHeader) (s m : List ℕ) → block_header_at s ≡ Done h m → StopsAs (found_content_at h.type h.length m) (found_block_at s)
unfolding found_block_at
content_stops h s m e = stops_with (λ content. done (record { is_last = h.is_last; content = content })) (rw e refl)

pub block_done : (h : BlockHeader) (content : FoundContent) (s m n : List ℕ) → block_header_at s ≡ Done h m → found_content_at h.type h.length m ≡ Done content n → found_block_at s ≡ Done (record { is_last = h.is_last; content = content }) n
unfolding found_block_at
block_done h content s m n e f = rw (e, f) refl
