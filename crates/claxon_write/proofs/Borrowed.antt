-- Reads through a mutable reference are reads of its target.
use Rattle.std.specs.Borrow.{GName, MutBor}
use Rattle.claxon.specs.Source.{Source, through_loan}
use Rattle.std.proofs.Common.{◌≡◌, inl, inr, ℕ, ◌+◌, true, List, [], ◌∷◌, ◌++◌, Option, None, Some, ap, subst, ◌∙◌, append-nil, arith}
use Rattle.std.specs.Prelude.{IfErr, IfOk, OnErr, OnOk, ◌⊎◌, Result, Ok, Err}
use Rattle.std.specs.Result.{result_and}
use Rattle.claxon.specs.Frame.{StreamFormat, Block}
use Rattle.claxon.specs.read.Frame.{frame_bytes_at}
use Rattle.claxon.specs.read.Reading.{Reading}
use Rattle.claxon.specs.Errors.{Error}
use Rattle.claxon.specs.Errors.TheVariants.{IoError, FormatError, Unsupported, OutOfMemory}
use Rattle.claxon.specs.Gives.{ReadFailedOr, Stops, ReadFailedOrRemaining, Consumes, ReachedEof, GivesOrEofOrOutOfMemory}
use Rattle.claxon.specs.Error.{IsIo, is_io}
use Rattle.claxon.specs.State.{State, bytes_in}
use Rattle.claxon.specs.Promises.{IsOutOfMemory, Remains, NoneIsEof}
use Rattle.claxon.specs.Block.{BlockValue}
use Rattle.claxon.specs.FrameReader.{ReadsFrame, block_view, stream_with}
use Rattle.claxon.specs.StreamInfos.{StreamInfo}
use Rattle.claxon.specs.SampleRuns.{ConsumesFrames, ReadsFrames, lent, samples_of}
use Rattle.claxon_write.specs.Decoded.{EndsAfter, Gathers, Decodes, DecodesToEof, FailsToDecode, FailsToWrite, StopsAtLargerBlock, StopsDecoding, ConsumesFramesOrEnd, last_bytes}
use Rattle.claxon_write.specs.SampleBytes.{bytes_of_samples}
use Rattle.claxon_write.specs.Capacity.{capacity}
use Rattle.claxon_write.specs.Written.{AppendsAllBut, FailsToPut, OneFlushFailed, IsFlushed, IsUnflushed, KeepsContents, NonePending, NothingFailed, Puts, writer_contents, contents_with_pending, pending}
use Rattle.claxon_write.specs.declared.output.Output.{Output}
use Rattle.claxon_write.specs.declared.stream.End.{End}
use Rattle.claxon_write.proofs.Counts.{flush_failed_after, flushed_after, none_failed_both}
use Rattle.claxon_write.proofs.Puts.{puts_both, puts_as, fails_after, fails_close, fewer, contents_alone, appends_keeps}

rest_of : List GName → List GName
rest_of [] = []
rest_of (n ∷ names) = names

-- without the outermost loan
pub unborrowed : {X : Type 0} → State X → State X
unborrowed s = record s { source = record s.source { loans = rest_of s.source.loans } }

module _ {X : Type 0} {a b : State X} where
  consumes_unborrowed : {P : List X → List X → Type 0} → Consumes a b P → Consumes (unborrowed a) (unborrowed b) P
  unfolding unborrowed
  consumes_unborrowed h = record { errors = h.errors; empty_reads = h.empty_reads; loans = ap rest_of h.loans; known = λ t. let x = h.known t in record { known = x.known; is = x.is; rest = x.rest; values = x.values } }

  failed_or_unborrowed : {P : Type 0} → ReadFailedOr a b P → ReadFailedOr (unborrowed a) (unborrowed b) P
  unfolding unborrowed
  failed_or_unborrowed h = record { known = h.known; why = h.why; rest = h.rest }

  failure_or_unborrowed : {P : List X → Type 0} → ReadFailedOrRemaining a b P → ReadFailedOrRemaining (unborrowed a) (unborrowed b) P
  unfolding unborrowed
  failure_or_unborrowed h = record { loans = ap rest_of h.loans; known = λ t. failed_or_unborrowed (h.known t) }

  stops_unborrowed : {Y : Type 0} {e : Error} {read : List X → Reading X Y} → Stops e read a b → Stops e read (unborrowed a) (unborrowed b)
  stops_unborrowed h = record { failure = λ i. failure_or_unborrowed (h.failure i); fault = λ i. consumes_unborrowed (h.fault i); named = h.named }

  eof_unborrowed : {k : ℕ} → ReachedEof k a b → ReachedEof k (unborrowed a) (unborrowed b)
  unfolding unborrowed
  eof_unborrowed h = record { errors = h.errors; loans = ap rest_of h.loans; known = λ t. let x = h.known t in record { known = x.known; is = x.is; rest = x.rest; values = x.values } }

module _ {X : Type 0} {a : State X} where
  remains_unborrowed : {xs : List X} → Remains a xs → Remains (unborrowed a) xs
  unfolding unborrowed
  remains_unborrowed c = record { known = c.known; are = c.are }

  remains_borrowed : {xs : List X} → Remains (unborrowed a) xs → Remains a xs
  unfolding unborrowed
  remains_borrowed c = record { known = c.known; are = c.are }

gives_unborrowed : {X A Y : Type 0} (k : ℕ) (view : A → Y) (r : Result (Option A) Error) (read : List X → Reading X Y) (a b : State X) → GivesOrEofOrOutOfMemory k view r read a b → GivesOrEofOrOutOfMemory k view r read (unborrowed a) (unborrowed b)
gives_unborrowed k view (Ok (Some x)) read a b g = consumes_unborrowed g
gives_unborrowed k view (Ok None) read a b g = eof_unborrowed g
gives_unborrowed k view (Err OutOfMemory) read a b g = record { consumed = consumes_unborrowed g.consumed }
gives_unborrowed k view (Err (IoError cause)) read a b g = stops_unborrowed g
gives_unborrowed k view (Err (FormatError text)) read a b g = stops_unborrowed g
gives_unborrowed k view (Err (Unsupported text)) read a b g = stops_unborrowed g

at_eof_unborrowed : (a b : State ℕ) (r : Result (Option BlockValue) Error) → NoneIsEof 2 r a b → NoneIsEof 2 r (unborrowed a) (unborrowed b)
unfolding unborrowed
at_eof_unborrowed a b (Ok found) h = λ e known. let p = h e known in (p.0, remains_unborrowed p.1)
at_eof_unborrowed a b (Err e) h = tt

reads_unborrowed : {stream : Option StreamFormat} {r : Result (Option BlockValue) Error} {a b : State ℕ} → ReadsFrame stream r a b → ReadsFrame stream r (unborrowed a) (unborrowed b)
unfolding unborrowed
reads_unborrowed {stream = stream} {r = r} {a = a} {b = b} h = let p = h.promises in record {
  promises = record {
    is_sound = p.is_sound;
    is_complete = λ y t rest c o. elim (p.is_complete y t rest c (remains_borrowed o)) [ inl q ↦ inl (q.0, remains_unborrowed q.1) | inr q ↦ inr q ];
    none_is_eof = at_eof_unborrowed a b r p.none_is_eof;
    eof_is_none = λ xs o few. elim (p.eof_is_none xs (remains_borrowed o) few) [ inl q ↦ inl (q.0, remains_unborrowed q.1) | inr q ↦ inr q ];
    failure_is_err = p.failure_is_err;
    fault_is_sound = p.fault_is_sound;
    fault_is_complete = λ f t rest c o. elim (p.fault_is_complete f t rest c (remains_borrowed o)) [ inl q ↦ inl (q.0, remains_unborrowed q.1) | inr q ↦ inr q ];
    else_io_error = p.else_io_error;
    leaves_rest = p.leaves_rest;
  };
  memory = h.memory;
  gives = gives_unborrowed 2 block_view r (frame_bytes_at stream) a b h.gives;
}

takes_unborrowed : {stream : Option StreamFormat} {blocks : List Block} {a b : State ℕ} → ConsumesFrames stream blocks a b → ConsumesFrames stream blocks (unborrowed a) (unborrowed b)
takes_unborrowed h = record { consumed = consumes_unborrowed h.consumed }

runs_unborrowed : {stream : Option StreamFormat} {blocks : List Block} {r : Result (Option BlockValue) Error} {a b : State ℕ} → ReadsFrames stream blocks r a b → ReadsFrames stream blocks r (unborrowed a) (unborrowed b)
runs_unborrowed h = record { between = unborrowed h.between; blocks_are = takes_unborrowed h.blocks_are; last = reads_unborrowed h.last }

ends_unborrowed : (stream : Option StreamFormat) (blocks : List Block) (end : Option Error) (a b : State ℕ) → EndsAfter stream blocks end a b → EndsAfter stream blocks end (unborrowed a) (unborrowed b)
ends_unborrowed stream blocks None a b h = runs_unborrowed h
ends_unborrowed stream blocks (Some e) a b (inl h) = inl (runs_unborrowed h)
ends_unborrowed stream blocks (Some e) a b (inr h) = inr (record { is_limit = h.is_limit; last = h.last; frames = takes_unborrowed h.frames; many = h.many })

blocks_unborrowed : (stream : Option StreamFormat) (blocks : List Block) (a b : State ℕ) → ConsumesFramesOrEnd stream blocks a b → ConsumesFramesOrEnd stream blocks (unborrowed a) (unborrowed b)
blocks_unborrowed stream blocks a b (inl h) = inl (takes_unborrowed h)
blocks_unborrowed stream blocks a b (inr h) = inr (h.0, ends_unborrowed stream blocks h.0 a b h.1)

larger_unborrowed : {stream : Option StreamFormat} {a b : State ℕ} → StopsAtLargerBlock stream a b → StopsAtLargerBlock stream (unborrowed a) (unborrowed b)
unfolding unborrowed
larger_unborrowed h = record { blocks = h.blocks; size = h.size; between = unborrowed h.between; frames = takes_unborrowed h.frames; at_most = h.at_most; header = h.header }

-- ---- all gathered bytes were written

module _ {W : Type 0} {contents : W → Option (List ℕ)} {stream : Option StreamFormat} where
  pub decoded : {n : ℕ} (end : Option Error) {a b : State ℕ} {x y z : Output W} → Gathers contents stream end n a b x y → Puts contents [] y z → NonePending z → Decodes contents stream end n (unborrowed a) (unborrowed b) x z × NothingFailed x z
  decoded end {a = a} {b = b} {x = x} {z = z} h k none =
      let p = puts_as (append-nil (bytes_of_samples (samples_of h.blocks))) (puts_both h.puts k) in
      (record { blocks = h.blocks; ends = ends_unborrowed stream h.blocks end a b h.ends; count = h.count; written = contents_alone (contents_with_pending contents x) (writer_contents contents z) (pending z) (bytes_of_samples (samples_of h.blocks)) none p.bytes_are; none_pending = none }, p.nothing_failed)

  pub fails_after_gathering : {n : ℕ} (end : Option Error) {error : Error} {a b : State ℕ} {x y z : Output W} → Gathers contents stream end n a b x y → FailsToPut contents [] error y z → IsUnflushed x z → FailsToWrite contents stream error (unborrowed a) (unborrowed b) x z
  fails_after_gathering end {a = a} {b = b} {x = x} {z = z} h k u =
      let p = fails_after h.puts k in
      let n : ℕ = capacity + last_bytes h.blocks in
      let close : AppendsAllBut n (writer_contents contents x) (writer_contents contents z) (pending x ++ (bytes_of_samples (samples_of h.blocks) ++ [])) = fewer capacity n (writer_contents contents x) (writer_contents contents z) (pending x ++ (bytes_of_samples (samples_of h.blocks) ++ [])) (omega arith) (fails_close h.puts k) in
      record { is_io = p.is_io; failed = p.failed; unflushed = u; blocks = h.blocks; takes = inr (end, ends_unborrowed stream h.blocks end a b h.ends); prefix = subst (λ (l : List ℕ). AppendsAllBut n (writer_contents contents x) (writer_contents contents z) (pending x ++ l)) (append-nil (bytes_of_samples (samples_of h.blocks))) close; none_pending = p.none_pending }

  pub fails_unborrowed_too : {error : Error} {a b : State ℕ} {x y : Output W} → FailsToWrite contents stream error a b x y → FailsToWrite contents stream error (unborrowed a) (unborrowed b) x y
  fails_unborrowed_too {a = a} {b = b} h = record { is_io = h.is_io; failed = h.failed; unflushed = h.unflushed; blocks = h.blocks; takes = blocks_unborrowed stream h.blocks a b h.takes; prefix = h.prefix; none_pending = h.none_pending }

-- memory was refused at a larger block
pub larger_through : {R : Type 0} (source : R → Source ℕ) {stream known : Option StreamFormat} (r s q : MutBor R) → s ≡ r → stream ≡ known → (end : End) (o : Result (Unit {0}) Error)
    → (end.fault ≡ Some OutOfMemory → StopsAtLargerBlock stream (bytes_in (lent source) s) (bytes_in (lent source) q))
    → IfOk (result_and o (Ok end)) (λ end. end.fault ≡ Some OutOfMemory → StopsAtLargerBlock known (bytes_in source r.now) (bytes_in source q.now))
unfolding unborrowed bytes_in rest_of
larger_through source r s q at same end (Ok done) h = λ out. rw (← at, ← same) (larger_unborrowed (h out))
larger_through source r s q at same end (Err e) h = tt

module _ {R : Type 0} (source : R → Source ℕ) {stream known : Option StreamFormat} {blocks : List Block} (r s q : MutBor R) (at : s ≡ r) (same : stream ≡ known) where
  -- frames that were read through the reference
  pub takes_through : ConsumesFrames stream blocks (bytes_in (lent source) s) (bytes_in (lent source) q) → ConsumesFrames known blocks (bytes_in source r.now) (bytes_in source q.now)
  unfolding unborrowed bytes_in rest_of
  takes_through h = rw (← at, ← same) (takes_unborrowed h)

  pub runs_through : {answer : Result (Option BlockValue) Error} → ReadsFrames stream blocks answer (bytes_in (lent source) s) (bytes_in (lent source) q) → ReadsFrames known blocks answer (bytes_in source r.now) (bytes_in source q.now)
  unfolding unborrowed bytes_in rest_of
  runs_through h = rw (← at, ← same) (runs_unborrowed h)

module _ {R W : Type 0} (source : R → Source ℕ) {contents : W → Option (List ℕ)} {stream known : Option StreamFormat} (r s q : MutBor R) (at : s ≡ r) (same : stream ≡ known) where
  -- the gathered bytes are written, and then the end is returned
  pub written_through : (end : End) (o : Result (Unit {0}) Error) (x y z : Output W) → Gathers contents stream end.fault end.count (bytes_in (lent source) s) (bytes_in (lent source) q) x y → OnOk o (Puts contents [] y z) → IfErr o (λ e. FailsToPut contents [] e y z)
      → NonePending z → IsUnflushed x z
      → IfOk (result_and o (Ok end)) (λ end. Decodes contents known end.fault end.count (bytes_in source r.now) (bytes_in source q.now) x z × NothingFailed x z)
      × IfErr (result_and o (Ok end)) (λ e. FailsToWrite contents known e (bytes_in source r.now) (bytes_in source q.now) x z)
  unfolding unborrowed bytes_in rest_of
  written_through end (Ok done) x y z h k f none u = (rw (← at, ← same) (decoded end.fault h k none), tt)
  written_through end (Err e) x y z h k f none u = (tt, rw (← at, ← same) (fails_after_gathering end.fault h f u))

  pub fails_through : {error : Error} {x y : Output W} → FailsToWrite contents stream error (bytes_in (lent source) s) (bytes_in (lent source) q) x y → FailsToWrite contents known error (bytes_in source r.now) (bytes_in source q.now) x y
  unfolding unborrowed bytes_in rest_of
  fails_through h = rw (← at, ← same) (fails_unborrowed_too h)

-- ---- the flush at the end

-- an `IoError` is not `OutOfMemory`
pub io_not_memory : (e : Error) → IsIo e → e ≡ OutOfMemory → ⊥
io_not_memory e i m = let q : is_io OutOfMemory ≡ true = subst IsIo m i in cc

pub io_not_refused : (e : Error) → IsIo e → IsOutOfMemory (let r : Result ℕ Error = Err e in r) → ⊥
io_not_refused e i out = io_not_memory e i (let k : e ≡ OutOfMemory = cc in k)

pub flush_not_refused : (r : Result (Unit {0}) Error) (n : ℕ) → IfErr r (λ e. IsIo e) → IsOutOfMemory (result_and r (Ok n)) → ⊥
flush_not_refused (Ok done) n i out = cc
flush_not_refused (Err e) n i out = io_not_refused e i out

either_failed : {W : Type 0} (x z w : Output W) (r : Result (Unit {0}) Error) → NothingFailed x z → OnOk r (NothingFailed z w) → OnErr r (OneFlushFailed z w) → NothingFailed x w ⊎ OneFlushFailed x w
either_failed x z w (Ok u) h k l = inl (none_failed_both h k)
either_failed x z w (Err e) h k l = inr (flush_failed_after h l)

-- for equal streaminfos and readers
pub larger_shown : {R : Type 0} (source : R → Source ℕ) {info shown : StreamInfo} {u v : R} → info ≡ shown → u ≡ v → {end : Option Error} {error : Error} (q : R)
    → (end ≡ Some OutOfMemory → StopsAtLargerBlock (Some (stream_with info)) (bytes_in source u) (bytes_in source q)) → end ≡ Some error → IsOutOfMemory (let r : Result ℕ Error = Err error in r)
    → StopsAtLargerBlock (Some (stream_with shown)) (bytes_in source v) (bytes_in source q)
larger_shown {R} source {info = info} {v = v} head at {error = error} q h is out =
    let refused : error ≡ OutOfMemory = cc in
    subst (λ (i : StreamInfo). StopsAtLargerBlock (Some (stream_with i)) (bytes_in source v) (bytes_in source q)) head
    (subst (λ (r : R). StopsAtLargerBlock (Some (stream_with info)) (bytes_in source r) (bytes_in source q)) at (h (is ∙ ap (λ (z : Error). Some z) refused)))

module _ {W : Type 0} {contents : W → Option (List ℕ)} where
  flushed : {stream : Option StreamFormat} {end : Option Error} {n : ℕ} {a b : State ℕ} {x z w : Output W} → Decodes contents stream end n a b x z → KeepsContents contents z w → pending w ≡ pending z → Decodes contents stream end n a b x w
  flushed {x = x} {z = z} {w = w} h k e =
      record { blocks = h.blocks; ends = h.ends; count = h.count; written = appends_keeps (contents_with_pending contents x) (writer_contents contents z) (writer_contents contents w) (bytes_of_samples (samples_of h.blocks)) h.written k; none_pending = e ∙ h.none_pending }

  -- for equal streaminfos and readers
  module _ {R : Type 0} (source : R → Source ℕ) {info shown : StreamInfo} {u v : R} (head : info ≡ shown) (at : u ≡ v) where
    pub decodes_flushed : {end fault : Option Error} {n : ℕ} (q : R) {x z w : Output W} → end ≡ fault → Decodes contents (Some (stream_with info)) end n (bytes_in source u) (bytes_in source q) x z → KeepsContents contents z w
        → pending w ≡ pending z → Decodes contents (Some (stream_with shown)) fault n (bytes_in source v) (bytes_in source q) x w
    decodes_flushed {fault = fault} {n = n} q {x = x} {w = w} e h k l =
        subst (λ (i : StreamInfo). Decodes contents (Some (stream_with i)) fault n (bytes_in source v) (bytes_in source q) x w) head
        (subst (λ (r : R). Decodes contents (Some (stream_with info)) fault n (bytes_in source r) (bytes_in source q) x w) at
        (subst (λ (f : Option Error). Decodes contents (Some (stream_with info)) f n (bytes_in source u) (bytes_in source q) x w) e (flushed h k l)))

    pub stops_flushed : {end : Option Error} {error : Error} {n : ℕ} (q : R) (r : Result (Unit {0}) Error) {x z w : Output W} → end ≡ Some error → Decodes contents (Some (stream_with info)) end n (bytes_in source u) (bytes_in source q) x z → NothingFailed x z → IsUnflushed x z
        → KeepsContents contents z w → pending w ≡ pending z → OnOk r (NothingFailed z w) → OnErr r (OneFlushFailed z w) → IsFlushed z w
        → StopsDecoding contents (Some (stream_with shown)) error (bytes_in source v) (bytes_in source q) x w
    stops_flushed {n = n} q r {x = x} {z = z} {w = w} e h none unflushed k l succeeded failed flushed =
        record { count = n; decoded = decodes_flushed q e h k l; flushed = flushed_after unflushed flushed; failed = either_failed x z w r none succeeded failed }

    -- the stream ended, and all samples were written and flushed, or the flush failed
    pub all_flushed : {end : Option Error} (n : ℕ) (q : R) (r : Result (Unit {0}) Error) {x z : Output W} (w : Output W) → end ≡ None → Decodes contents (Some (stream_with info)) end n (bytes_in source u) (bytes_in source q) x z → NothingFailed x z → IsUnflushed x z
        → KeepsContents contents z w → pending w ≡ pending z → OnOk r (NothingFailed z w) → OnErr r (OneFlushFailed z w) → IsFlushed z w → IfErr r (λ e. IsIo e)
        → IfOk (result_and r (Ok n)) (λ n. DecodesToEof contents (Some (stream_with shown)) n (bytes_in source v) (bytes_in source q) x w)
        × IfErr (result_and r (Ok n)) (λ error. FailsToDecode contents (Some (stream_with shown)) error (bytes_in source v) (bytes_in source q) x w)
    all_flushed n q (Ok done) w e h none unflushed k l succeeded failed flushed io = ((decodes_flushed q e h k l, none_failed_both none succeeded, flushed_after unflushed flushed), tt)
    all_flushed n q (Err error) w e h none unflushed k l succeeded failed flushed io = (
      tt,
      inr (inr (record { is_io = io; failed = flush_failed_after none failed; flushed = flushed_after unflushed flushed; count = n; decoded = decodes_flushed q e h k l })),
    )

    pub fails_shown : {error : Error} (q : R) {x y : Output W} → FailsToWrite contents (Some (stream_with info)) error (bytes_in source u) (bytes_in source q) x y → FailsToWrite contents (Some (stream_with shown)) error (bytes_in source v) (bytes_in source q) x y
    fails_shown {error = error} q {x = x} {y = y} h =
        subst (λ (i : StreamInfo). FailsToWrite contents (Some (stream_with i)) error (bytes_in source v) (bytes_in source q) x y) head
        (subst (λ (r : R). FailsToWrite contents (Some (stream_with info)) error (bytes_in source r) (bytes_in source q) x y) at h)
