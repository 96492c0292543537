-- The samples of a block, one by one.
use Rattle.std.proofs.Common.{◌≡◌, ◌⊎◌, inl, inr, ℕ, ◌+◌, ◌*◌, ◌<◌, ◌≤◌, List, [], ◌∷◌, length, get_or, drop, sym, ap, subst, ◌∙◌, arith, ℤ, pos}
use Rattle.std.specs.Prelude.{IfOk, IfSome, Option, Some, None, Result, Ok, slice_get}
use Rattle.std.proofs.lemmas.List.{drop_more, drop_all}
use Rattle.std.proofs.lemmas.Option.{get_or_from_slice_get, slice_get-get_or}
use Rattle.claxon_format.specs.Frame.{StreamFormat, Frame, FrameBytesFault}
use Rattle.claxon_format.specs.read.Frame.{frame_bytes_at}
use Rattle.claxon_format.specs.Streams.{duration_of, interleave}
use Rattle.claxon_format.proofs.Streams.{interleaved, length-interleave}
use Rattle.claxon_input.specs.declared.error.Error.{Error}
use Rattle.claxon_input.specs.State.{State}
use Rattle.claxon_input.specs.Promises.{FoundIsComplete, Remains, ElseIoErrorFrom, ReadFailed, LeavesRest, FaultIsComplete, NoneIsEof, FaultIsSound, FoundIsSound}
use Rattle.claxon_frame.specs.Block.{BlockValue}
use Rattle.claxon_input.specs.Gives.{GivesOrEofOrOutOfMemory}
use Rattle.claxon_frame.specs.FrameReader.{FrameAnswer, OutOfMemoryBeyondCapacity, ReadsFrame, block_view}

-- ---- the clauses of a call that reads the next frame

any_capacity : {A : Type 0} (stream : Option StreamFormat) (capacity : ℕ) (r : Result A Error) (a b : State ℕ) → OutOfMemoryBeyondCapacity stream capacity r a b → OutOfMemoryBeyondCapacity stream 0 r a b
any_capacity stream capacity r a b h out_of_memory is_known =
    let k = h out_of_memory is_known in
    let t = k.1 in
    let more = t.1.2 in
    (k.0, (t.0, (t.1.0, t.1.1, omega arith), t.2))

pub reads_frame : {stream : Option StreamFormat} {r : FrameAnswer} {a b : State ℕ} (capacity : ℕ) → FoundIsSound block_view r (Frame stream) a b → FoundIsComplete block_view r (Frame stream) a b → NoneIsEof 2 r a b
    → ((xs : List ℕ) → Remains a xs → length xs < 2 → ((r ≡ Ok None) × Remains b []) ⊎ ReadFailed r a b) → IfOk r (λ found. b.source.errors ≡ a.source.errors) → FaultIsSound r (FrameBytesFault stream) a b → FaultIsComplete r (FrameBytesFault stream) a b
    → ElseIoErrorFrom 2 r (Frame stream) (FrameBytesFault stream) a b → LeavesRest r a b → OutOfMemoryBeyondCapacity stream capacity r a b → GivesOrEofOrOutOfMemory 2 block_view r (frame_bytes_at stream) a b → ReadsFrame stream r a b
reads_frame {stream = stream} {r = r} {a = a} {b = b} capacity sound complete none_is_eof eof_is_none no_failure fault named io front memory gives = record {
  promises = record {
    is_sound = sound;
    is_complete = complete;
    none_is_eof = none_is_eof;
    eof_is_none = λ xs c few. elim (eof_is_none xs c few) [ inl h ↦ inl h | inr f ↦ inr (inr f) ];
    failure_is_err = no_failure;
    fault_is_sound = fault;
    fault_is_complete = named;
    else_io_error = io;
    leaves_rest = front;
  };
  memory = any_capacity stream capacity r a b memory;
  gives = gives;
}

-- the same of an equal answer
pub reads_as : {stream : Option StreamFormat} {r q : Result (Option BlockValue) Error} {a b : State ℕ} → r ≡ q → ReadsFrame stream r a b → ReadsFrame stream q a b
reads_as {stream = stream} {a = a} {b = b} e h = subst (λ (z : Result (Option BlockValue) Error). ReadsFrame stream z a b) e h

-- ---- the index of a sample

index_inside : (i k d n : ℕ) → i < d → k < n → i * n + k < d * n
index_inside i k d n lt small = grind arith

-- the next sample, and those after it
pub next_sample : (channels : List (List ℤ)) (i k n : ℕ) (x : ℤ) → i < duration_of channels → k < length channels → n ≡ i * length channels + k + 1
    → IfSome (slice_get channels k) (λ samples. slice_get samples i ≡ Some x) → drop (i * length channels + k) (interleave channels) ≡ x ∷ drop n (interleave channels)
next_sample channels i k n x lt small n-is h =
    let l = length-interleave channels in
    let inside : i * length channels + k < length (interleave channels) = rw l (index_inside i k (duration_of channels) (length channels) lt small) in
    let g : slice_get channels k ≡ Some (get_or channels k []) = slice_get-get_or channels k [] small in
    let s : slice_get (get_or channels k []) i ≡ Some x = rw g at h in
    let v : get_or (interleave channels) (i * length channels + k) (pos 0) ≡ x = interleaved channels i k lt small ∙ get_or_from_slice_get (get_or channels k []) i x (pos 0) s in
    drop_more (interleave channels) (i * length channels + k) (pos 0) inside ∙ ap (λ (z : ℤ). z ∷ drop (i * length channels + k + 1) (interleave channels)) v
    ∙ ap (λ (z : ℕ). x ∷ drop z (interleave channels)) (sym n-is)

-- after the last index none is left
pub none_left : (channels : List (List ℤ)) (i k : ℕ) → duration_of channels ≤ i → drop (i * length channels + k) (interleave channels) ≡ []
none_left channels i k le =
    let l = length-interleave channels in
    let past : length (interleave channels) ≤ i * length channels + k = rw l (past_end i k (duration_of channels) (length channels) le) in
    drop_all (i * length channels + k) (interleave channels) past
  where
    past_end : (i k d n : ℕ) → d ≤ i → d * n ≤ i * n + k
    past_end i k d n le = grind arith

-- ---- lists of samples

pub first_same : {x y : ℤ} {xs ys : List ℤ} → x ∷ xs ≡ y ∷ ys → (x ≡ y) × (xs ≡ ys)
first_same e = (cc, cc)

pub none_some : {y : ℤ} {ys : List ℤ} → [] ≡ y ∷ ys → ⊥
none_some e = cc
