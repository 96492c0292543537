-- The frame that bytes in memory begin with, with what its header says.
use Rattle.std.proofs.Common.{◌≡◌, inl, inr, ℕ, ◌-◌, List, ◌++◌, length, Option, None, Some, sym, ap, ◌∙◌, arith, length-append, Bor}
use Rattle.std.specs.Prelude.{Ok, Err, IfOk, IfSome}
use Rattle.std.specs.Io.Cursor.{cursor_inner, cursor_position}
use Rattle.std.proofs.lemmas.List.{length-drop}
use Rattle.claxon.specs.Cursor.{cursor_left}
use Rattle.claxon.specs.DecodedFrame.{DecodedAnswer, FrameWithHeader, decoded_view, frame_answer}
use Rattle.claxon.specs.Error.{IsFault}
use Rattle.claxon.specs.Fault.{Fault}
use Rattle.claxon.specs.Frame.{FrameBytesFault, StreamFormat}
use Rattle.claxon.specs.FrameReader.{OutOfMemoryBeyondCapacity}
use Rattle.claxon.specs.OtherErrors.{IfOtherErr}
use Rattle.claxon.specs.Promises.{Consumed, FaultIsSound, FoundIsSound, Remains}
use Rattle.claxon.specs.State.{State}
use Rattle.claxon.proofs.InMemory.{cursor_remains}
use Rattle.claxon.proofs.FramesInMemory.{Slice, SliceFramePromises, begins_with_consumed, slice_state}
use Rattle.claxon_stream.specs.DecodedAtStart.{DecodedAtStart, BeginsWithLength}

abbrev pub shown_bytes : Bor (List ℕ) → List ℕ
shown_bytes s = s.now

module _ (bytes : List ℕ) (a : State ℕ) (b : Slice) (taken : ℕ) (remains : Remains a bytes) (count : taken ≡ length bytes - cursor_left shown_bytes b) where
  pub takes : {Code : List ℕ → Type 0} → Consumed a (slice_state b) Code → BeginsWithLength Code bytes taken
  takes consumed =
      let k = (consumed remains.known).1 in
      let left = cursor_remains shown_bytes b in
      let joined : bytes ≡ k.0 ++ (slice_state b).remaining = sym remains.are ∙ k.2 in
      let rest : length (slice_state b).remaining ≡ cursor_left shown_bytes b = ap length left.are ∙ length-drop (cursor_position b) (cursor_inner b).now in
      (k.0, (slice_state b).remaining, k.1, joined, omega (arith, count, rest, ap length joined, length-append k.0 (slice_state b).remaining))

module _ {A : Type 0} (stream : Option StreamFormat) (bytes : List ℕ) (a : State ℕ) (b : Slice) (taken : ℕ) (remains : Remains a bytes) (count : taken ≡ length bytes - cursor_left shown_bytes b) where
  decoded_sound : (r : DecodedAnswer A) → FoundIsSound decoded_view r (FrameWithHeader stream) a (slice_state b) → IfOk r (λ found. IfSome found (λ frame. BeginsWithLength (FrameWithHeader stream (decoded_view frame)) bytes taken))
  decoded_sound (Ok None) h = tt
  decoded_sound (Ok (Some frame)) h = takes bytes a b taken remains count h
  decoded_sound (Err e) h = tt

  fault_taken : (r : DecodedAnswer A) → FaultIsSound (frame_answer r) (FrameBytesFault stream) a (slice_state b) → IfOtherErr r (λ e. (f : Fault) × IsFault f e × BeginsWithLength (FrameBytesFault stream f) bytes taken)
  fault_taken (Ok None) h = tt
  fault_taken (Ok (Some frame)) h = tt
  fault_taken (Err e) h = elim h [
    | inl m ↦ inl m
    | inr (inl i) ↦ inr (inl i)
    | inr (inr k) ↦ inr (inr (let f = k remains.known in (f.0, f.1, takes bytes a b taken remains count f.2)))
  ]

  pub decoded_at_start : (capacity : ℕ) (r : DecodedAnswer A) → FoundIsSound decoded_view r (FrameWithHeader stream) a (slice_state b) → FaultIsSound (frame_answer r) (FrameBytesFault stream) a (slice_state b) → SliceFramePromises stream bytes (frame_answer r)
      → OutOfMemoryBeyondCapacity stream capacity (frame_answer r) a (slice_state b) → DecodedAtStart stream bytes capacity r taken
  decoded_at_start capacity r sound fault m memory = record {
    sound = decoded_sound r sound;
    complete = m.complete;
    none = m.eof;
    fault = fault_taken r fault;
    named = m.named;
    memory = λ s. begins_with_consumed a (slice_state b) bytes remains (memory s);
  }
