-- What bytes in memory begin with, and how many bytes it has.
use Rattle.std.proofs.Common.{◌≡◌, inl, inr, ℕ, ◌-◌, true, subst, List, ◌++◌, length, Option, None, Some, sym, ap, ◌∙◌, append_assoc, arith, length-append, Bor}
use Rattle.std.specs.Prelude.{Result, Ok, Err, IfOk, IfSome}
use Rattle.std.specs.Io.Cursor.{cursor_position, cursor_inner}
use Rattle.std.proofs.lemmas.List.{length-drop}
use Rattle.claxon.specs.Fault.{Fault}
use Rattle.claxon.specs.Frame.{StreamFormat, Frame, FrameBytesFault}
use Rattle.claxon.specs.Heads.{Head, HeadCode, HeadFault, Marker, stream_marker}
use Rattle.claxon.specs.Streams.{with_samples}
use Rattle.claxon.specs.Cursor.{cursor_left, cursor_source}
use Rattle.claxon.specs.Promises.{CodeIsComplete, Remains, FaultIsComplete, CodeIsSound, FaultIsSound, FoundIsSound, Consumed}
use Rattle.claxon.specs.State.{State}
use Rattle.claxon.specs.Errors.{Error}
use Rattle.claxon.proofs.InMemory.{cursor_remains, cursor_just_out_of_memory, new_cursor_remains}
use Rattle.claxon.specs.MetadataBlock.{HasBounds}
use Rattle.claxon.specs.StreamInfos.{StreamInfo}
use Rattle.claxon.specs.FrameReader.{FrameAnswer, block_view}
use Rattle.claxon.specs.ReadHead.{HeadOutOfMemoryAfterHeader, MemoryMayBeNeeded}
use Rattle.claxon.specs.StartedFrame.{RestAnswer, RestFault, RestOf, whole_answer}
use Rattle.claxon.proofs.FramesInMemory.{Slice, SliceFramePromises, begins_with_consumed, slice_state}
use Rattle.claxon.specs.Prefix.{BeginsWith}
use Rattle.claxon.specs.Error.{IsFault}
use Rattle.claxon.specs.OtherErrors.{IfOtherErr}
use Rattle.claxon_seek.specs.AtStart.{FaultIsTaken, FrameAtStart, BeginsWithLength, HeadAtStart}

abbrev pub shown_bytes : Bor (List ℕ) → List ℕ
shown_bytes s = s.now

-- the number of consumed bytes says what is left
module _ (bytes : List ℕ) (a : State ℕ) (b : Slice) (taken : ℕ) (remains : Remains a bytes) (count : taken ≡ length bytes - cursor_left shown_bytes b) where
  pub begins_with_length : {Code : List ℕ → Type 0} → Consumed a (slice_state b) Code → BeginsWithLength Code bytes taken
  begins_with_length consumed =
      let k = (consumed remains.known).1 in
      let left = cursor_remains shown_bytes b in
      let joined : bytes ≡ k.0 ++ (slice_state b).remaining = sym remains.are ∙ k.2 in
      let rest : length (slice_state b).remaining ≡ cursor_left shown_bytes b = ap length left.are ∙ length-drop (cursor_position b) (cursor_inner b).now in
      (k.0, (slice_state b).remaining, k.1, joined, omega (arith, count, rest, ap length joined, length-append k.0 (slice_state b).remaining))

  frame_begins : (stream : Option StreamFormat) (r : FrameAnswer) → FoundIsSound block_view r (Frame stream) a (slice_state b) → IfOk r (λ found. IfSome found (λ block. BeginsWithLength (Frame stream (block_view block)) bytes taken))
  frame_begins stream (Ok None) h = tt
  frame_begins stream (Ok (Some block)) h = begins_with_length h
  frame_begins stream (Err e) h = tt

  pub frame_at_start : (stream : Option StreamFormat) (r : FrameAnswer) → FoundIsSound block_view r (Frame stream) a (slice_state b) → SliceFramePromises stream bytes r → FrameAtStart stream bytes r taken
  frame_at_start stream r h m = record { sound = frame_begins stream r h; complete = m.complete; eof = m.eof; fault = m.fault; named = m.named; memory = m.memory }

-- the rest of a frame, after the bytes of its header
module _ (stream : Option StreamFormat) (bytes header rest : List ℕ) (a : State ℕ) (b : Slice) (taken : ℕ) (parts : bytes ≡ header ++ rest) (remains : Remains a rest) (count : taken ≡ length bytes - cursor_left shown_bytes b) where
  completed : {Code : List ℕ → Type 0} → Consumed a (slice_state b) (λ t. Code (header ++ t)) → BeginsWithLength Code bytes taken
  completed h =
      let k = (h remains.known).1 in
      let left = cursor_remains shown_bytes b in
      let m = (slice_state b).remaining in
      let joined : bytes ≡ (header ++ k.0) ++ m = parts ∙ ap (λ (z : List ℕ). header ++ z) (sym remains.are ∙ k.2) ∙ sym (append_assoc header k.0 m) in
      let last : length m ≡ cursor_left shown_bytes b = ap length left.are ∙ length-drop (cursor_position b) (cursor_inner b).now in
      (header ++ k.0, m, k.1, joined, omega (arith, count, last, ap length joined, length-append (header ++ k.0) m))

  completed_with_length : (r : RestAnswer) → CodeIsSound block_view r (RestOf stream header) a (slice_state b) → IfOk (whole_answer r) (λ found. IfSome found (λ block. BeginsWithLength (Frame stream (block_view block)) bytes taken))
  completed_with_length (Ok block) h = completed h
  completed_with_length (Err e) h = tt

  pub fault_is_taken : (r : RestAnswer) → FaultIsSound r (RestFault stream header) a (slice_state b) → FaultIsTaken stream bytes r taken
  fault_is_taken (Ok block) h = tt
  fault_is_taken (Err e) h = elim h [
    | inl m ↦ inl m
    | inr (inl i) ↦ inr (inl i)
    | inr (inr k) ↦ inr (inr (let f = k remains.known in (f.0, f.1, completed {Code = FrameBytesFault stream f.0} f.2)))
  ]

  pub rest_at_start : (r : RestAnswer) → CodeIsSound block_view r (RestOf stream header) a (slice_state b) → SliceFramePromises stream (header ++ rest) (whole_answer r) → FrameAtStart stream bytes (whole_answer r) taken
  rest_at_start r h promises =
      let m = subst (λ (z : List ℕ). SliceFramePromises stream z (whole_answer r)) (sym parts) promises in
      record { sound = completed_with_length r h; complete = m.complete; eof = m.eof; fault = m.fault; named = m.named; memory = m.memory }

-- a head, before which nothing was consumed
module _ {A : Type 0} (view : StreamInfo × Option A → Head) (bytes : Bor (List ℕ)) (a b : Slice) (taken : ℕ) (at : cursor_position a ≡ 0) (inner : cursor_inner a ≡ bytes) (count : taken ≡ length bytes.now - cursor_left shown_bytes b) where
  remains : Remains (slice_state a) bytes.now
  remains = new_cursor_remains shown_bytes a bytes at inner

  there : (t rest : List ℕ) → bytes.now ≡ t ++ rest → Remains (slice_state a) (t ++ rest)
  there t rest e = record { known = remains.known; are = remains.are ∙ e }

  head_begins_with_length : (r : Result (StreamInfo × Option A) Error) → CodeIsSound view r (HeadCode (with_samples true)) (slice_state a) (slice_state b) → IfOk r (λ shown. BeginsWithLength (HeadCode (with_samples true) (view shown)) bytes.now taken)
  head_begins_with_length (Ok shown) h = begins_with_length bytes.now (slice_state a) b taken remains count h
  head_begins_with_length (Err e) h = tt

  head_fault_sound : (r : Result (StreamInfo × Option A) Error) → FaultIsSound r (HeadFault (with_samples true)) (slice_state a) (slice_state b)
      → IfOtherErr r (λ e. (f : Fault) × IsFault f e × BeginsWith (HeadFault (with_samples true) f) bytes.now)
  head_fault_sound (Ok shown) h = tt
  head_fault_sound (Err e) h = elim h [
    | inl m ↦ inl m
    | inr (inl i) ↦ inr (inl i)
    | inr (inr k) ↦ inr (inr (let f = k remains.known in (f.0, f.1, begins_with_consumed (slice_state a) (slice_state b) bytes.now remains f.2)))
  ]

  pub head_at_start : (r : Result (StreamInfo × Option A) Error) → IfOk r (λ shown. HasBounds shown.0) → CodeIsSound view r (HeadCode (with_samples true)) (slice_state a) (slice_state b)
      → CodeIsComplete view r (HeadCode (with_samples true)) (slice_state a) (slice_state b) → FaultIsSound r (HeadFault (with_samples true)) (slice_state a) (slice_state b)
      → FaultIsComplete r (HeadFault (with_samples true)) (slice_state a) (slice_state b) → HeadOutOfMemoryAfterHeader (cursor_source shown_bytes) a r → HeadAtStart view bytes.now r taken
  head_at_start r bounds sound complete fault named memory = record {
    bounds = bounds;
    sound = head_begins_with_length r sound;
    complete = λ h begins. elim (complete h begins.0 begins.1 begins.2 (there begins.0 begins.1 begins.3)) [
      | inl p ↦ inl p.0
      | inr x ↦ inr (cursor_just_out_of_memory shown_bytes r a b x)
    ];
    fault = head_fault_sound r fault;
    named = λ f begins. elim (named f begins.0 begins.1 begins.2 (there begins.0 begins.1 begins.3)) [
      | inl p ↦ inl p.0
      | inr x ↦ inr (cursor_just_out_of_memory shown_bytes r a b x)
    ];
    memory = λ s. subst (MemoryMayBeNeeded (Marker stream_marker)) remains.are (memory s remains.known);
  }
