-- The answer of a call that reads a frame of bytes in memory.
use Rattle.std.proofs.Common.{◌≡◌, ◌⊎◌, inl, inr, ℕ, ◌<◌, ◌*◌, List, [], ◌++◌, length, drop, Option, None, Some, sym, ap, subst, ◌∙◌, refl, append_assoc, arith, Bor}
use Rattle.std.specs.Prelude.{Ok, Err}
use Rattle.std.specs.declared.io.Cursor.{Cursor}
use Rattle.std.specs.Io.Cursor.{cursor_position, cursor_inner}
use Rattle.claxon_format.specs.FrameWriter.{channel_count}
use Rattle.claxon_format.specs.read.Frame.{Start}
use Rattle.claxon.specs.Frame.{IsBitDepth, StreamFormat, Frame, FrameBytesFault, known_bit_depth}
use Rattle.claxon.specs.Cursor.{cursor_source}
use Rattle.claxon.specs.Errors.{Error}
use Rattle.claxon.specs.Errors.TheVariants.{OutOfMemory}
use Rattle.claxon.specs.Gives.{ReadFailedIn}
use Rattle.claxon.specs.Promises.{CodeIsComplete, CodeIsSound, FoundIsComplete, IsOutOfMemory, Remains, ReadFailed, FaultIsComplete, NoneIsEof, FaultIsSound, FoundIsSound, Consumed}
use Rattle.claxon.specs.State.{State, bytes_in}
use Rattle.claxon.specs.FrameReader.{FrameAnswer, ReadsFrame, block_view, frame_bytes, frame_input}
use Rattle.claxon.specs.FrameReaders.{FrameReader}
use Rattle.claxon.specs.StartedFrame.{RestAnswer, RestFault, RestOf, StartedCode, started_info, started_view, whole_answer}
use Rattle.claxon.specs.StartedFrames.{StartedFrame}
use Rattle.claxon_frame.specs.Prefix.{BeginsWith}
use Rattle.claxon.specs.FramesInMemory.{SliceFrameIsSound, SliceFrameIsComplete, SliceFrameFaultIsComplete, SliceFrameFaultIsSound, SliceFrameNoneIffEof, SliceFrameOutOfMemoryAfterHeader}
use Rattle.claxon.proofs.BlockInfo.{header_has_two_bytes}
use Rattle.claxon.proofs.InMemory.{cursor_remains, cursor_never_fails, new_cursor_remains}
use Rattle.claxon.proofs.StartedFrames.{fault_completed, frame_completed, header_of_started}
use Rattle.claxon_input.specs.State.{RemainingIsKnown}

-- all clauses of such a call
pub record SliceFramePromises (stream : Option StreamFormat) (bytes : List ℕ) (r : FrameAnswer) : Type 0 where
  pub sound : SliceFrameIsSound stream bytes r
  pub complete : SliceFrameIsComplete stream bytes r
  pub eof : SliceFrameNoneIffEof bytes r
  pub fault : SliceFrameFaultIsSound stream bytes r
  pub named : SliceFrameFaultIsComplete stream bytes r
  pub memory : SliceFrameOutOfMemoryAfterHeader stream bytes r

-- the known bytes begin with what was consumed of them
pub begins_with_consumed : {C : List ℕ → Type 0} (a b : State ℕ) (bytes : List ℕ) → Remains a bytes → Consumed a b C → BeginsWith C bytes
begins_with_consumed a b bytes c h = let k = (h c.known).1 in (k.0, b.remaining, k.1, sym c.are ∙ k.2)

module _ (stream : Option StreamFormat) (bytes : List ℕ) (a b : State ℕ) (remains : Remains a bytes) (never : ReadFailedIn a b → ⊥) where
  there : (t rest : List ℕ) → bytes ≡ t ++ rest → Remains a (t ++ rest)
  there t rest e = record { known = remains.known; are = remains.are ∙ e }

  slice_frame_sound : (r : FrameAnswer) → FoundIsSound block_view r (Frame stream) a b → SliceFrameIsSound stream bytes r
  slice_frame_sound (Ok None) h = tt
  slice_frame_sound (Ok (Some block)) h = begins_with_consumed a b bytes remains h
  slice_frame_sound (Err e) h = tt

  slice_frame_complete : (r : FrameAnswer) → FoundIsComplete block_view r (Frame stream) a b → SliceFrameIsComplete stream bytes r
  slice_frame_complete r h block begins = elim (h block begins.0 begins.1 begins.2 (there begins.0 begins.1 begins.3)) [
    | inl p ↦ inl p.0
    | inr (inl s) ↦ inr s
    | inr (inr f) ↦ absurd (never f.1)
  ]

  slice_fault_sound : (r : FrameAnswer) → FaultIsSound r (FrameBytesFault stream) a b → SliceFrameFaultIsSound stream bytes r
  slice_fault_sound (Ok found) h = tt
  slice_fault_sound (Err e) h = elim h [
    | inl m ↦ inl m
    | inr (inl i) ↦ inr (inl i)
    | inr (inr k) ↦ inr (inr (let f = k remains.known in (f.0, f.1, begins_with_consumed a b bytes remains f.2)))
  ]

  slice_fault_complete : (r : FrameAnswer) → FaultIsComplete r (FrameBytesFault stream) a b → SliceFrameFaultIsComplete stream bytes r
  slice_fault_complete r h f begins = elim (h f begins.0 begins.1 begins.2 (there begins.0 begins.1 begins.3)) [
    | inl p ↦ inl p.0
    | inr (inl s) ↦ inr s
    | inr (inr x) ↦ absurd (never x.1)
  ]

  slice_none_iff_eof : (r : FrameAnswer) → NoneIsEof 2 r a b → ((xs : List ℕ) → Remains a xs → length xs < 2 → ((r ≡ Ok None) × Remains b []) ⊎ ReadFailed r a b) → SliceFrameNoneIffEof bytes r
  slice_none_iff_eof r h k = (λ e. only_few r h e, λ few. elim (k bytes remains few) [ inl p ↦ p.0 | inr f ↦ absurd (never f.1) ])
    where
      only_few : (r : FrameAnswer) → NoneIsEof 2 r a b → r ≡ Ok None → length bytes < 2
      only_few r h e = let n : None ≡ None → RemainingIsKnown a → (length a.remaining < 2) × Remains b [] = rw e at h in subst (λ (s : List ℕ). length s < 2) remains.are (n refl remains.known).0

  pub slice_frame_promises : (r : FrameAnswer) → ReadsFrame stream r a b → ((xs : List ℕ) → Remains a xs → length xs < 2 → ((r ≡ Ok None) × Remains b []) ⊎ ReadFailed r a b) → SliceFramePromises stream bytes r
  slice_frame_promises r h eof_is_none = record {
    sound = slice_frame_sound r h.promises.is_sound;
    complete = slice_frame_complete r h.promises.is_complete;
    eof = slice_none_iff_eof r h.promises.none_is_eof eof_is_none;
    fault = slice_fault_sound r h.promises.fault_is_sound;
    named = slice_fault_complete r h.promises.fault_is_complete;
    memory = λ s. begins_with_consumed a b bytes remains (h.memory s);
  }

-- ---- the rest of a frame, after the bytes of its header

-- what these bytes begin with is completed by what follows
begins_after : {C : List ℕ → Type 0} (header rest : List ℕ) → BeginsWith (λ t. C (header ++ t)) rest → BeginsWith C (header ++ rest)
begins_after header rest (t, m, code, e) = (header ++ t, m, code, ap (λ (z : List ℕ). header ++ z) e ∙ sym (append_assoc header t m))

module _ (stream : Option StreamFormat) (depth : IsBitDepth (known_bit_depth stream)) (started : StartedFrame) (header rest : List ℕ) (code : StartedCode stream (started_view started) header) (a b : State ℕ) (remains : Remains a rest) (never : ReadFailedIn a b → ⊥) where
  rest_there : (t m : List ℕ) → rest ≡ t ++ m → Remains a (t ++ m)
  rest_there t m e = record { known = remains.known; are = remains.are ∙ e }

  rest_sound : (r : RestAnswer) → CodeIsSound block_view r (RestOf stream header) a b → SliceFrameIsSound stream (header ++ rest) (whole_answer r)
  rest_sound (Ok block) h = begins_after header rest (begins_with_consumed a b rest remains h)
  rest_sound (Err e) h = tt

  rest_complete : (r : RestAnswer) → CodeIsComplete block_view r (RestOf stream header) a b → SliceFrameIsComplete stream (header ++ rest) (whole_answer r)
  rest_complete (Ok x) h block begins = let k = frame_completed stream depth (started_view started) header code rest block begins in
      elim (h block k.0 k.1 k.2 (rest_there k.0 k.1 k.3)) [
        | inl p ↦ inl p.0
        | inr (inl m) ↦ absurd cc
        | inr (inr f) ↦ absurd f.0
      ]
  rest_complete (Err e) h block begins = let k = frame_completed stream depth (started_view started) header code rest block begins in
      elim (h block k.0 k.1 k.2 (rest_there k.0 k.1 k.3)) [
        | inl p ↦ absurd p.0
        | inr (inl m) ↦ inr (ap (λ (r : RestAnswer). whole_answer r) m)
        | inr (inr f) ↦ absurd (never f.1)
      ]

  rest_fault_sound : (r : RestAnswer) → FaultIsSound r (RestFault stream header) a b → SliceFrameFaultIsSound stream (header ++ rest) (whole_answer r)
  rest_fault_sound (Ok x) h = tt
  rest_fault_sound (Err e) h = elim h [
    | inl m ↦ inl m
    | inr (inl i) ↦ inr (inl i)
    | inr (inr k) ↦ inr (inr (let f = k remains.known in (f.0, f.1, begins_after header rest (begins_with_consumed a b rest remains f.2))))
  ]

  rest_fault_complete : (r : RestAnswer) → FaultIsComplete r (RestFault stream header) a b → SliceFrameFaultIsComplete stream (header ++ rest) (whole_answer r)
  rest_fault_complete (Ok x) h f begins = let k = fault_completed stream depth (started_view started) header code rest f begins in
      elim (h f k.0 k.1 k.2 (rest_there k.0 k.1 k.3)) [
        | inl p ↦ absurd p.0
        | inr (inl m) ↦ absurd cc
        | inr (inr x) ↦ absurd x.0
      ]
  rest_fault_complete (Err e) h f begins = let k = fault_completed stream depth (started_view started) header code rest f begins in
      elim (h f k.0 k.1 k.2 (rest_there k.0 k.1 k.3)) [
        | inl p ↦ inl p.0
        | inr (inl m) ↦ inr (ap (λ (r : RestAnswer). whole_answer r) m)
        | inr (inr x) ↦ absurd (never x.1)
      ]

  -- a header has two bytes
  rest_not_eof : (r : RestAnswer) → SliceFrameNoneIffEof (header ++ rest) (whole_answer r)
  rest_not_eof r = (λ e. absurd (is_some r e), λ few. absurd (header_has_two_bytes stream (started_info started) header rest (header_of_started stream (started_view started) header code) few))
    where
      is_some : (r : RestAnswer) → whole_answer r ≡ Ok None → ⊥
      is_some (Ok x) e = absurd cc
      is_some (Err e) q = absurd cc

  rest_memory : (capacity : ℕ) (r : RestAnswer) → (IsOutOfMemory r → (capacity < (started_info started).channels * (started_info started).duration) × Consumed a b (λ t. t ≡ [])) → SliceFrameOutOfMemoryAfterHeader stream (header ++ rest) (whole_answer r)
  rest_memory capacity (Ok x) h m = absurd cc
  rest_memory capacity (Err e) h m =
      let is : e ≡ OutOfMemory = cc in
      let more = subst (λ (start : Start). capacity < channel_count start.channel_code * start.size) code.2 (h (ap (λ (x : Error). let r : RestAnswer = Err x in r) is)).0 in
      (header, rest, (code.0, code.1, omega (arith, more)), refl)

  pub slice_rest_promises : (capacity : ℕ) (r : RestAnswer) → CodeIsSound block_view r (RestOf stream header) a b → CodeIsComplete block_view r (RestOf stream header) a b → FaultIsSound r (RestFault stream header) a b → FaultIsComplete r (RestFault stream header) a b
      → (IsOutOfMemory r → (capacity < (started_info started).channels * (started_info started).duration) × Consumed a b (λ t. t ≡ [])) → SliceFramePromises stream (header ++ rest) (whole_answer r)
  slice_rest_promises capacity r sound complete fault named memory = record {
    sound = rest_sound r sound;
    complete = rest_complete r complete;
    eof = rest_not_eof r;
    fault = rest_fault_sound r fault;
    named = rest_fault_complete r named;
    memory = rest_memory capacity r memory;
  }

-- ---- a cursor over a slice

abbrev pub Slice : Type 0
Slice = Cursor (Bor (List ℕ))

abbrev pub slice_state : Slice → State ℕ
slice_state c = bytes_in (cursor_source (λ (s : Bor (List ℕ)). s.now)) c

-- ---- a reader of frames over a slice

abbrev pub SliceFrames : Type 0
SliceFrames = FrameReader (Cursor (Bor (List ℕ)))

abbrev pub slice_bytes : SliceFrames → State ℕ
slice_bytes = frame_bytes (cursor_source (λ (s : Bor (List ℕ)). s.now))

-- a new one has the whole slice remaining
pub slice_remains : (reader : SliceFrames) (c : Cursor (Bor (List ℕ))) (slice : Bor (List ℕ)) → frame_input reader ≡ c → cursor_position c ≡ 0 → cursor_inner c ≡ slice → Remains (slice_bytes reader) slice.now
slice_remains reader c slice e at is =
    new_cursor_remains (λ (s : Bor (List ℕ)). s.now) (frame_input reader) slice (ap (λ (z : Cursor (Bor (List ℕ))). cursor_position z) e ∙ at) (ap (λ (z : Cursor (Bor (List ℕ))). cursor_inner z) e ∙ is)

-- and no read of it fails
pub slice_never_fails : (old new : SliceFrames) → ReadFailedIn (slice_bytes old) (slice_bytes new) → ⊥
slice_never_fails old new = cursor_never_fails (λ (s : Bor (List ℕ)). s.now) (frame_input old) (frame_input new)

-- the bytes that its cursor didn't consume remain
pub slice_left : (reader : SliceFrames) (c : Cursor (Bor (List ℕ))) (slice : Bor (List ℕ)) (n : ℕ) → c ≡ frame_input reader → slice ≡ cursor_inner c → n ≡ cursor_position c → Remains (slice_bytes reader) (drop n slice.now)
slice_left reader c slice n e is at = subst (λ (z : Cursor (Bor (List ℕ))). Remains (bytes_in (cursor_source (λ (s : Bor (List ℕ)). s.now)) z) (drop n slice.now)) e (rw (is, at) (cursor_remains (λ (s : Bor (List ℕ)). s.now) c))

-- the same of an equal stream
pub known_as : {known stream : Option StreamFormat} {r : FrameAnswer} {a b : State ℕ} → known ≡ stream → ReadsFrame known r a b → ReadsFrame stream r a b
known_as {r = r} {a = a} {b = b} e h = subst (λ (s : Option StreamFormat). ReadsFrame s r a b) e h
