-- What comes next in a stream, by the frame that its bytes begin with.
use Rattle.std.proofs.Common.{◌≡◌, ◌⊎◌, inl, inr, ℕ, ◌+◌, ◌<◌, ◌≤◌, Bool, true, false, List, [], ◌++◌, length, Option, None, Some, refl, sym, ap, subst, ◌∙◌, append_assoc, append-nil, arith}
use Rattle.std.specs.Global.{Global}
use Rattle.std.specs.Prelude.{Result, Ok, Err, IsErrAnd, IsOkAnd, IsSomeAnd}
use Rattle.std.proofs.lemmas.Bool.{cases_lt}
use Rattle.claxon.specs.DecodedFrame.{DecodedAnswer, frame_answer}
use Rattle.claxon.specs.DecodedFrames.{DecodedFrame}
use Rattle.claxon.specs.Error.{IsFault, IsIo}
use Rattle.claxon.specs.Errors.{Error}
use Rattle.claxon.specs.Errors.TheVariants.{FormatError, IoError, OutOfMemory, Unsupported}
use Rattle.claxon.specs.Fault.{Fault}
use Rattle.claxon.specs.Frame.{Block, Frame, FrameBytesFault, StreamFormat}
use Rattle.claxon.specs.FrameReader.{block_view}
use Rattle.claxon.specs.Prefix.{BeginsWith}
use Rattle.claxon.specs.Promises.{IsOutOfMemory}
use Rattle.claxon.proofs.OutOfMemory.{not_out_of_memory}
use Rattle.claxon_stream.specs.DecodedAtStart.{DecodedAtStart, BeginsWithLength}
use Rattle.claxon_stream.specs.Event.{EventIs, IsAnswer, IsCutFrame, IsDecodedAnd, IsFaultyAnd, IsOpen, IsReadOn, event_of, moved_by}
use Rattle.claxon_stream.specs.declared.event.Event.{Event}
use Rattle.claxon_stream.specs.declared.event.Event.TheVariants.{Cut, Decoded, End, Faulty, ReadOn}

abbrev Answer : Type 0
Answer = DecodedAnswer Global

module _ (stream : Option StreamFormat) (bytes : List ℕ) (capacity position taken : ℕ) where
  -- bytes without a frame, a fault, and a need of memory
  open_of : (r : Answer) → DecodedAtStart stream bytes capacity r taken → (IsOutOfMemory (frame_answer r) → ⊥) → ((block : Block) → IsOkAnd (frame_answer r) (λ found. IsSomeAnd found (λ x. block_view x ≡ block)) → ⊥) → ((f : Fault) → IsErrAnd (frame_answer r) (IsFault f) → ⊥) → IsOpen stream bytes
  open_of r h other no_block no_fault = record {
    no_code = λ block t rest code e. elim (h.complete block (t, rest, code, e)) [ inl p ↦ no_block block p | inr m ↦ other m ];
    no_fault = λ f t rest bad e. elim (h.named f (t, rest, bad, e)) [ inl p ↦ no_fault f p | inr m ↦ other m ];
  }

  open_without_bytes : DecodedAtStart {A = Global} stream bytes capacity (Ok None) taken → IsOpen stream bytes
  open_without_bytes h = open_of (Ok None) h (not_out_of_memory None) (λ block p. p) (λ f p. p)

  open_by_io : (cause : _) → DecodedAtStart {A = Global} stream bytes capacity (Err (IoError cause)) taken → IsOpen stream bytes
  open_by_io cause h = open_of (Err (IoError cause)) h (λ m. absurd cc) (λ block p. p) (λ f p. p)

  two_bytes : (cause : _) → DecodedAtStart {A = Global} stream bytes capacity (Err (IoError cause)) taken → 2 ≤ length bytes
  two_bytes cause h = elim (cases_lt (length bytes) 2) [
    | inl few ↦ absurd (let q = h.none.1 few in cc)
    | inr le ↦ le
  ]

  fault_there : (e : Error) → (e ≡ OutOfMemory → ⊥) → (IsIo e → ⊥) → DecodedAtStart {A = Global} stream bytes capacity (Err e) taken → (f : Fault) × IsFault f e × BeginsWithLength (FrameBytesFault stream f) bytes taken
  fault_there e no_memory no_io h = elim h.fault [
    | inl m ↦ absurd (no_memory m)
    | inr (inl i) ↦ absurd (no_io i)
    | inr (inr f) ↦ f
  ]

  stays : position ≡ position + 0
  stays = omega arith

  -- what is answered, and the position after it
  pub event_is : (r : Answer) (ends : Bool) → DecodedAtStart stream bytes capacity r taken
      → EventIs stream bytes ends capacity position (event_of r position (length bytes) ends) (position + moved_by (event_of r position (length bytes) ends) taken (length bytes))
  event_is (Ok (Some frame)) ends h = (taken, h.sound, refl)
  event_is (Ok None) true h = (refl, h.none.0 refl, refl)
  event_is (Ok None) false h = (refl, refl, refl, sym stays)
  event_is (Err (IoError cause)) true h = (refl, refl, two_bytes cause h, open_by_io cause h, refl)
  event_is (Err (IoError cause)) false h = (refl, refl, refl, sym stays)
  event_is (Err OutOfMemory) ends h = (refl, h.memory refl, sym stays)
  event_is (Err (FormatError text)) ends h = let f = fault_there (FormatError text) (λ m. cc) (λ i. cc) h in (refl, (f.0, f.1, (taken, f.2, refl)))
  event_is (Err (Unsupported text)) ends h = let f = fault_there (Unsupported text) (λ m. cc) (λ i. cc) h in (refl, (f.0, f.1, (taken, f.2, refl)))

  -- `ReadOn` after a try
  pub read_on_is_open : (r : Answer) (ends : Bool) (held : ℕ) → DecodedAtStart stream bytes capacity r taken → IsReadOn (event_of r position held ends) → IsOpen stream bytes
  read_on_is_open (Ok (Some frame)) ends held h is = absurd is
  read_on_is_open (Ok None) ends held h is = open_without_bytes h
  read_on_is_open (Err (IoError cause)) ends held h is = open_by_io cause h
  read_on_is_open (Err OutOfMemory) ends held h is = absurd is
  read_on_is_open (Err (FormatError text)) ends held h is = absurd is
  read_on_is_open (Err (Unsupported text)) ends held h is = absurd is

  -- ---- where what stands there is known

  memory_stays : (r : Answer) (ends : Bool) (held : ℕ) → IsOutOfMemory (frame_answer r) → IsOutOfMemory (event_of r position held ends)
  memory_stays (Ok (Some frame)) ends held m = absurd cc
  memory_stays (Ok None) ends held m = absurd cc
  memory_stays (Err e) ends held m =
      let is : e ≡ OutOfMemory = cc in
      subst (λ (x : Error). IsOutOfMemory (event_of (Err x) position held ends)) (sym is) refl

  pub frame_is_complete : (r : Answer) (ends : Bool) (held : ℕ) → DecodedAtStart stream bytes capacity r taken → (block : Block) → BeginsWith (Frame stream block) bytes
      → IsDecodedAnd (event_of r position held ends) (λ frame. block_view frame.block ≡ block) ⊎ IsOutOfMemory (event_of r position held ends)
  frame_is_complete r ends held h block begins = elim (h.complete block begins) [ inl p ↦ inl (decoded r p) | inr m ↦ inr (memory_stays r ends held m) ]
    where
      decoded : (r : Answer) → IsOkAnd (frame_answer r) (λ found. IsSomeAnd found (λ x. block_view x ≡ block)) → IsDecodedAnd (event_of r position held ends) (λ frame. block_view frame.block ≡ block)
      decoded (Ok (Some frame)) p = p
      decoded (Ok None) p = absurd p
      decoded (Err e) p = absurd p

  pub fault_is_complete : (r : Answer) (ends : Bool) (held : ℕ) → DecodedAtStart stream bytes capacity r taken → (f : Fault) → BeginsWith (FrameBytesFault stream f) bytes
      → IsFaultyAnd (event_of r position held ends) (λ fault. IsFault f fault.error) ⊎ IsOutOfMemory (event_of r position held ends)
  fault_is_complete r ends held h f begins = elim (h.named f begins) [ inl p ↦ inl (faulty r p) | inr m ↦ inr (memory_stays r ends held m) ]
    where
      faulty : (r : Answer) → IsErrAnd (frame_answer r) (IsFault f) → IsFaultyAnd (event_of r position held ends) (λ fault. IsFault f fault.error)
      faulty (Ok (Some frame)) p = absurd p
      faulty (Ok None) p = absurd p
      faulty (Err (FormatError text)) p = p
      faulty (Err (Unsupported text)) p = p
      faulty (Err (IoError cause)) p = absurd p
      faulty (Err OutOfMemory) p = absurd p

  pub end_is_complete : (r : Answer) (ends : Bool) (held : ℕ) → DecodedAtStart stream bytes capacity r taken → length bytes < 2 → ends ≡ true → event_of r position held ends ≡ Ok End
  end_is_complete (Ok None) ends held h few e = ap (λ (b : Bool). event_of (Ok None) position held b) e
  end_is_complete (Ok (Some frame)) ends held h few e = let q = h.none.1 few in absurd cc
  end_is_complete (Err x) ends held h few e = let q = h.none.1 few in absurd cc

  -- what is open has no frame and no fault
  not_decoded : (frame : DecodedFrame Global) → DecodedAtStart {A = Global} stream bytes capacity (Ok (Some frame)) taken → IsOpen stream bytes → ⊥
  not_decoded frame h is = let k = h.sound in is.no_code (block_view frame.block) k.0 k.1 k.2.0 k.3

  not_faulty : (e : Error) → (e ≡ OutOfMemory → ⊥) → (IsIo e → ⊥) → DecodedAtStart {A = Global} stream bytes capacity (Err e) taken → IsOpen stream bytes → ⊥
  not_faulty e no_memory no_io h is =
      let f = fault_there e no_memory no_io h in
      let k = f.2 in
      is.no_fault f.0 k.0 k.1 k.2 k.3

  pub cut_is_complete : (r : Answer) (ends : Bool) (held : ℕ) → DecodedAtStart stream bytes capacity r taken → 2 ≤ length bytes → IsOpen stream bytes → ends ≡ true → IsCutFrame (event_of r position held ends) ⊎ IsOutOfMemory (event_of r position held ends)
  cut_is_complete (Ok (Some frame)) ends held h two is e = absurd (not_decoded frame h is)
  cut_is_complete (Ok None) ends held h two is e = absurd (omega (arith, h.none.0 refl, two))
  cut_is_complete (Err (IoError cause)) ends held h two is e = inl (subst (λ (b : Bool). IsCutFrame (event_of (Err (IoError cause)) position held b)) (sym e) tt)
  cut_is_complete (Err OutOfMemory) ends held h two is e = inr refl
  cut_is_complete (Err (FormatError text)) ends held h two is e = absurd (not_faulty (FormatError text) (λ m. cc) (λ i. cc) h is)
  cut_is_complete (Err (Unsupported text)) ends held h two is e = absurd (not_faulty (Unsupported text) (λ m. cc) (λ i. cc) h is)

  pub read_on_is_complete : (r : Answer) (ends : Bool) (held : ℕ) → DecodedAtStart stream bytes capacity r taken → IsOpen stream bytes → ends ≡ false → IsReadOn (event_of r position held ends) ⊎ IsOutOfMemory (event_of r position held ends)
  read_on_is_complete (Ok (Some frame)) ends held h is e = absurd (not_decoded frame h is)
  read_on_is_complete (Ok None) ends held h is e = inl (subst (λ (b : Bool). IsReadOn (event_of (Ok None) position held b)) (sym e) tt)
  read_on_is_complete (Err (IoError cause)) ends held h is e = inl (subst (λ (b : Bool). IsReadOn (event_of (Err (IoError cause)) position held b)) (sym e) tt)
  read_on_is_complete (Err OutOfMemory) ends held h is e = inr refl
  read_on_is_complete (Err (FormatError text)) ends held h is e = absurd (not_faulty (FormatError text) (λ m. cc) (λ i. cc) h is)
  read_on_is_complete (Err (Unsupported text)) ends held h is e = absurd (not_faulty (Unsupported text) (λ m. cc) (λ i. cc) h is)

-- ---- more bytes of the stream

begins_longer : {Code : List ℕ → Type 0} (bytes more : List ℕ) (taken : ℕ) → BeginsWithLength Code bytes taken → BeginsWithLength Code (bytes ++ more) taken
begins_longer bytes more taken (t, rest, code, e, count) = (t, rest ++ more, code, ap (λ (s : List ℕ). s ++ more) e ∙ append_assoc t rest more, count)

-- an answer is what stands there in all bytes
module _ (stream : Option StreamFormat) (bytes more : List ℕ) (ends : Bool) (capacity position new : ℕ) (last : ends ≡ true → more ≡ []) where
  all_there : ends ≡ true → bytes ≡ bytes ++ more
  all_there e = sym (append-nil bytes) ∙ ap (λ (s : List ℕ). bytes ++ s) (sym (last e))

  pub event_of_all : (r : Result Event Error) → IsAnswer r → EventIs stream bytes ends capacity position r new → EventIs stream (bytes ++ more) true capacity position r new
  event_of_all (Ok (Decoded frame)) is h = (h.0, begins_longer bytes more h.0 h.1, h.2)
  event_of_all (Ok (Faulty fault)) is h = let k = h.1 in let p = k.2 in (h.0, (k.0, k.1, (p.0, begins_longer bytes more p.0 p.1, p.2)))
  event_of_all (Ok End) is h = subst (λ (s : List ℕ). EventIs stream s true capacity position (Ok End) new) (all_there h.0) (refl, h.1, h.2)
  event_of_all (Ok (Cut at)) is h = subst (λ (s : List ℕ). EventIs stream s true capacity position (Ok (Cut at)) new) (all_there h.1) (h.0, refl, h.2, h.3, h.4)
  event_of_all (Ok (ReadOn needed)) is h = absurd is
  event_of_all (Err e) is h = absurd is
