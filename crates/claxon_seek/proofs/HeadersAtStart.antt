-- The header of a frame that bytes in memory begin with.
use Rattle.std.proofs.Common.{◌≡◌, ◌⊎◌, inl, inr, ℕ, ◌-◌, ◌<◌, List, [], ◌++◌, length, Option, None, Some, refl, sym, ap, subst, ◌∙◌}
use Rattle.std.specs.Prelude.{IfErr, IfOk, IfSome, IsErrAnd, IsOkAnd, IsSomeAnd, Ok, Err}
use Rattle.claxon_format.specs.read.Frame.{Start, frame_bytes_at, frame_without_crc_at, start_at, start_of}
use Rattle.claxon_format.specs.read.Reading.{Done, Faulty, Incomplete, Reading}
use Rattle.claxon_format.proofs.FrameBytes.{Reads-frame_bytes, Reads-start}
use Rattle.claxon.specs.Bits.{bits_of}
use Rattle.claxon.specs.BlockInfo.{HeaderBytesFault, HeaderOf, info_of_start}
use Rattle.claxon.specs.BlockInfos.{BlockInfo}
use Rattle.claxon.specs.Crc.{crc16}
use Rattle.claxon.specs.Cursor.{cursor_left}
use Rattle.claxon.specs.Error.{IsFault, IsIo}
use Rattle.claxon.specs.Errors.{Error}
use Rattle.claxon.specs.Errors.TheVariants.{OutOfMemory}
use Rattle.claxon.specs.Fault.{Fault}
use Rattle.claxon.specs.Frame.{Block, Frame, FrameBytesFault, IsBitDepth, StreamFormat, known_bit_depth}
use Rattle.claxon.specs.Gives.{ReadFailedIn}
use Rattle.claxon.specs.Promises.{FaultIsComplete, FaultIsSound, FoundIsComplete, FoundIsSound, IsOutOfMemory, NoneIsEof, ReadFailed, Remains}
use Rattle.claxon.specs.StartedFrame.{Started, StartedAnswer, StartedCode, info_of_started, started_view}
use Rattle.claxon.specs.State.{State}
use Rattle.claxon.specs.Prefix.{BeginsWith}
use Rattle.claxon.proofs.FramesInMemory.{Slice, begins_with_consumed, slice_state}
use Rattle.claxon.proofs.StartedFrames.{header_of_started}
use Rattle.claxon.proofs.FrameHeaders.{frame_has_header, header_fault_is_frames}
use Rattle.claxon_seek.specs.AtStart.{FoundHeaderIsThere, FrameAtStart, HeaderAtStart, header_of_length, header_said}
use Rattle.claxon_seek.proofs.AtStart.{begins_with_length, shown_bytes}

-- a header has one CRC
started_of_header : (stream : Option StreamFormat) (info : BlockInfo) (t : List ℕ) → HeaderOf stream info t → (v : Started) × StartedCode stream v t × (info_of_started v ≡ info)
started_of_header stream info t (h, code, is) = (record { start = start_of stream h; crc = crc16 (bits_of t) }, (h, code, refl, refl), sym is)

module _ (stream : Option StreamFormat) (bytes : List ℕ) (a : State ℕ) (b : Slice) (len : ℕ) (remains : Remains a bytes) (never : ReadFailedIn a (slice_state b) → ⊥) where
  there : (t rest : List ℕ) → bytes ≡ t ++ rest → Remains a (t ++ rest)
  there t rest e = record { known = remains.known; are = remains.are ∙ e }

  sound : (r : StartedAnswer) → FoundIsSound started_view r (StartedCode stream) a (slice_state b) → IfOk (header_said (header_of_length r len)) (λ found. IfSome found (λ info. BeginsWith (HeaderOf stream info) bytes))
  sound (Ok None) h = tt
  sound (Ok (Some started)) h =
      let k = begins_with_consumed a (slice_state b) bytes remains h in
      (k.0, k.1, header_of_started stream (started_view started) k.0 k.2, k.3)
  sound (Err e) h = tt

  complete : (r : StartedAnswer) → (IsOutOfMemory r → ⊥) → FoundIsComplete started_view r (StartedCode stream) a (slice_state b) → (info : BlockInfo) → BeginsWith (HeaderOf stream info) bytes → IsOkAnd (header_said (header_of_length r len)) (λ found. IsSomeAnd found (λ x. x ≡ info))
  complete r no_memory h info begins =
      let v = started_of_header stream info begins.0 begins.2 in
      elim (h v.0 begins.0 begins.1 v.1 (there begins.0 begins.1 begins.3)) [
        | inl p ↦ said r p.0
        | inr (inl m) ↦ absurd (no_memory m)
        | inr (inr f) ↦ absurd (never f.1)
      ]
    where
      said : (r : StartedAnswer) → IsOkAnd r (λ found. IsSomeAnd found (λ x. started_view x ≡ (started_of_header stream info begins.0 begins.2).0)) → IsOkAnd (header_said (header_of_length r len)) (λ found. IsSomeAnd found (λ x. x ≡ info))
      said (Ok (Some started)) p = ap info_of_started p ∙ (started_of_header stream info begins.0 begins.2).2
      said (Ok None) p = p
      said (Err e) p = p

  eof : (r : StartedAnswer) → NoneIsEof 2 r a (slice_state b) → ((xs : List ℕ) → Remains a xs → length xs < 2 → ((r ≡ Ok None) × Remains (slice_state b) []) ⊎ ReadFailed r a (slice_state b)) → (header_said (header_of_length r len) ≡ Ok None → length bytes < 2) × (length bytes < 2 → header_said (header_of_length r len) ≡ Ok None)
  eof r none few = (only_few r none, λ small. elim (few bytes remains small) [ inl p ↦ ap (λ (r : StartedAnswer). header_said (header_of_length r len)) p.0 | inr f ↦ absurd (never f.1) ])
    where
      only_few : (r : StartedAnswer) → NoneIsEof 2 r a (slice_state b) → header_said (header_of_length r len) ≡ Ok None → length bytes < 2
      only_few (Ok None) h e = subst (λ (s : List ℕ). length s < 2) remains.are (h refl remains.known).0
      only_few (Ok (Some started)) h e = absurd cc
      only_few (Err x) h e = absurd cc

  fault : (r : StartedAnswer) → (IsOutOfMemory r → ⊥) → FaultIsSound r (HeaderBytesFault stream) a (slice_state b) → IfErr (header_said (header_of_length r len)) (λ e. IsIo e ⊎ ((f : Fault) × IsFault f e × BeginsWith (HeaderBytesFault stream f) bytes))
  fault (Ok None) no_memory h = tt
  fault (Ok (Some started)) no_memory h = tt
  fault (Err e) no_memory h = elim h [
    | inl m ↦ absurd (no_memory cc)
    | inr (inl i) ↦ inl i
    | inr (inr k) ↦ inr (let f = k remains.known in (f.0, f.1, begins_with_consumed a (slice_state b) bytes remains f.2))
  ]

  named : (r : StartedAnswer) → (IsOutOfMemory r → ⊥) → FaultIsComplete r (HeaderBytesFault stream) a (slice_state b) → (f : Fault) → BeginsWith (HeaderBytesFault stream f) bytes → IsErrAnd (header_said (header_of_length r len)) (IsFault f)
  named r no_memory h f begins = elim (h f begins.0 begins.1 begins.2 (there begins.0 begins.1 begins.3)) [
    | inl p ↦ same r p.0
    | inr (inl m) ↦ absurd (no_memory m)
    | inr (inr x) ↦ absurd (never x.1)
  ]
    where
      same : (r : StartedAnswer) → IsErrAnd r (IsFault f) → IsErrAnd (header_said (header_of_length r len)) (IsFault f)
      same (Ok None) p = p
      same (Ok (Some started)) p = p
      same (Err e) p = p

  pub header_at_start : (r : StartedAnswer) → (IsOutOfMemory r → ⊥) → FoundIsSound started_view r (StartedCode stream) a (slice_state b) → FoundIsComplete started_view r (StartedCode stream) a (slice_state b) → NoneIsEof 2 r a (slice_state b)
      → ((xs : List ℕ) → Remains a xs → length xs < 2 → ((r ≡ Ok None) × Remains (slice_state b) []) ⊎ ReadFailed r a (slice_state b)) → FaultIsSound r (HeaderBytesFault stream) a (slice_state b) → FaultIsComplete r (HeaderBytesFault stream) a (slice_state b)
      → HeaderAtStart stream bytes (header_said (header_of_length r len))
  header_at_start r no_memory is_sound is_complete none_is_eof eof_is_none fault_is_sound fault_is_complete = record {
    sound = sound r is_sound;
    complete = complete r no_memory is_complete;
    eof = eof r none_is_eof eof_is_none;
    fault = fault r no_memory fault_is_sound;
    named = named r no_memory fault_is_complete;
  }

  pub header_is_there : (r : StartedAnswer) → len ≡ length bytes - cursor_left shown_bytes b → FoundIsSound started_view r (StartedCode stream) a (slice_state b) → FoundHeaderIsThere stream bytes (header_of_length r len)
  header_is_there (Ok None) count h = tt
  header_is_there (Ok (Some started)) count h = begins_with_length bytes a b len remains count h
  header_is_there (Err e) count h = tt

-- memory isn't refused
pub never_memory : (r : StartedAnswer) (len : ℕ) → (IsOutOfMemory r → ⊥) → IsOutOfMemory (header_of_length r len) → ⊥
never_memory (Ok None) len h e = absurd cc
never_memory (Ok (Some started)) len h e = absurd cc
never_memory (Err x) len h e = h cc

-- ---- bytes without a header

module _ (stream : Option StreamFormat) (depth : IsBitDepth (known_bit_depth stream)) (bytes : List ℕ) (none : (info : BlockInfo) → BeginsWith (HeaderOf stream info) bytes → ⊥) where
  -- begin with no frame
  no_frame : (b : Block) → BeginsWith (Frame stream b) bytes → ⊥
  no_frame b (t, rest, c, e) = let k = frame_has_header stream b t rest c in none k.0 (k.2.0, k.2.1, k.2.2, e ∙ k.2.3)

  -- and if with the fault of a frame, then with that of its header
  pub fault_of_header : (f : Fault) → BeginsWith (FrameBytesFault stream f) bytes → BeginsWith (HeaderBytesFault stream f) bytes
  unfolding frame_without_crc_at
  fault_of_header f (t, rest, bad, e) = go (start_at stream bytes) refl
    where
      whole : frame_bytes_at stream bytes ≡ Faulty f rest
      whole = ap (frame_bytes_at stream) e ∙ (Reads-frame_bytes stream depth).bad_again f t rest bad

      go : (x : Reading ℕ Start) → start_at stream bytes ≡ x → BeginsWith (HeaderBytesFault stream f) bytes
      go (Done start m) is =
          let k = (Reads-start stream).takes bytes start m is in
          absurd (none (info_of_start start) (k.0, m, (k.1.0, k.1.1, ap info_of_start k.1.2), k.2))
      go (Faulty g m) is =
          let frame : frame_bytes_at stream bytes ≡ Faulty g m = rw is refl in
          let same = sym frame ∙ whole in
          let p : g ≡ f = cc in
          let k = (Reads-start stream).bad bytes g m is in
          (k.0, m, subst (λ (z : Fault). HeaderBytesFault stream z k.0) p k.1, k.2)
      go Incomplete is =
          let frame : frame_bytes_at stream bytes ≡ Incomplete = rw is refl in
          let same = sym frame ∙ whole in
          absurd cc

module _ (stream : Option StreamFormat) (depth : IsBitDepth (known_bit_depth stream)) (bytes : List ℕ) where
  -- the same is answered for a frame
  pub none_at_start : HeaderAtStart stream bytes (Ok None) → FrameAtStart stream bytes (Ok None) 0
  none_at_start h =
      let none = λ (info : BlockInfo) (begins : BeginsWith (HeaderOf stream info) bytes). h.complete info begins in
      record {
        sound = tt;
        complete = λ b begins. absurd (no_frame stream depth bytes none b begins);
        eof = (λ e. h.eof.0 refl, λ few. refl);
        fault = tt;
        named = λ f begins. absurd (h.named f (fault_of_header stream depth bytes none f begins));
        memory = λ m. absurd cc;
      }

  pub refused_at_start : (e : Error) → (e ≡ OutOfMemory → ⊥) → HeaderAtStart stream bytes (Err e) → FrameAtStart stream bytes (Err e) 0
  refused_at_start e other h =
      let none = λ (info : BlockInfo) (begins : BeginsWith (HeaderOf stream info) bytes). h.complete info begins in
      record {
        sound = tt;
        complete = λ b begins. absurd (no_frame stream depth bytes none b begins);
        eof = (λ q. absurd cc, λ few. absurd (let q = h.eof.1 few in cc));
        fault = elim h.fault [
          | inl io ↦ inr (inl io)
          | inr f ↦ inr (inr (f.0, f.1, (f.2.0, f.2.1, header_fault_is_frames stream f.0 f.2.0 f.2.2, f.2.3)))
        ];
        named = λ f begins. inl (h.named f (fault_of_header stream depth bytes none f begins));
        memory = λ m. absurd (other cc);
      }
