-- A frame that is read with its header.
use Rattle.std.proofs.Common.{◌≡◌, ℕ, List, [], ◌++◌, Option, None, Some, inl, inr, refl, sym, ap, ap₂, subst, ◌∙◌, append-nil, append_assoc, arith}
use Rattle.std.specs.Prelude.{Result, Ok, Err}
use Rattle.claxon_format.specs.Frame.{Block, Frame, IsBitDepth, StreamFormat, known_bit_depth}
use Rattle.claxon_format.specs.read.Frame.{Start, frame_bytes_at, start_at}
use Rattle.claxon_format.specs.read.Reading.{Done, bind, done}
use Rattle.claxon_format.proofs.FormatLaws.{frames_unambiguous}
use Rattle.claxon_input.specs.declared.error.Error.{Error}
use Rattle.claxon_input.specs.declared.error.Error.TheVariants.{OutOfMemory}
use Rattle.claxon_input.specs.Promises.{Consumed, FoundIsComplete, FoundIsSound, IfOutOfMemory, IsExcused}
use Rattle.claxon_input.specs.State.{State}
use Rattle.claxon_input.specs.Gives.{Consumes, GivesOrEofOrOutOfMemory, or_eof}
use Rattle.claxon_input.proofs.FieldOrEof.{some_read}
use Rattle.claxon_frame.specs.BlockInfo.{HeaderOf, header_info_at, info_of_start}
use Rattle.claxon_frame.specs.DecodedFrame.{DecodedAnswer, DecodedIsUnambiguous, FrameValue, FrameWithHeader, InfoIsAt, InfoIsRead, decoded_view, frame_answer}
use Rattle.claxon_frame.specs.FrameReader.{BufferTooSmall, FrameAnswer, OutOfMemoryBeyondCapacity, ReadsFrame, block_view}
use Rattle.claxon_frame.specs.declared.frame.info.BlockInfo.{BlockInfo}
use Rattle.claxon_frame.proofs.BlockInfo.{Reads-info, headers_unambiguous}
use Rattle.claxon_frame.proofs.FrameHeaders.{frame_has_header}
use Rattle.claxon_frame.proofs.FramePromises.{frame_promises, memory_is}

-- after a whole frame, what its header says is read at its start
pub info_at_start : (stream : Option StreamFormat) (start : Start) {a b c : State ℕ} {P : List ℕ → List ℕ → Type 0} → Consumes a b (λ s m. or_eof 2 (start_at stream) s ≡ Done (Some start) m) → Consumes a c P → Consumes a c (λ s m. InfoIsAt stream (info_of_start start) s)
info_at_start stream start {a = a} {b = b} h k = record {
  errors = k.errors;
  empty_reads = k.empty_reads;
  loans = k.loans;
  known = λ known.
      let x = k.known known in
      let q = some_read 2 (start_at stream) a.remaining start b.remaining (h.known known).is in
      record {
        known = x.known;
        is = (b.remaining, ap (λ r. bind r (λ start. done (info_of_start start))) q.1);
        rest = x.rest;
        values = x.values;
      };
}

-- ---- the header of a frame is determined

-- what is read at the start of a header is what it says
same_info : (stream : Option StreamFormat) (info said : BlockInfo) (s u m : List ℕ) → InfoIsAt stream info s → HeaderOf stream said u → s ≡ u ++ m → info ≡ said
same_info stream info said s u m at header e =
    let k : Done info at.0 ≡ Done said m = sym at.1 ∙ ap (header_info_at stream) e ∙ (Reads-info stream).again said u m header in
    cc

-- bytes that begin with a frame have one header
pub one_header : (stream : Option StreamFormat) (a b : FrameValue) (s t p u q : List ℕ) → FrameWithHeader stream a t → FrameWithHeader stream b u → s ≡ t ++ p → s ≡ u ++ q → a.info ≡ b.info
one_header stream a b s t p u q (frame, (v, v_rest, v_header, v_is)) (other, (w, w_rest, w_header, w_is)) e f =
    let left : s ≡ v ++ (v_rest ++ p) = rw (v_is, append_assoc) at e in
    let right : s ≡ w ++ (w_rest ++ q) = rw (w_is, append_assoc) at f in
    ((headers_unambiguous stream).one_code a.info b.info v w (v_rest ++ p) (w_rest ++ q) v_header w_header (sym left ∙ right)).0

same_value : (a b : FrameValue) → a.info ≡ b.info → a.block ≡ b.block → a ≡ b
same_value a b e f = ap₂ (λ (i : BlockInfo) (z : Block). record { info = i; block = z }) e f

pub decoded_unambiguous : (stream : Option StreamFormat) → IsBitDepth (known_bit_depth stream) → DecodedIsUnambiguous stream
decoded_unambiguous stream depth =
    let frames = frames_unambiguous stream depth in
    record {
      one_code = λ a b t u x y c d e.
          let k = frames.one_code a.block b.block t u x y c.0 d.0 e in
          (same_value a b (one_header stream a b (t ++ x) t x u y c d refl e) k.0, k.1);
      no_fault = λ a f t u x y c bad e. frames.no_fault a.block f t u x y c.0 bad e;
      one_fault = frames.one_fault;
    }

-- ---- the clauses of a call that reads a frame with its header

module _ (stream : Option StreamFormat) (depth : IsBitDepth (known_bit_depth stream)) where
  sound_of : (info : BlockInfo) (block : Block) (a b : State ℕ) → Consumed a b (Frame stream block) → Consumes a b (λ s m. InfoIsAt stream info s) → Consumed a b (FrameWithHeader stream (record { info = info; block = block }))
  sound_of info block a b frame at known =
      let k = frame known in
      let t : List ℕ = k.1.0 in
      let head = frame_has_header stream block t [] k.1.1 in
      let u : List ℕ = head.2.0 in
      let m : List ℕ = head.2.1 in
      let front : t ≡ u ++ m = sym (append-nil t) ∙ head.2.3 in
      let whole : a.remaining ≡ u ++ (m ++ b.remaining) = k.1.2 ∙ ap (λ (z : List ℕ). z ++ b.remaining) front ∙ append_assoc u m b.remaining in
      let same = same_info stream info head.0 a.remaining u (m ++ b.remaining) (at.known known).is head.2.2 whole in
      (k.0, (t, (k.1.1, (u, m, subst (λ (x : BlockInfo). HeaderOf stream x u) (sym same) head.2.2, front)), k.1.2))

  pub decoded_sound : {A : Type 0} (r : DecodedAnswer A) (a b : State ℕ) → FoundIsSound block_view (frame_answer r) (Frame stream) a b → InfoIsRead stream r a b → FoundIsSound decoded_view r (FrameWithHeader stream) a b
  decoded_sound (Ok (Some frame)) a b sound at = sound_of frame.info (block_view frame.block) a b sound at
  decoded_sound (Ok None) a b sound at = tt
  decoded_sound (Err e) a b sound at = tt

  excused_as : {A : Type 0} (r : DecodedAnswer A) (a b : State ℕ) → IsExcused (frame_answer r) a b → IsExcused r a b
  excused_as (Ok (Some frame)) a b (inl m) = absurd cc
  excused_as (Ok (Some frame)) a b (inr f) = absurd f.0
  excused_as (Ok None) a b (inl m) = absurd cc
  excused_as (Ok None) a b (inr f) = absurd f.0
  excused_as {A = A} (Err e) a b (inl m) = let k : e ≡ OutOfMemory = cc in inl (ap (λ (x : Error). let q : DecodedAnswer A = Err x in q) k)
  excused_as (Err e) a b (inr f) = inr f

  pub decoded_complete : {A : Type 0} (r : DecodedAnswer A) (a b : State ℕ) → FoundIsComplete block_view (frame_answer r) (Frame stream) a b → InfoIsRead stream r a b → FoundIsComplete decoded_view r (FrameWithHeader stream) a b
  decoded_complete (Ok (Some frame)) a b complete at y t rest code is = elim (complete y.block t rest code.0 is) [
    | inl p ↦
        (let header = code.1 in
        let whole : a.remaining ≡ header.0 ++ (header.1 ++ rest) = is.are ∙ ap (λ (z : List ℕ). z ++ rest) header.3 ∙ append_assoc header.0 header.1 rest in
        let same = same_info stream frame.info y.info a.remaining header.0 (header.1 ++ rest) (at.known is.known).is header.2 whole in
        inl (same_value (decoded_view frame) y same p.0, p.1))
    | inr x ↦ inr (excused_as (Ok (Some frame)) a b x)
  ]
  decoded_complete (Ok None) a b complete at y t rest code is = elim (complete y.block t rest code.0 is) [
    | inl p ↦ absurd p.0
    | inr x ↦ inr (excused_as (Ok None) a b x)
  ]
  decoded_complete (Err e) a b complete at y t rest code is = elim (complete y.block t rest code.0 is) [
    | inl p ↦ absurd p.0
    | inr x ↦ inr (excused_as (Err e) a b x)
  ]

  -- memory is refused only for samples
  any_capacity : {A : Type 0} (capacity : ℕ) (r : Result A Error) (a b : State ℕ) → OutOfMemoryBeyondCapacity stream capacity r a b → OutOfMemoryBeyondCapacity stream 0 r a b
  any_capacity capacity r a b h out_of_memory is_known =
      let k = h out_of_memory is_known in
      let t = k.1 in
      let more = t.1.2 in
      (k.0, (t.0, (t.1.0, t.1.1, omega arith), t.2))

  pub reads_frame : (capacity : ℕ) (r : FrameAnswer) (a b : State ℕ) → GivesOrEofOrOutOfMemory 2 block_view r (frame_bytes_at stream) a b → IfOutOfMemory r (BufferTooSmall stream capacity a b) → ReadsFrame stream r a b
  reads_frame capacity r a b gives too_small = record {
    promises = frame_promises block_view stream depth r a b gives;
    memory = any_capacity capacity r a b (memory_is stream capacity r a b too_small);
    gives = gives;
  }
