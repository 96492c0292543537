-- What a call returns that reads a whole stream in memory.
use Rattle.std.proofs.Common.{◌≡◌, ◌⊎◌, inl, inr, ℕ, ℤ, ◌<◌, true, List, [], ◌∷◌, ◌++◌, length, Option, None, Some, refl, sym, ap, subst, ◌∙◌, Bor}
use Rattle.std.specs.Prelude.{IfErr, IfOk, IsErrAnd, Result, Ok, Err}
use Rattle.claxon.specs.Fault.{Fault}
use Rattle.claxon.specs.Frame.{Block, Frame, FrameBytesFault, Frames, NoFrameLeft, IsBitDepth, StreamFormat}
use Rattle.claxon.specs.Heads.{Head, HeadCode, HeadFault, Marker, stream_marker}
use Rattle.claxon.specs.Streams.{IsStream, stream_of, with_samples}
use Rattle.claxon.specs.Cursor.{cursor_source}
use Rattle.claxon.specs.Error.{IsFault}
use Rattle.claxon.specs.Gives.{Consumes}
use Rattle.claxon.specs.Promises.{CodeIsComplete, Remains, IsExcused, IsOutOfMemory, FaultIsComplete, FaultIsSound, Consumed}
use Rattle.claxon.specs.State.{State, RemainingIsKnown}
use Rattle.claxon.specs.Errors.{Error}
use Rattle.claxon.specs.Errors.TheVariants.{OutOfMemory}
use Rattle.claxon.specs.FrameReader.{HeaderOfLargerBlock}
use Rattle.claxon.specs.ReadHead.{HeadOutOfMemoryAfterHeader, MemoryMayBeNeeded}
use Rattle.claxon.specs.SampleRuns.{end_found, samples_of}
use Rattle.claxon.proofs.SampleRuns.{all_frames_read, excused_after, fault_no_frame, short_no_frame}
use Rattle.claxon_uses.specs.Collecting.{Collects, LacksMemory, StopsCollecting}
use Rattle.claxon.specs.Prefix.{BeginsWith}
use Rattle.claxon_uses.specs.StreamsInMemory.{SliceStreamFaultIsComplete, SliceStreamIsComplete, HasSamples, SliceStreamOutOfMemoryAfterHeader, SliceStreamFaultIsSound, SliceStreamIsSound}
use Rattle.claxon.proofs.OutOfMemory.{not_out_of_memory, same_out_of_memory}
use Rattle.claxon.proofs.FramesInMemory.{Slice, slice_state, begins_with_consumed}
use Rattle.claxon.proofs.InMemory.{cursor_just_out_of_memory}

-- ---- a cursor over a slice

just_out_of_memory : {A : Type 0} (r : Result A Error) (b after : Slice) → IsExcused r (slice_state b) (slice_state after) → IsOutOfMemory r
just_out_of_memory r b after x = cursor_just_out_of_memory (λ (s : Bor (List ℕ)). s.now) r b after x

-- an excuse after frames that were read is `OutOfMemory`
out_of_memory_after_frames : {A : Type 0} {P : List ℕ → List ℕ → Type 0} (r : Result A Error) (b after : Slice) (mid : State ℕ) → Consumes (slice_state b) mid P → IsExcused r mid (slice_state after) → IsOutOfMemory r
out_of_memory_after_frames r b after mid w x = just_out_of_memory r b after (excused_after (slice_state after) r w x)

-- ---- the whole call

-- all clauses of it
pub record SliceStreamPromises {X : Type 0} (view : X → List ℤ) (bytes : List ℕ) (r : Result X Error) : Type 0 where
  pub sound : SliceStreamIsSound view bytes r
  pub complete : SliceStreamIsComplete view bytes r
  pub fault : SliceStreamFaultIsSound bytes r
  pub named : SliceStreamFaultIsComplete bytes r
  pub memory : SliceStreamOutOfMemoryAfterHeader bytes r

module _ {X Z : Type 0} (view : X → List ℤ) (show : Z → Head) (bytes : List ℕ) (a b : Slice) (remains : Remains (slice_state a) bytes) where
  there : (t rest : List ℕ) → bytes ≡ t ++ rest → Remains (slice_state a) (t ++ rest)
  there t rest e = record { known = remains.known; are = remains.are ∙ e }

  -- no head was read
  pub head_failed : (e : Error) → CodeIsComplete show (let q : Result Z Error = Err e in q) (HeadCode (with_samples true)) (slice_state a) (slice_state b)
      → FaultIsSound (let q : Result Z Error = Err e in q) (HeadFault (with_samples true)) (slice_state a) (slice_state b) → FaultIsComplete (let q : Result Z Error = Err e in q) (HeadFault (with_samples true)) (slice_state a) (slice_state b)
      → HeadOutOfMemoryAfterHeader (cursor_source (λ (s : Bor (List ℕ)). s.now)) a (let q : Result Z Error = Err e in q) → SliceStreamPromises view bytes (Err e)
  head_failed e complete fault named memory = record {
    sound = tt;
    complete = λ h blocks rest st few. inr (no_head h blocks rest st);
    fault = elim fault [
      | inl m ↦ inl m
      | inr (inl i) ↦ inr (inl i)
      | inr (inr k) ↦ inr (inr (let f = k remains.known in (f.0, f.1, inl (begins_with_consumed (slice_state a) (slice_state b) bytes remains f.2))))
    ];
    named = λ f bad. elim bad [
      | inl begins ↦ elim (named f begins.0 begins.1 begins.2 (there begins.0 begins.1 begins.3)) [
        | inl p ↦ inl p.0
        | inr x ↦ inr (same_out_of_memory e (cursor_just_out_of_memory (λ (s : Bor (List ℕ)). s.now) (let q : Result Z Error = Err e in q) a b x))
      ]
      | inr st ↦ inr (no_head st.0 st.1 st.2 st.3)
    ];
    memory = λ s. inl (subst (MemoryMayBeNeeded (Marker stream_marker)) remains.are (memory (same_out_of_memory e s) remains.known));
  }
    where
      no_head : (h : Head) (blocks : List Block) (rest : List ℕ) → IsStream true bytes h blocks rest → IsOutOfMemory (let q : Result X Error = Err e in q)
      no_head h blocks rest st = elim (complete h st.front st.frames st.head (there st.front st.frames st.joined)) [
        | inl p ↦ absurd p.0
        | inr x ↦ same_out_of_memory e (cursor_just_out_of_memory (λ (s : Bor (List ℕ)). s.now) (let q : Result Z Error = Err e in q) a b x)
      ]

  -- a head was read
  module _ (z : Z) (stream : StreamFormat) (is : stream ≡ stream_of (show z).info) (bit_depth : IsBitDepth (Some stream.bit_depth)) (consumed : Consumed (slice_state a) (slice_state b) (HeadCode (with_samples true) (show z)))
      (complete : CodeIsComplete show (let q : Result Z Error = Ok z in q) (HeadCode (with_samples true)) (slice_state a) (slice_state b)) (named : FaultIsComplete (let q : Result Z Error = Ok z in q) (HeadFault (with_samples true)) (slice_state a) (slice_state b)) where
    is_known : RemainingIsKnown (slice_state b)
    is_known = (consumed remains.known).0

    stands : (blocks : List Block) (rest : List ℕ) → Frames (Some stream) (slice_state b).remaining blocks rest → NoFrameLeft (Some stream) rest → IsStream true bytes (show z) blocks rest
    stands blocks rest f c = let k = (consumed remains.known).1 in record {
      front = k.0;
      frames = (slice_state b).remaining;
      head = k.1;
      joined = sym remains.are ∙ k.2;
      blocks_are = subst (λ (s : StreamFormat). Frames (Some s) (slice_state b).remaining blocks rest) is f;
      complete = subst (λ (s : StreamFormat). NoFrameLeft (Some s) rest) is c;
    }

    no_excuse : IsExcused (let q : Result Z Error = Ok z in q) (slice_state a) (slice_state b) → ⊥
    no_excuse (inl s) = not_out_of_memory z s
    no_excuse (inr f) = f.0

    -- each stream that the bytes are has this head
    same_head : (h : Head) (blocks : List Block) (rest : List ℕ) → IsStream true bytes h blocks rest → (show z ≡ h) × (Frames (Some stream) (slice_state b).remaining blocks rest × NoFrameLeft (Some stream) rest)
    same_head h blocks rest st = elim (complete h st.front st.frames st.head (there st.front st.frames st.joined)) [
      | inr x ↦ absurd (no_excuse x)
      | inl p ↦ (
          let s : stream_of h.info ≡ stream = sym (is ∙ ap (λ (k : Head). stream_of k.info) p.0) in (
            p.0,
            (
              subst (λ (l : List ℕ). Frames (Some stream) l blocks rest) (sym p.1.are) (subst (λ (k : StreamFormat). Frames (Some k) st.frames blocks rest) s st.blocks_are),
              subst (λ (k : StreamFormat). NoFrameLeft (Some k) rest) s st.complete,
            ),
          )
          )
    ]

    not_head_fault : (f : Fault) → BeginsWith (HeadFault (with_samples true) f) bytes → ⊥
    not_head_fault f begins = elim (named f begins.0 begins.1 begins.2 (there begins.0 begins.1 begins.3)) [ inl p ↦ p.0 | inr x ↦ no_excuse x ]

    has_samples : BeginsWith (HeaderOfLargerBlock (Some stream) 0) (slice_state b).remaining ⊎ ((block : Block) × BeginsWith (Frame (Some stream) block) (slice_state b).remaining) → HasSamples bytes
    has_samples s = let k = (consumed remains.known).1 in (
      show z,
      k.0,
      (slice_state b).remaining,
      k.1,
      sym remains.are ∙ k.2,
      subst (λ (q : StreamFormat). BeginsWith (HeaderOfLargerBlock (Some q) 0) (slice_state b).remaining ⊎ ((block : Block) × BeginsWith (Frame (Some q) block) (slice_state b).remaining)) is s,
    )

    first_of : (blocks : List Block) (m : List ℕ) → Frames (Some stream) (slice_state b).remaining blocks m → BeginsWith (HeaderOfLargerBlock (Some stream) 0) m → HasSamples bytes
    first_of [] m f begins = has_samples (inl (subst (λ (l : List ℕ). BeginsWith (HeaderOfLargerBlock (Some stream) 0) l) (sym f) begins))
    first_of (x ∷ blocks) m f begins = has_samples (inr (x, (f.0, f.1, f.2, f.3)))

    -- a fault after the frames is one of the stream
    same_fault : (h : Head) (f : Fault) (rest : List ℕ) → show z ≡ h → BeginsWith (FrameBytesFault (Some (stream_of h.info)) f) rest → BeginsWith (FrameBytesFault (Some stream) f) rest
    same_fault h f rest e begins = subst (λ (q : StreamFormat). BeginsWith (FrameBytesFault (Some q) f) rest) (sym (is ∙ ap (λ (k : Head). stream_of k.info) e)) begins

    -- what follows the frames that were read
    module _ (end : Option Error) (xs : List ℤ) (h : Collects (cursor_source (λ (s : Bor (List ℕ)). s.now)) (Some stream) b end xs) where
      past : (g : Head) (blocks : List Block) (rest : List ℕ) → IsStream true bytes g blocks rest → ((blocks ≡ h.blocks) × Remains h.ends.between rest) ⊎ IsOutOfMemory (end_found end)
      past g blocks rest st = let s = same_head g blocks rest st in elim (all_frames_read (Some stream) bit_depth end h.blocks blocks rest h.ends is_known s.1.0 s.1.1) [ inl p ↦ inl p | inr x ↦ inr (just_out_of_memory (end_found end) b h.after x) ]

      fault_named_after : (f : Fault) (g : Head) (blocks : List Block) (rest : List ℕ) → IsStream true bytes g blocks rest → BeginsWith (FrameBytesFault (Some (stream_of g.info)) f) rest → IsErrAnd (end_found end) (IsFault f) ⊎ IsOutOfMemory (end_found end)
      fault_named_after f g blocks rest st begins = elim (past g blocks rest st) [
        | inr y ↦ inr y
        | inl p ↦ (
            let k = same_fault g f rest (same_head g blocks rest st).0 begins in
            elim (h.ends.last.promises.fault_is_complete f k.0 k.1 k.2 (record { known = p.1.known; are = p.1.are ∙ k.3 })) [ inl q ↦ inl q.0 | inr x ↦ inr (out_of_memory_after_frames (end_found end) b h.after h.ends.between h.ends.blocks_are.consumed x) ]
            )
      ]

    -- all frames were read
    all_collected : (x : X) → Collects (cursor_source (λ (s : Bor (List ℕ)). s.now)) (Some stream) b None (view x) → SliceStreamPromises view bytes (Ok x)
    all_collected x h =
        let w = h.ends.blocks_are.consumed.known is_known in
        let few : length h.ends.between.remaining < 2 = (h.ends.last.promises.none_is_eof refl w.known).0 in
        record {
          sound = (show z, h.blocks, h.ends.between.remaining, stands h.blocks h.ends.between.remaining w.is (short_no_frame (Some stream) h.ends.between.remaining few), few, sym h.samples);
          complete = λ g blocks rest st small. elim (past None (view x) h g blocks rest st) [ inl p ↦ inl (sym h.samples ∙ ap (λ (l : List Block). samples_of l) (sym p.0)) | inr y ↦ absurd (not_out_of_memory None y) ];
          fault = tt;
          named = λ f bad. absurd (elim bad [ inl begins ↦ not_head_fault f begins | inr st ↦ elim (fault_named_after None (view x) h f st.0 st.1 st.2 st.3 st.4) [ inl p ↦ p | inr y ↦ not_out_of_memory None y ] ]);
          memory = λ s. absurd (not_out_of_memory x s);
        }

    -- they ended with an error
    ended_by : (e : Error) (xs : List ℤ) → Collects (cursor_source (λ (s : Bor (List ℕ)). s.now)) (Some stream) b (Some e) xs → SliceStreamPromises view bytes (Err e)
    ended_by e xs h =
        let w = h.ends.blocks_are.consumed.known is_known in
        let here : Remains h.ends.between h.ends.between.remaining = record { known = w.known; are = refl } in
        record {
          sound = tt;
          complete = λ g blocks rest st few. elim (past (Some e) xs h g blocks rest st) [
            | inr y ↦ inr (same_out_of_memory e y)
            | inl p ↦ elim (h.ends.last.promises.eof_is_none rest p.1 few) [ inl q ↦ absurd (let k = q.0 in cc) | inr x ↦ inr (same_out_of_memory e (out_of_memory_after_frames (end_found (Some e)) b h.after h.ends.between h.ends.blocks_are.consumed x)) ]
          ];
          fault = elim h.ends.last.promises.fault_is_sound [
            | inl m ↦ inl m
            | inr (inl i) ↦ inr (inl i)
            | inr (inr bad) ↦ inr (inr (
                let f = bad w.known in
                let begins = begins_with_consumed h.ends.between (slice_state h.after) h.ends.between.remaining here f.2 in
                let st = stands h.blocks h.ends.between.remaining w.is (fault_no_frame (Some stream) bit_depth f.0 h.ends.between.remaining begins.0 begins.1 begins.2 begins.3) in
                (f.0, f.1, inr (show z, h.blocks, h.ends.between.remaining, st, subst (λ (q : StreamFormat). BeginsWith (FrameBytesFault (Some q) f.0) h.ends.between.remaining) is begins))
                ))
          ];
          named = λ f bad. elim bad [
            | inl begins ↦ absurd (not_head_fault f begins)
            | inr st ↦ elim (fault_named_after (Some e) xs h f st.0 st.1 st.2 st.3 st.4) [ inl p ↦ inl p | inr y ↦ inr (same_out_of_memory e y) ]
          ];
          memory = λ s. inr (first_of h.blocks h.ends.between.remaining w.is (begins_with_consumed h.ends.between (slice_state h.after) h.ends.between.remaining here (h.ends.last.memory (same_out_of_memory e s))));
        }

    -- there was no memory for samples
    no_memory_for_samples : (e : Error) → e ≡ OutOfMemory → LacksMemory (cursor_source (λ (s : Bor (List ℕ)). s.now)) (Some stream) b → SliceStreamPromises view bytes (Err e)
    no_memory_for_samples e is_out_of_memory k = record {
      sound = tt;
      complete = λ g blocks rest st few. inr (ap (λ (q : Error). Err q) is_out_of_memory);
      fault = inl is_out_of_memory;
      named = λ f bad. inr (ap (λ (q : Error). Err q) is_out_of_memory);
      memory = λ s. inr (let f = (k.frames.consumed.known is_known).is in has_samples (inr (k.first, (f.0, f.1, f.2, f.3))));
    }

    pub slice_stream_promises : (r : Result X Error) → IfOk r (λ x. Collects (cursor_source (λ (s : Bor (List ℕ)). s.now)) (Some stream) b None (view x)) → IfErr r (λ e. StopsCollecting (cursor_source (λ (s : Bor (List ℕ)). s.now)) (Some stream) b e) → SliceStreamPromises view bytes r
    slice_stream_promises (Ok x) h k = all_collected x h
    slice_stream_promises (Err e) h (inl k) = ended_by e k.0 k.1
    slice_stream_promises (Err e) h (inr k) = no_memory_for_samples e k.0 k.1
