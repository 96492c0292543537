-- A whole run: a head, the frames of blocks, and what follows them.
use Rattle.std.proofs.Common.{◌≡◌, ◌⊎◌, inl, inr, ℕ, true, List, [], ◌∷◌, ◌++◌, Option, None, Some, refl, sym, ap, subst, ◌∙◌, append-nil}
use Rattle.std.specs.Prelude.{IfErr, IfOk, Result, Ok, Err}
use Rattle.std.specs.Io.KnownBytes.{Appends, append_known}
use Rattle.claxon.specs.Fault.{Fault}
use Rattle.claxon.specs.Frame.{StreamFormat, Block, Frame, FrameBytesFault, Frames}
use Rattle.claxon.specs.Heads.{Head, HeadCode, HeadFault}
use Rattle.claxon.specs.Streams.{stream_of, with_samples}
use Rattle.claxon.specs.Errors.{Error}
use Rattle.claxon.specs.Errors.TheVariants.{OutOfMemory}
use Rattle.claxon.specs.Error.{IsFault, IsIo}
use Rattle.claxon.specs.Gives.{Consumes}
use Rattle.claxon.specs.Promises.{Remains, IsExcused, Consumed}
use Rattle.claxon.specs.State.{State, RemainingIsKnown}
use Rattle.claxon.specs.FlacReader.{flac_head}
use Rattle.claxon.specs.Opening.{OpenFaultIsComplete, OpenIsComplete, IsMemoryOrIoError, flac_bytes, unread}
use Rattle.claxon.specs.SampleRuns.{samples_of}
use Rattle.claxon.specs.declared.reader.FlacReader.{FlacReader}
use Rattle.claxon_write.specs.SampleBytes.{bytes_of_samples}
use Rattle.claxon_write.specs.Decoded.{Decodes, DecodesToEof, EndsAfter, FailsToDecode, FailsToWrite, ConsumesFramesOrEnd, TooManySamples}
use Rattle.claxon_write.specs.Run.{DecoderStops, HasFrameFault, IsHeadAndFrames, ReachesLimit, RunWritesAll, RunFaultIsComplete, RunIsComplete, StopsAfterFrames, RunStopsEarly, WritesPrefixOfSamples, WritesPrefixAtMost}
use Rattle.claxon_write.specs.WriteSamples.{EofAfterBlocks, FaultAfterBlocks, StreamFaultIsComplete, StreamIsComplete, flac_stream}
use Rattle.claxon_write.specs.Written.{AppendsPrefix, NonePending, writer_contents, pending}
use Rattle.claxon_write.specs.declared.output.Output.{Output}
use Rattle.claxon_write.proofs.Borrowed.{io_not_memory}
use Rattle.claxon_write.proofs.Puts.{prefix_all}

-- ---- the frames at the start

frames_split : (stream : Option StreamFormat) (blocks : List Block) (b : Block) (s m : List ℕ) → Frames stream s (blocks ++ b ∷ []) m → (r : List ℕ) × Frames stream s blocks r × ((t : List ℕ) × Frame stream b t × (r ≡ t ++ m))
frames_split stream [] b s m h = (s, refl, (h.0, h.2, h.3 ∙ ap (λ (z : List ℕ). h.0 ++ z) h.4))
frames_split stream (x ∷ blocks) b s m h = let k = frames_split stream blocks b h.1 m h.4 in (k.0, (h.0, h.1, h.2, h.3, k.1), k.2)

ends_frames : (stream : Option StreamFormat) (blocks : List Block) (end : Option Error) (a b : State ℕ) → EndsAfter stream blocks end a b → RemainingIsKnown a → (rest : List ℕ) × Frames stream a.remaining blocks rest
ends_frames stream blocks None a b h known = (h.between.remaining, (h.blocks_are.consumed.known known).is)
ends_frames stream blocks (Some e) a b (inl h) known = (h.between.remaining, (h.blocks_are.consumed.known known).is)
ends_frames stream blocks (Some e) a b (inr h) known = let k = frames_split stream blocks h.last a.remaining b.remaining (h.frames.consumed.known known).is in (k.0, k.1)

takes_frames : (stream : Option StreamFormat) (blocks : List Block) (a b : State ℕ) → ConsumesFramesOrEnd stream blocks a b → RemainingIsKnown a → (rest : List ℕ) × Frames stream a.remaining blocks rest
takes_frames stream blocks a b (inl h) known = (b.remaining, (h.consumed.known known).is)
takes_frames stream blocks a b (inr h) known = ends_frames stream blocks h.0 a b h.1 known

nothing_pending : (o p : Option (List ℕ)) (w bytes : List ℕ) → w ≡ [] → Appends (append_known o w) p bytes → Appends o p bytes
nothing_pending None p w bytes e h = tt
nothing_pending (Some s) None w bytes e h = absurd h
nothing_pending (Some s) (Some t) w bytes e h = h ∙ ap (λ (z : List ℕ). z ++ bytes) (ap (λ (z : List ℕ). s ++ z) e ∙ append-nil s)

-- ---- after the head

-- `x` is the output at the start, with nothing pending, and the writer has the contents `o`
module _ {W : Type 0} (contents : W → Option (List ℕ)) (h : Head) (s a b : State ℕ) (o : Option (List ℕ)) (x y : Output W) (head : Consumed s a (HeadCode (with_samples true) h)) (is : writer_contents contents x ≡ o) (none : NonePending x) where
  input_is : (blocks : List Block) (rest : List ℕ) → RemainingIsKnown s → Frames (Some (stream_of h.info)) a.remaining blocks rest → IsHeadAndFrames s.remaining h blocks rest
  input_is blocks rest known f = let k = (head known).1 in record { prefix = k.0; frames = a.remaining; code = k.1; joined = k.2; blocks_are = f }

  all_written : {end : Option Error} {n : ℕ} (d : Decodes contents (Some (stream_of h.info)) end n a b x y) → Appends o (writer_contents contents y) (bytes_of_samples (samples_of d.blocks))
  all_written d = subst (λ (z : Option (List ℕ)). Appends z (writer_contents contents y) (bytes_of_samples (samples_of d.blocks))) is (nothing_pending (writer_contents contents x) (writer_contents contents y) (pending x) (bytes_of_samples (samples_of d.blocks)) none d.written)

  pub ran : (r : Result ℕ Error) → IfOk r (λ n. DecodesToEof contents (Some (stream_of h.info)) n a b x y) → IfOk r (λ n. RunWritesAll n s o (writer_contents contents y))
  ran (Err e) d = tt
  ran (Ok n) d = record {
    blocks = d.0.blocks;
    count = d.0.count;
    written = all_written d.0;
    input_is = λ t.
        let w = d.0.ends.blocks_are.consumed.known (head t).0 in
        let few = (d.0.ends.last.promises.none_is_eof refl w.known).0 in
        (h, d.0.ends.between.remaining, input_is d.0.blocks d.0.ends.between.remaining t w.is, few);
  }

  -- ---- an Err

  module _ {e : Error} {n : ℕ} (d : Decodes contents (Some (stream_of h.info)) (Some e) n a b x y) where
    after_frames : (rest : List ℕ) → RemainingIsKnown s → Frames (Some (stream_of h.info)) a.remaining d.blocks rest → ReachesLimit h d.blocks e rest ⊎ HasFrameFault h e rest → StopsAfterFrames e s o (writer_contents contents y)
    after_frames rest known f stops = record { blocks = d.blocks; head = h; rest = rest; input_is = input_is d.blocks rest known f; stops = stops; written = all_written d }

    at_limit : TooManySamples (Some (stream_of h.info)) d.blocks e a b → DecoderStops e s o (writer_contents contents y)
    at_limit limit known =
        let k = frames_split (Some (stream_of h.info)) d.blocks limit.last a.remaining b.remaining (limit.frames.consumed.known (head known).0).is in
        inr (after_frames k.0 known k.1 (inl (record { is_limit = limit.is_limit; last = limit.last; prefix = k.2.0; rest = b.remaining; frame = k.2.1; joined = k.2.2; many = limit.many })))

    at_fault : (mid : State ℕ) → Consumes a mid (λ p m. Frames (Some (stream_of h.info)) p d.blocks m) → (RemainingIsKnown mid → (f : Fault) × IsFault f e × Consumed mid b (FrameBytesFault (Some (stream_of h.info)) f)) → DecoderStops e s o (writer_contents contents y)
    at_fault mid consumed bad known =
        let w = consumed.known (head known).0 in
        let f = bad w.known in
        let t = (f.2 w.known).1 in
        inr (after_frames mid.remaining known w.is (inr (record { fault = f.0; named = f.1; prefix = t.0; rest = b.remaining; bad = t.1; joined = t.2 })))

    decoder_stops : (e ≡ OutOfMemory) ⊎ (IsIo e ⊎ DecoderStops e s o (writer_contents contents y))
    decoder_stops = go d.ends
      where
        go : EndsAfter (Some (stream_of h.info)) d.blocks (Some e) a b → (e ≡ OutOfMemory) ⊎ (IsIo e ⊎ DecoderStops e s o (writer_contents contents y))
        go (inr limit) = inr (inr (at_limit limit))
        go (inl reads) = elim reads.last.promises.fault_is_sound [
          | inl m ↦ inl m
          | inr (inl i) ↦ inr (inl i)
          | inr (inr bad) ↦ inr (inr (at_fault reads.between reads.blocks_are.consumed bad))
        ]

  pub stopped : (r : Result ℕ Error) → IfErr r (λ e. FailsToDecode contents (Some (stream_of h.info)) e a b x y) → IfErr r (λ e. RunStopsEarly e s o (writer_contents contents y))
  stopped (Ok n) k = tt
  stopped (Err e) (inl k) = record { why = decoder_stops k.decoded }
  stopped (Err e) (inr (inl k)) = record { why = inr (inl k.is_io) }
  stopped (Err e) (inr (inr k)) = record { why = inr (inl k.is_io) }

  prefix_whole : (e : Error) {end : Option Error} {n : ℕ} → Decodes contents (Some (stream_of h.info)) end n a b x y → RemainingIsKnown s → WritesPrefixOfSamples e s o (writer_contents contents y)
  prefix_whole e {end = end} d known =
      let f = ends_frames (Some (stream_of h.info)) d.blocks end a b d.ends (head known).0 in
      record { blocks = d.blocks; head = h; rest = f.0; input_is = input_is d.blocks f.0 known f.1; prefix = prefix_all o (writer_contents contents y) (bytes_of_samples (samples_of d.blocks)) (all_written d); all = λ m. all_written d }

  prefix_part : (e : Error) → FailsToWrite contents (Some (stream_of h.info)) e a b x y → RemainingIsKnown s → WritesPrefixOfSamples e s o (writer_contents contents y)
  prefix_part e k known =
      let f = takes_frames (Some (stream_of h.info)) k.blocks a b k.takes (head known).0 in
      let bytes : List ℕ = bytes_of_samples (samples_of k.blocks) in
      record {
        blocks = k.blocks;
        head = h;
        rest = f.0;
        input_is = input_is k.blocks f.0 known f.1;
        prefix = subst (λ (z : Option (List ℕ)). AppendsPrefix z (writer_contents contents y) bytes) is (subst (λ (z : List ℕ). AppendsPrefix (writer_contents contents x) (writer_contents contents y) (z ++ bytes)) none (k.prefix.0, k.prefix.1));
        all = λ m. absurd (io_not_memory e k.is_io m);
      }

  pub prefixes : (r : Result ℕ Error) → IfErr r (λ e. FailsToDecode contents (Some (stream_of h.info)) e a b x y) → IfErr r (λ e. WritesPrefixAtMost e s o (writer_contents contents y))
  prefixes (Ok n) k = tt
  prefixes (Err e) (inl k) = record { written = λ known. inr (prefix_whole e k.decoded known) }
  prefixes (Err e) (inr (inl k)) = record { written = λ known. inr (prefix_part e k known) }
  prefixes (Err e) (inr (inr k)) = record { written = λ known. inr (prefix_whole e k.decoded known) }

-- a head's fault
pub head_fault : (s : State ℕ) (o : Option (List ℕ)) (e : Error) → (e ≡ OutOfMemory) ⊎ (IsIo e ⊎ (RemainingIsKnown s → (f : Fault) × IsFault f e × ((t : List ℕ) × (rest : List ℕ) × HeadFault (with_samples true) f t × (s.remaining ≡ t ++ rest))))
    → RunStopsEarly e s o o
head_fault s o e (inl m) = record { why = inl m }
head_fault s o e (inr (inl i)) = record { why = inr (inl i) }
head_fault s o e (inr (inr h)) = record { why = inr (inr (λ known. let k = h known in inl (record { fault = k.0; named = k.1; prefix = k.2.0; rest = k.2.1; bad = k.2.2; joined = k.2.3; kept = refl }))) }

-- ---- completeness

dropped_as : {A B : Type 0} (e : Error) → IsMemoryOrIoError (let q : Result A Error = Err e in q) → IsMemoryOrIoError (let q : Result B Error = Err e in q)
dropped_as e (inl m) = inl (let k : e ≡ OutOfMemory = cc in ap (λ (z : Error). Err z) k)
dropped_as e (inr i) = inr i

ok_kept : {A : Type 0} (x : A) → IsMemoryOrIoError (let q : Result A Error = Ok x in q) → ⊥
ok_kept x (inl m) = cc
ok_kept x (inr i) = i

dropped_excused : (r : Result ℕ Error) (a b : State ℕ) → IsExcused r a b → IsMemoryOrIoError r
dropped_excused r a b (inl m) = inl m
dropped_excused r a b (inr f) = inr f.0

module _ {R A : Type 0} (remaining : R → Option (List ℕ)) (reader : R) where
  -- opening failed
  module _ (e : Error) (opens : OpenIsComplete remaining (with_samples true) reader (let q : Result (FlacReader R A) Error = Err e in q)) where
    not_opened : (h : Head) (t rest : List ℕ) → HeadCode (with_samples true) h t → Remains (unread (remaining reader)) (t ++ rest) → IsMemoryOrIoError (let q : Result ℕ Error = Err e in q)
    not_opened h t rest code remains = elim (opens h t rest code remains) [ inl p ↦ absurd p | inr d ↦ dropped_as e d ]

    pub not_opened_complete : RunIsComplete (Err e) (remaining reader)
    not_opened_complete n s = inr (not_opened s.head s.input_is.prefix s.input_is.frames s.input_is.code (record { known = s.known; are = s.input_is.joined }))

    pub not_opened_fault_complete : OpenFaultIsComplete remaining (with_samples true) reader (let q : Result (FlacReader R A) Error = Err e in q) → RunFaultIsComplete (Err e) (remaining reader)
    not_opened_fault_complete names f (inl s) = elim (names f s.fault s.rest s.bad s.remains) [ inl p ↦ inl p | inr d ↦ inr (dropped_as e d) ]
    not_opened_fault_complete names f (inr s) = inr (not_opened s.head s.input_is.prefix s.input_is.frames s.input_is.code (record { known = s.known; are = s.input_is.joined }))

  -- opening succeeded
  module _ {W : Type 0} (flac new : FlacReader R A) (r : Result ℕ Error) (x y : Output W) (opens : OpenIsComplete remaining (with_samples true) reader (let q : Result (FlacReader R A) Error = Ok flac in q)) where
    opened : (h : Head) (t rest : List ℕ) → HeadCode (with_samples true) h t → Remains (unread (remaining reader)) (t ++ rest) → (flac_head flac ≡ h) × Remains (flac_bytes remaining flac) rest
    opened h t rest code remains = elim (opens h t rest code remains) [ inl p ↦ p | inr d ↦ absurd (ok_kept flac d) ]

    frames_here : (h : Head) (xs : List ℕ) (blocks : List Block) (rest : List ℕ) → (flac_head flac ≡ h) × Remains (flac_bytes remaining flac) xs → Frames (Some (stream_of h.info)) xs blocks rest → Frames (flac_stream flac) (flac_bytes remaining flac).remaining blocks rest
    frames_here h xs blocks rest p f =
        subst (λ (z : Head). Frames (Some (stream_of z.info)) (flac_bytes remaining flac).remaining blocks rest) (sym p.0)
        (subst (λ (z : List ℕ). Frames (Some (stream_of h.info)) z blocks rest) (sym p.1.are) f)

    pub opened_complete : StreamIsComplete remaining r flac new x y → RunIsComplete r (remaining reader)
    opened_complete written n s =
        let k = s.input_is in
        let p = opened s.head k.prefix k.frames k.code (record { known = s.known; are = k.joined }) in
        let here : EofAfterBlocks (flac_stream flac) (flac_bytes remaining flac) n = record { blocks = s.blocks; rest = s.rest; known = p.1.known; frames = frames_here s.head k.frames s.blocks s.rest p k.blocks_are; eof = s.eof; count = s.count; few = s.few } in
        elim (written n here) [
          | inl e ↦ inl e
          | inr (inl z) ↦ inr (dropped_excused r (flac_bytes remaining flac) (flac_bytes remaining new) z)
          | inr (inr z) ↦ inr (inr z.0)
        ]

    pub opened_fault_complete : StreamFaultIsComplete remaining r flac new x y → OpenFaultIsComplete remaining (with_samples true) reader (let q : Result (FlacReader R A) Error = Ok flac in q) → RunFaultIsComplete r (remaining reader)
    opened_fault_complete named names f (inl s) = elim (names f s.fault s.rest s.bad s.remains) [ inl p ↦ absurd p | inr d ↦ absurd (ok_kept flac d) ]
    opened_fault_complete named names f (inr s) =
        let k = s.input_is in
        let p = opened s.head k.prefix k.frames k.code (record { known = s.known; are = k.joined }) in
        let bad : FrameBytesFault (flac_stream flac) f s.fault = subst (λ (z : Head). FrameBytesFault (Some (stream_of z.info)) f s.fault) (sym p.0) s.bad in
        let here : FaultAfterBlocks (flac_stream flac) (flac_bytes remaining flac) f = record { blocks = s.blocks; fault = s.fault; rest = s.rest; known = p.1.known; frames = frames_here s.head k.frames s.blocks (s.fault ++ s.rest) p k.blocks_are; bad = bad; few = s.few } in
        elim (named f here) [
          | inl e ↦ inl e
          | inr (inl z) ↦ inr (dropped_excused r (flac_bytes remaining flac) (flac_bytes remaining new) z)
          | inr (inr z) ↦ inr (inr z.0)
        ]
