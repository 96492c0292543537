-- If the input is the frames of blocks and then no frame, exactly their samples are written.
use Rattle.std.proofs.Common.{◌≡◌, ◌⊎◌, inl, inr, ℕ, ◌+◌, ◌<◌, ◌≤◌, ◌^◌, List, [], ◌∷◌, ◌++◌, length, Option, None, Some, refl, sym, ap, subst, ◌∙◌, arith, length-append}
use Rattle.std.proofs.lemmas.Grind.{flat_map-append}
use Rattle.std.specs.Prelude.{IfErr, IfOk, IsErrAnd, Result, Ok, Err}
use Rattle.claxon.specs.Fault.{Fault}
use Rattle.claxon.specs.Frame.{Block, FrameBytesFault, Frames, NoFrameLeft, IsBitDepth, StreamFormat, known_bit_depth}
use Rattle.claxon.specs.Streams.{interleave}
use Rattle.claxon.specs.Errors.{Error}
use Rattle.claxon.specs.Errors.TheVariants.{OutOfMemory}
use Rattle.claxon.specs.Error.{IsFault}
use Rattle.claxon.specs.Promises.{Remains, IsExcused}
use Rattle.claxon.specs.State.{State, RemainingIsKnown}
use Rattle.claxon.specs.SampleRuns.{samples_of}
use Rattle.claxon.proofs.SampleRuns.{all_frames_read, excused_after, fault_no_frame, frames_left, short_no_frame}
use Rattle.claxon_write.specs.Decoded.{Decodes, DecodesToEof, EndsAfter, FailsToDecode, TooManySamples, WriteFailed, WriteOrFlushFailed}
use Rattle.claxon_write.specs.WriteSamples.{EofAfterBlocks, FaultAfterBlocks}
use Rattle.claxon_write.specs.declared.output.Output.{Output}

-- ---- excuses

-- an Err is excused for any type of Ok
excused_as : {A B : Type 0} (a b : State ℕ) (e : Error) → IsExcused (let q : Result A Error = Err e in q) a b → IsExcused (let q : Result B Error = Err e in q) a b
excused_as a b e (inl m) = inl (let k : e ≡ OutOfMemory = cc in ap (λ (z : Error). Err z) k)
excused_as a b e (inr f) = inr f

ok_unexcused : {A : Type 0} (a b : State ℕ) (x : A) → IsExcused (let q : Result A Error = Ok x in q) a b → ⊥
ok_unexcused a b x (inl m) = cc
ok_unexcused a b x (inr f) = f.0

-- ---- one run of frames

module _ (stream : Option StreamFormat) (bit_depth : IsBitDepth (known_bit_depth stream)) where
  -- fewer samples don't reach the limit
  fewer : (limit p q n : ℕ) → limit ≤ p → n ≡ p + q → n < limit → ⊥
  fewer limit p q n h e l = omega arith

  under_limit : (done blocks : List Block) (m : List ℕ) {error : Error} {a b : State ℕ} → TooManySamples stream done error a b → RemainingIsKnown a → Frames stream a.remaining blocks m → NoFrameLeft stream m → length (samples_of blocks) < 2 ^ 64 → ⊥
  under_limit done blocks m {a = a} {b = b} h known f c few =
      let all = done ++ h.last ∷ [] in
      let q = frames_left stream bit_depth a.remaining b.remaining m all blocks (h.frames.consumed.known known).is f c in
      let e : length (samples_of blocks) ≡ length (samples_of all) + length (samples_of q.0) =
      ap (λ (z : List Block). length (samples_of z)) q.1 ∙ ap length (flat_map-append (λ (b : Block). interleave b.channels) all q.0) ∙ length-append (samples_of all) (samples_of q.0) in
      fewer (2 ^ 64) (length (samples_of all)) (length (samples_of q.0)) (length (samples_of blocks)) h.many e few

  module _ {W : Type 0} (contents : W → Option (List ℕ)) (a b : State ℕ) (x y : Output W) (blocks : List Block) (m : List ℕ) (known : RemainingIsKnown a) (f : Frames stream a.remaining blocks m) (few : length (samples_of blocks) < 2 ^ 64) where
    -- a stream that ends there is written completely
    written_whole : (r : Result ℕ Error) → IfOk r (λ n. DecodesToEof contents stream n a b x y)
        → IfErr r (λ e. FailsToDecode contents stream e a b x y) → length m < 2 → (r ≡ Ok (length (samples_of blocks))) ⊎ (IsExcused r a b ⊎ WriteOrFlushFailed r x y)
    written_whole (Ok n) h k short = elim (all_frames_read stream bit_depth None h.0.blocks blocks m h.0.ends known f (short_no_frame stream m short)) [
      | inl p ↦ inl (ap (λ (z : ℕ). Ok z) (h.0.count ∙ ap (λ (z : List Block). length (samples_of z)) (sym p.0)))
      | inr e ↦ absurd (ok_unexcused a b None e)
    ]
    written_whole (Err e) h (inr (inl k)) short = inr (inr (k.is_io, inl k.failed))
    written_whole (Err e) h (inr (inr k)) short = inr (inr (k.is_io, inr k.failed))
    written_whole (Err e) h (inl k) short = go k.decoded.ends
      where
        go : EndsAfter stream k.decoded.blocks (Some e) a b → ((let q : Result ℕ Error = Err e in q) ≡ Ok (length (samples_of blocks))) ⊎ (IsExcused (let q : Result ℕ Error = Err e in q) a b ⊎ WriteOrFlushFailed (let q : Result ℕ Error = Err e in q) x y)
        go (inr limit) = absurd (under_limit k.decoded.blocks blocks m limit known f (short_no_frame stream m short) few)
        go (inl reads) = elim (all_frames_read stream bit_depth (Some e) k.decoded.blocks blocks m reads known f (short_no_frame stream m short)) [
          | inr z ↦ inr (inl (excused_as a b e z))
          | inl p ↦ elim (reads.last.promises.eof_is_none m p.1 short) [
            | inl z ↦ absurd (let w = z.0 in cc)
            | inr z ↦ inr (inl (excused_as a b e (excused_after b (Err e) reads.blocks_are.consumed z)))
          ]
        ]

    -- a fault there is the result
    fault_after_frames : (r : Result ℕ Error) → IfOk r (λ n. DecodesToEof contents stream n a b x y)
        → IfErr r (λ e. FailsToDecode contents stream e a b x y) → (fault : Fault) (t rest : List ℕ) → FrameBytesFault stream fault t → m ≡ t ++ rest
        → IsErrAnd r (IsFault fault) ⊎ (IsExcused r a b ⊎ WriteFailed r x y)
    fault_after_frames r h k fault t rest bad e = go r h k
      where
        none : NoFrameLeft stream m
        none = fault_no_frame stream bit_depth fault m t rest bad e

        there : {s : State ℕ} → Remains s m → Remains s (t ++ rest)
        there {s = s} c = subst (λ (z : List ℕ). Remains s z) e c

        -- it is not the end
        not_eof : {n : ℕ} → Decodes contents stream None n a b x y → ⊥
        not_eof h = elim (all_frames_read stream bit_depth None h.blocks blocks m h.ends known f none) [
          | inr z ↦ ok_unexcused a b None z
          | inl p ↦ elim (h.ends.last.promises.fault_is_complete fault t rest bad (there p.1)) [ inl z ↦ z.0 | inr z ↦ ok_unexcused h.ends.between b None z ]
        ]

        go : (r : Result ℕ Error) → IfOk r (λ n. DecodesToEof contents stream n a b x y)
            → IfErr r (λ e. FailsToDecode contents stream e a b x y) → IsErrAnd r (IsFault fault) ⊎ (IsExcused r a b ⊎ WriteFailed r x y)
        go (Ok n) h k = absurd (not_eof h.0)
        go (Err error) h (inr (inl k)) = inr (inr (k.is_io, k.failed))
        go (Err error) h (inr (inr k)) = absurd (not_eof k.decoded)
        go (Err error) h (inl k) = elim k.decoded.ends [
          | inr limit ↦ absurd (under_limit k.decoded.blocks blocks m limit known f none few)
          | inl reads ↦ elim (all_frames_read stream bit_depth (Some error) k.decoded.blocks blocks m reads known f none) [
            | inr z ↦ inr (inl (excused_as a b error z))
            | inl p ↦ elim (reads.last.promises.fault_is_complete fault t rest bad (there p.1)) [
              | inl z ↦ inl z.0
              | inr z ↦ inr (inl (excused_as a b error (excused_after b (Err error) reads.blocks_are.consumed z)))
            ]
          ]
        ]

  module _ {W : Type 0} (contents : W → Option (List ℕ)) (a b : State ℕ) (x y : Output W) (r : Result ℕ Error) (ok : IfOk r (λ n. DecodesToEof contents stream n a b x y)) (err : IfErr r (λ e. FailsToDecode contents stream e a b x y)) where
    pub eof_complete : (n : ℕ) → EofAfterBlocks stream a n → (r ≡ Ok n) ⊎ (IsExcused r a b ⊎ WriteOrFlushFailed r x y)
    eof_complete n h =
        subst (λ (z : ℕ). (r ≡ Ok z) ⊎ (IsExcused r a b ⊎ WriteOrFlushFailed r x y)) (sym h.count)
        (written_whole contents a b x y h.blocks h.rest h.known h.frames h.few r ok err h.eof)

    pub fault_complete : (f : Fault) → FaultAfterBlocks stream a f → IsErrAnd r (IsFault f) ⊎ (IsExcused r a b ⊎ WriteFailed r x y)
    fault_complete f h = fault_after_frames contents a b x y h.blocks (h.fault ++ h.rest) h.known h.frames h.few r ok err f h.fault h.rest h.bad refl
