-- Blocks that are read one after another, and the samples that calls gave of them.
use Rattle.std.specs.Borrow.{MutBor}
use Rattle.std.proofs.Common.{◌≡◌, ◌⊎◌, inl, inr, ℕ, ◌+◌, ◌<◌, ◌≤◌, false, List, [], ◌∷◌, ◌++◌, length, refl, sym, ap, ap₂, subst, ◌∙◌, append_assoc, arith, ℤ}
use Rattle.std.specs.Prelude.{Bool, IsOkAnd, IsSomeAnd, MatchBool, Option, None, Some, Result, Ok, Err}
use Rattle.std.proofs.lemmas.List.{append-nil, append_cancel_left, length-append}
use Rattle.claxon_format.specs.Bits.{bits, bits_of}
use Rattle.claxon_format.specs.Fault.{Fault}
use Rattle.claxon_format.specs.Frame.{StreamFormat, Block, Frame, FrameBytesFault, Frames, NoFrameLeft, IsBitDepth, known_bit_depth}
use Rattle.claxon_format.specs.Crc.{crc16}
use Rattle.claxon_format.specs.Heads.{HeadCode}
use Rattle.claxon_format.specs.read.Reading.{Faulty, Incomplete}
use Rattle.claxon_format.specs.read.Frame.{frame_bytes_at}
use Rattle.claxon_format.specs.Streams.{interleave, stream_of, with_samples}
use Rattle.claxon_format.proofs.Bytes.{length-bits_of}
use Rattle.claxon_format.proofs.FormatLaws.{frames_unambiguous}
use Rattle.claxon_format.proofs.FrameBytes.{Reads-frame_bytes, one_block}
use Rattle.claxon_format.proofs.Numbers.{length-bits}
use Rattle.claxon_input.specs.declared.error.Error.{Error}
use Rattle.claxon_input.specs.declared.input.BufferedReader.{BufferedReader}
use Rattle.claxon_input.specs.BufferedReader.{buffered_source}
use Rattle.claxon_input.specs.Source.{Source}
use Rattle.claxon_input.specs.State.{State, bytes_in, RemainingIsKnown}
use Rattle.claxon_input.specs.Gives.{ReadFailedIn, Consumes}
use Rattle.claxon_input.specs.Promises.{Remains, IsExcused, Consumed}
use Rattle.claxon_input.proofs.ConsecutiveCalls.{consumes_none, consumes_then, consumes_known}
use Rattle.claxon_frame.specs.Block.{BlockValue}
use Rattle.claxon_frame.specs.FrameReader.{ReadsFrame, block_view}
use Rattle.claxon_frame.proofs.FramePromises.{incomplete_frame}
use Rattle.claxon.specs.FlacReader.{flac_head, flac_input, samples_input}
use Rattle.claxon.specs.FlacSamples.{BlockAnswer, NextSample, SamplesStep, have_failed, samples_bytes, samples_left, samples_stream}
use Rattle.claxon.specs.Opening.{flac_bytes}
use Rattle.claxon.specs.SampleRuns.{BeginsAt, Calls, GaveAll, GaveSamples, ReadsFrames, StreamOf, ConsumesFrames, end_answer, end_found, lent, samples_of}
use Rattle.claxon.specs.declared.reader.FlacReader.{FlacReader}
use Rattle.claxon.specs.declared.samples.FlacSamples.{FlacSamples}

-- one frame more
frames_add : (stream : Option StreamFormat) (blocks : List Block) (b : Block) (s m r t : List ℕ) → Frames stream s blocks m → Frame stream b t → m ≡ t ++ r → Frames stream s (blocks ++ b ∷ []) r
frames_add stream [] b s m r t c f e = (t, r, f, c ∙ e, refl)
frames_add stream (x ∷ blocks) b s m r t c f e = (c.0, c.1, c.2, c.3, frames_add stream blocks b c.1 m r t c.4 f e)

pub samples_add : (blocks : List Block) (b : Block) → samples_of (blocks ++ b ∷ []) ≡ samples_of blocks ++ interleave b.channels
samples_add [] b = append-nil (interleave b.channels)
samples_add (x ∷ blocks) b = ap (λ (z : List ℤ). interleave x.channels ++ z) (samples_add blocks b) ∙ sym (append_assoc (interleave x.channels) (samples_of blocks) (interleave b.channels))

pub takes_none : (stream : Option StreamFormat) (a : State ℕ) → ConsumesFrames stream [] a a
takes_none stream a = record { consumed = consumes_none a _ refl }

pub takes_more : {stream : Option StreamFormat} {blocks : List Block} (block : BlockValue) {a b c : State ℕ} → ConsumesFrames stream blocks a b → ReadsFrame stream (Ok (Some block)) b c → ConsumesFrames stream (blocks ++ block_view block ∷ []) a c
takes_more {stream = stream} {blocks = blocks} block h k =
    let w = consumes_known (λ s m. (t : List ℕ) × Frame stream (block_view block) t × (s ≡ t ++ m)) k.gives (λ is_known p. (k.promises.is_sound is_known).1) in
    record { consumed = consumes_then _ h.consumed w (λ p q. frames_add stream blocks (block_view block) _ _ _ q.0 p q.1 q.2) }

-- ---- calls for samples

-- a call before an Err
goes_on : {R A : Type 0} (source : R → Source ℕ) (s : FlacSamples R A) (r : Option (Result ℤ Error)) (new : FlacSamples R A) → have_failed s ≡ false → SamplesStep source s r new → NextSample source s r new
goes_on source s r new e h = subst (λ (b : Bool). MatchBool b ((r ≡ None) × (new ≡ s)) (NextSample source s r new)) e h

same_sample : {x y : ℤ} → (let answer : Option (Result ℤ Error) = Some (Ok x) in answer) ≡ Some (Ok y) → x ≡ y
same_sample e = cc

module _ {R A : Type 0} (source : R → Source ℕ) where
  -- before the first call
  pub gave_none : (s : FlacSamples R A) → have_failed s ≡ false → GaveSamples source s [] s
  gave_none s e = record { blocks = []; frames = takes_none (samples_stream s) (samples_bytes source s); samples = append-nil (samples_left s); stream = refl; goes_on = e }

  module _ {old mid : FlacSamples R A} {xs : List ℤ} (h : GaveSamples source old xs mid) where
    -- the next sample is one of the current block
    gave_from_block : (x y : ℤ) (left : List ℤ) (new : FlacSamples R A) → NextSample source mid (Some (Ok x)) new → samples_left mid ≡ y ∷ left → GaveSamples source old (xs ++ x ∷ []) new
    gave_from_block x y left new n e =
        let g = n.from_block y left e in
        let s : x ≡ y = same_sample g.0.is in
        record {
          blocks = h.blocks;
          frames = subst (λ (b : State ℕ). ConsumesFrames (samples_stream old) h.blocks (samples_bytes source old) b) (sym g.1) h.frames;
          samples = h.samples ∙ ap (λ (z : List ℤ). xs ++ z) (e ∙ ap (λ (z : ℤ). z ∷ left) (sym s) ∙ ap (λ (z : List ℤ). x ∷ z) (sym g.0.left_are)) ∙ sym (append_assoc xs (x ∷ []) (samples_left new));
          stream = n.stream ∙ h.stream;
          goes_on = g.0.goes_on;
        }

    -- or the first one of the next block
    gave_from_next_block : (x : ℤ) (new : FlacSamples R A) → NextSample source mid (Some (Ok x)) new → samples_left mid ≡ [] → GaveSamples source old (xs ++ x ∷ []) new
    gave_from_next_block x new n e = let b = n.from_next_block e in go b.found b.reads b.answer
      where
        go : (found : Result (Option BlockValue) Error) → ReadsFrame (samples_stream mid) found (samples_bytes source mid) (samples_bytes source new) → BlockAnswer found (Some (Ok x)) new → GaveSamples source old (xs ++ x ∷ []) new
        go (Ok None) reads answer = let z = answer.0 in absurd cc
        go (Err error) reads answer = let z = answer.0 in absurd cc
        go (Ok (Some block)) reads answer =
            let g = answer.3 in
            let s : x ≡ answer.0 = same_sample g.is in
            let r = subst (λ (k : Option StreamFormat). ReadsFrame k (Ok (Some block)) (samples_bytes source mid) (samples_bytes source new)) h.stream reads in
            let first : interleave block.channels ≡ x ∷ samples_left new = answer.2 ∙ ap (λ (z : ℤ). z ∷ answer.1) (sym s) ∙ ap (λ (z : List ℤ). x ∷ z) (sym g.left_are) in
            record {
              blocks = h.blocks ++ block_view block ∷ [];
              frames = takes_more block h.frames r;
              samples =
                  ap (λ (z : List ℤ). samples_left old ++ z) (samples_add h.blocks (block_view block)) ∙ sym (append_assoc (samples_left old) (samples_of h.blocks) (interleave block.channels))
                  ∙ ap (λ (z : List ℤ). z ++ interleave block.channels) (h.samples ∙ ap (λ (z : List ℤ). xs ++ z) e ∙ append-nil xs) ∙ ap (λ (z : List ℤ). xs ++ z) first
                  ∙ sym (append_assoc xs (x ∷ []) (samples_left new));
              stream = n.stream ∙ h.stream;
              goes_on = g.goes_on;
            }

    -- one call more
    pub gave_more : (x : ℤ) (new : FlacSamples R A) → SamplesStep source mid (Some (Ok x)) new → GaveSamples source old (xs ++ x ∷ []) new
    gave_more x new step = go (samples_left mid) refl
      where
        n : NextSample source mid (Some (Ok x)) new
        n = goes_on source mid (Some (Ok x)) new h.goes_on step

        go : (left : List ℤ) → samples_left mid ≡ left → GaveSamples source old (xs ++ x ∷ []) new
        go [] e = gave_from_next_block x new n e
        go (y ∷ left) e = gave_from_block x y left new n e

    -- where no sample is returned the current block has none left
    none_from_block : (end : Option Error) (y : ℤ) (left : List ℤ) (new : FlacSamples R A) → NextSample source mid (end_answer end) new → samples_left mid ≡ y ∷ left → ⊥
    none_from_block None y left new n e = let z = (n.from_block y left e).0.is in cc
    none_from_block (Some error) y left new n e = let z = (n.from_block y left e).0.is in cc

    found_is : (end : Option Error) (found : Result (Option BlockValue) Error) (new : FlacSamples R A) → BlockAnswer found (end_answer end) new → found ≡ end_found end
    found_is None (Ok None) new answer = refl
    found_is None (Ok (Some block)) new answer = let z = answer.3.is in absurd cc
    found_is None (Err error) new answer = let z = answer.0 in absurd cc
    found_is (Some e) (Ok None) new answer = let z = answer.0 in absurd cc
    found_is (Some e) (Ok (Some block)) new answer = let z = answer.3.is in absurd cc
    found_is (Some e) (Err error) new answer = let z = answer.0 in let s : e ≡ error = cc in ap (λ (y : Error). Err y) (sym s)

    -- the call that returns no sample
    pub gave_all : (end : Option Error) (new : FlacSamples R A) → SamplesStep source mid (end_answer end) new → GaveAll source old xs end new
    gave_all end new step = go (samples_left mid) refl
      where
        n : NextSample source mid (end_answer end) new
        n = goes_on source mid (end_answer end) new h.goes_on step

        go : (left : List ℤ) → samples_left mid ≡ left → GaveAll source old xs end new
        go (y ∷ left) e = absurd (none_from_block end y left new n e)
        go [] e =
            let b = n.from_next_block e in
            let f : b.found ≡ end_found end = found_is end b.found new b.answer in
            let r = subst (λ (k : Option StreamFormat). ReadsFrame k b.found (samples_bytes source mid) (samples_bytes source new)) h.stream b.reads in
            record {
              blocks = h.blocks;
              ends = record { between = samples_bytes source mid; blocks_are = h.frames; last = subst (λ (q : Result (Option BlockValue) Error). ReadsFrame (samples_stream old) q (samples_bytes source mid) (samples_bytes source new)) f r };
              samples = h.samples ∙ ap (λ (z : List ℤ). xs ++ z) e ∙ append-nil xs;
            }

  gave_calls : (old : FlacSamples R A) (before xs : List ℤ) (mid new : FlacSamples R A) → GaveSamples source old before mid → Calls source mid xs new → GaveSamples source old (before ++ xs) new
  gave_calls old before [] mid new h e = subst (λ (z : FlacSamples R A). GaveSamples source old (before ++ []) z) e (subst (λ (z : List ℤ). GaveSamples source old z mid) (sym (append-nil before)) h)
  gave_calls old before (x ∷ xs) mid new h c = subst (λ (z : List ℤ). GaveSamples source old z new) (append_assoc before (x ∷ []) xs) (gave_calls old (before ++ x ∷ []) xs c.0 new (gave_more h x c.0 c.1) c.2)

  pub samples_in_turn : (old : FlacSamples R A) (xs : List ℤ) (new : FlacSamples R A) → have_failed old ≡ false → Calls source old xs new → GaveSamples source old xs new
  samples_in_turn old xs new e c = gave_calls old [] xs old new (gave_none old e) c

  pub samples_to_the_end : (old : FlacSamples R A) (xs : List ℤ) (mid : FlacSamples R A) (end : Option Error) (new : FlacSamples R A) → have_failed old ≡ false → Calls source old xs mid
      → SamplesStep source mid (end_answer end) new → GaveAll source old xs end new
  samples_to_the_end old xs mid end new e c step = gave_all (samples_in_turn old xs mid e c) end new step

-- ---- the end of the frames

-- a frame has two bytes or more
frame_long : (stream : Option StreamFormat) (b : Block) (t : List ℕ) → Frame stream b t → 2 ≤ length t
frame_long stream b t c =
    let l : length (bits_of t) ≡ length c.0 + 16 = ap length c.2 ∙ length-append c.0 (bits 16 (crc16 c.0)) ∙ ap (λ (n : ℕ). length c.0 + n) (length-bits 16 (crc16 c.0)) in
    omega (arith, l, length-bits_of t)

-- so fewer than two begin with none
pub short_no_frame : (stream : Option StreamFormat) (r : List ℕ) → length r < 2 → NoFrameLeft stream r
short_no_frame stream r short b t u c e =
    let l : length r ≡ length t + length u = ap length e ∙ length-append t u in
    let f = frame_long stream b t c in
    omega arith

-- nor with a fault
pub short_no_fault : (stream : Option StreamFormat) → IsBitDepth (known_bit_depth stream) → (r : List ℕ) → length r < 2 → (f : Fault) (t u : List ℕ) → FrameBytesFault stream f t → r ≡ t ++ u → ⊥
short_no_fault stream bit_depth r short f t u bad e = let q : Faulty f u ≡ Incomplete = sym ((Reads-frame_bytes stream bit_depth).bad_again f t u bad) ∙ ap (frame_bytes_at stream) (sym e) ∙ incomplete_frame stream r short in cc

-- after the last frame fewer than two bytes remain
few_left : {stream : Option StreamFormat} {blocks : List Block} {a b : State ℕ} (h : ReadsFrames stream blocks (Ok None) a b) → RemainingIsKnown a → length h.between.remaining < 2
few_left h is_known = (h.last.promises.none_is_eof refl (h.blocks_are.consumed.known is_known).known).0

-- ---- where the frames of blocks remain, and then no frame

-- where a source failed after consuming something, it failed
failed_after : {X : Type 0} {P : List X → List X → Type 0} {a b : State X} (c : State X) → Consumes a b P → ReadFailedIn b c → ReadFailedIn a c
failed_after c w (inl f) = inl (λ p. f (p ∙ sym w.errors))
failed_after c w (inr f) = inr ((λ p. f.0 (p ∙ sym w.empty_reads)), f.1)

pub excused_after : {X A : Type 0} {P : List X → List X → Type 0} {a b : State X} (c : State X) (r : Result A Error) → Consumes a b P → IsExcused r b c → IsExcused r a c
excused_after c r w (inl e) = inl e
excused_after c r w (inr f) = inr (f.0, failed_after c w f.1)

not_found : (P : BlockValue → Type 0) (end : Option Error) → IsOkAnd (end_found end) (λ found. IsSomeAnd found P) → ⊥
not_found P None h = h
not_found P (Some e) h = h

module _ (stream : Option StreamFormat) (bit_depth : IsBitDepth (known_bit_depth stream)) where
  -- where the bytes begin with a fault they begin with no frame
  pub fault_no_frame : (f : Fault) (s t rest : List ℕ) → FrameBytesFault stream f t → s ≡ t ++ rest → NoFrameLeft stream s
  fault_no_frame f s t rest bad e block u v c p = (frames_unambiguous stream bit_depth).no_fault block f u t v rest c bad (sym p ∙ e)

  -- of two runs of frames one continues where the other ends
  pub frames_either : (s m n : List ℕ) (done blocks : List Block) → Frames stream s done m → Frames stream s blocks n
      → ((others : List Block) × (blocks ≡ done ++ others) × Frames stream m others n) ⊎ ((others : List Block) × (done ≡ blocks ++ others) × Frames stream n others m)
  frames_either s m n [] blocks d f = inl (blocks, refl, subst (λ (z : List ℕ). Frames stream z blocks n) d f)
  frames_either s m n (x ∷ done) [] d f = inr (x ∷ done, refl, subst (λ (z : List ℕ). Frames stream z (x ∷ done) m) f d)
  frames_either s m n (x ∷ done) (y ∷ blocks) d f =
      let p = one_block stream bit_depth x y d.0 f.0 d.1 f.1 d.2 f.2 (sym d.3 ∙ f.3) in
      let l : d.1 ≡ f.1 = append_cancel_left d.0 d.1 f.1 (sym d.3 ∙ f.3 ∙ ap (λ (z : List ℕ). z ++ f.1) (sym p.1)) in
      elim (frames_either f.1 m n done blocks (subst (λ (z : List ℕ). Frames stream z done m) l d.4) f.4) [
        | inl q ↦ inl (q.0, ap₂ (λ (z : Block) (zs : List Block). z ∷ zs) (sym p.0) q.1, q.2)
        | inr q ↦ inr (q.0, ap₂ (λ (z : Block) (zs : List Block). z ∷ zs) p.0 q.1, q.2)
      ]

  -- frames that were read are the first of those that remain
  pub frames_left : (s m rest : List ℕ) (done blocks : List Block) → Frames stream s done m → Frames stream s blocks rest → NoFrameLeft stream rest → (others : List Block) × (blocks ≡ done ++ others) × Frames stream m others rest
  frames_left s m rest done blocks d f c = elim (frames_either s m rest done blocks d f) [ inl q ↦ q | inr q ↦ go q.0 q.1 q.2 ]
    where
      go : (more : List Block) → done ≡ blocks ++ more → Frames stream rest more m → (others : List Block) × (blocks ≡ done ++ others) × Frames stream m others rest
      go [] e g = ([], sym (append-nil done ∙ e ∙ append-nil blocks), sym g)
      go (x ∷ more) e g = absurd (c x g.0 g.1 g.2 g.3)

  -- All of them were read and the last answer is that for what follows, or it is excused.
  pub all_frames_read : (end : Option Error) (done blocks : List Block) (m : List ℕ) {a b : State ℕ} (h : ReadsFrames stream done (end_found end) a b) → RemainingIsKnown a → Frames stream a.remaining blocks m → NoFrameLeft stream m
      → ((blocks ≡ done) × Remains h.between m) ⊎ IsExcused (end_found end) a b
  all_frames_read end done blocks m {a = a} {b = b} h is_known f c =
      let w = h.blocks_are.consumed.known is_known in
      let q = frames_left a.remaining h.between.remaining m done blocks w.is f c in
      go q.0 q.1 q.2
    where
      go : (others : List Block) → blocks ≡ done ++ others → Frames stream h.between.remaining others m → ((blocks ≡ done) × Remains h.between m) ⊎ IsExcused (end_found end) a b
      go [] e g = inl (e ∙ append-nil done, record { known = (h.blocks_are.consumed.known is_known).known; are = g })
      go (o ∷ others) e g = elim (h.last.promises.is_complete o g.0 g.1 g.2 (record { known = (h.blocks_are.consumed.known is_known).known; are = g.3 })) [
        | inl p ↦ absurd (not_found _ end p.0)
        | inr x ↦ inr (excused_after b (end_found end) h.blocks_are.consumed x)
      ]

-- ---- streams that were opened

module _ {R A : Type 0} (remaining : R → Option (List ℕ)) where
  -- the bytes of a borrowed byte buffer are those of the reader
  pub after_loan : (flac : FlacReader R A) (input : MutBor (BufferedReader R A)) → input.now ≡ flac_input flac
      → ((bytes_in (lent (buffered_source remaining)) input).remaining ≡ (flac_bytes remaining flac).remaining) × (RemainingIsKnown (flac_bytes remaining flac) → RemainingIsKnown (bytes_in (lent (buffered_source remaining)) input))
  unfolding bytes_in
  after_loan flac input is = (rw is refl, λ t. rw is t)

  pub whole_streams : (wants : Bool) (s : State ℕ) (flac : FlacReader R A) (old new : FlacSamples (MutBor (BufferedReader R A)) A) (xs : List ℤ) → Consumed s (flac_bytes remaining flac) (HeadCode (with_samples wants) (flac_head flac))
      → BeginsAt flac old → GaveAll (lent (buffered_source remaining)) old xs None new → RemainingIsKnown s → StreamOf wants s.remaining flac xs
  whole_streams wants s flac old new xs head begins gave is_known =
      let k = (head is_known).1 in
      let here = after_loan flac (samples_input old) begins.input in
      let t : RemainingIsKnown (samples_bytes (lent (buffered_source remaining)) old) = here.1 (head is_known).0 in
      let ends = gave.ends in
      let frames = (ends.blocks_are.consumed.known t).is in
      let few = few_left ends t in
      let f : Frames (samples_stream old) (flac_bytes remaining flac).remaining gave.blocks ends.between.remaining = subst (λ (z : List ℕ). Frames (samples_stream old) z gave.blocks ends.between.remaining) here.0 frames in (
        gave.blocks,
        ends.between.remaining,
        record {
          front = k.0;
          frames = (flac_bytes remaining flac).remaining;
          head = k.1;
          joined = k.2;
          blocks_are = subst (λ (z : Option StreamFormat). Frames z (flac_bytes remaining flac).remaining gave.blocks ends.between.remaining) begins.stream f;
          complete = short_no_frame (Some (stream_of (flac_head flac).info)) ends.between.remaining few;
        },
        ap (λ (z : List ℤ). z ++ samples_of gave.blocks) (sym begins.none_left) ∙ gave.samples,
      )
