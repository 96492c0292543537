-- Blocks that are written one after another, and the file that they make.
use Rattle.std.proofs.Common.{◌≡◌, ◌≢◌, ◌⊎◌, inl, inr, ℕ, ◌+◌, ◌-◌, ◌*◌, ◌%◌, ◌^◌, ◌<◌, ◌≤◌, ℤ, w32, zero, suc, take, Bool, false, true, cond, ◌==◌, List, [], ◌∷◌, ◌++◌, length, Option, None, Some, refl, sym, ap, subst, ◌∙◌, arith, append-nil, eq-eqb, length-append}
use Rattle.std.specs.Prelude.{All, IsTrue, Result, Ok, Err, IfErr, IsErrAnd, IsOk, OnOk, ◌↔◌}
use Rattle.std.specs.Io.KnownBytes.{Appends}
use Rattle.std.proofs.KnownBytes.{Appends-nil, Appends-trans}
use Rattle.std.proofs.lemmas.Bool.{false≢true}
use Rattle.std.proofs.lemmas.Bool.Decides.{nat_tests}
use Rattle.std.proofs.lemmas.Grind.{flat_map-append}
use Rattle.std.proofs.lemmas.List.Elements.{All-append, All-drop, All-nil, All-push, All-take}
use Rattle.std.proofs.lemmas.List.{drop_at, get_or_push, length-take, take_at}
use Rattle.std.specs.Int.{to_le_bytes}
use Rattle.claxon.specs.Bits.{FitsIn}
use Rattle.claxon.specs.Error.{IsFault, IsIo}
use Rattle.claxon.specs.Fault.{BitDepthReserved, Fault}
use Rattle.claxon.specs.Frame.{Block, FrameBytesFault, Frames, IsBitDepth, NoFrameLeft, StreamFormat, known_bit_depth}
use Rattle.claxon.specs.Streams.{interleave, duration_of}
use Rattle.claxon.specs.Block.{BlockValue}
use Rattle.claxon.specs.Errors.{Error as Cause}
use Rattle.claxon.specs.Errors.TheVariants.{OutOfMemory}
use Rattle.claxon.specs.FrameReader.{FrameAnswer, ReadsFrame, block_view, stream_with}
use Rattle.claxon.specs.Gives.{Consumes, ReadFailedIn}
use Rattle.claxon.specs.MetadataBlock.{info_view}
use Rattle.claxon.specs.Promises.{IsExcused}
use Rattle.claxon.specs.SampleRuns.{ConsumesFrames, samples_of}
use Rattle.claxon.specs.Source.{Source}
use Rattle.claxon.specs.State.{State, RemainingIsKnown, bytes_in}
use Rattle.claxon.specs.StreamInfos.{StreamInfo}
use Rattle.claxon.proofs.FormatLaws.{frames_unambiguous}
use Rattle.claxon.proofs.SampleRuns.{all_frames_read, excused_after, fault_no_frame, frames_left, samples_add, short_no_frame, takes_more, takes_none}
use Rattle.claxon.proofs.Streams.{length-interleave}
use Rattle.claxon_md5.proofs.WholeBytes.{hashes_more, hashes_none}
use Rattle.claxon_md5.specs.WholeBytes.{whole_bytes_of_samples}
use Rattle.claxon_md5.specs.declared.Md5.{Md5}
use Rattle.claxon_write.proofs.Counts.{flushed_after, none_failed, none_failed_both}
use Rattle.claxon_blocks.proofs.BlockReads.{block_io, io_not_fault}
use Rattle.claxon_blocks.proofs.FirstBytes.{fault_not_memory, refused}
use Rattle.claxon_wav.specs.Convert.{CanBeConverted, CanBeConvertedTo, CanBePut, Converts, ConvertsToStream, ExplainsError, ExplainsInput, HashesBlocks, HoldsFile, HoldsOther, HoldsUnknown, ConvertIsExcused, IsErrorAt, IsWholeStream, OutputFailed, PutsAndHashes, PutsBefore, PutsBlocks, PutsSamples, StopsAtBlock, StopsPutting, OutputWriteFailed, packed_blocks}
use Rattle.claxon_blocks.specs.Frames.{Is32BitFault}
use Rattle.claxon_wav.specs.Samples.{bytes_of_sample, packed_block, packed_samples, shifted_sample, silence}
use Rattle.claxon_wav.specs.Conversion.{IsVerdictOn}
use Rattle.claxon_wav.specs.WavError.{IsFrameError, IsMemory, IsOutput, NamesFault}
use Rattle.claxon_wav.specs.WaveFile.{pad, sample_size, unknown_header}
use Rattle.claxon_wav.specs.DataSize.{max_data_size}
use Rattle.claxon_blocks.specs.HashBlock.{HashesToo}
use Rattle.claxon_blocks.specs.Md5Verdict.{HasHashedBytes, Md5IsJudged}
use Rattle.claxon_wav.specs.Writer.{BlockErrorKeeps, CallsFailed, ExplainsBlockError, FewWritesFailed, FinishFaultIsSound, FinishFlushes, FinishIsSound, FinishStreamIsSound, NoneFailed, PutsBlock, SameHeader, SamplesFit, Unflushed, WritesFailed, output_contents, stream_pad}
use Rattle.claxon_blocks.specs.declared.frames.FrameError.{FrameError}
use Rattle.claxon_blocks.specs.declared.md5_verdict.Md5Verdict.{Md5Verdict}
use Rattle.claxon_wav.specs.declared.error.Error.{Error}
use Rattle.claxon_wav.specs.declared.error.Error.TheVariants.{Claxon, Exists, OtherChannels, Output, SameFile, TooLong, Unsupported32Bit, WideSample}
use Rattle.claxon_wav.specs.declared.header.Layout.{Layout}
use Rattle.claxon_wav.specs.declared.writer.WavWriter.{WavWriter}

-- the bytes of one block more
packed_more : (valid_bits : ℕ) (blocks : List Block) (block : BlockValue) → packed_blocks valid_bits blocks ++ packed_block valid_bits block ≡ packed_blocks valid_bits (blocks ++ block_view block ∷ [])
packed_more valid_bits blocks block = sym (ap (packed_samples valid_bits) (samples_add blocks (block_view block)) ∙ flat_map-append (bytes_of_sample (sample_size valid_bits) valid_bits) (samples_of blocks) (interleave block.channels))

-- samples take a byte or more
samples_take : (valid_bits : ℕ) → 1 ≤ valid_bits → (xs : List ℤ) → 1 ≤ length xs → 1 ≤ length (packed_samples valid_bits xs)
unfolding bytes_of_sample
samples_take valid_bits some [] h = absurd (omega (arith, h))
samples_take valid_bits some (x ∷ xs) h =
    let four = to_le_bytes w32 (shifted_sample (8 * sample_size valid_bits - valid_bits) (silence (sample_size valid_bits)) x) in
    let first = length-take (sample_size valid_bits) four in
    omega (arith, length-append (take (sample_size valid_bits) four) (packed_samples valid_bits xs), first, some)

-- and so does a block
pub block_takes : (valid_bits : ℕ) (block : BlockValue) → 1 ≤ valid_bits → 1 ≤ length block.channels → 1 ≤ duration_of block.channels → 1 ≤ length (packed_block valid_bits block)
block_takes valid_bits block some channels long =
    let n : 1 ≤ length (interleave block.channels) = rw (length-interleave block.channels) (grind (arith, channels, long)) in
    samples_take valid_bits some (interleave block.channels) n

-- what the error of a frame says of the bytes where that begins
error_at : (b : State ℕ) (cause : FrameError) (e : Error) → (RemainingIsKnown b → IsTrue cause.is_32_bit ↔ Is32BitFault b.remaining cause.error) → IsFrameError cause e → IsErrorAt b cause.error e
error_at b cause (Claxon error) tells is = (is.0, λ known deep. false≢true (sym is.1 ∙ (tells known).1 deep))
error_at b cause Unsupported32Bit tells is = λ known. (tells known).0 is
error_at b cause (Output error) tells is = is
error_at b cause TooLong tells is = is
error_at b cause OtherChannels tells is = is
error_at b cause WideSample tells is = is
error_at b cause SameFile tells is = is
error_at b cause Exists tells is = is

-- So far exactly the frames of these blocks were consumed, and their samples written.
pub record PutSoFar {W : Type 0} (contents : W → Option (List ℕ)) (stream : Option StreamFormat) (a b : State ℕ) (x y : WavWriter W) : Type 0 where
  pub blocks : List Block
  pub frames : ConsumesFrames stream blocks a b
  pub puts : PutsSamples contents blocks x y

module _ {W : Type 0} {contents : W → Option (List ℕ)} where
  pub puts_none : (x : WavWriter W) → PutsSamples contents [] x x
  puts_none x = record {
    channels = All-nil (λ (b : Block). length b.channels ≡ x.layout.channels);
    fit = All-nil (FitsIn x.layout.valid_bits);
    bytes_are = Appends-nil (output_contents contents x);
    written_is = omega arith;
    announced_is = refl;
    layout_is = refl;
    none_failed = none_failed x.output;
    unflushed = refl;
  }

  pub puts_more : {blocks : List Block} {x y z : WavWriter W} (block : BlockValue) → PutsSamples contents blocks x y → PutsBlock contents block y z → SamplesFit block y → SameHeader y z → Unflushed y z → PutsSamples contents (blocks ++ block_view block ∷ []) x z
  puts_more {blocks = blocks} {x = x} {y = y} {z = z} block h put fits same unflushed =
      let valid_bits : y.layout.valid_bits ≡ x.layout.valid_bits = ap (λ (l : Layout). l.valid_bits) h.layout_is in
      let all = packed_more x.layout.valid_bits blocks block in
      let more : Appends (output_contents contents y) (output_contents contents z) (packed_block x.layout.valid_bits block) = subst (λ (n : ℕ). Appends (output_contents contents y) (output_contents contents z) (packed_block n block)) valid_bits put.bytes_are in
      let counted : z.written ≡ y.written + length (packed_block x.layout.valid_bits block) = subst (λ (n : ℕ). z.written ≡ y.written + length (packed_block n block)) valid_bits put.written_is in
      record {
        channels = All-push (λ (b : Block). length b.channels ≡ x.layout.channels) blocks (block_view block) h.channels (put.channels ∙ ap (λ (l : Layout). l.channels) h.layout_is);
        fit = subst (All (FitsIn x.layout.valid_bits)) (sym (samples_add blocks (block_view block))) (All-append (FitsIn x.layout.valid_bits) (samples_of blocks) (interleave block.channels) h.fit (subst (λ (n : ℕ). All (FitsIn n) (interleave block.channels)) valid_bits fits));
        bytes_are = subst (λ (s : List ℕ). Appends (output_contents contents x) (output_contents contents z) s) all (Appends-trans (output_contents contents x) (output_contents contents y) (output_contents contents z) (packed_blocks x.layout.valid_bits blocks) (packed_block x.layout.valid_bits block) h.bytes_are more);
        written_is = omega (arith, counted, h.written_is, length-append (packed_blocks x.layout.valid_bits blocks) (packed_block x.layout.valid_bits block)) ∙ ap (λ (s : List ℕ). x.written + length s) all;
        announced_is = same.announced_is ∙ h.announced_is;
        layout_is = same.layout_is ∙ h.layout_is;
        none_failed = none_failed_both h.none_failed put.none_failed;
        unflushed = unflushed ∙ h.unflushed;
      }

  module _ {stream : Option StreamFormat} where
    pub put_none : (a : State ℕ) (x : WavWriter W) → PutSoFar contents stream a a x x
    put_none a x = record { blocks = []; frames = takes_none stream a; puts = puts_none x }

    pub put_more : {a b c : State ℕ} {x y z : WavWriter W} (block : BlockValue) → PutSoFar contents stream a b x y → ReadsFrame stream (Ok (Some block)) b c → PutsBlock contents block y z → SamplesFit block y → SameHeader y z → Unflushed y z → PutSoFar contents stream a c x z
    put_more block h reads put fits same unflushed = record { blocks = h.blocks ++ block_view block ∷ []; frames = takes_more block h.frames reads; puts = puts_more block h.puts put fits same unflushed }

    -- an answer without a block
    pub put_all : {answer : FrameAnswer} {a b c : State ℕ} {x y : WavWriter W} → PutSoFar contents stream a b x y → ReadsFrame stream answer b c → PutsBlocks contents stream answer a c x y
    put_all {b = b} h reads = record { blocks = h.blocks; reads = record { between = b; blocks_are = h.frames; last = reads }; puts = h.puts }

    pub stops_at_fault : (cause : FrameError) (e : Error) {a b c : State ℕ} {x y : WavWriter W} → PutSoFar contents stream a b x y → ReadsFrame stream (Err cause.error) b c → (RemainingIsKnown b → IsTrue cause.is_32_bit ↔ Is32BitFault b.remaining cause.error)
        → IsFrameError cause e → StopsPutting contents stream e a c x y
    stops_at_fault cause e {b = b} h reads tells is = inl (record { cause = cause.error; put = record { blocks = h.blocks; reads = record { between = b; blocks_are = h.frames; last = reads }; puts = h.puts }; is = error_at b cause e tells is })

    -- a block that was not written
    pub stops_at_block : {e : Error} {a b c : State ℕ} {x y z : WavWriter W} (block : BlockValue) → PutSoFar contents stream a b x y → ReadsFrame stream (Ok (Some block)) b c → ExplainsBlockError block y e → BlockErrorKeeps contents block e y z → StopsPutting contents stream e a c x z
    stops_at_block {y = y} block h reads explains keeps = inr (record { blocks = h.blocks; block = block; frames = takes_more block h.frames reads; put = y; puts = h.puts; explains = explains; keeps = keeps })

-- ---- the hasher

-- So far exactly the frames of these blocks were consumed, and their samples written and hashed.
pub record HashedSoFar {W : Type 0} (contents : W → Option (List ℕ)) (stream : Option StreamFormat) (bit_depth : ℕ) (a b : State ℕ) (x y : WavWriter W) (hasher hashed : Option Md5) : Type 0 where
  pub put : PutSoFar contents stream a b x y
  pub hashes : HashesBlocks bit_depth put.blocks hasher hashed

pub no_block_hashed : (n : ℕ) (hasher : Option Md5) → HashesBlocks n [] hasher hasher
no_block_hashed n None = refl
no_block_hashed n (Some hasher) = hashes_none n hasher

-- the samples of one block more
pub block_hashed : (n : ℕ) (blocks : List Block) (block : BlockValue) (x y z : Option Md5) → HashesBlocks n blocks x y → HashesToo n block y z → HashesBlocks n (blocks ++ block_view block ∷ []) x z
block_hashed n blocks block None None z before more = more
block_hashed n blocks block None (Some y) z before more = absurd cc
block_hashed n blocks block (Some x) None z before more = absurd before
block_hashed n blocks block (Some x) (Some y) None before more = absurd more
block_hashed n blocks block (Some x) (Some y) (Some z) before more = hashes_more n (samples_of blocks) (interleave block.channels) (samples_of (blocks ++ block_view block ∷ [])) x y z (samples_add blocks (block_view block)) before more

module _ {W : Type 0} {contents : W → Option (List ℕ)} {stream : Option StreamFormat} where
  pub hashed_none : (bit_depth : ℕ) (a : State ℕ) (x : WavWriter W) (hasher : Option Md5) → HashedSoFar contents stream bit_depth a a x x hasher hasher
  unfolding put_none
  hashed_none bit_depth a x hasher = record { put = put_none a x; hashes = no_block_hashed bit_depth hasher }

  -- one block more, which was written and hashed
  pub hashed_more : {bit_depth : ℕ} {a b c : State ℕ} {x y z : WavWriter W} {hasher hashed more : Option Md5} (block : BlockValue) (h : HashedSoFar contents stream bit_depth a b x y hasher hashed) → ReadsFrame stream (Ok (Some block)) b c → PutsBlock contents block y z → SamplesFit block y → SameHeader y z → Unflushed y z
      → HashesToo bit_depth block hashed more → HashedSoFar contents stream bit_depth a c x z hasher more
  unfolding put_more
  hashed_more {bit_depth = bit_depth} {hasher = hasher} {hashed = hashed} {more = more} block h reads put fits same unflushed hashes = record {
    put = put_more block h.put reads put fits same unflushed;
    hashes = block_hashed bit_depth h.put.blocks block hasher hashed more h.hashes hashes;
  }

  -- an answer without a block
  pub hashed_all : {bit_depth : ℕ} {a b c : State ℕ} {x y : WavWriter W} {hasher hashed : Option Md5} → HashedSoFar contents stream bit_depth a b x y hasher hashed → ReadsFrame stream (Ok None) b c → PutsAndHashes contents stream bit_depth a c x y hasher hashed
  unfolding put_all
  hashed_all h reads = record { put = put_all h.put reads; hashes = h.hashes }

-- for equal streaminfos and readers
pub shown_as : {R : Type 0} (source : R → Source ℕ) {info shown : StreamInfo} {u v : R} (P : Option StreamFormat → State ℕ → Type 0) → info ≡ shown → u ≡ v → P (Some (stream_with info)) (bytes_in source u) → P (Some (stream_with shown)) (bytes_in source v)
shown_as {R = R} source {info = info} {shown = shown} {u = u} {v = v} P head at h = subst (λ (i : StreamInfo). P (Some (stream_with i)) (bytes_in source v)) head (subst (λ (r : R). P (Some (stream_with info)) (bytes_in source r)) at h)

-- ---- lists

-- the last element
all_last : {X : Type 0} (P : X → Type 0) (xs : List X) (x : X) → All P (xs ++ x ∷ []) → P x
all_last P xs x h = subst P (get_or_push xs x x (length xs) refl) (h (length xs) x (omega (arith, length-append xs (x ∷ []))))

-- the elements after others
all_after : {X : Type 0} (P : X → Type 0) (xs ys : List X) → All P (xs ++ ys) → All P ys
all_after P xs ys h = subst (All P) (drop_at xs ys (length xs) refl) (All-drop P (length xs) (xs ++ ys) h)

-- the elements before others
all_before : {X : Type 0} (P : X → Type 0) (xs ys : List X) → All P (xs ++ ys) → All P xs
all_before P xs ys h = subst (All P) (take_at xs ys (length xs) refl) (All-take P (length xs) (xs ++ ys) h)

-- the samples of blocks one after another
pub samples_both : (xs ys : List Block) → samples_of (xs ++ ys) ≡ samples_of xs ++ samples_of ys
samples_both xs ys = flat_map-append (λ (b : Block). interleave b.channels) xs ys

-- ---- counts

-- a write failed, and then two at most
more_writes : (n m k l : ℕ) → m ≡ n → k ≡ (m + 1) % 2 ^ 64 → (l ≡ k) ⊎ ((l ≡ (k + 1) % 2 ^ 64) ⊎ (l ≡ (k + 2) % 2 ^ 64)) → l ≢ n
more_writes n m k l e f (inl g) h = omega arith
more_writes n m k l e f (inr (inl g)) h = omega arith
more_writes n m k l e f (inr (inr g)) h = omega arith

calls_failed_after : {W : Type 0} (x y z : WavWriter W) → NoneFailed x y → CallsFailed y z → CallsFailed x z
calls_failed_after x y z n (inl f) = inl (λ e. f (e ∙ sym n.writes))
calls_failed_after x y z n (inr (inl f)) = inr (inl (λ e. f (e ∙ sym n.flushes)))
calls_failed_after x y z n (inr (inr f)) = inr (inr (λ e. f (e ∙ sym n.seeks)))

failed_after : {P : List ℕ → List ℕ → Type 0} {a b : State ℕ} (c : State ℕ) → Consumes a b P → ReadFailedIn b c → ReadFailedIn a c
failed_after c w (inl f) = inl (λ p. f (p ∙ sym w.errors))
failed_after c w (inr f) = inr ((λ p. f.0 (p ∙ sym w.empty_reads)), f.1)

-- ---- what an error says

module _ {W : Type 0} {contents : W → Option (List ℕ)} {stream : Option StreamFormat} {a b : State ℕ} {x y : WavWriter W} (z : WavWriter W) where
  fault_explained : (e : Error) (cause : Cause) (h : PutsBlocks contents stream (Err cause) a b x y) → IsErrorAt h.reads.between cause e → ExplainsError stream a b x z e
  fault_explained (Claxon error) cause h is =
      let w = h.reads.blocks_are.consumed in
      subst (λ (k : Cause). ExplainsError stream a b x z (Claxon k)) (sym is.0) (elim h.reads.last.promises.fault_is_sound [
        | inl m ↦ inl m
        | inr (inl io) ↦ inr (inl (
          io,
          λ known. elim (block_io stream h.reads.between b (Err cause) h.reads.last io (w.known known).known) [
            | inl n ↦ inl (h.blocks, h.reads.between.remaining, (w.known known).is, n)
            | inr f ↦ inr (failed_after b w f)
          ],
        ))
        | inr (inr k) ↦ inr (inr (λ known. (
            let f = k (w.known known).known in
            let t = (f.2 (w.known known).known).1 in
            let frames = subst (λ (s : List ℕ). Frames stream a.remaining h.blocks s) t.2 (w.known known).is in
            (f.0, f.1, (h.blocks, t.0, b.remaining, frames, t.1, subst (λ (s : List ℕ). Is32BitFault s cause → ⊥) t.2 (is.1 (w.known known).known)))
            )))
      ])
  fault_explained Unsupported32Bit cause h is = λ known. let k = h.reads.blocks_are.consumed.known known in (h.blocks, h.reads.between.remaining, k.is, (is k.known).1)
  fault_explained (Output error) cause h is = absurd is
  fault_explained TooLong cause h is = absurd is
  fault_explained OtherChannels cause h is = absurd is
  fault_explained WideSample cause h is = absurd is
  fault_explained SameFile cause h is = absurd is
  fault_explained Exists cause h is = absurd is

  -- a failed write of a block was counted, also where the end of the file fails too
  block_write_failed : (e : Error) (h : StopsAtBlock contents stream e a b x y) → IsOutput e → FewWritesFailed y z → WritesFailed x z
  block_write_failed (Output cause) h is few = more_writes _ _ _ _ h.puts.none_failed.writes h.keeps.1.writes few
  block_write_failed (Claxon cause) h is few = absurd is
  block_write_failed TooLong h is few = absurd is
  block_write_failed OtherChannels h is few = absurd is
  block_write_failed WideSample h is few = absurd is
  block_write_failed Unsupported32Bit h is few = absurd is
  block_write_failed SameFile h is few = absurd is
  block_write_failed Exists h is few = absurd is

  block_explained : (e : Error) (h : StopsAtBlock contents stream e a b x y) → FewWritesFailed y z → ExplainsError stream a b x z e
  block_explained (Claxon cause) h few = elim h.explains [ inl m ↦ inl m | inr f ↦ absurd f ]
  block_explained (Output cause) h few = inl (block_write_failed (Output cause) h tt few)
  block_explained Unsupported32Bit h few = absurd (elim h.explains [ inl m ↦ m | inr f ↦ f ])
  block_explained SameFile h few = elim h.explains [ inl m ↦ m | inr f ↦ f ]
  block_explained Exists h few = elim h.explains [ inl m ↦ m | inr f ↦ f ]
  block_explained TooLong h few = λ known.
      let valid_bits = x.layout.valid_bits in
      let all = packed_more valid_bits h.blocks h.block in
      let more = subst (λ (l : Layout). max_data_size < h.put.written + length (packed_block l.valid_bits h.block)) h.puts.layout_is h.explains in
      let both = length-append (packed_blocks valid_bits h.blocks) (packed_block valid_bits h.block) in
      (h.blocks ++ block_view h.block ∷ [], b.remaining, (h.frames.consumed.known known).is, omega (arith, more, h.puts.written_is, both, ap length all))
  block_explained OtherChannels h few = λ known. (
    h.blocks ++ block_view h.block ∷ [],
    b.remaining,
    (h.frames.consumed.known known).is,
    λ all. h.explains (all_last (λ (k : Block). length k.channels ≡ x.layout.channels) h.blocks (block_view h.block) all ∙ sym (ap (λ (l : Layout). l.channels) h.puts.layout_is)),
  )
  block_explained WideSample h few = λ known. (
    h.blocks ++ block_view h.block ∷ [],
    b.remaining,
    (h.frames.consumed.known known).is,
    λ all. h.explains (
        subst (λ (l : Layout). All (FitsIn l.valid_bits) (interleave h.block.channels)) (sym h.puts.layout_is)
        (all_after (FitsIn x.layout.valid_bits) (samples_of h.blocks) (interleave h.block.channels) (subst (All (FitsIn x.layout.valid_bits)) (samples_add h.blocks (block_view h.block)) all))
        ),
  )

  pub stop_explained : (e : Error) → StopsPutting contents stream e a b x y → FewWritesFailed y z → ExplainsError stream a b x z e
  stop_explained e (inl h) few = fault_explained e h.cause h.put h.is
  stop_explained e (inr h) few = block_explained e h few

-- all blocks were written, and then the end of the file failed
pub end_explained : (stream : Option StreamFormat) (a b : State ℕ) {W : Type 0} (x y z : WavWriter W) (r : Result (Unit {0}) Error) → NoneFailed x y → FinishFaultIsSound r y z → IfErr r (ExplainsError stream a b x z)
end_explained stream a b x y z (Ok done) none f = tt
end_explained stream a b x y z (Err (Claxon cause)) none f = absurd f.0
end_explained stream a b x y z (Err (Output cause)) none f = calls_failed_after x y z none f.1
end_explained stream a b x y z (Err TooLong) none f = absurd f.0
end_explained stream a b x y z (Err OtherChannels) none f = absurd f.0
end_explained stream a b x y z (Err WideSample) none f = absurd f.0
end_explained stream a b x y z (Err Unsupported32Bit) none f = absurd f.0
end_explained stream a b x y z (Err SameFile) none f = f.0
end_explained stream a b x y z (Err Exists) none f = f.0

-- an error of a conversion says so much of the input
input_explained_there : (stream : Option StreamFormat) (a b : State ℕ) {W : Type 0} (x z : WavWriter W) (e : Error) → ExplainsError stream a b x z e → ExplainsInput stream a b x.layout x.written e
input_explained_there stream a b x z (Claxon cause) h = h
input_explained_there stream a b x z (Output cause) h = tt
input_explained_there stream a b x z TooLong h = h
input_explained_there stream a b x z OtherChannels h = h
input_explained_there stream a b x z WideSample h = h
input_explained_there stream a b x z Unsupported32Bit h = h
input_explained_there stream a b x z SameFile h = h
input_explained_there stream a b x z Exists h = h

-- of a file of this layout that begins there
pub input_explained : (stream : Option StreamFormat) (a b : State ℕ) {W : Type 0} (x z : WavWriter W) (layout : Layout) → x.layout ≡ layout → x.written ≡ 0 → (e : Error) → ExplainsError stream a b x z e → ExplainsInput stream a b layout 0 e
input_explained stream a b x z layout same none e h =
    subst (λ (l : Layout). ExplainsInput stream a b l 0 e) same (subst (λ (n : ℕ). ExplainsInput stream a b x.layout n e) none (input_explained_there stream a b x z e h))

-- ---- completeness

-- an excuse of the decoder
as_excused : {A : Type 0} (a b at : State ℕ) (e : Error) (cause : Cause) → IsErrorAt at cause e → RemainingIsKnown at → IsExcused (let r : Result A Cause = Err cause in r) a b → ConvertIsExcused (Err e) a b
as_excused a b at (Claxon error) cause is known (inl m) = inl (let k : cause ≡ OutOfMemory = cc in is.0 ∙ k)
as_excused a b at (Claxon error) cause is known (inr f) = inr (subst IsIo (sym is.0) f.0, f.1)
as_excused a b at Unsupported32Bit cause is known (inl m) = absurd (fault_not_memory cause (is known).0 m)
as_excused a b at Unsupported32Bit cause is known (inr f) = absurd (io_not_fault BitDepthReserved cause f.0 (is known).0)
as_excused a b at (Output error) cause is known k = absurd is
as_excused a b at TooLong cause is known k = absurd is
as_excused a b at OtherChannels cause is known k = absurd is
as_excused a b at WideSample cause is known k = absurd is
as_excused a b at SameFile cause is known k = absurd is
as_excused a b at Exists cause is known k = absurd is

-- a fault of the decoder is named
named : (stream : Option StreamFormat) → IsBitDepth (known_bit_depth stream) → (f : Fault) (t rest : List ℕ) (at : State ℕ) (e : Error) (cause : Cause) → IsErrorAt at cause e → RemainingIsKnown at → at.remaining ≡ t ++ rest → FrameBytesFault stream f t → IsFault f cause
    → IsErrAnd (let r : Result (Unit {0}) Error = Err e in r) (NamesFault f)
named stream bit_depth f t rest at (Claxon error) cause is known are bad h = subst (IsFault f) (sym is.0) h
named stream bit_depth f t rest at Unsupported32Bit cause is known are bad h =
    let s = (is known).1 in
    ((frames_unambiguous stream bit_depth).one_fault f BitDepthReserved t s.0 rest s.1 bad (refused stream s.0 s.2.0 s.2.1) (sym are ∙ s.3)).0
named stream bit_depth f t rest at (Output error) cause is known are bad h = absurd is
named stream bit_depth f t rest at TooLong cause is known are bad h = absurd is
named stream bit_depth f t rest at OtherChannels cause is known are bad h = absurd is
named stream bit_depth f t rest at WideSample cause is known are bad h = absurd is
named stream bit_depth f t rest at SameFile cause is known are bad h = absurd is
named stream bit_depth f t rest at Exists cause is known are bad h = absurd is

module _ (stream : Option StreamFormat) (bit_depth : IsBitDepth (known_bit_depth stream)) {W : Type 0} {contents : W → Option (List ℕ)} {a b : State ℕ} {x y : WavWriter W} (z : WavWriter W) (few : FewWritesFailed y z) where
  module _ (blocks : List Block) (m : List ℕ) (known : RemainingIsKnown a) (f : Frames stream a.remaining blocks m) (none : NoFrameLeft stream m) (can : CanBePut blocks x) where
    -- a block that can be written is written, or memory was refused or a write failed
    block_excused : (e : Error) → StopsAtBlock contents stream e a b x y → IsErrAnd (let r : Result (Unit {0}) Error = Err e in r) IsMemory ⊎ OutputWriteFailed (Err e) x z
    block_excused e h = go e h.explains (λ is. block_write_failed z e h is few)
      where
        all : List Block
        all = h.blocks ++ block_view h.block ∷ []

        left : (others : List Block) × (blocks ≡ all ++ others) × Frames stream b.remaining others m
        left = frames_left stream bit_depth a.remaining b.remaining m all blocks (h.frames.consumed.known known).is f none

        channels : length h.block.channels ≡ h.put.layout.channels
        channels = all_last (λ (k : Block). length k.channels ≡ x.layout.channels) h.blocks (block_view h.block) (all_before (λ (k : Block). length k.channels ≡ x.layout.channels) all left.0 (subst (All (λ (k : Block). length k.channels ≡ x.layout.channels)) left.1 can.channels)) ∙ sym (ap (λ (l : Layout). l.channels) h.puts.layout_is)

        fit : SamplesFit h.block h.put
        fit =
            let both = subst (λ (s : List Block). All (FitsIn x.layout.valid_bits) (samples_of s)) left.1 can.fit in
            let first = all_before (FitsIn x.layout.valid_bits) (samples_of all) (samples_of left.0) (subst (All (FitsIn x.layout.valid_bits)) (samples_both all left.0) both) in
            subst (λ (l : Layout). All (FitsIn l.valid_bits) (interleave h.block.channels)) (sym h.puts.layout_is)
            (all_after (FitsIn x.layout.valid_bits) (samples_of h.blocks) (interleave h.block.channels) (subst (All (FitsIn x.layout.valid_bits)) (samples_add h.blocks (block_view h.block)) first))

        size : max_data_size < h.put.written + length (packed_block h.put.layout.valid_bits h.block) → ⊥
        size more =
            let valid_bits = x.layout.valid_bits in
            let over = subst (λ (l : Layout). max_data_size < h.put.written + length (packed_block l.valid_bits h.block)) h.puts.layout_is more in
            let first = length-append (packed_blocks valid_bits h.blocks) (packed_block valid_bits h.block) in
            let whole : length (packed_blocks valid_bits blocks) ≡ length (packed_blocks valid_bits all) + length (packed_blocks valid_bits left.0) = ap (λ (s : List Block). length (packed_blocks valid_bits s)) left.1 ∙ ap (λ (s : List ℤ). length (packed_samples valid_bits s)) (samples_both all left.0)
            ∙ ap length (flat_map-append (bytes_of_sample (sample_size valid_bits) valid_bits) (samples_of all) (samples_of left.0)) ∙ length-append (packed_blocks valid_bits all) (packed_blocks valid_bits left.0) in
            omega (arith, over, first, ap length (packed_more valid_bits h.blocks h.block), whole, can.size, h.puts.written_is)

        go : (e : Error) → ExplainsBlockError h.block h.put e → (IsOutput e → WritesFailed x z) → IsErrAnd (let r : Result (Unit {0}) Error = Err e in r) IsMemory ⊎ OutputWriteFailed (Err e) x z
        go (Claxon cause) s w = elim s [ inl m ↦ inl m | inr k ↦ absurd k ]
        go (Output cause) s w = inr (tt, w tt)
        go TooLong s w = absurd (size s)
        go OtherChannels s w = absurd (s channels)
        go WideSample s w = absurd (s fit)
        go Unsupported32Bit s w = elim s [ inl m ↦ absurd m | inr k ↦ absurd k ]
        go SameFile s w = elim s [ inl m ↦ absurd m | inr k ↦ absurd k ]
        go Exists s w = elim s [ inl m ↦ absurd m | inr k ↦ absurd k ]

  -- a stream that can be converted doesn't stop early without an excuse
  pub stop_complete : (e : Error) → StopsPutting contents stream e a b x y → CanBeConverted stream a x → ConvertIsExcused (Err e) a b ⊎ OutputFailed (Err e) x z
  stop_complete e (inr h) can = elim (block_excused can.blocks can.rest can.known can.frames (short_no_frame stream can.rest can.eof) can.can e h) [ inl m ↦ inl (inl m) | inr w ↦ inr (w.0, inl w.1) ]
  stop_complete e (inl h) can =
      let reads = h.put.reads in
      let known = (reads.blocks_are.consumed.known can.known).known in
      elim (all_frames_read stream bit_depth (Some h.cause) h.put.blocks can.blocks can.rest reads can.known can.frames (short_no_frame stream can.rest can.eof)) [
        | inr k ↦ inl (as_excused a b reads.between e h.cause h.is known k)
        | inl p ↦ elim (reads.last.promises.eof_is_none can.rest p.1 can.eof) [
          | inl k ↦ absurd (let w = k.0 in cc)
          | inr k ↦ inl (as_excused a b reads.between e h.cause h.is known (excused_after b (Err h.cause) reads.blocks_are.consumed k))
        ]
      ]

  -- a fault there is named
  pub stop_named : (f : Fault) (e : Error) → StopsPutting contents stream e a b x y → CanBeConvertedTo stream a f x → IsErrAnd (let r : Result (Unit {0}) Error = Err e in r) (NamesFault f) ⊎ (ConvertIsExcused (Err e) a b ⊎ OutputWriteFailed (Err e) x z)
  stop_named f e (inr h) can = elim (block_excused can.blocks (can.fault ++ can.rest) can.known can.frames (fault_no_frame stream bit_depth f (can.fault ++ can.rest) can.fault can.rest can.bad refl) can.can e h) [ inl m ↦ inr (inl (inl m)) | inr w ↦ inr (inr w) ]
  stop_named f e (inl h) can =
      let reads = h.put.reads in
      let known = (reads.blocks_are.consumed.known can.known).known in
      elim (all_frames_read stream bit_depth (Some h.cause) h.put.blocks can.blocks (can.fault ++ can.rest) reads can.known can.frames (fault_no_frame stream bit_depth f (can.fault ++ can.rest) can.fault can.rest can.bad refl)) [
        | inr k ↦ inr (inl (as_excused a b reads.between e h.cause h.is known k))
        | inl p ↦ elim (reads.last.promises.fault_is_complete f can.fault can.rest can.bad p.1) [
          | inl k ↦ inl (named stream bit_depth f can.fault can.rest reads.between e h.cause h.is known p.1.are can.bad k.0)
          | inr k ↦ inr (inl (as_excused a b reads.between e h.cause h.is known (excused_after b (Err h.cause) reads.blocks_are.consumed k)))
        ]
      ]

-- all blocks were written: the file is finished, or memory was refused or the output failed
pub end_complete : {W : Type 0} (a b : State ℕ) (x y z : WavWriter W) (r : Result (Unit {0}) Error) → NoneFailed x y → FinishFaultIsSound r y z → IsOk r ⊎ (ConvertIsExcused r a b ⊎ OutputFailed r x z)
end_complete a b x y z (Ok done) none f = inl refl
end_complete a b x y z (Err e) none f = inr (inr (f.0, calls_failed_after x y z none f.1))

-- all blocks were written: no memory is asked for after that
pub end_has_memory : {W : Type 0} (y z : WavWriter W) (r : Result (Unit {0}) Error) → FinishFaultIsSound r y z → IsErrAnd r IsMemory → ⊥
end_has_memory y z (Ok done) f m = m
end_has_memory y z (Err (Claxon cause)) f m = f.0
end_has_memory y z (Err (Output cause)) f m = m
end_has_memory y z (Err TooLong) f m = m
end_has_memory y z (Err OtherChannels) f m = m
end_has_memory y z (Err WideSample) f m = m
end_has_memory y z (Err Unsupported32Bit) f m = m
end_has_memory y z (Err SameFile) f m = m
end_has_memory y z (Err Exists) f m = m

-- all blocks were written, and then the end of the file was tried
pub ended_after_all : {W : Type 0} (contents : W → Option (List ℕ)) (Tries : WavWriter W → WavWriter W → Type 0) (stream : Option StreamFormat) (a b : State ℕ) (x y z : WavWriter W) (r : Result (Unit {0}) Error) → PutsBlocks contents stream (Ok None) a b x y → Tries y z → IfErr r (λ e. (put : WavWriter W) × Tries put z × PutsBefore contents stream e a b x put)
ended_after_all contents Tries stream a b x y z (Ok done) puts tries = tt
ended_after_all contents Tries stream a b x y z (Err e) puts tries = (y, tries, inl puts)

ok_unexcused : {A : Type 0} (a b : State ℕ) (x : A) → IsExcused (let q : Result A Cause = Ok x in q) a b → ⊥
ok_unexcused a b x (inl m) = cc
ok_unexcused a b x (inr f) = f.0

-- where a fault stands the end is not met
pub not_eof : (stream : Option StreamFormat) → IsBitDepth (known_bit_depth stream) → {W : Type 0} {contents : W → Option (List ℕ)} {a b : State ℕ} {x y : WavWriter W} (f : Fault) → PutsBlocks contents stream (Ok None) a b x y → CanBeConvertedTo stream a f x → ⊥
not_eof stream bit_depth {a = a} {b = b} f h can = elim (all_frames_read stream bit_depth None h.blocks can.blocks (can.fault ++ can.rest) h.reads can.known can.frames (fault_no_frame stream bit_depth f (can.fault ++ can.rest) can.fault can.rest can.bad refl)) [
  | inr k ↦ ok_unexcused a b None k
  | inl p ↦ elim (h.reads.last.promises.fault_is_complete f can.fault can.rest can.bad p.1) [ inl k ↦ k.0 | inr k ↦ ok_unexcused h.reads.between b None k ]
]

-- ---- a whole file

-- no pad byte where none were announced
no_pad : (written announced : ℕ) → announced ≡ 0 → cond (written == announced) (pad written) [] ≡ []
no_pad zero announced e = rw e refl
no_pad (suc n) announced e =
    let differ : (suc n == announced) ≡ false = grind (arith, nat_tests) in
    ap (λ (b : Bool). cond b (pad (suc n)) []) differ

module _ {W : Type 0} (contents : W → Option (List ℕ)) where
  -- the header, the samples and the pad byte
  pub file : (blocks : List Block) (old put new : WavWriter W) → PutsSamples contents blocks old put → (put.announced ≡ put.written → Appends (output_contents contents put) (output_contents contents new) (pad put.written)) → HoldsFile contents blocks old new
  file blocks old put new h ends fresh announced begins is =
      let layout = fresh.layout in
      let size = length (packed_blocks layout.valid_bits blocks) in
      let valid_bits : old.layout.valid_bits ≡ layout.valid_bits = ap (λ (l : Layout). l.valid_bits) begins.writes.layout_is in
      let samples = packed_blocks layout.valid_bits blocks in
      let bytes : Appends (output_contents contents old) (output_contents contents put) samples = subst (λ (n : ℕ). Appends (output_contents contents old) (output_contents contents put) (packed_blocks n blocks)) valid_bits h.bytes_are in
      let counted : put.written ≡ old.written + size = subst (λ (n : ℕ). put.written ≡ old.written + length (packed_blocks n blocks)) valid_bits h.written_is in
      let written : put.written ≡ announced = omega (arith, counted, begins.writes.none_so_far, is) in
      let right : put.announced ≡ put.written = h.announced_is ∙ begins.writes.announced_is ∙ sym written in
      let padded : Appends (output_contents contents put) (output_contents contents new) (pad announced) = subst (λ (n : ℕ). Appends (output_contents contents put) (output_contents contents new) (pad n)) written (ends right) in
      let front = Appends-trans (output_contents contents fresh) (output_contents contents old) (output_contents contents put) begins.header samples begins.writes.written bytes in
      let whole = Appends-trans (output_contents contents fresh) (output_contents contents put) (output_contents contents new) (begins.header ++ samples) (pad announced) front padded in
      subst (λ (s : List ℕ). Appends (output_contents contents fresh) (output_contents contents new) s) (sym (begins.is_header samples (sym is))) whole

-- all blocks up to the end
whole : {W : Type 0} {contents : W → Option (List ℕ)} {stream : Option StreamFormat} {a b : State ℕ} {old put : WavWriter W} (h : PutsBlocks contents stream (Ok None) a b old put) → IsWholeStream stream h.blocks a
whole h known = let w = h.reads.blocks_are.consumed.known known in (h.reads.between.remaining, w.is, (h.reads.last.promises.none_is_eof refl w.known).0)

-- and then the end of the file
pub converted : {W : Type 0} {contents : W → Option (List ℕ)} (position : W → Option ℕ) {stream : Option StreamFormat} {a b : State ℕ} {old put : WavWriter W} {bit_depth : ℕ} {x y : Option Md5} (new : WavWriter W) (r : Result (Unit {0}) Error) → PutsAndHashes contents stream bit_depth a b old put x y → FinishIsSound contents position r put new → FinishFlushes r put new
    → OnOk r (Converts contents position stream bit_depth a old new x y)
converted position new (Err e) k finishes flushes = tt
converted {contents = contents} position {old = old} {put = put} new (Ok done) k finishes flushes = let h = k.put in record {
  blocks = h.blocks;
  all = whole h;
  put = put;
  puts = h.puts;
  hashes = k.hashes;
  ends = finishes.0;
  right = finishes.1;
  file = file contents h.blocks old put new h.puts finishes.0.right;
  none_failed = none_failed_both h.puts.none_failed flushes.0;
  flushed = flushed_after h.puts.unflushed flushes.1;
}

-- The pad byte is that of a file whose header announced the right number of bytes. After the header for an unknown number it
-- isn't written.
module _ {W : Type 0} (contents : W → Option (List ℕ)) (put new : WavWriter W) (h : Appends (output_contents contents put) (output_contents contents new) (stream_pad put)) where
  padded_where_right : put.announced ≡ put.written → Appends (output_contents contents put) (output_contents contents new) (pad put.written)
  padded_where_right e = subst (λ (b : Bool). Appends (output_contents contents put) (output_contents contents new) (cond b (pad put.written) [])) (eq-eqb put.written put.announced (sym e)) h

  padded_where_none_announced : put.announced ≡ 0 → Appends (output_contents contents put) (output_contents contents new) []
  padded_where_none_announced e = subst (λ (s : List ℕ). Appends (output_contents contents put) (output_contents contents new) s) (no_pad put.written put.announced e) h

  padded_where_other : put.written ≢ put.announced → Appends (output_contents contents put) (output_contents contents new) []
  padded_where_other differ =
      let none : (put.written == put.announced) ≡ false = grind (arith, nat_tests) in
      subst (λ (b : Bool). Appends (output_contents contents put) (output_contents contents new) (cond b (pad put.written) [])) none h

  where_unknown : (blocks : List Block) (old : WavWriter W) → PutsSamples contents blocks old put → HoldsUnknown contents blocks old new
  where_unknown blocks old h fresh begins =
      let layout = fresh.layout in
      let valid_bits : old.layout.valid_bits ≡ layout.valid_bits = ap (λ (l : Layout). l.valid_bits) begins.layout_is in
      let samples = packed_blocks layout.valid_bits blocks in
      let bytes : Appends (output_contents contents old) (output_contents contents put) samples = subst (λ (n : ℕ). Appends (output_contents contents old) (output_contents contents put) (packed_blocks n blocks)) valid_bits h.bytes_are in
      let front = Appends-trans (output_contents contents fresh) (output_contents contents old) (output_contents contents put) (unknown_header layout) samples begins.written bytes in
      let none : put.announced ≡ 0 = h.announced_is ∙ begins.announced_is in
      let whole = Appends-trans (output_contents contents fresh) (output_contents contents put) (output_contents contents new) (unknown_header layout ++ samples) [] front (padded_where_none_announced none) in
      subst (λ (s : List ℕ). Appends (output_contents contents fresh) (output_contents contents new) s) (append-nil (unknown_header layout ++ samples)) whole

  -- after the header for another number it isn't written either
  where_other : (blocks : List Block) (old : WavWriter W) → PutsSamples contents blocks old put → HoldsOther contents blocks old new
  where_other blocks old h fresh announced begins differ =
      let layout = fresh.layout in
      let valid_bits : old.layout.valid_bits ≡ layout.valid_bits = ap (λ (l : Layout). l.valid_bits) begins.writes.layout_is in
      let samples = packed_blocks layout.valid_bits blocks in
      let bytes : Appends (output_contents contents old) (output_contents contents put) samples = subst (λ (n : ℕ). Appends (output_contents contents old) (output_contents contents put) (packed_blocks n blocks)) valid_bits h.bytes_are in
      let counted : put.written ≡ old.written + length samples = subst (λ (n : ℕ). put.written ≡ old.written + length (packed_blocks n blocks)) valid_bits h.written_is in
      let written : put.written ≡ length samples = omega (arith, counted, begins.writes.none_so_far) in
      let other : put.written ≢ put.announced = λ e. differ (sym (h.announced_is ∙ begins.writes.announced_is) ∙ sym e ∙ written) in
      let front = Appends-trans (output_contents contents fresh) (output_contents contents old) (output_contents contents put) begins.header samples begins.writes.written bytes in
      let whole = Appends-trans (output_contents contents fresh) (output_contents contents put) (output_contents contents new) (begins.header ++ samples) [] front (padded_where_other other) in
      (begins.header, begins.is_header, subst (λ (s : List ℕ). Appends (output_contents contents fresh) (output_contents contents new) s) (append-nil (begins.header ++ samples)) whole)

-- the end of an output that can't seek
pub converted_to_stream : {W : Type 0} {contents : W → Option (List ℕ)} {stream : Option StreamFormat} {a b : State ℕ} {old put : WavWriter W} {bit_depth : ℕ} {x y : Option Md5} (new : WavWriter W) (r : Result (Unit {0}) Error) → PutsAndHashes contents stream bit_depth a b old put x y → FinishStreamIsSound contents r put new → FinishFlushes r put new → SameHeader put new
    → OnOk r (ConvertsToStream contents stream bit_depth a old new x y)
converted_to_stream new (Err e) k finishes flushes same = tt
converted_to_stream {contents = contents} {old = old} {put = put} new (Ok done) k finishes flushes same = let h = k.put in record {
  blocks = h.blocks;
  all = whole h;
  put = put;
  puts = h.puts;
  hashes = k.hashes;
  written_is = finishes.1;
  layout_is = same.layout_is;
  file = file contents h.blocks old put new h.puts (padded_where_right contents put new finishes.0);
  unknown = where_unknown contents put new finishes.0 h.blocks old h.puts;
  other = where_other contents put new finishes.0 h.blocks old h.puts;
  none_failed = none_failed_both h.puts.none_failed flushes.0;
  flushed = flushed_after h.puts.unflushed flushes.1;
}

-- ---- what a hasher tells

pub judged : (computes_md5 : Bool) (info : StreamInfo) (blocks : List Block) (hasher hashed : Option Md5) (verdict : Md5Verdict) → HasHashedBytes computes_md5 [] hasher → HashesBlocks info.bits_per_sample blocks hasher hashed → Md5IsJudged (info_view info) hashed verdict → IsVerdictOn computes_md5 (info_view info) blocks verdict
judged false info blocks None None verdict new hashes is = is
judged false info blocks None (Some y) verdict new hashes is = absurd cc
judged false info blocks (Some x) hashed verdict new hashes is = absurd (let z : Some x ≡ None = new in cc)
judged true info blocks None hashed verdict new hashes is = absurd new
judged true info blocks (Some x) None verdict new hashes is = absurd hashes
judged true info blocks (Some x) (Some y) verdict new hashes is = is (whole_bytes_of_samples info.bits_per_sample (samples_of blocks)) (hashes [] new)
