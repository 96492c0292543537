-- The first samples of a stream, and its first fault.
use Rattle.std.specs.Borrow.{MutBor}
use Rattle.std.proofs.Common.{◌≡◌, ◌⊎◌, inl, inr, ℕ, suc, zero, ℤ, ◌+◌, ◌<◌, ◌≤◌, true, List, [], ◌∷◌, ◌++◌, arith, length, length-append, take, refl, sym, ap, ◌∙◌}
use Rattle.std.specs.Prelude.{IfErr, IfOk, Option, None, Some, Result, Ok, Err, Vec}
use Rattle.std.proofs.Math.Seq.{take-append_seam}
use Rattle.std.proofs.lemmas.Grind.{flat_map-append}
use Rattle.std.proofs.lemmas.List.{append-nil, take-append-le, take_all}
use Rattle.claxon.specs.Fault.{Fault}
use Rattle.claxon.specs.Frame.{Block, FrameBytesFault, Frames, NoFrameLeft, IsBitDepth, StreamFormat, known_bit_depth}
use Rattle.claxon.specs.Heads.{Head}
use Rattle.claxon.specs.Streams.{IsStream, interleave, stream_of, with_samples}
use Rattle.claxon.specs.BufferedReader.{buffered_source}
use Rattle.claxon.specs.Error.{IsFault}
use Rattle.claxon.specs.Promises.{Consumed}
use Rattle.claxon.specs.Source.{Source}
use Rattle.claxon.specs.State.{State, RemainingIsKnown}
use Rattle.claxon.specs.Errors.{Error}
use Rattle.claxon.specs.Errors.TheVariants.{OutOfMemory}
use Rattle.claxon.specs.BufferedReaders.{BufferedReader}
use Rattle.claxon.specs.FlacReader.{flac_head}
use Rattle.claxon.specs.FlacSamples.{SamplesStep, samples_bytes, samples_left, samples_stream}
use Rattle.claxon.specs.Opening.{OpenFaultIsComplete, OpenIsComplete, OpenFaultIsSound, OpenAnswer, flac_bytes, unread}
use Rattle.claxon.specs.SampleRuns.{GaveAll, GaveSamples, end_found, lent, samples_of}
use Rattle.claxon.specs.declared.reader.FlacReader.{FlacReader}
use Rattle.claxon.specs.declared.samples.FlacSamples.{FlacSamples}
use Rattle.claxon.proofs.SampleRuns.{all_frames_read, fault_no_frame, frames_either, frames_left, gave_all, short_no_frame, short_no_fault}
use Rattle.claxon_uses.specs.FirstSamples.{BeginsWithSamples, FirstFaultIsComplete, FirstFaultIsSound, FirstSamplesAreComplete, FirstSamplesAreSound, GivesFirstSamples, HasFirstSamples, HasFirstFault, ErrBeforeCount}
use Rattle.claxon.specs.Prefix.{BeginsWith}
use Rattle.claxon_uses.proofs.MemoryOrIoErrors.{same_memory_or_io_error, excused_memory_or_io_error}
use Rattle.claxon_uses.proofs.Opened.{IsOpened, after_known, after_any_head, head_fault_named, no_head, no_head_fault, shown}

-- ---- bytes have one list of first samples, or a fault before the requested number

-- later frames change nothing
grown : (stream : Option StreamFormat) (count : ℕ) (blocks others : List Block) (m n : List ℕ) → (count ≤ length (samples_of blocks)) ⊎ (length m < 2) → Frames stream m others n → take count (samples_of blocks) ≡ take count (samples_of (blocks ++ others))
grown stream count blocks [] m n enough f = ap (λ (z : List Block). take count (samples_of z)) (sym (append-nil blocks))
grown stream count blocks (o ∷ others) m n (inr few) f = absurd (short_no_frame stream m few o f.0 f.1 f.2 f.3)
grown stream count blocks (o ∷ others) m n (inl many) f =
    sym (ap (λ (z : List ℤ). take count z) (flat_map-append (λ (b : Block). interleave b.channels) blocks (o ∷ others)) ∙ take-append-le count (samples_of blocks) (samples_of (o ∷ others)) many)

module _ (count : ℕ) (stream : Option StreamFormat) (bit_depth : IsBitDepth (known_bit_depth stream)) (s : List ℕ) where
  one_first : (xs ys : List ℤ) → HasFirstSamples count stream s xs → HasFirstSamples count stream s ys → xs ≡ ys
  one_first xs ys a b = elim (frames_either stream bit_depth s a.rest b.rest a.blocks b.blocks a.frames b.frames) [
    | inl q ↦ a.first ∙ grown stream count a.blocks q.0 a.rest b.rest a.enough q.2 ∙ ap (λ (z : List Block). take count (samples_of z)) (sym q.1) ∙ sym b.first
    | inr q ↦ sym (b.first ∙ grown stream count b.blocks q.0 b.rest a.rest b.enough q.2 ∙ ap (λ (z : List Block). take count (samples_of z)) (sym q.1) ∙ sym a.first)
  ]

  not_both : (xs : List ℤ) (blocks : List Block) (rest : List ℕ) (f : Fault) → HasFirstSamples count stream s xs → Frames stream s blocks rest → length (samples_of blocks) < count → BeginsWith (FrameBytesFault stream f) rest → ⊥
  not_both xs blocks rest f a d less begins = go q.0 q.1 q.2 a.enough
    where
      q : (others : List Block) × (blocks ≡ a.blocks ++ others) × Frames stream a.rest others rest
      q = frames_left stream bit_depth s a.rest rest a.blocks blocks a.frames d (fault_no_frame stream bit_depth f rest begins.0 begins.1 begins.2 begins.3)

      go : (others : List Block) → blocks ≡ a.blocks ++ others → Frames stream a.rest others rest → (count ≤ length (samples_of a.blocks)) ⊎ (length a.rest < 2) → ⊥
      go others e g (inl many) =
          let long : length (samples_of blocks) ≡ length (samples_of a.blocks) + length (samples_of others) =
          ap (λ (z : List Block). length (samples_of z)) e ∙ ap length (flat_map-append (λ (b : Block). interleave b.channels) a.blocks others) ∙ length-append (samples_of a.blocks) (samples_of others) in
          omega (arith, long, less, many)
      go [] e g (inr few) = short_no_fault stream bit_depth a.rest few f begins.0 begins.1 begins.2 (g ∙ begins.3)
      go (o ∷ others) e g (inr few) = short_no_frame stream a.rest few o g.0 g.1 g.2 g.3

-- ---- all clauses

pub record FirstSamplesPromises {R A : Type 0} (count : ℕ) (remaining : R → Option (List ℕ)) (reader : R) (r : Result (Vec ℤ A) Error) : Type 0 where
  pub sound : FirstSamplesAreSound count remaining reader r
  pub complete : FirstSamplesAreComplete count remaining reader r
  pub fault : FirstFaultIsSound count remaining reader r
  pub named : FirstFaultIsComplete count remaining reader r

module _ {R A : Type 0} (count : ℕ) (remaining : R → Option (List ℕ)) (reader : R) where
  -- no head was read
  pub not_opened : (e : Error) → OpenIsComplete remaining (with_samples true) reader (let r : OpenAnswer R A = Err e in r) → OpenFaultIsSound remaining (with_samples true) reader (let r : OpenAnswer R A = Err e in r)
      → OpenFaultIsComplete remaining (with_samples true) reader (let r : OpenAnswer R A = Err e in r) → FirstSamplesPromises {A = A} count remaining reader (Err e)
  not_opened e complete fault named = record {
    sound = tt;
    complete = λ xs is_known b. inr (no_head remaining reader e complete b.head b.front b.frames b.code is_known b.joined);
    fault = elim fault [ inl m ↦ inl m | inr (inl i) ↦ inr (inl i) | inr (inr k) ↦ inr (inr (λ is_known. let f = k is_known in (f.0, f.1, inl f.2))) ];
    named = λ f is_known bad. elim bad [ inl b ↦ head_fault_named remaining reader e named f is_known b | inr st ↦ inr (no_head remaining reader e complete st.0 st.3.front st.3.frames st.3.head is_known st.3.joined) ];
  }

  no_memory : (e : Error) → e ≡ OutOfMemory → FirstSamplesPromises {A = A} count remaining reader (Err e)
  no_memory e m = record {
    sound = tt;
    complete = λ xs is_known b. inr (inl (ap (λ (z : Error). Err z) m));
    fault = inl m;
    named = λ f is_known bad. inr (inl (ap (λ (z : Error). Err z) m));
  }

-- ---- the calls for samples

-- `count` samples were given, or the next call gave none
pub given_first : {R A : Type 0} (source : R → Source ℕ) (count : ℕ) (old : FlacSamples R A) (xs : List ℤ) (left : ℕ) (mid new : FlacSamples R A)
    → GaveSamples source old xs mid → length xs + left ≡ count → (0 < left → SamplesStep source mid None new) → GivesFirstSamples source count old xs
given_first source count old xs zero mid new h e step = inl (mid, h, omega (arith, e))
given_first source count old xs (suc left) mid new h e step = inr (new, gave_all source h None new (step (omega arith)), omega (arith, e))

-- ---- a head was read, and then samples

module _ {R A : Type 0} (count : ℕ) (remaining : R → Option (List ℕ)) (reader : R) (flac : FlacReader R A) (old : FlacSamples (MutBor (BufferedReader R A)) A)
    (o : IsOpened remaining reader flac (samples_bytes (lent (buffered_source remaining)) old) (samples_stream old)) (none_left : samples_left old ≡ []) where
  abbrev source : MutBor (BufferedReader R A) → Source ℕ
  source = lent (buffered_source remaining)

  abbrev s : State ℕ
  s = unread (remaining reader)

  abbrev stream : Option StreamFormat
  stream = samples_stream old

  abbrev after_head : List ℕ
  after_head = (samples_bytes source old).remaining

  any_first : (ys : List ℤ) → RemainingIsKnown s → BeginsWithSamples count s.remaining ys → HasFirstSamples count stream after_head ys
  any_first ys is_known b = after_any_head remaining reader flac o is_known (λ z l. HasFirstSamples count z l ys) b.head b.front b.frames b.code b.joined b.first_samples_are

  -- a first fault is that of a frame after others
  fault_after : (f : Fault) → RemainingIsKnown s → HasFirstFault count s.remaining f → (blocks : List Block) × (rest : List ℕ) × Frames stream after_head blocks rest × NoFrameLeft stream rest × (length (samples_of blocks) < count) × BeginsWith (FrameBytesFault stream f) rest
  fault_after f is_known bad = elim bad [
    | inl b ↦ absurd (no_head_fault remaining reader flac o is_known f b)
    | inr st ↦ (
        let blocks = st.1 in
        let rest = st.2 in
        let p = after_any_head remaining reader flac o is_known (λ z l. Frames z l blocks rest × NoFrameLeft z rest × BeginsWith (FrameBytesFault z f) rest) st.0 st.3.front st.3.frames st.3.head st.3.joined (st.3.blocks_are, st.3.complete, st.5) in
        (blocks, rest, p.0, p.1, st.4, p.2)
        )
  ]

  samples_are : (blocks : List Block) (xs : List ℤ) → samples_left old ++ samples_of blocks ≡ xs → samples_of blocks ≡ xs
  samples_are blocks xs e = ap (λ (z : List ℤ). z ++ samples_of blocks) (sym none_left) ∙ e

  -- ---- no error was given

  gave_first : (xs : List ℤ) (new : FlacSamples (MutBor (BufferedReader R A)) A) → GaveSamples source old xs new → length xs ≡ count → RemainingIsKnown s → HasFirstSamples count stream after_head xs
  gave_first xs new h many is_known =
      let all : samples_of h.blocks ≡ xs ++ samples_left new = samples_are h.blocks _ h.samples in
      record {
        blocks = h.blocks;
        rest = (samples_bytes source new).remaining;
        frames = (h.frames.consumed.known (after_known remaining reader flac o is_known)).is;
        first = sym (ap (λ (z : List ℤ). take count z) all ∙ ap (λ (n : ℕ). take n (xs ++ samples_left new)) (sym many) ∙ take-append_seam xs (samples_left new));
        enough = inl (omega (arith, many, ap length all, length-append xs (samples_left new)));
      }

  gave_whole : (xs : List ℤ) (new : FlacSamples (MutBor (BufferedReader R A)) A) → GaveAll source old xs None new → length xs ≤ count → RemainingIsKnown s → HasFirstSamples count stream after_head xs
  gave_whole xs new h few is_known =
      let w = h.ends.blocks_are.consumed.known (after_known remaining reader flac o is_known) in
      record {
        blocks = h.blocks;
        rest = h.ends.between.remaining;
        frames = w.is;
        first = sym (ap (λ (z : List ℤ). take count z) (samples_are h.blocks xs h.samples) ∙ take_all count xs few);
        enough = inr (h.ends.last.promises.none_is_eof refl w.known).0;
      }

  given : (xs : List ℤ) → GivesFirstSamples source count old xs → RemainingIsKnown s → HasFirstSamples count stream after_head xs
  given xs (inl h) is_known = gave_first xs h.0 h.1 h.2 is_known
  given xs (inr h) is_known = gave_whole xs h.0 h.1 h.2 is_known

  answered : (first : Vec ℤ A) → GivesFirstSamples source count old first.items → FirstSamplesPromises count remaining reader (Ok first)
  answered first h = record {
    sound = λ is_known. record {
      head = flac_head flac;
      front = (o.head is_known).1.0;
      frames = (flac_bytes remaining flac).remaining;
      code = (o.head is_known).1.1;
      joined = (o.head is_known).1.2;
      first_samples_are = shown remaining reader flac o is_known (λ z l. HasFirstSamples count z l first.items) (has is_known);
    };
    complete = λ ys is_known b. inl (one_first count stream o.bit_depth after_head first.items ys (has is_known) (any_first ys is_known b));
    fault = tt;
    named = λ f is_known bad. let b = fault_after f is_known bad in absurd (not_both count stream o.bit_depth after_head first.items b.0 b.1 f (has is_known) b.2 b.4 b.5);
  }
    where
      has : RemainingIsKnown s → HasFirstSamples count stream after_head first.items
      has is_known = given first.items h is_known

  -- ---- an error was given after too few samples

  failed : (e : Error) (xs : List ℤ) (new : FlacSamples (MutBor (BufferedReader R A)) A) → GaveAll source old xs (Some e) new → length xs < count → FirstSamplesPromises {A = A} count remaining reader (Err e)
  failed e xs new h less = record {
    sound = tt;
    complete = λ ys is_known b. inr (elim h.ends.last.promises.fault_is_sound [
      | inl m ↦ inl (ap (λ (z : Error). Err z) m)
      | inr (inl i) ↦ inr i
      | inr (inr bad) ↦ (
          let f = stands is_known bad in
          absurd (not_both count stream o.bit_depth after_head ys h.blocks h.ends.between.remaining f.0 (any_first ys is_known b) (frames is_known) fewer f.2)
          )
    ]);
    fault = elim h.ends.last.promises.fault_is_sound [
      | inl m ↦ inl m
      | inr (inl i) ↦ inr (inl i)
      | inr (inr bad) ↦ inr (inr (λ is_known. let f = stands is_known bad in (f.0, f.1, inr (first_fault is_known f.0 f.2))))
    ];
    named = λ f is_known bad.
        let b = fault_after f is_known bad in
        elim (all_frames_read stream o.bit_depth (Some e) h.blocks b.0 b.1 h.ends (after_known remaining reader flac o is_known) b.2 b.3) [
          | inr x ↦ inr (same_memory_or_io_error e (excused_memory_or_io_error (end_found (Some e)) (samples_bytes source old) (samples_bytes source new) x))
          | inl p ↦ elim (h.ends.last.promises.fault_is_complete f b.5.0 b.5.1 b.5.2 (record { known = p.1.known; are = p.1.are ∙ b.5.3 })) [
            | inl q ↦ inl q.0
            | inr x ↦ inr (same_memory_or_io_error e (excused_memory_or_io_error (end_found (Some e)) h.ends.between (samples_bytes source new) x))
          ]
        ];
  }
    where
      frames : RemainingIsKnown s → Frames stream after_head h.blocks h.ends.between.remaining
      frames is_known = (h.ends.blocks_are.consumed.known (after_known remaining reader flac o is_known)).is

      fewer : length (samples_of h.blocks) < count
      fewer = let l = ap length (samples_are h.blocks xs h.samples) in omega (arith, l, less)

      -- the fault that the last answer names follows the frames
      stands : RemainingIsKnown s → (RemainingIsKnown h.ends.between → (f : Fault) × IsFault f e × Consumed h.ends.between (samples_bytes source new) (FrameBytesFault stream f)) → (f : Fault) × IsFault f e × BeginsWith (FrameBytesFault stream f) h.ends.between.remaining
      stands is_known bad =
          let t = (h.ends.blocks_are.consumed.known (after_known remaining reader flac o is_known)).known in
          let f = bad t in
          let p = (f.2 t).1 in
          (f.0, f.1, (p.0, (samples_bytes source new).remaining, p.1, p.2))

      first_fault : RemainingIsKnown s → (f : Fault) → BeginsWith (FrameBytesFault stream f) h.ends.between.remaining → (g : Head) × (blocks : List Block) × (rest : List ℕ) × IsStream true s.remaining g blocks rest × (length (samples_of blocks) < count) × BeginsWith (FrameBytesFault (Some (stream_of g.info)) f) rest
      first_fault is_known f b =
          let rest = h.ends.between.remaining in
          let p = shown remaining reader flac o is_known (λ z l. Frames z l h.blocks rest × NoFrameLeft z rest × BeginsWith (FrameBytesFault z f) rest) (frames is_known, fault_no_frame stream o.bit_depth f rest b.0 b.1 b.2 b.3, b) in (
            flac_head flac,
            h.blocks,
            rest,
            record {
              front = (o.head is_known).1.0;
              frames = (flac_bytes remaining flac).remaining;
              head = (o.head is_known).1.1;
              joined = (o.head is_known).1.2;
              blocks_are = p.0;
              complete = p.1;
            },
            fewer,
            p.2,
          )

  -- ---- either

  pub first_samples_promises : (r : Result (Vec ℤ A) Error) → IfOk r (λ first. GivesFirstSamples source count old first.items) → IfErr r (ErrBeforeCount source count old) → FirstSamplesPromises count remaining reader r
  first_samples_promises (Ok first) ok err = answered first ok
  first_samples_promises (Err e) ok (inl k) = failed e k.0 k.1 k.2 k.3
  first_samples_promises (Err e) ok (inr m) = no_memory count remaining reader e m
