-- Blocks that are read one after another (RFC 9639, section 6), up to an answer without a block;
-- and the samples that consecutive calls gave of them.
use Rattle.std.specs.Borrow.{MutBor, RattleType}
use Rattle.std.specs.Prelude.{
  ◌≡◌,
  ℕ,
  ℤ,
  Bool,
  false,
  List,
  [],
  ◌∷◌,
  ◌++◌,
  Option,
  None,
  Some,
  Result,
  Ok,
  Err,
}
use Rattle.std.specs.List.{flat_map}
use Rattle.claxon_format.specs.Frame.{StreamFormat, Block, Frames}
use Rattle.claxon_format.specs.Heads.{HeadCode}
use Rattle.claxon_format.specs.Streams.{IsStream, interleave, with_samples}
use Rattle.claxon_input.specs.declared.error.Error.{Error}
use Rattle.claxon_input.specs.declared.input.BufferedReader.{BufferedReader}
use Rattle.claxon_input.specs.BufferedReader.{buffered_source}
use Rattle.claxon_input.specs.Source.{Source, through_loan}
use Rattle.claxon_input.specs.State.{State, RemainingIsKnown}
use Rattle.claxon_input.specs.Gives.{Consumes}
use Rattle.claxon_input.specs.Promises.{Consumed}
use Rattle.claxon_frame.specs.Block.{BlockValue}
use Rattle.claxon_frame.specs.FrameReader.{ReadsFrame, stream_with}
use Rattle.claxon.specs.FlacReader.{flac_head, flac_input, flac_streaminfo, samples_input}
use Rattle.claxon.specs.FlacSamples.{
  SamplesStep,
  have_failed,
  samples_bytes,
  samples_left,
  samples_stream,
}
use Rattle.claxon.specs.Opening.{flac_bytes}
use Rattle.claxon.specs.declared.reader.FlacReader.{FlacReader}
use Rattle.claxon.specs.declared.samples.FlacSamples.{FlacSamples}

-- the samples of blocks, one block after another, each interleaved
abbrev pub samples_of : List Block → List ℤ
samples_of blocks = flat_map (λ b. interleave b.channels) blocks

-- Exactly the frames of these blocks were consumed, and no read failed.
pub record ConsumesFrames (stream : Option StreamFormat) (blocks : List Block) (old new : State ℕ) :
    Type 0 where
  pub consumed : Consumes old new (λ s m. Frames stream s blocks m)

-- After these blocks the answer was r.
pub record ReadsFrames (stream : Option StreamFormat) (blocks : List Block)
    (r : Result (Option BlockValue) Error) (old new : State ℕ) : Type 0 where
  pub between : State ℕ
  pub blocks_are : ConsumesFrames stream blocks old between
  pub last : ReadsFrame stream r between new

-- ---- consecutive calls of `next`

-- Consecutive calls returned these samples, and nothing else.
abbrev pub Calls : {R A : Type 0} → (R → Source ℕ) → FlacSamples R A → List ℤ → FlacSamples R A
    → Type 0
Calls source old [] new = old ≡ new
Calls {R} {A} source old (x ∷ xs) new =
    (mid : FlacSamples R A) × SamplesStep source old (Some (Ok x)) mid × Calls source mid xs new

-- Such calls gave what was left of a block, and samples of the blocks after it, whose frames
-- follow one another.
pub record GaveSamples {R A : Type 0} (source : R → Source ℕ) (old : FlacSamples R A) (xs : List ℤ)
    (new : FlacSamples R A) : Type 0 where
  pub blocks : List Block
  pub frames :
      ConsumesFrames (samples_stream old) blocks (samples_bytes source old) (
      samples_bytes source new)
  pub samples : samples_left old ++ samples_of blocks ≡ xs ++ samples_left new
  pub stream : samples_stream new ≡ samples_stream old
  pub goes_on : have_failed new ≡ false

-- the answer without a sample: None at the end of the frames, or an Err
abbrev pub end_answer : Option Error → Option (Result ℤ Error)
end_answer None = None
end_answer (Some error) = Some (Err error)

-- the frame reader's answer in that case
abbrev pub end_found : Option Error → Result (Option BlockValue) Error
end_found None = Ok None
end_found (Some error) = Err error

-- All samples of these blocks were given, and after their frames is the end, or what the error
-- says.
pub record GaveAll {R A : Type 0} (source : R → Source ℕ) (old : FlacSamples R A) (xs : List ℤ)
    (end : Option Error) (new : FlacSamples R A) : Type 0 where
  pub blocks : List Block
  pub ends :
      ReadsFrames (samples_stream old) blocks (end_found end) (samples_bytes source old) (
      samples_bytes source new)
  pub samples : samples_left old ++ samples_of blocks ≡ xs

-- ---- laws

-- The samples given are those of blocks whose frames follow one another.
abbrev pub SamplesInTurn : (R A : RattleType) → (R.Denot → Source ℕ) → Type 0
SamplesInTurn R A source =
    (old : FlacSamples R.Denot A.Denot) (xs : List ℤ) (new : FlacSamples R.Denot A.Denot)
    → have_failed old ≡ false → Calls source old xs new → GaveSamples source old xs new

-- Where the next call gives no sample, all samples of these blocks were given.
abbrev pub SamplesToTheEnd : (R A : RattleType) → (R.Denot → Source ℕ) → Type 0
SamplesToTheEnd R A source =
    (old : FlacSamples R.Denot A.Denot) (xs : List ℤ) (mid : FlacSamples R.Denot A.Denot)
    (end : Option Error) (new : FlacSamples R.Denot A.Denot)
    → have_failed old ≡ false → Calls source old xs mid
    → SamplesStep source mid (end_answer end) new → GaveAll source old xs end new

-- what `samples()` returns of a stream that was opened
pub record BeginsAt {R A : Type 0} (flac : FlacReader R A)
    (samples : FlacSamples (MutBor (BufferedReader R A)) A) : Type 0 where
  pub input : (samples_input samples).now ≡ flac_input flac
  pub stream : samples_stream samples ≡ Some (stream_with (flac_streaminfo flac))
  pub none_left : samples_left samples ≡ []

-- the source of a borrowed reader
abbrev pub lent : {R : Type 0} → (R → Source ℕ) → MutBor R → Source ℕ
lent source r = through_loan r.ghost_name (source r.now)

-- s is a stream whose blocks have exactly these samples: a head, their frames, and a rest that
-- begins with no frame.
abbrev pub StreamOf : {R A : Type 0} → Bool → List ℕ → FlacReader R A → List ℤ → Type 0
StreamOf wants s flac xs =
    (blocks : List Block) × (r : List ℕ) × IsStream wants s (flac_head flac) blocks r
    × (samples_of blocks ≡ xs)

-- A stream that was opened and gave its samples up to None was read whole.
abbrev pub WholeStreams : (R A : RattleType) → (R.Denot → Option (List ℕ)) → Type 0
WholeStreams R A remaining =
    (wants : Bool) (s : State ℕ) (flac : FlacReader R.Denot A.Denot)
    (old new : FlacSamples (MutBor (BufferedReader R.Denot A.Denot)) A.Denot) (xs : List ℤ)
    → Consumed s (flac_bytes remaining flac) (HeadCode (with_samples wants) (flac_head flac))
    → BeginsAt flac old → GaveAll (lent (buffered_source remaining)) old xs None new
    → RemainingIsKnown s → StreamOf wants s.remaining flac xs
