-- Views of a `FlacSamples` for contracts, and what one call of its `next` does.
use Rattle.std.specs.Prelude.{
  ◌≡◌,
  ℕ,
  ◌+◌,
  ◌*◌,
  ℤ,
  Bool,
  true,
  false,
  List,
  [],
  ◌∷◌,
  length,
  drop,
  Option,
  None,
  Some,
  Result,
  Ok,
  Err,
  MatchBool,
}
use Rattle.claxon_format.specs.Frame.{StreamFormat}
use Rattle.claxon_format.specs.Streams.{interleave}
use Rattle.claxon_input.specs.declared.error.Error.{Error}
use Rattle.claxon_input.specs.Source.{Source}
use Rattle.claxon_input.specs.State.{State, bytes_in}
use Rattle.claxon_frame.specs.Block.{BlockValue}
use Rattle.claxon.specs.FlacReader.{samples_input}
use Rattle.claxon_frame.specs.FrameReader.{
  BlockKeepsCapacity,
  MaxCapacityIsEnough,
  OutOfMemoryBeyondCapacity,
  ReadsFrame,
  frame_stream,
}
use Rattle.claxon.specs.declared.samples.FlacSamples.{FlacSamples}

-- the samples of the current block that weren't given yet
abbrev pub samples_left : {R A : Type 0} → FlacSamples R A → List ℤ
samples_left s = drop (s.sample * length s.block.channels + s.channel) (interleave s.block.channels)

-- an Err was returned
abbrev pub have_failed : {R A : Type 0} → FlacSamples R A → Bool
have_failed s = s.has_failed

-- what is known of the stream
abbrev pub samples_stream : {R A : Type 0} → FlacSamples R A → Option StreamFormat
samples_stream s = frame_stream s.frame_reader

-- the capacity of the current block's buffer, in samples
abbrev pub samples_capacity : {R A : Type 0} → FlacSamples R A → ℕ
samples_capacity s = s.block.capacity

-- the bytes after the current block
abbrev pub samples_bytes : {R A : Type 0} → (R → Source ℕ) → FlacSamples R A → State ℕ
samples_bytes source s = bytes_in source (samples_input s)

-- the frame reader's answer, where a block that it found is the current one now
abbrev pub block_answer : {R A : Type 0} → Result Bool Error → FlacSamples R A
    → Result (Option BlockValue) Error
block_answer (Ok true) new = Ok (Some new.block)
block_answer (Ok false) new = Ok None
block_answer (Err error) new = Err error

-- The next frame was read. Its block is the current one now, if there was one.
abbrev pub NextBlockIsRead : {R A : Type 0} → (R → Source ℕ) → FlacSamples R A → Result Bool Error
    → FlacSamples R A → Type 0
NextBlockIsRead source old r new =
    ReadsFrame (samples_stream old) (block_answer r new) (samples_bytes source old)
    (samples_bytes source new)

-- this sample is returned, and these are left
pub record GivesSample {R A : Type 0} (x : ℤ) (left : List ℤ) (result : Option (Result ℤ Error))
    (new : FlacSamples R A) : Type 0 where
  pub is : result ≡ Some (Ok x)
  pub left_are : samples_left new ≡ left
  pub goes_on : have_failed new ≡ false

-- the answer for that of the frame reader: of a block the first sample, and its buffer is kept;
-- at the end None; or the Err
abbrev pub BlockAnswer : {R A : Type 0} → Result (Option BlockValue) Error → Option (Result ℤ Error)
    → FlacSamples R A → Type 0
BlockAnswer (Ok (Some block)) result new =
    (x : ℤ) × (left : List ℤ) × (interleave block.channels ≡ x ∷ left)
    × GivesSample x left result new × (samples_capacity new ≡ block.capacity)
BlockAnswer (Ok None) result new =
    (result ≡ None) × (samples_left new ≡ []) × (have_failed new ≡ false)
BlockAnswer (Err error) result new = (result ≡ Some (Err error)) × (have_failed new ≡ true)

-- `OutOfMemory` only after the header of a frame was consumed, and no more, whose block has more
-- samples than the last buffer can hold.
abbrev pub OutOfMemoryForLargerBlock : {R A : Type 0} → (R → Source ℕ) → FlacSamples R A
    → Result (Option BlockValue) Error → FlacSamples R A → Type 0
OutOfMemoryForLargerBlock source old found new =
    OutOfMemoryBeyondCapacity (samples_stream old) (samples_capacity old) found
    (samples_bytes source old) (samples_bytes source new)

-- The next block was read, into the last buffer where its capacity suffices.
pub record NextBlock {R A : Type 0} (source : R → Source ℕ) (old : FlacSamples R A)
    (result : Option (Result ℤ Error)) (new : FlacSamples R A) : Type 0 where
  pub found : Result (Option BlockValue) Error
  pub reads :
      ReadsFrame (samples_stream old) found (samples_bytes source old) (samples_bytes source new)
  pub answer : BlockAnswer found result new
  pub memory : OutOfMemoryForLargerBlock source old found new
  pub enough : MaxCapacityIsEnough (samples_capacity old) found
  pub capacity : BlockKeepsCapacity (samples_capacity old) found

-- The samples of the current block come first, and consume nothing; then the next block is read.
pub record NextSample {R A : Type 0} (source : R → Source ℕ) (old : FlacSamples R A)
    (result : Option (Result ℤ Error)) (new : FlacSamples R A) : Type 0 where
  pub stream : samples_stream new ≡ samples_stream old
  pub from_block : (x : ℤ) (left : List ℤ) → samples_left old ≡ x ∷ left
      → GivesSample x left result new × (samples_bytes source new ≡ samples_bytes source old)
      × (samples_capacity new ≡ samples_capacity old)
  pub from_next_block : samples_left old ≡ [] → NextBlock source old result new

-- one call of `next`: after an Err it returns None for good and changes nothing
abbrev pub SamplesStep : {R A : Type 0} → (R → Source ℕ) → FlacSamples R A → Option (Result ℤ Error)
    → FlacSamples R A → Type 0
SamplesStep source old result new =
    MatchBool (have_failed old) ((result ≡ None) × (new ≡ old)) (NextSample source old result new)
