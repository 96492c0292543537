-- The first samples of a stream that a reader gives.
use Rattle.std.specs.Prelude.{
  ◌≡◌,
  ◌⊎◌,
  ◌<◌,
  ◌≤◌,
  ℕ,
  ℤ,
  true,
  List,
  ◌++◌,
  length,
  take,
  Option,
  None,
  Some,
  IfOk,
  IsOkAnd,
  IsErrAnd,
  Result,
  Vec,
}
use Rattle.claxon.specs.Error.{IsFault}
use Rattle.claxon.specs.Fault.{Fault}
use Rattle.claxon.specs.Frame.{Block, FrameBytesFault, Frames, StreamFormat}
use Rattle.claxon.specs.Heads.{Head, HeadCode, HeadFault}
use Rattle.claxon.specs.Opening.{IfKnown, IsMemoryOrIoError}
use Rattle.claxon.specs.SampleRuns.{GaveAll, GaveSamples, samples_of}
use Rattle.claxon.specs.Source.{Source}
use Rattle.claxon.specs.Streams.{IsStream, stream_of, with_samples}
use Rattle.claxon.specs.Errors.{Error}
use Rattle.claxon.specs.Errors.TheVariants.{OutOfMemory}
use Rattle.claxon.specs.declared.samples.FlacSamples.{FlacSamples}
use Rattle.claxon.specs.OtherErrors.{IfOtherErr}
use Rattle.claxon.specs.Prefix.{BeginsWith}

-- s begins with the frames of blocks, and these are their first samples, `count` of them; or
-- all, and then fewer than two bytes follow.
pub record HasFirstSamples (count : ℕ) (stream : Option StreamFormat) (s : List ℕ) (xs : List ℤ) :
    Type 0 where
  pub blocks : List Block
  pub rest : List ℕ
  pub frames : Frames stream s blocks rest
  pub first : xs ≡ take count (samples_of blocks)
  pub enough : (count ≤ length (samples_of blocks)) ⊎ (length rest < 2)

-- s begins with a head, and these are the first samples of the frames after it.
pub record BeginsWithSamples (count : ℕ) (s : List ℕ) (xs : List ℤ) : Type 0 where
  pub head : Head
  pub front : List ℕ
  pub frames : List ℕ
  pub code : HeadCode (with_samples true) head front
  pub joined : s ≡ front ++ frames
  pub first_samples_are : HasFirstSamples count (Some (stream_of head.info)) frames xs

-- s begins with a fault of a head, or with a head, all frames that follow, which have fewer
-- samples, and then a fault of a frame.
abbrev pub HasFirstFault : ℕ → List ℕ → Fault → Type 0
HasFirstFault count s f =
    BeginsWith (HeadFault (with_samples true) f) s
    ⊎ ((h : Head) × (blocks : List Block) × (rest : List ℕ) × IsStream true s h blocks rest
    × (length (samples_of blocks) < count)
    × BeginsWith (FrameBytesFault (Some (stream_of h.info)) f) rest)

module _ {R A : Type 0} (count : ℕ) (remaining : R → Option (List ℕ)) (reader : R)
    (result : Result (Vec ℤ A) Error) where
  -- What is returned are the first samples of the remaining stream.
  abbrev pub FirstSamplesAreSound : Type 0
  FirstSamplesAreSound =
      IfOk result (λ first. IfKnown remaining reader (λ s. BeginsWithSamples count s first.items))

  -- Where the remaining bytes have first samples these are returned, or the answer is
  -- `OutOfMemory` or an `IoError`.
  abbrev pub FirstSamplesAreComplete : Type 0
  FirstSamplesAreComplete =
      (xs : List ℤ) → IfKnown remaining reader (λ s. BeginsWithSamples count s xs
      → IsOkAnd result (λ first. first.items ≡ xs) ⊎ IsMemoryOrIoError result)

  -- An Err is `OutOfMemory`, an `IoError`, or the name of the first fault, before which there
  -- are too few samples.
  abbrev pub FirstFaultIsSound : Type 0
  FirstFaultIsSound =
      IfOtherErr result (λ e. IfKnown remaining reader (λ s.
      (f : Fault) × IsFault f e × HasFirstFault count s f))

  -- Where there is such a fault it is named, or the answer is `OutOfMemory` or an `IoError`.
  abbrev pub FirstFaultIsComplete : Type 0
  FirstFaultIsComplete =
      (f : Fault) → IfKnown remaining reader (λ s. HasFirstFault count s f
      → IsErrAnd result (IsFault f) ⊎ IsMemoryOrIoError result)

-- ---- consecutive calls

module _ {R A : Type 0} (source : R → Source ℕ) (count : ℕ) (samples : FlacSamples R A) where
  -- Consecutive calls gave `count` samples; or all samples, and after them is no frame.
  abbrev pub GivesFirstSamples : List ℤ → Type 0
  GivesFirstSamples xs =
      ((new : FlacSamples R A) × GaveSamples source samples xs new × (length xs ≡ count))
      ⊎ ((new : FlacSamples R A) × GaveAll source samples xs None new × (length xs ≤ count))

  -- After fewer samples there was this error, or no memory for one.
  abbrev pub ErrBeforeCount : Error → Type 0
  ErrBeforeCount error =
      ((xs : List ℤ) × (new : FlacSamples R A) × GaveAll source samples xs (Some error) new
      × (length xs < count)) ⊎ (error ≡ OutOfMemory)
