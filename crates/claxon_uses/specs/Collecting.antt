-- Samples that are collected from frames, one after another.
use Rattle.std.specs.Prelude.{◌≡◌, ◌⊎◌, ℕ, ℤ, List, [], ◌∷◌, ◌++◌, Option, None, Some, Ok, Err}
use Rattle.claxon.specs.Frame.{StreamFormat, Block}
use Rattle.claxon.specs.FlacSamples.{SamplesStep}
use Rattle.claxon.specs.SampleRuns.{ReadsFrames, ConsumesFrames, end_found, samples_of}
use Rattle.claxon.specs.declared.samples.FlacSamples.{FlacSamples}
use Rattle.claxon.specs.Source.{Source}
use Rattle.claxon.specs.State.{bytes_in}
use Rattle.claxon.specs.Errors.{Error}
use Rattle.claxon.specs.Errors.TheVariants.{OutOfMemory}

-- These are the samples of blocks, after whose frames is the end, or what the error says.
-- `after` is the reader then, which was dropped.
pub record Collects {R : Type 0} (source : R → Source ℕ) (stream : Option StreamFormat) (before : R)
    (end : Option Error) (xs : List ℤ) : Type 0 where
  pub after : R
  pub blocks : List Block
  pub ends :
      ReadsFrames stream blocks (end_found end) (bytes_in source before) (bytes_in source after)
  pub samples : samples_of blocks ≡ xs

-- There was no memory for the samples of frames that were read.
pub record LacksMemory {R : Type 0} (source : R → Source ℕ) (stream : Option StreamFormat)
    (before : R) : Type 0 where
  pub after : R
  pub first : Block
  pub others : List Block
  pub frames :
      ConsumesFrames stream (first ∷ others) (bytes_in source before) (bytes_in source after)

-- the error is what ended the frames, or `OutOfMemory` for their samples
abbrev pub StopsCollecting : {R : Type 0} → (R → Source ℕ) → Option StreamFormat → R → Error
    → Type 0
StopsCollecting source stream before error =
    ((xs : List ℤ) × Collects source stream before (Some error) xs)
    ⊎ ((error ≡ OutOfMemory) × LacksMemory source stream before)

-- ---- one sample more

-- The next sample is added.
abbrev pub SampleIsAdded : {R A : Type 0} → (R → Source ℕ) → FlacSamples R A → FlacSamples R A
    → List ℤ → List ℤ → Type 0
SampleIsAdded source old new xs ys =
    (x : ℤ) × (ys ≡ xs ++ x ∷ []) × SamplesStep source old (Some (Ok x)) new

-- There was none.
abbrev pub NoneIsAdded : {R A : Type 0} → (R → Source ℕ) → FlacSamples R A → FlacSamples R A
    → List ℤ → List ℤ → Type 0
NoneIsAdded source old new xs ys = (ys ≡ xs) × SamplesStep source old None new

-- The error was given in place of a sample, or there is no memory for one.
abbrev pub StopsAdding : {R A : Type 0} → (R → Source ℕ) → FlacSamples R A → FlacSamples R A → Error
    → Type 0
StopsAdding source old new error =
    SamplesStep source old (Some (Err error)) new
    ⊎ ((error ≡ OutOfMemory) × ((x : ℤ) × SamplesStep source old (Some (Ok x)) new))
