-- What a predictor keeps from one pair of samples to the next.
use Rattle.std.specs.Prelude.{
  ◌≡◌,
  ℕ,
  ◌+◌,
  ℤ,
  List,
  Result,
  IfOk,
  IfErr,
  FitsSigned,
  length,
  take,
  reverse,
}
use Rattle.std.specs.Int.{w32}
use Rattle.claxon_format.specs.Predict.{linear}
use Rattle.claxon_format.specs.read.Predict.{restored}
use Rattle.claxon_subframe.specs.PendingSums.{AreNewest}
use Rattle.claxon_subframe.specs.declared.subframe.predictor.lanes.NewestFive.{NewestFive}
use Rattle.claxon_subframe.specs.declared.subframe.predictor.lanes.PredictorState.{PredictorState}

-- a predictor that has come to place i: the newest five of the samples before it, and their
-- pending sums
pub record StandsAt {S : Type 0} (Pending : List ℤ → S → Type 0) (samples : List ℤ) (i : ℕ)
    (state : PredictorState S) : Type 0 where
  pub newest : AreNewest (reverse (take i samples)) state.newest
  pub sums : Pending (reverse (take i samples)) state.sums

-- the samples from place i to place j were restored, and the predictor has come to j
pub record AreRestored {S : Type 0} (Pending : List ℤ → S → Type 0) (predict : List ℤ → ℤ)
    (old : List ℤ) (i : ℕ) (new : List ℤ) (j : ℕ) (state : PredictorState S) : Type 0 where
  pub kept : length new ≡ length old
  pub same : restored predict j new ≡ restored predict i old
  pub stands : StandsAt Pending new j state

-- the same where it may stop: an Err is the place up to which the samples were restored
pub record AreRestoredOrStop {S : Type 0} (Pending : List ℤ → S → Type 0) (predict : List ℤ → ℤ)
    (old : List ℤ) (i : ℕ) (new : List ℤ) (j : ℕ) (result : Result (PredictorState S) ℕ) : Type 0
  where
    pub ok : IfOk result (λ state. AreRestored Pending predict old i new j state)
    pub err : IfErr result (λ place. restored predict place new ≡ restored predict i old)

-- the samples from place i to place j are restored while they fit, with any of these
-- coefficients of which these are the newest five
abbrev pub RestoresSamples : {S : Type 0} → (List ℤ → Type 0) → (List ℤ → List ℤ → S → Type 0)
    → NewestFive → ℕ → List ℤ → ℕ → PredictorState S → List ℤ → ℕ → Result (PredictorState S) ℕ
    → Type 0
RestoresSamples Coefficients Pending last shift old i before new j result =
    (coefficients : List ℤ) → Coefficients coefficients → AreNewest coefficients last
    → StandsAt (Pending coefficients) old i before
    → AreRestoredOrStop (Pending coefficients) (linear coefficients shift) old i new j result

-- the same for the two samples at place i and after it
abbrev pub RestoresPair : {S : Type 0} → (List ℤ → Type 0) → (List ℤ → List ℤ → S → Type 0)
    → NewestFive → ℕ → List ℤ → ℕ → PredictorState S → List ℤ → Result (PredictorState S) ℕ → Type 0
RestoresPair Coefficients Pending last shift old i before new result =
    RestoresSamples Coefficients Pending last shift old i before new (i + 2) result

-- the same for ten samples
abbrev pub RestoresTen : {S : Type 0} → (List ℤ → Type 0) → (List ℤ → List ℤ → S → Type 0)
    → NewestFive → ℕ → List ℤ → ℕ → PredictorState S → List ℤ → Result (PredictorState S) ℕ → Type 0
RestoresTen Coefficients Pending last shift old i before new result =
    RestoresSamples Coefficients Pending last shift old i before new (i + 10) result

-- the samples from place i to place j are restored, with such coefficients
abbrev pub RestoresFront : {S : Type 0} → (List ℤ → Type 0) → (List ℤ → List ℤ → S → Type 0)
    → NewestFive → ℕ → List ℤ → ℕ → PredictorState S → List ℤ → ℕ → Type 0
RestoresFront Coefficients Pending last shift old i before new j =
    (coefficients : List ℤ) → Coefficients coefficients → AreNewest coefficients last
    → StandsAt (Pending coefficients) old i before
    → restored (linear coefficients shift) j new ≡ restored (linear coefficients shift) i old

-- lanes that every sample of 32 bits fits
abbrev pub EachFits : (ℤ → Type 0) → Type 0
EachFits SampleFits = (sample : ℤ) → FitsSigned w32 sample → SampleFits sample
