-- The clauses of the linear predictors (RFC 9639, section 9.2.6).
use Rattle.std.specs.Prelude.{◌≡◌, ℕ, List, ℤ, length, reverse}
use Rattle.claxon_format.specs.Predict.{linear}
use Rattle.claxon_format.specs.read.Predict.{restored}

-- The samples are restored in place: the warm-up samples, as many as there are coefficients, stay,
-- and each residual sample became a sample.
abbrev pub SamplesAreRestored : List ℤ → ℕ → List ℤ → List ℤ → Type 0
SamplesAreRestored coefficients shift old new =
    new ≡ restored (linear (reverse coefficients) shift) (length coefficients) old

-- The first `known` samples of `old` were restored before the call, and the first `count` of `new`
-- after it: the residual samples that follow them still lead to the same samples.
abbrev pub FrontIsRestored : List ℤ → ℕ → ℕ → List ℤ → ℕ → List ℤ → Type 0
FrontIsRestored coefficients shift known old count new =
    restored (linear (reverse coefficients) shift) count new
    ≡ restored (linear (reverse coefficients) shift) known old
