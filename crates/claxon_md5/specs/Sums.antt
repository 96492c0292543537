-- Operations over words to which the constants of their round were added before.
use Rattle.std.specs.Prelude.{◌≡◌, ℕ, ◌<◌, List, slice_index}
use Rattle.claxon_md5.specs.Md5.{add, step}

-- each sum is that of a word and a constant
abbrev pub AreSums : List ℕ → List ℕ → List ℕ → Type 0
AreSums words sines sums =
    (k : ℕ) → k < 16 → slice_index sums k ≡ add (slice_index words k) (slice_index sines k)

-- the operation [abcd k s i], where the sums are those of X[k] and T[i]
abbrev pub operation_over : (ℕ → ℕ → ℕ → ℕ) → List ℕ → List ℕ → ℕ × ℕ × ℕ → List ℕ
operation_over auxiliary sums abcd ksi = step auxiliary abcd (slice_index sums ksi.0) ksi.1
