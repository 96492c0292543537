-- Samples as bytes.
use Rattle.std.specs.Prelude.{ℕ, ◌-◌, ℤ, List}
use Rattle.std.specs.List.{flat_map}
use Rattle.claxon.specs.Interleave.{interleave_range, sample_bytes}

-- the bytes of samples, one after another
unfoldable pub bytes_of_samples : List ℤ → List ℕ
bytes_of_samples xs = flat_map sample_bytes xs

-- the bytes of the interchannel samples from index `from` up to `to`
abbrev pub bytes_between : List (List ℤ) → ℕ → ℕ → List ℕ
bytes_between channels from to = bytes_of_samples (interleave_range channels from (to - from))
