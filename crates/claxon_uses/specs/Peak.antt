-- The greatest magnitude of a block's samples.
use Rattle.std.specs.Prelude.{ℕ, ℤ, List, [], ◌∷◌, max, unsigned_abs}

-- the greatest magnitude of samples, 0 where there are none
unfoldable pub greatest : List ℤ → ℕ
greatest [] = 0
greatest (x ∷ xs) = max (unsigned_abs x) (greatest xs)

-- that of the samples of all channels
unfoldable pub peak_of : List (List ℤ) → ℕ
peak_of [] = 0
peak_of (channel ∷ channels) = max (greatest channel) (peak_of channels)
