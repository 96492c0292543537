-- What bytes begin with.
use Rattle.std.specs.Prelude.{◌≡◌, ℕ, List, ◌++◌}

-- s begins with a code C, whatever follows.
abbrev pub BeginsWith : (List ℕ → Type 0) → List ℕ → Type 0
BeginsWith C s = (t : List ℕ) × (rest : List ℕ) × C t × (s ≡ t ++ rest)
