-- The capacity of an `Output`.
use Rattle.std.specs.Prelude.{ℕ}

-- the most bytes that are pending
abbrev pub capacity : ℕ
capacity = 16384
