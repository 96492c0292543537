-- How far frames are looked at ahead.
use Rattle.std.specs.Prelude.{ℕ}

-- how many frames after one decide whether it is written
unfoldable pub look_ahead : ℕ
look_ahead = 32
