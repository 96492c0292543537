-- The version of the library as one number.
use Rattle.std.specs.Prelude.{ℕ, ◌+◌, ◌*◌}

-- two digits each of `minor` and `patch`
abbrev pub version : ℕ → ℕ → ℕ → ℕ
version major minor patch = 10000 * major + 100 * minor + patch
