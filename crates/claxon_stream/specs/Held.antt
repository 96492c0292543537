-- The bytes of a stream that a caller holds.
use Rattle.std.specs.Prelude.{
  ◌≡◌,
  ◌-◌,
  ℕ,
  Bool,
  true,
  false,
  if◌then◌else◌,
  nat_lt,
  List,
  [],
  ◌++◌,
  drop,
}

-- the bytes from a position on, of those that are held from the position `at` on: none where these
-- begin after it
abbrev pub held_from : ℕ → ℕ → List ℕ → List ℕ
held_from at position bytes = if nat_lt position at then [] else drop (position - at) bytes

-- whether the stream is known to end with them
abbrev pub ends_there : ℕ → ℕ → Bool → Bool
ends_there at position is_end = if nat_lt position at then false else is_end

-- The bytes stand at the position `at` of the stream, and end it if `is_end`.
pub record StandsIn (stream : List ℕ) (at : ℕ) (bytes : List ℕ) (is_end : Bool) : Type 0 where
  pub after : List ℕ
  pub are : drop at stream ≡ bytes ++ after
  pub last : is_end ≡ true → after ≡ []
