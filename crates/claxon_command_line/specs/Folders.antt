-- Files in folders.
use Rattle.std.specs.Prelude.{
  ◌≡◌,
  ◌-◌,
  ℕ,
  List,
  codes,
  drop,
  length,
}
use Rattle.std.specs.Str.{str_to_ascii_lowercase}

-- The last five characters are `.flac`, in letters of either case.
abbrev pub IsFlacName : List ℕ → Type 0
IsFlacName name = str_to_ascii_lowercase (drop (length name - 5) name) ≡ codes ".flac"
