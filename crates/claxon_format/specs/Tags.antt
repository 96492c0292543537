-- Names and values of Vorbis comments (RFC 9639, section 8.6).
use Rattle.std.specs.Prelude.{
  ◌≡◌,
  ℕ,
  ◌+◌,
  Bool,
  ◌==◌,
  if◌then◌else◌,
  nat_lt,
  List,
  take,
  drop,
  map,
  filter,
}
use Rattle.std.specs.Cmp.Lexicographic.{pointwise}
use Rattle.claxon_format.specs.Comments.{Entry}

-- the name before the first '=', and the value after it
abbrev pub tag_of_entry : Entry → List ℕ × List ℕ
tag_of_entry e = (take e.place e.text, drop (e.place + 1) e.text)

-- the names and values of all entries
abbrev pub tags_of_entries : List Entry → List (List ℕ × List ℕ)
tags_of_entries entries = map tag_of_entry entries

-- the letters A to Z, 0x41 to 0x5a, as a to z
abbrev pub lower : ℕ → ℕ
lower y = if nat_lt y 0x41 then y else if nat_lt y 0x5b then y + 0x20 else y

-- two names are the same, ASCII case aside
abbrev pub Same : List ℕ → List ℕ → Type 0
Same a b = map lower a ≡ map lower b

-- whether two names are the same
abbrev pub same : List ℕ → List ℕ → Bool
same a b = pointwise ◌==◌ (map lower a) (map lower b)

-- the values of the tags with this name, in order
abbrev pub values : List ℕ → List (List ℕ × List ℕ) → List (List ℕ)
values name ps = map (λ p. p.1) (filter (λ p. same p.0 name) ps)
