-- Tags by their names.
use Rattle.std.specs.Prelude.{◌≡◌, ◌↔◌, ◌⊎◌, ◌≤◌, ℕ, ◌+◌, List, length, take, drop}
use Rattle.claxon_format.specs.Tags.{Same}
use Rattle.claxon_c.specs.declared.tags.ClaxonTag.{ClaxonTag}

-- The tag has this name in the content, ASCII case aside. Its positions may be any.
abbrev pub HasName : List ℕ → ClaxonTag → List ℕ → Type 0
HasName content tag name =
    (tag.name_at + tag.name_length ≤ length content)
    × Same (take tag.name_length (drop tag.name_at content)) name

-- 1 exactly where the tag has this name, else 0
pub record CTagHasName (content : List ℕ) (tag : ClaxonTag) (name : List ℕ) (result : ℕ) : Type 0
  where
    pub test : (result ≡ 1) ↔ HasName content tag name
    pub is_test : (result ≡ 0) ⊎ (result ≡ 1)
