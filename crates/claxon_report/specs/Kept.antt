-- The places that are kept of those that were found.
use Rattle.std.specs.Prelude.{
  ◌≡◌,
  ℕ,
  ◌≤◌,
  ◌%◌,
  ◌^◌,
  Bool,
  false,
  true,
  List,
  [],
  ◌∷◌,
  ◌++◌,
  length,
  Option,
  None,
}
use Rattle.claxon_report.specs.Places.{list_of}
use Rattle.claxon_report.specs.declared.places.KeptPlaces.{KeptPlaces}
use Rattle.claxon_report.specs.declared.places.Pushed.{Pushed}
use Rattle.claxon_report.specs.declared.place.Place.{Place}

-- Of all places the first are kept, and the others are counted, modulo 2^64. If there are any, one
-- is kept.
pub record AreKept (all : List Place) (first : Option Place) (more : List Place) (left_out : ℕ)
    : Type 0 where
  pub others : List Place
  pub are : all ≡ list_of first ++ (more ++ others)
  pub left_out_is : left_out ≡ length others % 2 ^ 64
  pub some : first ≡ None → all ≡ []

-- The same, and as long as more are kept none is left out.
pub record Keeps {A : Type 0} (all : List Place) (kept : KeptPlaces A) : Type 0 where
  pub are_kept :
      AreKept all kept.places.first kept.places.more.items kept.places.left_out
  pub none_left_out : kept.is_full ≡ false → are_kept.others ≡ []

-- With these places more it keeps those of all, and no more than are wanted after the first.
pub record KeepsPlaces {A : Type 0} (found : List Place) (old new : KeptPlaces A) : Type 0 where
  pub keeps : (all : List Place) → Keeps all old → Keeps (all ++ found) new
  pub more : new.more ≡ old.more
  pub few : length old.places.more.items ≤ old.more → length new.places.more.items ≤ old.more

-- The place was added, which needs room, or they stay.
pub record Pushes {A : Type 0} (place : Place) (has_room : Bool) (old : List Place)
    (new : Pushed A) : Type 0 where
  pub yes : new.is_pushed ≡ true → (new.items.items ≡ old ++ place ∷ []) × (has_room ≡ true)
  pub no : new.is_pushed ≡ false → new.items.items ≡ old
