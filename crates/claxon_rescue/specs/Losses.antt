-- What is lost of a damaged stream.
use Rattle.std.specs.Prelude.{◌≡◌, ℕ, ◌-◌, ◌%◌, ◌^◌, List, ◌∷◌, [], ◌++◌, length, take}
use Rattle.std.specs.List.{sum_by}
use Rattle.claxon_rescue.specs.declared.losses.LossKind.{LossKind}
use Rattle.claxon_rescue.specs.declared.losses.LossKind.TheVariants.{LeftOut, Missing}
use Rattle.claxon_rescue.specs.declared.losses.LostRange.{LostRange}
use Rattle.claxon_rescue.specs.declared.losses.Losses.{Losses}

-- how many samples of each channel are missing, by the kind of a range of so many
abbrev pub missing_if : LossKind → ℕ → ℕ
missing_if Missing count = count
missing_if LeftOut count = 0

-- how many are missing in a range
abbrev pub missing_of : LostRange → ℕ
missing_of range = missing_if range.kind (range.end_sample - range.start_sample)

-- how many are missing in ranges
abbrev pub missing_in : List LostRange → ℕ
missing_in ranges = sum_by missing_of ranges

-- Of these ranges the first ones are kept, up to this number, and all are counted.
pub record HasNoted (max_ranges : ℕ) (ranges : List LostRange) (losses : Losses) : Type 0 where
  pub most : losses.max_ranges ≡ max_ranges
  pub kept : losses.ranges.items ≡ take max_ranges ranges
  pub counted : losses.count ≡ length ranges % 2 ^ 64
  pub missing : losses.missing ≡ missing_in ranges % 2 ^ 64

-- One range more was noted.
abbrev pub NotesRange : LostRange → Losses → Losses → Type 0
NotesRange range old new =
    (max_ranges : ℕ) (ranges : List LostRange) → HasNoted max_ranges ranges old
    → HasNoted max_ranges (ranges ++ range ∷ []) new
