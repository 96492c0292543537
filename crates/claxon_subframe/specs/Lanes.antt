-- Vectors of four lanes.
use Rattle.std.specs.Prelude.{
  ◌≡◌,
  ℕ,
  ◌≤◌,
  ℤ,
  FitsSigned,
  ◌+ℤ◌,
  ◌*ℤ◌,
  List,
  [],
  ◌∷◌,
  ◌++◌,
  length,
  map,
  take,
  drop,
}
use Rattle.std.specs.Int.{int_wrap, w64}
use Rattle.std.specs.Simd.Lanes.{zip2}
use Rattle.std.specs.Int.RustNames.{unsigned_abs}

-- each number is at most m in size
abbrev pub AllWithin : ℕ → List ℤ → Type 0
AllWithin m [] = Unit {0}
AllWithin m (x ∷ xs) = (unsigned_abs x ≤ m) × AllWithin m xs

-- the same as a record
pub record Within (m : ℕ) (xs : List ℤ) : Type 0 where
  pub each : AllWithin m xs

-- four numbers of at most m in size
pub record Lanes (m : ℕ) (xs : List ℤ) : Type 0 where
  pub four : length xs ≡ 4
  pub each : AllWithin m xs

-- the number that fits 64 bits and is x modulo 2 ^ 64
abbrev pub wrap_64 : ℤ → ℤ
wrap_64 x = int_wrap w64 x

-- each number fits 64 bits
abbrev pub AllFit64 : List ℤ → Type 0
AllFit64 [] = Unit {0}
AllFit64 (x ∷ xs) = FitsSigned w64 x × AllFit64 xs

-- four numbers that fit 64 bits
pub record LanesFit64 (xs : List ℤ) : Type 0 where
  pub four : length xs ≡ 4
  pub each : AllFit64 xs

-- each number and a product, modulo 2 ^ 64
abbrev pub plus_products : List ℤ → List ℤ → List ℤ → List ℤ
plus_products zs cs xs = map wrap_64 (zip2 ◌+ℤ◌ zs (zip2 ◌*ℤ◌ cs xs))

-- the lanes shifted by two, that is the last two numbers of before and the first two of zs, and
-- two products added to each, modulo 2 ^ 64
abbrev pub advanced_by_two : List ℤ → List ℤ → List ℤ → List ℤ → List ℤ → List ℤ → List ℤ
advanced_by_two before zs cs xs ds ys =
    plus_products (plus_products (drop 2 before ++ take 2 zs) cs xs) ds ys
