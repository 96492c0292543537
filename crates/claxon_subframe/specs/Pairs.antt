-- Pending sums in lanes of 32 bits, for samples of 16 bits.
use Rattle.std.specs.Prelude.{
  ◌≡◌,
  ℕ,
  ◌+◌,
  ◌^◌,
  ◌<◌,
  ℤ,
  ◌+ℤ◌,
  ◌*ℤ◌,
  FitsSigned,
  List,
  [],
  ◌∷◌,
  ◌++◌,
  length,
  take,
  drop,
}
use Rattle.std.specs.Int.{int_wrap, w16, w32}
use Rattle.std.specs.Int.RustNames.{unsigned_abs}
use Rattle.claxon_subframe.specs.PendingSums.{ArePendingSums, FitVectors, four_taps}
use Rattle.claxon_subframe.specs.declared.subframe.predictor.lanes.LaterLanes.{LaterLanes}
use Rattle.claxon_subframe.specs.declared.subframe.predictor.lanes.PendingSums.{PendingSums}

-- each number fits 16 bits
abbrev pub AllFit16 : List ℤ → Type 0
AllFit16 [] = Unit {0}
AllFit16 (x ∷ xs) = FitsSigned w16 x × AllFit16 xs

-- the same as a record
pub record Fit16 (xs : List ℤ) : Type 0 where
  pub each : AllFit16 xs

-- eight numbers that fit 16 bits
pub record LanesFit16 (xs : List ℤ) : Type 0 where
  pub eight : length xs ≡ 8
  pub each : AllFit16 xs

-- each number fits 32 bits
abbrev pub AllFit32 : List ℤ → Type 0
AllFit32 [] = Unit {0}
AllFit32 (x ∷ xs) = FitsSigned w32 x × AllFit32 xs

-- four numbers that fit 32 bits
pub record LanesFit32 (xs : List ℤ) : Type 0 where
  pub four : length xs ≡ 4
  pub each : AllFit32 xs

-- the sum of the magnitudes
abbrev pub magnitude : List ℤ → ℕ
magnitude [] = 0
magnitude (c ∷ cs) = unsigned_abs c + magnitude cs

-- two numbers in turn, in eight lanes
abbrev pub pair_of : ℤ → ℤ → List ℤ
pair_of x y = x ∷ y ∷ x ∷ y ∷ x ∷ y ∷ x ∷ y ∷ []

-- the numbers of two lists in turn
abbrev pub in_turn : List ℤ → List ℤ → List ℤ
in_turn [] ys = []
in_turn (x ∷ xs) [] = []
in_turn (x ∷ xs) (y ∷ ys) = x ∷ y ∷ in_turn xs ys

-- each number and the products of two coefficients and their samples, modulo 2 ^ 32
abbrev pub plus_pairs : List ℤ → List ℤ → List ℤ → List ℤ
plus_pairs (z ∷ zs) (c ∷ d ∷ cs) (x ∷ y ∷ xs) =
    int_wrap w32 (z +ℤ (c *ℤ x +ℤ d *ℤ y)) ∷ plus_pairs zs cs xs
plus_pairs _ _ _ = []

-- the lanes shifted by two, that is the last two numbers of before and the first two of zs, and
-- two products added to each
abbrev pub advanced_by_pair : List ℤ → List ℤ → List ℤ → List ℤ → List ℤ
advanced_by_pair before zs taps pair = plus_pairs (drop 2 before ++ take 2 zs) taps pair

-- the coefficients of the newest sample and of the one before it in turn, for four samples
abbrev pub pair_taps : List ℤ → ℕ → List ℤ
pair_taps coefficients j = in_turn (four_taps coefficients (j + 1)) (four_taps coefficients j)

-- the same for the samples from the fifth on
pub record ArePairTaps (coefficients : List ℤ) (taps : LaterLanes (List ℤ)) : Type 0 where
  pub long : length coefficients ≡ 32
  pub at_4 : taps.at_4 ≡ pair_taps coefficients 4
  pub at_8 : taps.at_8 ≡ pair_taps coefficients 8
  pub at_12 : taps.at_12 ≡ pair_taps coefficients 12
  pub at_16 : taps.at_16 ≡ pair_taps coefficients 16
  pub at_20 : taps.at_20 ≡ pair_taps coefficients 20
  pub at_24 : taps.at_24 ≡ pair_taps coefficients 24
  pub at_28 : taps.at_28 ≡ pair_taps coefficients 28

-- coefficients that fit 16 bits
pub record SmallPairTaps (taps : LaterLanes (List ℤ)) : Type 0 where
  pub at_4 : LanesFit16 taps.at_4
  pub at_8 : LanesFit16 taps.at_8
  pub at_12 : LanesFit16 taps.at_12
  pub at_16 : LanesFit16 taps.at_16
  pub at_20 : LanesFit16 taps.at_20
  pub at_24 : LanesFit16 taps.at_24
  pub at_28 : LanesFit16 taps.at_28

-- sums that fit 32 bits
pub record LaterFit32 (later : LaterLanes (List ℤ)) : Type 0 where
  pub at_4 : LanesFit32 later.at_4
  pub at_8 : LanesFit32 later.at_8
  pub at_12 : LanesFit32 later.at_12
  pub at_16 : LanesFit32 later.at_16
  pub at_20 : LanesFit32 later.at_20
  pub at_24 : LanesFit32 later.at_24
  pub at_28 : LanesFit32 later.at_28

pub record SumsFit32 (sums : PendingSums (List ℤ)) : Type 0 where
  pub at_0 : LanesFit32 sums.at_0
  pub later : LaterFit32 sums.later

-- the pending sums of samples of 16 bits
pub record ArePendingSums16 (coefficients past : List ℤ) (sums : PendingSums (List ℤ)) : Type 0
  where
    pub small : Fit16 past
    pub pending : ArePendingSums coefficients past sums

-- coefficients of which these are the taps, whose magnitudes add up to less than 2 ^ 16
pub record ArePairCoefficients (vectors : ℕ) (taps : LaterLanes (List ℤ)) (coefficients : List ℤ) :
    Type 0 where
  pub pairs : ArePairTaps coefficients taps
  pub fit : FitVectors vectors coefficients
  pub small : magnitude coefficients < 2 ^ 16
