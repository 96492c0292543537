-- Twelve numbers in three vectors: coefficients, and the pending sums of the next twelve samples.
use Rattle.std.specs.Prelude.{◌≡◌, ℕ, ◌+◌, ◌^◌, ℤ, List, ◌++◌, length}
use Rattle.claxon_subframe.specs.Lanes.{Lanes, LanesFit64}
use Rattle.claxon_subframe.specs.PendingSums.{four_pending, four_taps}
use Rattle.claxon_subframe.specs.declared.subframe.predictor.low_order.TwelveLanes.{TwelveLanes}
use Rattle.claxon_subframe.specs.declared.subframe.predictor.low_order.EightLanes.{EightLanes}
use Rattle.claxon_subframe.specs.declared.subframe.predictor.low_order.TwelveTaps.{TwelveTaps}

-- the twelve numbers, those of the latest samples first
abbrev pub numbers : TwelveLanes → List ℤ
numbers twelve = twelve.at_8 ++ (twelve.at_4 ++ twelve.at_0)

-- coefficients of at most 2 ^ 15 in size
pub record SmallTwelve (twelve : TwelveLanes) : Type 0 where
  pub at_8 : Lanes (2 ^ 15) twelve.at_8
  pub at_4 : Lanes (2 ^ 15) twelve.at_4
  pub at_0 : Lanes (2 ^ 15) twelve.at_0

pub record SmallEight (eight : EightLanes) : Type 0 where
  pub at_8 : Lanes (2 ^ 15) eight.at_8
  pub at_4 : Lanes (2 ^ 15) eight.at_4

pub record SmallTwelveTaps (taps : TwelveTaps) : Type 0 where
  pub second : SmallEight taps.second
  pub newest : SmallEight taps.newest

-- sums that fit 64 bits
pub record TwelveFit64 (twelve : TwelveLanes) : Type 0 where
  pub at_8 : LanesFit64 twelve.at_8
  pub at_4 : LanesFit64 twelve.at_4
  pub at_0 : LanesFit64 twelve.at_0

-- the coefficients of a sample with `back` samples between it and the next one
pub record AreEightTaps (coefficients : List ℤ) (back : ℕ) (taps : EightLanes) : Type 0 where
  pub at_8 : taps.at_8 ≡ four_taps coefficients (back + 8)
  pub at_4 : taps.at_4 ≡ four_taps coefficients (back + 4)

-- the coefficients of the newest sample and of the one before it, for the samples from the fifth on
pub record AreTwelveTaps (coefficients : List ℤ) (taps : TwelveTaps) : Type 0 where
  pub long : length coefficients ≡ 12
  pub second : AreEightTaps coefficients 1 taps.second
  pub newest : AreEightTaps coefficients 0 taps.newest

-- the lanes hold the pending sums of the next twelve samples
pub record AreTwelvePending (coefficients past : List ℤ) (sums : TwelveLanes) : Type 0 where
  pub at_8 : sums.at_8 ≡ four_pending coefficients past 8
  pub at_4 : sums.at_4 ≡ four_pending coefficients past 4
  pub at_0 : sums.at_0 ≡ four_pending coefficients past 0
