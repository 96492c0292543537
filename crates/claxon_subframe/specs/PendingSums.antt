-- Pending sums: what the samples so far add to the prediction of each later sample.
use Rattle.std.specs.Prelude.{
  ◌≡◌,
  ℕ,
  ◌+◌,
  ◌-◌,
  ◌*◌,
  ◌^◌,
  ℤ,
  pos,
  ◌+ℤ◌,
  ◌*ℤ◌,
  List,
  [],
  ◌∷◌,
  drop,
  reverse,
  replicate,
  length,
  get_or,
}
use Rattle.claxon_format.specs.Predict.{wrap, dot, floor_shift, linear}
use Rattle.claxon_subframe.specs.Lanes.{Lanes, LanesFit64, wrap_64}
use Rattle.claxon_subframe.specs.declared.subframe.predictor.lanes.NewestFive.{NewestFive}
use Rattle.claxon_subframe.specs.declared.subframe.predictor.high_order.Taps.{Taps}
use Rattle.claxon_subframe.specs.declared.subframe.predictor.lanes.LaterLanes.{LaterLanes}
use Rattle.claxon_subframe.specs.declared.subframe.predictor.lanes.PendingSums.{PendingSums}

-- coefficients, the newest sample's first, with zeros for the newest four
abbrev pub but_newest_four : List ℤ → List ℤ
but_newest_four coefficients = pos 0 ∷ pos 0 ∷ pos 0 ∷ pos 0 ∷ drop 4 coefficients

-- the same with zeros for the newest five
abbrev pub but_newest_five : List ℤ → List ℤ
but_newest_five coefficients = pos 0 ∷ pos 0 ∷ pos 0 ∷ pos 0 ∷ pos 0 ∷ drop 5 coefficients

-- what the samples so far, the newest first, add to the prediction of the next sample (j = 0) or
-- of the one j after it, modulo 2 ^ 64
abbrev pub pending_at : List ℤ → List ℤ → ℕ → ℤ
pending_at coefficients past j = wrap_64 (dot (drop j coefficients) past)

-- the same for four samples, the latest first, which become two pairs: of the first of a pair
-- all coefficients but the newest four count, of the second all but the newest five
abbrev pub four_pending : List ℤ → List ℤ → ℕ → List ℤ
four_pending coefficients past j =
    pending_at (but_newest_five coefficients) past (j + 3)
    ∷ pending_at (but_newest_four coefficients) past (j + 2)
    ∷ pending_at (but_newest_five coefficients) past (j + 1)
    ∷ pending_at (but_newest_four coefficients) past j ∷ []

-- the lanes hold the pending sums of the samples from the fifth on
pub record LaterArePending (coefficients past : List ℤ) (later : LaterLanes (List ℤ)) : Type 0 where
  pub at_4 : later.at_4 ≡ four_pending coefficients past 4
  pub at_8 : later.at_8 ≡ four_pending coefficients past 8
  pub at_12 : later.at_12 ≡ four_pending coefficients past 12
  pub at_16 : later.at_16 ≡ four_pending coefficients past 16
  pub at_20 : later.at_20 ≡ four_pending coefficients past 20
  pub at_24 : later.at_24 ≡ four_pending coefficients past 24
  pub at_28 : later.at_28 ≡ four_pending coefficients past 28

-- the lanes hold the pending sums of the next 32 samples
pub record ArePendingSums (coefficients past : List ℤ) (sums : PendingSums (List ℤ)) : Type 0 where
  pub at_0 : sums.at_0 ≡ four_pending coefficients past 0
  pub later : LaterArePending coefficients past sums.later

-- four coefficients, the latest sample's first
abbrev pub four_taps : List ℤ → ℕ → List ℤ
four_taps coefficients j =
    get_or coefficients (j + 3) (pos 0) ∷ get_or coefficients (j + 2) (pos 0)
    ∷ get_or coefficients (j + 1) (pos 0) ∷ get_or coefficients j (pos 0) ∷ []

-- the coefficients of a sample with `back` samples between it and the next one
pub record AreLaterTaps (coefficients : List ℤ) (back : ℕ) (taps : LaterLanes (List ℤ)) : Type 0
  where
    pub at_4 : taps.at_4 ≡ four_taps coefficients (back + 4)
    pub at_8 : taps.at_8 ≡ four_taps coefficients (back + 8)
    pub at_12 : taps.at_12 ≡ four_taps coefficients (back + 12)
    pub at_16 : taps.at_16 ≡ four_taps coefficients (back + 16)
    pub at_20 : taps.at_20 ≡ four_taps coefficients (back + 20)
    pub at_24 : taps.at_24 ≡ four_taps coefficients (back + 24)
    pub at_28 : taps.at_28 ≡ four_taps coefficients (back + 28)

-- the coefficients of the newest sample and of the one before it, for the samples from the fifth on
pub record AreTaps (coefficients : List ℤ) (taps : Taps) : Type 0 where
  pub long : length coefficients ≡ 32
  pub second : AreLaterTaps coefficients 1 taps.second
  pub newest : AreLaterTaps coefficients 0 taps.newest

-- sums that fit 64 bits
pub record LaterFit64 (later : LaterLanes (List ℤ)) : Type 0 where
  pub at_4 : LanesFit64 later.at_4
  pub at_8 : LanesFit64 later.at_8
  pub at_12 : LanesFit64 later.at_12
  pub at_16 : LanesFit64 later.at_16
  pub at_20 : LanesFit64 later.at_20
  pub at_24 : LanesFit64 later.at_24
  pub at_28 : LanesFit64 later.at_28

pub record SumsFit64 (sums : PendingSums (List ℤ)) : Type 0 where
  pub at_0 : LanesFit64 sums.at_0
  pub later : LaterFit64 sums.later

-- coefficients of at most 2 ^ 15 in size
pub record SmallLater (taps : LaterLanes (List ℤ)) : Type 0 where
  pub at_4 : Lanes (2 ^ 15) taps.at_4
  pub at_8 : Lanes (2 ^ 15) taps.at_8
  pub at_12 : Lanes (2 ^ 15) taps.at_12
  pub at_16 : Lanes (2 ^ 15) taps.at_16
  pub at_20 : Lanes (2 ^ 15) taps.at_20
  pub at_24 : Lanes (2 ^ 15) taps.at_24
  pub at_28 : Lanes (2 ^ 15) taps.at_28

pub record SmallTaps (taps : Taps) : Type 0 where
  pub second : SmallLater taps.second
  pub newest : SmallLater taps.newest

-- the coefficients after the newest 4 * vectors + 4 are zeros
abbrev pub FitVectors : ℕ → List ℤ → Type 0
FitVectors vectors coefficients =
    drop (4 * vectors + 4) coefficients
    ≡ replicate (length coefficients - (4 * vectors + 4)) (pos 0)

-- the pending sums after these samples, with any of these coefficients
abbrev pub ArePendingSumsOf : {S : Type 0} → (List ℤ → Type 0) → (List ℤ → List ℤ → S → Type 0)
    → List ℤ → S → Type 0
ArePendingSumsOf Coefficients Pending samples sums =
    (coefficients : List ℤ) → Coefficients coefficients
    → Pending coefficients (reverse samples) sums

-- a sum and a residual sample, scaled up so that a shift by 32 drops of the sum what `shift`
-- would drop, and nothing of the residual
abbrev pub scaled_up : ℤ → ℤ → ℕ → ℤ
scaled_up sum residual shift = wrap_64 (sum *ℤ pos (2 ^ (32 - shift)) +ℤ residual *ℤ pos (2 ^ 32))

-- the same for a sum that is known modulo 2 ^ 64
abbrev pub IsScaledUp : ℤ → ℤ → ℕ → ℤ → Type 0
IsScaledUp pending residual shift scaled =
    (sum : ℤ) → pending ≡ wrap_64 sum → scaled ≡ scaled_up sum residual shift

-- one product is added
pub record AddsProduct (scaled coefficient sample : ℤ) (shift : ℕ) (more : ℤ) : Type 0 where
  pub adds : (sum residual : ℤ) → scaled ≡ scaled_up sum residual shift
      → more ≡ scaled_up (sum +ℤ coefficient *ℤ sample) residual shift

-- a sum and the products of five samples
abbrev pub plus_five : ℤ → NewestFive → NewestFive → ℤ
plus_five sum c s =
    ((((sum +ℤ c.fifth *ℤ s.fifth) +ℤ c.fourth *ℤ s.fourth) +ℤ c.third *ℤ s.third)
    +ℤ c.second *ℤ s.second)
    +ℤ c.newest *ℤ s.newest

-- the sample, from its scaled up sum and the products of the newest five samples
abbrev pub IsSample : ℤ → NewestFive → NewestFive → ℕ → ℤ → Type 0
IsSample scaled coefficients samples shift sample =
    (sum residual : ℤ) → scaled ≡ scaled_up sum residual shift
    → sample ≡ wrap (floor_shift (plus_five sum coefficients samples) shift +ℤ residual)

-- these coefficients without that of the fifth sample
pub record IsButFifth (coefficients others : NewestFive) : Type 0 where
  pub fifth : others.fifth ≡ pos 0
  pub fourth : others.fourth ≡ coefficients.fourth
  pub third : others.third ≡ coefficients.third
  pub second : others.second ≡ coefficients.second
  pub newest : others.newest ≡ coefficients.newest

-- the newest five samples, after one more
pub record IsFollowed (old : NewestFive) (sample : ℤ) (new : NewestFive) : Type 0 where
  pub fifth : new.fifth ≡ old.fourth
  pub fourth : new.fourth ≡ old.third
  pub third : new.third ≡ old.second
  pub second : new.second ≡ old.newest
  pub newest : new.newest ≡ sample

-- five numbers, the newest first, and the older ones
abbrev pub five_before : NewestFive → List ℤ → List ℤ
five_before five rest = five.newest ∷ five.second ∷ five.third ∷ five.fourth ∷ five.fifth ∷ rest

-- these five are the newest of all, where the newest is first
pub record AreNewest (all : List ℤ) (five : NewestFive) : Type 0 where
  pub rest : List ℤ
  pub is : all ≡ five_before five rest

-- the next two samples, and the newest three of those before them
pub record AreNextTwo (coefficients rest : List ℤ) (old : NewestFive) (nearest farther : ℤ)
    (shift : ℕ) (new : NewestFive) : Type 0 where
  pub second : new.second ≡ wrap (linear coefficients shift (five_before old rest) +ℤ nearest)
  pub newest : new.newest
      ≡ wrap (linear coefficients shift (new.second ∷ five_before old rest) +ℤ farther)
  pub past : new.newest ∷ new.second ∷ five_before old rest
      ≡ five_before new (old.fourth ∷ old.fifth ∷ rest)

-- the same, where the lanes hold the pending sums
abbrev pub IsFollowedByTwo : NewestFive → NewestFive → List ℤ → ℤ → ℤ → ℕ → NewestFive → Type 0
IsFollowedByTwo old five pending nearest farther shift new =
    (coefficients rest : List ℤ) → AreNewest coefficients five
    → pending ≡ four_pending coefficients (five_before old rest) 0
    → AreNextTwo coefficients rest old nearest farther shift new
