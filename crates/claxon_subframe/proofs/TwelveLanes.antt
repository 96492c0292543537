-- Twelve numbers in three vectors.
use Rattle.std.proofs.Common.{◌≡◌, ℕ, ◌+◌, ◌*◌, ◌≤◌, List, [], ◌∷◌, ◌++◌, length, reverse, get_or, map, refl, sym, ap, subst, ◌∙◌, arith, ℤ, pos, of_z, to_z, w64, unsigned_abs}
use Rattle.std.proofs.lemmas.Int.{to_z-of_z}
use Rattle.std.proofs.lemmas.List.{length-append}
use Rattle.claxon_subframe.specs.Lanes.{Within, Lanes}
use Rattle.claxon_subframe.specs.PendingSums.{FitVectors, AreNewest}
use Rattle.claxon_subframe.specs.TwelveLanes.{numbers, SmallTwelve, SmallTwelveTaps, AreTwelveTaps, AreTwelvePending}
use Rattle.claxon_subframe.specs.declared.subframe.predictor.lanes.NewestFive.{NewestFive}
use Rattle.claxon_subframe.specs.declared.subframe.predictor.low_order.TwelveLanes.{TwelveLanes}
use Rattle.claxon_subframe.specs.declared.subframe.predictor.low_order.TwelveTaps.{TwelveTaps}
use Rattle.claxon_subframe.proofs.Lanes.{small_fits, same_lanes, kept_lanes}
use Rattle.claxon_subframe.proofs.PendingSums.{four_pending_enough, four_same, four_lanes, coefficient_at, coefficient_at_is, coefficient_small}

-- ---- pending sums

pub twelve_enough : (ks past rest : List ℤ) (v : ℕ) (sums : TwelveLanes) → FitVectors v ks → 4 * v + 4 ≤ length past → AreTwelvePending ks past sums → AreTwelvePending ks (past ++ rest) sums
twelve_enough ks past rest v sums fit le w = record {
  at_8 = w.at_8 ∙ four_pending_enough ks past rest v 8 fit le;
  at_4 = w.at_4 ∙ four_pending_enough ks past rest v 4 fit le;
  at_0 = w.at_0 ∙ four_pending_enough ks past rest v 0 fit le;
}

-- ---- coefficients

-- a lane, as the code has it
abbrev lane : List ℤ → ℕ → ℤ
lane xs i = to_z w64 (of_z w64 (get_or (map (to_z w64) (map (of_z w64) xs)) i (pos 0)))

twice_in_64 : (x : ℤ) → unsigned_abs x ≤ 32768 → to_z w64 (of_z w64 (to_z w64 (of_z w64 x))) ≡ x
twice_in_64 x h =
    let f = small_fits 32768 x (omega arith) h in
    ap (λ (v : ℤ). to_z w64 (of_z w64 v)) (to_z-of_z w64 x f) ∙ to_z-of_z w64 x f

abbrev pub as_twelve_taps : TwelveLanes → TwelveTaps
as_twelve_taps t = record { second = record { at_8 = pos 0 ∷ lane t.at_8 0 ∷ lane t.at_8 1 ∷ lane t.at_8 2 ∷ []; at_4 = lane t.at_8 3 ∷ lane t.at_4 0 ∷ lane t.at_4 1 ∷ lane t.at_4 2 ∷ [] }; newest = record { at_8 = map (to_z w64) (map (of_z w64) t.at_8); at_4 = map (to_z w64) (map (of_z w64) t.at_4) } }

-- the newest five coefficients, as the code has them
abbrev pub as_last : TwelveLanes → NewestFive
as_last t = record { fifth = lane t.at_4 3; fourth = lane t.at_0 0; third = lane t.at_0 1; second = lane t.at_0 2; newest = lane t.at_0 3 }

taps_are_lanes : (xs ys zs : List ℤ) → Lanes 32768 xs → Lanes 32768 ys → Lanes 32768 zs → AreTwelveTaps (reverse (xs ++ (ys ++ zs))) (as_twelve_taps (record { at_8 = xs; at_4 = ys; at_0 = zs }))
taps_are_lanes (a ∷ b ∷ c ∷ d ∷ []) (e ∷ f ∷ g ∷ h ∷ []) (i ∷ j ∷ k ∷ l ∷ []) x y z =
    let a-is = twice_in_64 a x.each.0 in
    let b-is = twice_in_64 b x.each.1.0 in
    let c-is = twice_in_64 c x.each.1.1.0 in
    let d-is = twice_in_64 d x.each.1.1.1.0 in
    let e-is = twice_in_64 e y.each.0 in
    let f-is = twice_in_64 f y.each.1.0 in
    let g-is = twice_in_64 g y.each.1.1.0 in
    record {
      long = refl;
      second = record { at_8 = four_same refl a-is b-is c-is; at_4 = four_same d-is e-is f-is g-is };
      newest = record { at_8 = same_lanes (omega arith) x; at_4 = same_lanes (omega arith) y };
    }
taps_are_lanes xs ys zs x y z = absurd (omega (arith, x.four, y.four, z.four))

pub twelve_taps : (t : TwelveLanes) → SmallTwelve t → AreTwelveTaps (reverse (numbers t)) (as_twelve_taps t)
twelve_taps t h = taps_are_lanes t.at_8 t.at_4 t.at_0 h.at_8 h.at_4 h.at_0

lanes_small : (xs ys : List ℤ) → Lanes 32768 xs → Lanes 32768 ys → SmallTwelveTaps (as_twelve_taps (record { at_8 = xs; at_4 = ys; at_0 = [] }))
lanes_small (a ∷ b ∷ c ∷ d ∷ []) (e ∷ f ∷ g ∷ h ∷ []) x y =
    let small : (v : ℤ) → unsigned_abs v ≤ 32768 → unsigned_abs (to_z w64 (of_z w64 (to_z w64 (of_z w64 v)))) ≤ 32768 = λ v le. subst (λ (w : ℤ). unsigned_abs w ≤ 32768) (sym (twice_in_64 v le)) le in
    let none : unsigned_abs (pos 0) ≤ 32768 = omega arith in
    let a-is = small a x.each.0 in
    let b-is = small b x.each.1.0 in
    let c-is = small c x.each.1.1.0 in
    let d-is = small d x.each.1.1.1.0 in
    let e-is = small e y.each.0 in
    let f-is = small f y.each.1.0 in
    let g-is = small g y.each.1.1.0 in
    record {
      second = record { at_8 = four_lanes none a-is b-is c-is; at_4 = four_lanes d-is e-is f-is g-is };
      newest = record { at_8 = kept_lanes (omega arith) x; at_4 = kept_lanes (omega arith) y };
    }
lanes_small xs ys x y = absurd (omega (arith, x.four, y.four))

pub twelve_small : (t : TwelveLanes) → SmallTwelve t → SmallTwelveTaps (as_twelve_taps t)
twelve_small t h = lanes_small t.at_8 t.at_4 h.at_8 h.at_4

last_are_lanes : (xs ys zs : List ℤ) → Lanes 32768 xs → Lanes 32768 ys → Lanes 32768 zs → AreNewest (reverse (xs ++ (ys ++ zs))) (as_last (record { at_8 = xs; at_4 = ys; at_0 = zs }))
last_are_lanes (a ∷ b ∷ c ∷ d ∷ []) (e ∷ f ∷ g ∷ h ∷ []) (i ∷ j ∷ k ∷ l ∷ []) x y z = record {
  rest = g ∷ f ∷ e ∷ d ∷ c ∷ b ∷ a ∷ [];
  is = rw (twice_in_64 h y.each.1.1.1.0, twice_in_64 i z.each.0, twice_in_64 j z.each.1.0, twice_in_64 k z.each.1.1.0, twice_in_64 l z.each.1.1.1.0) refl;
}
last_are_lanes xs ys zs x y z = absurd (omega (arith, x.four, y.four, z.four))

pub twelve_last : (t : TwelveLanes) → SmallTwelve t → AreNewest (reverse (numbers t)) (as_last t)
twelve_last t h = last_are_lanes t.at_8 t.at_4 t.at_0 h.at_8 h.at_4 h.at_0

pub twelve_long : (t : TwelveLanes) → SmallTwelve t → length (numbers t) ≡ 12
twelve_long t h = omega (arith, length-append t.at_8 (t.at_4 ++ t.at_0), length-append t.at_4 t.at_0, h.at_8.four, h.at_4.four, h.at_0.four)

-- ---- vectors made of twelve numbers

abbrev pub as_twelve : List ℤ → TwelveLanes
as_twelve xs = record { at_8 = coefficient_at xs 0 ∷ coefficient_at xs 1 ∷ coefficient_at xs 2 ∷ coefficient_at xs 3 ∷ []; at_4 = coefficient_at xs 4 ∷ coefficient_at xs 5 ∷ coefficient_at xs 6 ∷ coefficient_at xs 7 ∷ []; at_0 = coefficient_at xs 8 ∷ coefficient_at xs 9 ∷ coefficient_at xs 10 ∷ coefficient_at xs 11 ∷ [] }

all_twelve : (xs : List ℤ) → length xs ≡ 12 → xs ≡ get_or xs 0 (pos 0) ∷ get_or xs 1 (pos 0) ∷ get_or xs 2 (pos 0) ∷ get_or xs 3 (pos 0) ∷ get_or xs 4 (pos 0) ∷ get_or xs 5 (pos 0) ∷ get_or xs 6 (pos 0) ∷ get_or xs 7 (pos 0) ∷ get_or xs 8 (pos 0) ∷ get_or xs 9 (pos 0) ∷ get_or xs 10 (pos 0) ∷ get_or xs 11 (pos 0) ∷ []
all_twelve (a ∷ b ∷ c ∷ d ∷ e ∷ f ∷ g ∷ h ∷ i ∷ j ∷ k ∷ l ∷ []) long = refl
all_twelve xs long = absurd (omega arith)

pub twelve_numbers : (xs : List ℤ) → length xs ≡ 12 → Within 32768 xs → numbers (as_twelve xs) ≡ xs
twelve_numbers xs long h =
    let z = λ (i : ℕ). coefficient_at_is xs i h in
    rw (z 0, z 1, z 2, z 3, z 4, z 5, z 6, z 7, z 8, z 9, z 10, z 11) (sym (all_twelve xs long))

pub as_twelve_small : (xs : List ℤ) → Within 32768 xs → SmallTwelve (as_twelve xs)
as_twelve_small xs h =
    let e = λ (i : ℕ). coefficient_small xs i h in
    record { at_8 = four_lanes (e 0) (e 1) (e 2) (e 3); at_4 = four_lanes (e 4) (e 5) (e 6) (e 7); at_0 = four_lanes (e 8) (e 9) (e 10) (e 11) }
