-- Lanes of 16 and 32 bits, and pending sums of samples of 16 bits.
use Rattle.std.proofs.Common.{◌≡◌, ℕ, zero, suc, Bool, true, false, ◌+◌, ◌-◌, ◌*◌, ◌<◌, ◌≤◌, List, [], ◌∷◌, ◌++◌, length, map, take, drop, reverse, replicate, get_or, slice_index_or, refl, sym, ap, subst, ◌∙◌, arith, ℤ, pos, neg_ℤ, ◌+ℤ◌, ◌*ℤ◌, ◌≤ℤ◌, of_z, to_z, w16, w32, w64, FitsSigned, unsigned_abs}
use Rattle.std.specs.Int.{int_wrap}
use Rattle.std.proofs.lemmas.Nat.{mul-le}
use Rattle.std.proofs.lemmas.Int.{ints, to_z-of_z, int_wrap_fits, SFits-int_wrap, unsigned_abs-mul}
use Rattle.std.proofs.lemmas.List.{append-nil, drop_all, drop_more, get_or_past, length-drop, length-replicate, length-reverse, reverse-append, take-replicate}
use borrow.Rule.Slice.PartMut.{put_mid}
use borrow.Rule.Simd.Lanes.{act1, act2}
use borrow.Table.Row.{s_int}
use mir.Syntax.{wrap_add, wrap_mul, cast, signed}
use lib.Lanes.{zip2}
use Rattle.claxon_format.specs.Predict.{dot}
use Rattle.claxon_format.proofs.WrappingArithmetic.{Represents, represents_add, represents_mul, represents_fits}
use Rattle.claxon_subframe.specs.Lanes.{AllFit64, LanesFit64}
use Rattle.claxon_subframe.specs.PendingSums.{but_newest_four, but_newest_five, pending_at, four_pending, FitVectors, AreNewest}
use Rattle.claxon_subframe.specs.Pairs.{AllFit16, Fit16, LanesFit16, AllFit32, LanesFit32, magnitude, pair_of, plus_pairs, advanced_by_pair, pair_taps, ArePairTaps}
use Rattle.claxon_subframe.specs.declared.subframe.predictor.lanes.NewestFive.{NewestFive}
use Rattle.claxon_subframe.specs.declared.subframe.predictor.lanes.LaterLanes.{LaterLanes}
use Rattle.claxon_subframe.proofs.Predictors.{abs_16, abs_32, between, value_16, value_32}
use Rattle.claxon_subframe.proofs.Lanes.{small_fits}
use Rattle.claxon_subframe.proofs.PendingSums.{dot_one, four_tap, five_tap, four_same, four_pending_past_vectors, from_last, five_first}

-- ---- lanes as an operation gets them, and as it gives them

abbrev pub as_lanes_16 : List ℤ → List ℤ
as_lanes_16 xs = map (to_z w16) (map (of_z w16) xs)

abbrev pub as_lanes_32 : List ℤ → List ℤ
as_lanes_32 xs = map (to_z w32) (map (of_z w32) xs)

same_each_16 : (xs : List ℤ) → AllFit16 xs → as_lanes_16 xs ≡ xs
same_each_16 [] h = refl
same_each_16 (x ∷ xs) h = ap (λ (y : ℤ). y ∷ as_lanes_16 xs) (to_z-of_z w16 x h.0) ∙ ap (λ (t : List ℤ). x ∷ t) (same_each_16 xs h.1)

same_each_32 : (xs : List ℤ) → AllFit32 xs → as_lanes_32 xs ≡ xs
same_each_32 [] h = refl
same_each_32 (x ∷ xs) h = ap (λ (y : ℤ). y ∷ as_lanes_32 xs) (to_z-of_z w32 x h.0) ∙ ap (λ (t : List ℤ). x ∷ t) (same_each_32 xs h.1)

pub same_fit_16 : {xs : List ℤ} → LanesFit16 xs → as_lanes_16 xs ≡ xs
same_fit_16 {xs} h = same_each_16 xs h.each

pub kept_fit_16 : {xs : List ℤ} → LanesFit16 xs → LanesFit16 (as_lanes_16 xs)
kept_fit_16 {xs} h = subst LanesFit16 (sym (same_fit_16 h)) h

pub same_fit_32 : {xs : List ℤ} → LanesFit32 xs → as_lanes_32 xs ≡ xs
same_fit_32 {xs} h = same_each_32 xs h.each

pub kept_fit_32 : {xs : List ℤ} → LanesFit32 xs → LanesFit32 (as_lanes_32 xs)
kept_fit_32 {xs} h = subst LanesFit32 (sym (same_fit_32 h)) h

pub lanes_16_are : {xs ys : List ℤ} → LanesFit16 xs → xs ≡ ys → as_lanes_16 xs ≡ ys
lanes_16_are {xs} {ys} h e = same_fit_16 h ∙ e

pub lanes_32_are : {xs ys : List ℤ} → LanesFit32 xs → xs ≡ ys → as_lanes_32 xs ≡ ys
lanes_32_are {xs} {ys} h e = same_fit_32 h ∙ e

-- ---- two products added to each lane

-- a number of 16 bits, in 32 bits
abbrev pub in_32 : ℕ → ℕ
in_32 n = act1 (cast signed signed w32) (s_int w16) (s_int w32) n

abbrev pub add_32 : ℕ → ℕ → ℕ
add_32 m n = act2 wrap_add (s_int w32) (s_int w32) (s_int w32) m n

abbrev pub mul_32 : ℕ → ℕ → ℕ
mul_32 m n = act2 wrap_mul (s_int w32) (s_int w32) (s_int w32) m n

pub wider_16 : (x : ℤ) → FitsSigned w16 x → FitsSigned w32 x
wider_16 x h = record { sfits = omega arith }

represents_16 : (x : ℤ) → FitsSigned w16 x → Represents w32 (in_32 (of_z w16 x)) x
represents_16 x h = subst (λ (u : ℤ). Represents w32 (of_z w32 u) x) (sym (to_z-of_z w16 x h)) (represents_fits x (wider_16 x h))

one_pair_added : (z c d x y : ℤ) → FitsSigned w32 z → FitsSigned w16 c → FitsSigned w16 d → FitsSigned w16 x → FitsSigned w16 y
    → to_z w32 (add_32 (of_z w32 z) (add_32 (mul_32 (in_32 (of_z w16 c)) (in_32 (of_z w16 x))) (mul_32 (in_32 (of_z w16 d)) (in_32 (of_z w16 y))))) ≡ int_wrap w32 (z +ℤ (c *ℤ x +ℤ d *ℤ y))
one_pair_added z c d x y fz fc fd fx fy =
    (represents_add (represents_fits z fz) (represents_add (represents_mul (represents_16 c fc) (represents_16 x fx)) (represents_mul (represents_16 d fd) (represents_16 y fy)))).value

abbrev pub products_32 : List ℤ → List ℤ → List ℕ
products_32 cs xs =
    zip2 (act2 wrap_mul (s_int w32) (s_int w32) (s_int w32)) (map (act1 (cast signed signed w32) (s_int w16) (s_int w32)) (map (of_z w16) cs)) (map (act1 (cast signed signed w32) (s_int w16) (s_int w32)) (map (of_z w16) xs))

abbrev pub pairs_added : List ℤ → List ℕ → List ℤ
pairs_added zs ps =
    map (to_z w32) (zip2 (act2 wrap_add (s_int w32) (s_int w32) (s_int w32)) (map (of_z w32) zs)
    (zip2 (act2 wrap_add (s_int w32) (s_int w32) (s_int w32)) (slice_index_or (ps ++ ps) 0 0 ∷ slice_index_or (ps ++ ps) 2 0 ∷ slice_index_or (ps ++ ps) 4 0 ∷ slice_index_or (ps ++ ps) 6 0 ∷ []) (slice_index_or (ps ++ ps) 1 0 ∷ slice_index_or (ps ++ ps) 3 0 ∷ slice_index_or (ps ++ ps) 5 0 ∷ slice_index_or (ps ++ ps) 7 0 ∷ [])))

pub pairs_added_is : (zs cs xs : List ℤ) → LanesFit32 zs → LanesFit16 cs → LanesFit16 xs → pairs_added zs (products_32 cs xs) ≡ plus_pairs zs cs xs
pairs_added_is (z ∷ w ∷ v ∷ u ∷ []) (c ∷ d ∷ e ∷ f ∷ g ∷ h ∷ i ∷ j ∷ []) (k ∷ l ∷ m ∷ n ∷ o ∷ p ∷ q ∷ r ∷ []) fz fc fx =
    four_same (one_pair_added z c d k l fz.each.0 fc.each.0 fc.each.1.0 fx.each.0 fx.each.1.0)
    (one_pair_added w e f m n fz.each.1.0 fc.each.1.1.0 fc.each.1.1.1.0 fx.each.1.1.0 fx.each.1.1.1.0)
    (one_pair_added v g h o p fz.each.1.1.0 fc.each.1.1.1.1.0 fc.each.1.1.1.1.1.0 fx.each.1.1.1.1.0 fx.each.1.1.1.1.1.0)
    (one_pair_added u i j q r fz.each.1.1.1.0 fc.each.1.1.1.1.1.1.0 fc.each.1.1.1.1.1.1.1.0 fx.each.1.1.1.1.1.1.0 fx.each.1.1.1.1.1.1.1.0)
pairs_added_is zs cs xs fz fc fx = absurd (omega (arith, fz.four, fc.eight, fx.eight))

pairs_fit_32 : (zs cs xs : List ℤ) → LanesFit32 zs → LanesFit16 cs → LanesFit16 xs → LanesFit32 (plus_pairs zs cs xs)
pairs_fit_32 (z ∷ w ∷ v ∷ u ∷ []) (c ∷ d ∷ e ∷ f ∷ g ∷ h ∷ i ∷ j ∷ []) (k ∷ l ∷ m ∷ n ∷ o ∷ p ∷ q ∷ r ∷ []) fz fc fx =
    record { four = refl; each = (SFits-int_wrap w32 _, (SFits-int_wrap w32 _, (SFits-int_wrap w32 _, (SFits-int_wrap w32 _, tt)))) }
pairs_fit_32 zs cs xs fz fc fx = absurd (omega (arith, fz.four, fc.eight, fx.eight))

pub added_fit_32 : (zs cs xs : List ℤ) → LanesFit32 zs → LanesFit16 cs → LanesFit16 xs → LanesFit32 (pairs_added zs (products_32 cs xs))
added_fit_32 zs cs xs fz fc fx = subst LanesFit32 (sym (pairs_added_is zs cs xs fz fc fx)) (pairs_fit_32 zs cs xs fz fc fx)

-- ---- lanes shifted by two

pub shifted_is : (before zs : List ℤ) → LanesFit32 before → LanesFit32 zs
    → to_z w32 (slice_index_or (map (of_z w32) before ++ map (of_z w32) zs) 2 0) ∷ to_z w32 (slice_index_or (map (of_z w32) before ++ map (of_z w32) zs) 3 0) ∷ to_z w32 (slice_index_or (map (of_z w32) before ++ map (of_z w32) zs) 4 0) ∷ to_z w32 (slice_index_or (map (of_z w32) before ++ map (of_z w32) zs) 5 0) ∷ [] ≡ drop 2 before ++ take 2 zs
shifted_is (a ∷ b ∷ c ∷ d ∷ []) (e ∷ f ∷ g ∷ h ∷ []) hb hz = four_same (to_z-of_z w32 c hb.each.1.1.0) (to_z-of_z w32 d hb.each.1.1.1.0) (to_z-of_z w32 e hz.each.0) (to_z-of_z w32 f hz.each.1.0)
shifted_is before zs hb hz = absurd (omega (arith, hb.four, hz.four))

shifted_fit_32 : (before zs : List ℤ) → LanesFit32 before → LanesFit32 zs → LanesFit32 (drop 2 before ++ take 2 zs)
shifted_fit_32 (a ∷ b ∷ c ∷ d ∷ []) (e ∷ f ∷ g ∷ h ∷ []) hb hz = record { four = refl; each = (hb.each.1.1.0, (hb.each.1.1.1.0, (hz.each.0, (hz.each.1.0, tt)))) }
shifted_fit_32 before zs hb hz = absurd (omega (arith, hb.four, hz.four))

-- the same for a call, whose arguments and result are vectors
pub shifted_by : {before zs m : List ℤ} → LanesFit32 before → LanesFit32 zs → LanesFit32 m → m ≡ drop 2 (as_lanes_32 before) ++ take 2 (as_lanes_32 zs) → as_lanes_32 m ≡ drop 2 before ++ take 2 zs
shifted_by {before} {zs} {m} hb hz hm e = same_fit_32 hm ∙ e ∙ rw (same_fit_32 hb, same_fit_32 hz) refl

pub later_pairs_are : (before zs cs xs m r : List ℤ) → LanesFit32 before → LanesFit32 zs → LanesFit16 cs → LanesFit16 xs → m ≡ drop 2 before ++ take 2 zs → r ≡ plus_pairs m (as_lanes_16 cs) (as_lanes_16 xs)
    → (as_lanes_32 r ≡ advanced_by_pair before zs cs xs) × LanesFit32 (as_lanes_32 r)
later_pairs_are before zs cs xs m r hb hz hc hx em er =
    let value : r ≡ advanced_by_pair before zs cs xs = er ∙ rw (em, same_fit_16 hc, same_fit_16 hx) refl in
    let fits : LanesFit32 r = subst LanesFit32 (sym value) (pairs_fit_32 (drop 2 before ++ take 2 zs) cs xs (shifted_fit_32 before zs hb hz) hc hx) in
    (same_fit_32 fits ∙ value, kept_fit_32 fits)

-- ---- sums of products of 16 bits fit 32 bits

plus_within : (a b : ℤ) (m n : ℕ) → neg_ℤ (pos (m * 32768)) ≤ℤ a → a ≤ℤ pos (m * 32768) → neg_ℤ (pos (n * 32768)) ≤ℤ b → b ≤ℤ pos (n * 32768)
    → (neg_ℤ (pos ((m + n) * 32768)) ≤ℤ (a +ℤ b)) × ((a +ℤ b) ≤ℤ pos ((m + n) * 32768))
plus_within a b m n al ah bl bh = (omega (arith, ints), omega (arith, ints))

dot_within : (ks past : List ℤ) → AllFit16 past → (neg_ℤ (pos (magnitude ks * 32768)) ≤ℤ dot ks past) × (dot ks past ≤ℤ pos (magnitude ks * 32768))
dot_within [] past h = (omega (arith, ints), omega (arith, ints))
dot_within (k ∷ ks) [] h = (omega (arith, ints), omega (arith, ints))
dot_within (k ∷ ks) (x ∷ past) h =
    let size : unsigned_abs (k *ℤ x) ≤ unsigned_abs k * 32768 = subst (λ (m : ℕ). m ≤ unsigned_abs k * 32768) (sym (unsigned_abs-mul k x)) (mul-le (unsigned_abs k) (unsigned_abs x) (unsigned_abs k) 32768 (omega arith) (abs_16 x h.0)) in
    let p = between (k *ℤ x) (unsigned_abs k * 32768) size in
    let q = dot_within ks past h.1 in
    plus_within (k *ℤ x) (dot ks past) (unsigned_abs k) (magnitude ks) p.0 p.1 q.0 q.1

within_fits_32 : (z : ℤ) (m : ℕ) → m < 65536 → neg_ℤ (pos (m * 32768)) ≤ℤ z → z ≤ℤ pos (m * 32768) → FitsSigned w32 z
within_fits_32 z m lt low high = omega (arith, ints)

within_fits_64 : (z : ℤ) (m : ℕ) → m < 65536 → neg_ℤ (pos (m * 32768)) ≤ℤ z → z ≤ℤ pos (m * 32768) → FitsSigned w64 z
within_fits_64 z m lt low high = omega (arith, ints)

magnitude_drop : (j : ℕ) (ks : List ℤ) → magnitude (drop j ks) ≤ magnitude ks
magnitude_drop zero ks = omega arith
magnitude_drop (suc j) [] = omega arith
magnitude_drop (suc j) (k ∷ ks) = omega (arith, magnitude_drop j ks)

dot_fits_32 : (ks past : List ℤ) (j : ℕ) → magnitude ks < 65536 → Fit16 past → FitsSigned w32 (dot (drop j ks) past)
dot_fits_32 ks past j small h =
    let w = dot_within (drop j ks) past h.each in
    within_fits_32 (dot (drop j ks) past) (magnitude (drop j ks)) (omega (arith, magnitude_drop j ks)) w.0 w.1

dot_fits_64 : (ks past : List ℤ) (j : ℕ) → magnitude ks < 65536 → Fit16 past → FitsSigned w64 (dot (drop j ks) past)
dot_fits_64 ks past j small h =
    let w = dot_within (drop j ks) past h.each in
    within_fits_64 (dot (drop j ks) past) (magnitude (drop j ks)) (omega (arith, magnitude_drop j ks)) w.0 w.1

pending_is : (ks past : List ℤ) (j : ℕ) → magnitude ks < 65536 → Fit16 past → pending_at ks past j ≡ dot (drop j ks) past
pending_is ks past j small h = int_wrap_fits w64 _ (dot_fits_64 ks past j small h)

-- the pending sum of a sample, after two more samples
pending_pair_more : (ks past : List ℤ) (x y : ℤ) (j k m : ℕ) → magnitude ks < 65536 → Fit16 (y ∷ x ∷ past) → k ≡ j + 1 → m ≡ j + 2
    → int_wrap w32 (pending_at ks past m +ℤ (get_or ks k (pos 0) *ℤ x +ℤ get_or ks j (pos 0) *ℤ y)) ≡ pending_at ks (y ∷ x ∷ past) j
pending_pair_more ks past x y j k m small h ek em =
    let older : Fit16 past = record { each = h.each.1.1 } in
    let next : k + 1 ≡ m = omega arith in
    let one : dot (drop k ks) (x ∷ past) ≡ get_or ks k (pos 0) *ℤ x +ℤ dot (drop m ks) past
    = subst (λ (n : ℕ). dot (drop k ks) (x ∷ past) ≡ get_or ks k (pos 0) *ℤ x +ℤ dot (drop n ks) past) next (dot_one ks k x past) in
    let two : dot (drop j ks) (y ∷ x ∷ past) ≡ get_or ks j (pos 0) *ℤ y +ℤ dot (drop k ks) (x ∷ past)
    = subst (λ (n : ℕ). dot (drop j ks) (y ∷ x ∷ past) ≡ get_or ks j (pos 0) *ℤ y +ℤ dot (drop n ks) (x ∷ past)) (sym ek) (dot_one ks j y (x ∷ past)) in
    let regroup : (a b c : ℤ) → a +ℤ (b +ℤ c) ≡ c +ℤ (b +ℤ a) = λ a b c. omega (arith, ints) in
    let all : pending_at ks past m +ℤ (get_or ks k (pos 0) *ℤ x +ℤ get_or ks j (pos 0) *ℤ y) ≡ dot (drop j ks) (y ∷ x ∷ past)
    = ap (λ (v : ℤ). v +ℤ (get_or ks k (pos 0) *ℤ x +ℤ get_or ks j (pos 0) *ℤ y)) (pending_is ks past m small older)
    ∙ regroup (dot (drop m ks) past) (get_or ks k (pos 0) *ℤ x) (get_or ks j (pos 0) *ℤ y) ∙ ap (λ (v : ℤ). get_or ks j (pos 0) *ℤ y +ℤ v) (sym one) ∙ sym two in
    ap (int_wrap w32) all ∙ int_wrap_fits w32 _ (dot_fits_32 ks (y ∷ x ∷ past) j small h) ∙ sym (pending_is ks (y ∷ x ∷ past) j small h)

-- the same with products of the coefficients c and d
pending_pair : (ks past : List ℤ) (x y c d : ℤ) (j k m : ℕ) → magnitude ks < 65536 → Fit16 (y ∷ x ∷ past) → k ≡ j + 1 → m ≡ j + 2 → c ≡ get_or ks k (pos 0) → d ≡ get_or ks j (pos 0)
    → int_wrap w32 (pending_at ks past m +ℤ (c *ℤ x +ℤ d *ℤ y)) ≡ pending_at ks (y ∷ x ∷ past) j
pending_pair ks past x y c d j k m small h ek em ec ed = rw (ec, ed) (pending_pair_more ks past x y j k m small h ek em)

four_small : (ks : List ℤ) → magnitude ks < 65536 → magnitude (but_newest_four ks) < 65536
four_small ks small = omega (arith, magnitude_drop 4 ks)

five_small : (ks : List ℤ) → magnitude ks < 65536 → magnitude (but_newest_five ks) < 65536
five_small ks small = omega (arith, magnitude_drop 5 ks)

advanced_by_pair_at : (ks past : List ℤ) (x y : ℤ) (j : ℕ) → 4 ≤ j → magnitude ks < 65536 → Fit16 (y ∷ x ∷ past)
    → advanced_by_pair (four_pending ks past (j + 4)) (four_pending ks past j) (pair_taps ks j) (pair_of x y) ≡ four_pending ks (y ∷ x ∷ past) j
advanced_by_pair_at ks past x y j far small h =
    let four = four_small ks small in
    let five = five_small ks small in
    four_same (pending_pair (but_newest_five ks) past x y _ _ (j + 3) (j + 1 + 3) (j + 4 + 1) five h (omega arith) (omega arith) (five_tap ks (j + 1 + 3) (omega arith)) (five_tap ks (j + 3) (omega arith)))
    (pending_pair (but_newest_four ks) past x y _ _ (j + 2) (j + 1 + 2) (j + 4) four h (omega arith) (omega arith) (four_tap ks (j + 1 + 2) (omega arith)) (four_tap ks (j + 2) (omega arith)))
    (pending_pair (but_newest_five ks) past x y _ _ (j + 1) (j + 1 + 1) (j + 3) five h (omega arith) (omega arith) (five_tap ks (j + 1 + 1) (omega arith)) (five_tap ks (j + 1) (omega arith)))
    (pending_pair (but_newest_four ks) past x y _ _ j (j + 1) (j + 2) four h (omega arith) (omega arith) (four_tap ks (j + 1) (omega arith)) (four_tap ks j far))

pending_fits_32 : (ks past : List ℤ) (j : ℕ) → magnitude ks < 65536 → Fit16 past → FitsSigned w32 (pending_at ks past j)
pending_fits_32 ks past j small h = subst (FitsSigned w32) (sym (pending_is ks past j small h)) (dot_fits_32 ks past j small h)

pub four_pending_fit_32 : (ks past : List ℤ) (j : ℕ) → magnitude ks < 65536 → Fit16 past → LanesFit32 (four_pending ks past j)
four_pending_fit_32 ks past j small h =
    let four = λ (i : ℕ). pending_fits_32 (but_newest_four ks) past i (four_small ks small) h in
    let five = λ (i : ℕ). pending_fits_32 (but_newest_five ks) past i (five_small ks small) h in
    record { four = refl; each = (five (j + 3), (four (j + 2), (five (j + 1), (four j, tt)))) }

advanced_same : {before b zs z cs c xs x : List ℤ} → before ≡ b → zs ≡ z → cs ≡ c → xs ≡ x → advanced_by_pair before zs cs xs ≡ advanced_by_pair b z c x
advanced_same {before} {b} {zs} {z} {cs} {c} {xs} {x} eb ez ec ex =
    ap (λ (l : List ℤ). advanced_by_pair l zs cs xs) eb ∙ ap (λ (l : List ℤ). advanced_by_pair b l cs xs) ez ∙ ap (λ (l : List ℤ). advanced_by_pair b z l xs) ec ∙ ap (λ (l : List ℤ). advanced_by_pair b z c l) ex

-- a vector of pending sums, as a call computes it
module _ (ks past : List ℤ) (x y : ℤ) (v : ℕ) (fit : FitVectors v ks) (small : magnitude ks < 65536) (h : Fit16 (y ∷ x ∷ past)) {w : List ℤ} (ew : w ≡ pair_of x y) where
  pub later_pairs_advanced : (j : ℕ) (has : Bool) (b s t r : List ℤ) → 4 ≤ j → (has ≡ false → 4 * v + 4 ≤ j) → (has ≡ true → r ≡ advanced_by_pair b s t w) → (has ≡ false → r ≡ replicate 4 (pos 0))
      → b ≡ four_pending ks past (j + 4) → s ≡ four_pending ks past j → t ≡ pair_taps ks j → as_lanes_32 r ≡ four_pending ks (y ∷ x ∷ past) j
  later_pairs_advanced j true b s t r far few e none eb es et =
      let value : r ≡ four_pending ks (y ∷ x ∷ past) j = e refl ∙ advanced_same eb es et ew ∙ advanced_by_pair_at ks past x y j far small h in
      ap as_lanes_32 value ∙ same_fit_32 (four_pending_fit_32 ks (y ∷ x ∷ past) j small h)
  later_pairs_advanced j false b s t r far few e none eb es et =
      let value : r ≡ four_pending ks (y ∷ x ∷ past) j = none refl ∙ four_pending_past_vectors ks (y ∷ x ∷ past) v j (few refl) fit in
      ap as_lanes_32 value ∙ same_fit_32 (four_pending_fit_32 ks (y ∷ x ∷ past) j small h)

pair_fit_16 : (x y : ℤ) → FitsSigned w16 x → FitsSigned w16 y → LanesFit16 (pair_of x y)
pair_fit_16 x y fx fy = record { eight = refl; each = (fx, (fy, (fx, (fy, (fx, (fy, (fx, (fy, tt)))))))) }

pub pair_is : (x y : ℤ) (xs : List ℤ) → FitsSigned w16 x → FitsSigned w16 y → xs ≡ pair_of (to_z w64 (of_z w64 x)) (to_z w64 (of_z w64 y)) → as_lanes_16 xs ≡ pair_of x y
pair_is x y xs fx fy e =
    let ex : to_z w64 (of_z w64 x) ≡ x = to_z-of_z w64 x (record { sfits = omega arith }) in
    let ey : to_z w64 (of_z w64 y) ≡ y = to_z-of_z w64 y (record { sfits = omega arith }) in
    let value : xs ≡ pair_of x y = e ∙ rw (ex, ey) refl in
    ap as_lanes_16 value ∙ same_fit_16 (pair_fit_16 x y fx fy)

-- ---- samples of 16 bits

all_fit_append : (xs ys : List ℤ) → AllFit16 xs → AllFit16 ys → AllFit16 (xs ++ ys)
all_fit_append [] ys h k = k
all_fit_append (x ∷ xs) ys h k = (h.0, all_fit_append xs ys h.1 k)

all_fit_reverse : (xs : List ℤ) → AllFit16 xs → AllFit16 (reverse xs)
all_fit_reverse [] h = tt
all_fit_reverse (x ∷ xs) h = subst AllFit16 (sym (reverse-append (x ∷ []) xs)) (all_fit_append (reverse xs) (x ∷ []) (all_fit_reverse xs h.1) (h.0, tt))

all_fit_take : (n : ℕ) (xs : List ℤ) → AllFit16 xs → AllFit16 (take n xs)
all_fit_take zero xs h = tt
all_fit_take (suc n) [] h = tt
all_fit_take (suc n) (x ∷ xs) h = (h.0, all_fit_take n xs h.1)

all_fit_at : (xs : List ℤ) (i : ℕ) → AllFit16 xs → FitsSigned w16 (get_or xs i (pos 0))
all_fit_at [] i h = record { sfits = omega arith }
all_fit_at (x ∷ xs) zero h = h.0
all_fit_at (x ∷ xs) (suc i) h = all_fit_at xs i h.1

pub fit_take : {xs : List ℤ} (n : ℕ) → Fit16 xs → Fit16 (take n xs)
fit_take {xs} n h = record { each = all_fit_take n xs h.each }

pub fit_two : {past : List ℤ} (x y : ℤ) → FitsSigned w16 x → FitsSigned w16 y → Fit16 past → Fit16 (y ∷ x ∷ past)
fit_two {past} x y fx fy h = record { each = (fy, (fx, h.each)) }

-- ---- the coefficients, as the code makes them of 32 numbers

abbrev pub tap_at : List ℤ → ℕ → ℤ
tap_at ts j = to_z w16 (of_z w16 (get_or ts j (pos 0)))

abbrev pub as_pair_taps : List ℤ → LaterLanes (List ℤ)
as_pair_taps ts = record { at_4 = tap_at ts 23 ∷ tap_at ts 24 ∷ tap_at ts 24 ∷ tap_at ts 25 ∷ tap_at ts 25 ∷ tap_at ts 26 ∷ tap_at ts 26 ∷ tap_at ts 27 ∷ []; at_8 = tap_at ts 19 ∷ tap_at ts 20 ∷ tap_at ts 20 ∷ tap_at ts 21 ∷ tap_at ts 21 ∷ tap_at ts 22 ∷ tap_at ts 22 ∷ tap_at ts 23 ∷ []; at_12 = tap_at ts 15 ∷ tap_at ts 16 ∷ tap_at ts 16 ∷ tap_at ts 17 ∷ tap_at ts 17 ∷ tap_at ts 18 ∷ tap_at ts 18 ∷ tap_at ts 19 ∷ []; at_16 = tap_at ts 11 ∷ tap_at ts 12 ∷ tap_at ts 12 ∷ tap_at ts 13 ∷ tap_at ts 13 ∷ tap_at ts 14 ∷ tap_at ts 14 ∷ tap_at ts 15 ∷ []; at_20 = tap_at ts 7 ∷ tap_at ts 8 ∷ tap_at ts 8 ∷ tap_at ts 9 ∷ tap_at ts 9 ∷ tap_at ts 10 ∷ tap_at ts 10 ∷ tap_at ts 11 ∷ []; at_24 = tap_at ts 3 ∷ tap_at ts 4 ∷ tap_at ts 4 ∷ tap_at ts 5 ∷ tap_at ts 5 ∷ tap_at ts 6 ∷ tap_at ts 6 ∷ tap_at ts 7 ∷ []; at_28 = pos 0 ∷ tap_at ts 0 ∷ tap_at ts 0 ∷ tap_at ts 1 ∷ tap_at ts 1 ∷ tap_at ts 2 ∷ tap_at ts 2 ∷ tap_at ts 3 ∷ [] }

eight_same : {a b c d e f g h i j k l m n o p : ℤ} → a ≡ i → b ≡ j → c ≡ k → d ≡ l → e ≡ m → f ≡ n → g ≡ o → h ≡ p → a ∷ b ∷ c ∷ d ∷ e ∷ f ∷ g ∷ h ∷ [] ≡ i ∷ j ∷ k ∷ l ∷ m ∷ n ∷ o ∷ p ∷ []
eight_same ea eb ec ed ee ef eg eh = rw (ea, eb, ec, ed, ee, ef, eg, eh) refl

-- n numbers that were read from place i on
abbrev pub read_from : List ℤ → ℕ → ℕ → List ℤ
read_from ts i zero = []
read_from ts i (suc n) = get_or ts i (pos 0) ∷ read_from ts (i + 1) n

pub pair_taps_value : (ts : List ℤ) → length ts ≡ 32 → AllFit16 (read_from ts 0 28) → ArePairTaps (reverse ts) (as_pair_taps ts)
pair_taps_value ts long fits =
    let f = λ (k : ℕ). all_fit_at (read_from ts 0 28) k fits in
    let same : (i k : ℕ) → i + k + 1 ≡ 32 → FitsSigned w16 (get_or ts k (pos 0)) → tap_at ts k ≡ get_or (reverse ts) i (pos 0) = λ i k e h. to_z-of_z w16 (get_or ts k (pos 0)) h ∙ sym (from_last ts 32 i k long e) in
    let past : pos 0 ≡ get_or (reverse ts) 32 (pos 0) = sym (get_or_past (reverse ts) 32 (pos 0) (omega (arith, length-reverse ts))) in
    record {
      long = omega (arith, length-reverse ts);
      at_4 = eight_same (same 8 23 refl (f 23)) (same 7 24 refl (f 24)) (same 7 24 refl (f 24)) (same 6 25 refl (f 25)) (same 6 25 refl (f 25)) (same 5 26 refl (f 26)) (same 5 26 refl (f 26)) (same 4 27 refl (f 27));
      at_8 = eight_same (same 12 19 refl (f 19)) (same 11 20 refl (f 20)) (same 11 20 refl (f 20)) (same 10 21 refl (f 21)) (same 10 21 refl (f 21)) (same 9 22 refl (f 22)) (same 9 22 refl (f 22)) (same 8 23 refl (f 23));
      at_12 = eight_same (same 16 15 refl (f 15)) (same 15 16 refl (f 16)) (same 15 16 refl (f 16)) (same 14 17 refl (f 17)) (same 14 17 refl (f 17)) (same 13 18 refl (f 18)) (same 13 18 refl (f 18)) (same 12 19 refl (f 19));
      at_16 = eight_same (same 20 11 refl (f 11)) (same 19 12 refl (f 12)) (same 19 12 refl (f 12)) (same 18 13 refl (f 13)) (same 18 13 refl (f 13)) (same 17 14 refl (f 14)) (same 17 14 refl (f 14)) (same 16 15 refl (f 15));
      at_20 = eight_same (same 24 7 refl (f 7)) (same 23 8 refl (f 8)) (same 23 8 refl (f 8)) (same 22 9 refl (f 9)) (same 22 9 refl (f 9)) (same 21 10 refl (f 10)) (same 21 10 refl (f 10)) (same 20 11 refl (f 11));
      at_24 = eight_same (same 28 3 refl (f 3)) (same 27 4 refl (f 4)) (same 27 4 refl (f 4)) (same 26 5 refl (f 5)) (same 26 5 refl (f 5)) (same 25 6 refl (f 6)) (same 25 6 refl (f 6)) (same 24 7 refl (f 7));
      at_28 = eight_same past (same 31 0 refl (f 0)) (same 31 0 refl (f 0)) (same 30 1 refl (f 1)) (same 30 1 refl (f 1)) (same 29 2 refl (f 2)) (same 29 2 refl (f 2)) (same 28 3 refl (f 3));
    }

-- ---- the sum of magnitudes

pub magnitude_more : (ks : List ℤ) (i sum total c : ℕ) → i < length ks → c ≡ unsigned_abs (get_or ks i (pos 0)) → sum + magnitude (drop i ks) ≡ total → (sum + c) + magnitude (drop (i + 1) ks) ≡ total
magnitude_more ks i sum total c lt ec e =
    let next : magnitude (drop i ks) ≡ unsigned_abs (get_or ks i (pos 0)) + magnitude (drop (i + 1) ks) = ap magnitude (drop_more ks i (pos 0) lt) in
    omega arith

pub magnitude_all : (ks : List ℤ) (i sum total : ℕ) → length ks ≤ i → sum + magnitude (drop i ks) ≡ total → sum ≡ total
magnitude_all ks i sum total all e =
    let none : magnitude (drop i ks) ≡ 0 = ap magnitude (drop_all i ks all) in
    omega arith

-- zeros, and in the place of the last of them other numbers
pub zeros_then : (n : ℕ) (cs ys : List ℤ) → length cs ≤ n → ys ≡ cs → put_mid (n - length cs) (n - (n - length cs)) (replicate n (pos 0)) ys ≡ replicate (n - length cs) (pos 0) ++ cs
zeros_then n cs ys le e =
    let k : ℕ = n - length cs in
    let front : take k (replicate n (pos 0)) ≡ replicate k (pos 0) = take-replicate k n (pos 0) (omega arith) in
    let gone : drop (n - k) (drop k (replicate n (pos 0))) ≡ [] = drop_all (n - k) (drop k (replicate n (pos 0))) (omega (arith, length-drop k (replicate n (pos 0)), length-replicate n (pos 0))) in
    ap (λ (l : List ℤ). l ++ (ys ++ drop (n - k) (drop k (replicate n (pos 0))))) front ∙ ap (λ (l : List ℤ). replicate k (pos 0) ++ (ys ++ l)) gone
    ∙ ap (λ (l : List ℤ). replicate k (pos 0) ++ l) (append-nil ys ∙ e)

-- ---- lanes in 64 bits

widened_each : (xs : List ℤ) → AllFit32 xs → map (to_z w64) (map (act1 (cast signed signed w64) (s_int w32) (s_int w64)) (map (of_z w32) xs)) ≡ xs
widened_each [] h = refl
widened_each (x ∷ xs) h = rw (value_32 x h.0, widened_each xs h.1) refl

pub widened_is : (xs : List ℤ) → LanesFit32 xs → map (to_z w64) (map (act1 (cast signed signed w64) (s_int w32) (s_int w64)) (map (of_z w32) xs)) ≡ xs
widened_is xs h = widened_each xs h.each

all_fit_64 : (xs : List ℤ) → AllFit32 xs → AllFit64 xs
all_fit_64 [] h = tt
all_fit_64 (x ∷ xs) h = (small_fits 2147483648 x (omega arith) (abs_32 x h.0), all_fit_64 xs h.1)

pub widened_fit_64 : (xs : List ℤ) → LanesFit32 xs → LanesFit64 (map (to_z w64) (map (act1 (cast signed signed w64) (s_int w32) (s_int w64)) (map (of_z w32) xs)))
widened_fit_64 xs h = subst LanesFit64 (sym (widened_is xs h)) (record { four = h.four; each = all_fit_64 xs h.each })

-- a number of 16 bits, widened to 64
pub widened_16 : (x y : ℤ) → FitsSigned w16 x → y ≡ to_z w16 (of_z w16 x) → to_z w64 (of_z w64 y) ≡ x
widened_16 x y f e = ap (λ (v : ℤ). to_z w64 (of_z w64 v)) e ∙ value_16 x f

-- ---- the coefficients

-- the last five of 32 are the newest
pub last_five_are : (ts : List ℤ) (s : NewestFive) → length ts ≡ 32 → s.fifth ≡ get_or ts 27 (pos 0) → s.fourth ≡ get_or ts 28 (pos 0) → s.third ≡ get_or ts 29 (pos 0) → s.second ≡ get_or ts 30 (pos 0) → s.newest ≡ get_or ts 31 (pos 0) → AreNewest (reverse ts) s
last_five_are ts s long e27 e28 e29 e30 e31 = record {
  rest = drop 5 (reverse ts);
  is = five_first (reverse ts) (omega (arith, length-reverse ts))
      ∙ rw (from_last ts 32 0 31 long refl, from_last ts 32 1 30 long refl, from_last ts 32 2 29 long refl, from_last ts 32 3 28 long refl, from_last ts 32 4 27 long refl, e27, e28, e29, e30, e31) refl;
}

magnitude_append : (xs ys : List ℤ) → magnitude (xs ++ ys) ≡ magnitude xs + magnitude ys
magnitude_append [] ys = omega arith
magnitude_append (x ∷ xs) ys = omega (arith, magnitude_append xs ys)

magnitude_reverse : (xs : List ℤ) → magnitude (reverse xs) ≡ magnitude xs
magnitude_reverse [] = refl
magnitude_reverse (x ∷ xs) = ap magnitude (reverse-append (x ∷ []) xs) ∙ magnitude_append (reverse xs) (x ∷ []) ∙ omega (arith, magnitude_reverse xs)

magnitude_zeros : (n : ℕ) → magnitude (replicate n (pos 0)) ≡ 0
magnitude_zeros zero = refl
magnitude_zeros (suc n) = omega (arith, magnitude_zeros n)

pub magnitude_padded : (k : ℕ) (cs padded : List ℤ) → padded ≡ replicate k (pos 0) ++ cs → magnitude padded ≡ magnitude cs
magnitude_padded k cs padded e = ap magnitude e ∙ magnitude_append (replicate k (pos 0)) cs ∙ omega (arith, magnitude_zeros k)

pub reversed_small : (ts : List ℤ) (m : ℕ) → magnitude ts < m → magnitude (reverse ts) < m
reversed_small ts m lt = omega (arith, magnitude_reverse ts)
