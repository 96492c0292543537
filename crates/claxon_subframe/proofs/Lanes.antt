-- Four lanes: what each operation on them computes.
use Rattle.std.proofs.Common.{◌≡◌, ℕ, zero, suc, ◌+◌, ◌-◌, ◌*◌, ◌/◌, ◌%◌, ◌^◌, ◌<◌, ◌≤◌, inl, inr, List, [], ◌∷◌, ◌++◌, length, map, take, drop, replicate, refl, sym, ap, subst, ◌∙◌, arith, ℤ, pos, negsuc, ◌+ℤ◌, ◌*ℤ◌, of_z, to_z, w64, FitsSigned, unsigned_abs}
use Rattle.std.specs.Int.Signed.{shr_z}
use Rattle.std.proofs.Math.IntN.{+ℤ_idl, suc_ℤ, suc_ℤ-*ℤ, zero-*ℤ}
use Rattle.std.proofs.Math.Nat.{add-div_right, div-eq_of_lt}
use Rattle.std.proofs.lemmas.Bool.{cases_lt}
use Rattle.std.proofs.lemmas.Simd.{length-zip2}
use Rattle.std.proofs.lemmas.List.{length-map, length-append, length-drop, length-take}
use Rattle.std.proofs.lemmas.Int.{ints, to_z-of_z, int_wrap_fits, fits_signed_from_abs, fits_signed_mul, wrapping_mul_is, SFits-int_wrap}
use borrow.Rule.Simd.Lanes.{act2}
use borrow.Table.Row.{s_int}
use mir.Syntax.{wrap_add, wrap_mul, shl, shr, signed}
use lib.Lanes.{zip2}
use Rattle.claxon_format.specs.Predict.{dot}
use Rattle.claxon_subframe.specs.Lanes.{AllWithin, Lanes, AllFit64, LanesFit64, wrap_64, plus_products, advanced_by_two}
use Rattle.claxon_format.proofs.WrappingArithmetic.{represents_add, represents_mul, represents_fits}

-- ---- division by a power of two, rounded down

one_up : (q : ℕ) → negsuc q ≡ negsuc (q + 1) +ℤ pos 1
one_up q = omega (arith, ints)

shr_step : (z : ℤ) (m : ℕ) → 0 < m → shr_z (z +ℤ pos m) m ≡ shr_z z m +ℤ pos 1
shr_step (pos a) m h = ap pos (add-div_right a h)
shr_step (negsuc a) m h =
    elim (cases_lt a m) [
      | inl small ↦
          (let sum : negsuc a +ℤ pos m ≡ pos (m - suc a) = omega (arith, ints) in
          let low : (m - suc a) / m ≡ 0 = div-eq_of_lt (omega arith) in
          let high : a / m ≡ 0 = div-eq_of_lt small in
          rw (sum, low, high) refl)
      | inr large ↦
          (let sum : negsuc a +ℤ pos m ≡ negsuc (a - m) = omega (arith, ints) in
          let part : a - m + m ≡ a = omega arith in
          let more : a / m ≡ (a - m) / m + 1 = ap (λ (n : ℕ). n / m) (sym part) ∙ add-div_right (a - m) h in
          ap (λ (y : ℤ). shr_z y m) sum ∙ one_up ((a - m) / m) ∙ ap (λ (n : ℕ). negsuc n +ℤ pos 1) (sym more))
    ]

next : (r p : ℤ) (m : ℕ) → suc_ℤ r *ℤ pos m +ℤ p ≡ (r *ℤ pos m +ℤ p) +ℤ pos m
next r p m = ap (λ (y : ℤ). y +ℤ p) (suc_ℤ-*ℤ r (pos m)) ∙ omega (arith, ints)

more_pos : (n : ℕ) (p : ℤ) (m : ℕ) → 0 < m → shr_z (pos n *ℤ pos m +ℤ p) m ≡ pos n +ℤ shr_z p m
more_pos zero p m h = ap (λ (y : ℤ). shr_z (y +ℤ p) m) (zero-*ℤ (pos m)) ∙ ap (λ (y : ℤ). shr_z y m) (+ℤ_idl p) ∙ sym (+ℤ_idl (shr_z p m))
more_pos (suc n) p m h =
    ap (λ (y : ℤ). shr_z y m) (next (pos n) p m) ∙ shr_step (pos n *ℤ pos m +ℤ p) m h ∙ ap (λ (y : ℤ). y +ℤ pos 1) (more_pos n p m h)
    ∙ omega (arith, ints)

more_neg : (n : ℕ) (p : ℤ) (m : ℕ) → 0 < m → shr_z (negsuc n *ℤ pos m +ℤ p) m ≡ negsuc n +ℤ shr_z p m
more_neg zero p m h =
    let e = sym (shr_step (negsuc zero *ℤ pos m +ℤ p) m h) ∙ ap (λ (y : ℤ). shr_z y m) (sym (next (negsuc zero) p m)) ∙ more_pos zero p m h in
    omega (arith, ints, e)
more_neg (suc n) p m h =
    let e = sym (shr_step (negsuc (suc n) *ℤ pos m +ℤ p) m h) ∙ ap (λ (y : ℤ). shr_z y m) (sym (next (negsuc (suc n)) p m)) ∙ more_neg n p m h in
    omega (arith, ints, e)

pub shr_more : (r p : ℤ) (m : ℕ) → 0 < m → shr_z (r *ℤ pos m +ℤ p) m ≡ r +ℤ shr_z p m
shr_more (pos n) p m h = more_pos n p m h
shr_more (negsuc n) p m h = more_neg n p m h

-- ---- lanes as an operation gets them, and as it gives them

pub small_fits : (m : ℕ) (x : ℤ) → m < 2 ^ 63 → unsigned_abs x ≤ m → FitsSigned w64 x
small_fits m x lt h = fits_signed_from_abs w64 x (omega arith)

same_each : (xs : List ℤ) → AllFit64 xs → map (to_z w64) (map (of_z w64) xs) ≡ xs
same_each [] h = refl
same_each (x ∷ xs) h = ap (λ (y : ℤ). y ∷ map (to_z w64) (map (of_z w64) xs)) (to_z-of_z w64 x h.0) ∙ ap (λ (t : List ℤ). x ∷ t) (same_each xs h.1)

small_each : (m : ℕ) (xs : List ℤ) → m < 2 ^ 63 → AllWithin m xs → AllFit64 xs
small_each m [] lt h = tt
small_each m (x ∷ xs) lt h = (small_fits m x lt h.0, small_each m xs lt h.1)

pub same_lanes : {m : ℕ} {xs : List ℤ} → m < 2 ^ 63 → Lanes m xs → map (to_z w64) (map (of_z w64) xs) ≡ xs
same_lanes {m} {xs} lt h = same_each xs (small_each m xs lt h.each)

pub kept_lanes : {m : ℕ} {xs : List ℤ} → m < 2 ^ 63 → Lanes m xs → Lanes m (map (to_z w64) (map (of_z w64) xs))
kept_lanes {m} {xs} lt h = subst (Lanes m) (sym (same_lanes lt h)) h

pub same_fit_64 : {xs : List ℤ} → LanesFit64 xs → map (to_z w64) (map (of_z w64) xs) ≡ xs
same_fit_64 {xs} h = same_each xs h.each

pub kept_fit_64 : {xs : List ℤ} → LanesFit64 xs → LanesFit64 (map (to_z w64) (map (of_z w64) xs))
kept_fit_64 {xs} h = subst LanesFit64 (sym (same_fit_64 h)) h

-- ---- lanes of 32 bits

back : (x : ℤ) → shr_z (x *ℤ pos 4294967296) 4294967296 ≡ x
back x =
    let all : x *ℤ pos 4294967296 ≡ x *ℤ pos 4294967296 +ℤ pos 0 = omega (arith, ints) in
    let same : x +ℤ pos 0 ≡ x = omega (arith, ints) in
    ap (λ (y : ℤ). shr_z y 4294967296) all ∙ shr_more x (pos 0) 4294967296 (omega arith) ∙ same

one_sign_extended : (x : ℤ) → unsigned_abs x ≤ 32768 → to_z w64 (act2 (shr signed) (s_int w64) (s_int w64) (s_int w64) (act2 shl (s_int w64) (s_int w64) (s_int w64) (of_z w64 x) 32) 32) ≡ x
one_sign_extended x h =
    let fx : FitsSigned w64 x = fits_signed_from_abs w64 x (omega arith) in
    let f32 : FitsSigned w64 (pos 4294967296) = record { sfits = omega arith } in
    let fp : FitsSigned w64 (x *ℤ pos 4294967296) = fits_signed_mul w64 x (pos 4294967296) 32768 4294967296 h (omega arith) (omega arith) in
    let m : to_z w64 (of_z w64 x * 4294967296 % 18446744073709551616) ≡ x *ℤ pos 4294967296 = wrapping_mul_is w64 x (pos 4294967296) fx f32 ∙ int_wrap_fits w64 (x *ℤ pos 4294967296) fp in
    ap (λ (y : ℤ). to_z w64 (of_z w64 (shr_z y 4294967296))) m ∙ ap (λ (y : ℤ). to_z w64 (of_z w64 y)) (back x) ∙ to_z-of_z w64 x fx

pub sign_extended_is : (xs : List ℤ) → Lanes 32768 xs
    → map (to_z w64) (zip2 (act2 (shr signed) (s_int w64) (s_int w64) (s_int w64)) (zip2 (act2 shl (s_int w64) (s_int w64) (s_int w64)) (map (of_z w64) xs) (32 ∷ 32 ∷ 32 ∷ 32 ∷ [])) (32 ∷ 32 ∷ 32 ∷ 32 ∷ [])) ≡ xs
sign_extended_is [] h = refl
sign_extended_is (a ∷ []) h = absurd (omega arith)
sign_extended_is (a ∷ b ∷ []) h = absurd (omega arith)
sign_extended_is (a ∷ b ∷ c ∷ []) h = absurd (omega arith)
sign_extended_is (a ∷ b ∷ c ∷ d ∷ []) h = rw (one_sign_extended a h.each.0, one_sign_extended b h.each.1.0, one_sign_extended c h.each.1.1.0, one_sign_extended d h.each.1.1.1.0) refl
sign_extended_is (a ∷ b ∷ c ∷ d ∷ e ∷ xs) h = absurd (omega arith)

-- ---- products added to sums

one_added : (z c x : ℤ) → FitsSigned w64 z → unsigned_abs c ≤ 32768 → unsigned_abs x ≤ 2147483648
    → to_z w64 (act2 wrap_add (s_int w64) (s_int w64) (s_int w64) (of_z w64 z) (act2 wrap_mul (s_int w64) (s_int w64) (s_int w64) (of_z w64 c) (of_z w64 x))) ≡ wrap_64 (z +ℤ c *ℤ x)
one_added z c x fz hc hx =
    let fc : FitsSigned w64 c = fits_signed_from_abs w64 c (omega arith) in
    let fx : FitsSigned w64 x = fits_signed_from_abs w64 x (omega arith) in
    (represents_add (represents_fits z fz) (represents_mul (represents_fits c fc) (represents_fits x fx))).value

added : (zs cs xs : List ℤ) → length zs ≡ length cs → length cs ≡ length xs → AllFit64 zs → AllWithin 32768 cs → AllWithin 2147483648 xs
    → map (to_z w64) (zip2 (act2 wrap_add (s_int w64) (s_int w64) (s_int w64)) (map (of_z w64) zs) (zip2 (act2 wrap_mul (s_int w64) (s_int w64) (s_int w64)) (map (of_z w64) cs) (map (of_z w64) xs))) ≡ plus_products zs cs xs
added [] cs xs e f hz hc hx = refl
added (z ∷ zs) [] xs e f hz hc hx = absurd (omega arith)
added (z ∷ zs) (c ∷ cs) [] e f hz hc hx = absurd (omega arith)
added (z ∷ zs) (c ∷ cs) (x ∷ xs) e f hz hc hx = rw (one_added z c x hz.0 hc.0 hx.0, added zs cs xs (omega arith) (omega arith) hz.1 hc.1 hx.1) refl

pub added_is : (zs cs xs n : List ℤ) → LanesFit64 zs → Lanes 32768 cs → Lanes 2147483648 xs → n ≡ map (to_z w64) (map (of_z w64) cs)
    → map (to_z w64) (zip2 (act2 wrap_add (s_int w64) (s_int w64) (s_int w64)) (map (of_z w64) zs) (zip2 (act2 wrap_mul (s_int w64) (s_int w64) (s_int w64)) (map (of_z w64) n) (map (of_z w64) xs))) ≡ plus_products zs cs xs
added_is zs cs xs n hz hc hx e =
    let same : n ≡ cs = e ∙ same_lanes (omega arith) hc in
    rw same (added zs cs xs (omega (arith, hz.four, hc.four)) (omega (arith, hc.four, hx.four)) hz.each hc.each hx.each)

fit_wrapped : (xs : List ℤ) → AllFit64 (map wrap_64 xs)
fit_wrapped [] = tt
fit_wrapped (x ∷ xs) = (SFits-int_wrap w64 x, fit_wrapped xs)

pub products_fit_64 : (zs cs xs : List ℤ) → length zs ≡ 4 → Lanes 32768 cs → Lanes 2147483648 xs → LanesFit64 (plus_products zs cs xs)
products_fit_64 zs cs xs four hc hx =
    let products : length (zip2 ◌*ℤ◌ cs xs) ≡ length cs = length-zip2 ◌*ℤ◌ cs xs (omega (arith, hc.four, hx.four)) in
    let sums : length (zip2 ◌+ℤ◌ zs (zip2 ◌*ℤ◌ cs xs)) ≡ length zs = length-zip2 ◌+ℤ◌ zs (zip2 ◌*ℤ◌ cs xs) (omega (arith, hc.four)) in
    record { four = length-map (zip2 ◌+ℤ◌ zs (zip2 ◌*ℤ◌ cs xs)) wrap_64 ∙ sums ∙ four; each = fit_wrapped (zip2 ◌+ℤ◌ zs (zip2 ◌*ℤ◌ cs xs)) }

-- ---- lanes shifted by two

-- the four numbers of a vector, each as an operation gets it
pub record Four (xs : List ℤ) : Type 0 where
  pub a : ℤ
  pub b : ℤ
  pub c : ℤ
  pub d : ℤ
  pub is : xs ≡ a ∷ b ∷ c ∷ d ∷ []
  pub a_is : to_z w64 (of_z w64 a) ≡ a
  pub b_is : to_z w64 (of_z w64 b) ≡ b
  pub c_is : to_z w64 (of_z w64 c) ≡ c
  pub d_is : to_z w64 (of_z w64 d) ≡ d

pub four_of : (xs : List ℤ) → LanesFit64 xs → Four xs
four_of (a ∷ b ∷ c ∷ d ∷ []) h = record { a = a; b = b; c = c; d = d; is = refl; a_is = to_z-of_z w64 a h.each.0; b_is = to_z-of_z w64 b h.each.1.0; c_is = to_z-of_z w64 c h.each.1.1.0; d_is = to_z-of_z w64 d h.each.1.1.1.0 }
four_of xs h = absurd (omega (arith, h.four))

moved_fit_64 : (before sums : List ℤ) → LanesFit64 before → LanesFit64 sums → LanesFit64 (drop 2 before ++ take 2 sums)
moved_fit_64 (a ∷ b ∷ c ∷ d ∷ []) (e ∷ f ∷ g ∷ h ∷ []) hb hs = record { four = refl; each = (hb.each.1.1.0, (hb.each.1.1.1.0, (hs.each.0, (hs.each.1.0, tt)))) }
moved_fit_64 before sums hb hs = absurd (omega (arith, hb.four, hs.four))

pub fit_64_moved : {before sums xs : List ℤ} → LanesFit64 before → LanesFit64 sums → xs ≡ drop 2 before ++ take 2 sums → LanesFit64 xs
fit_64_moved {before} {sums} {xs} hb hs e = subst LanesFit64 (sym e) (moved_fit_64 before sums hb hs)

-- the same for a call, whose arguments and result are vectors
pub moved_by : {before sums m : List ℤ} → LanesFit64 before → LanesFit64 sums → LanesFit64 m → m ≡ drop 2 (map (to_z w64) (map (of_z w64) before)) ++ take 2 (map (to_z w64) (map (of_z w64) sums))
    → map (to_z w64) (map (of_z w64) m) ≡ drop 2 before ++ take 2 sums
moved_by {before} {sums} {m} hb hs hm e = same_fit_64 hm ∙ e ∙ rw (same_fit_64 hb, same_fit_64 hs) refl

pub later_is : (before sums ks x js y m r q : List ℤ) → LanesFit64 before → LanesFit64 sums → Lanes 32768 ks → Lanes 2147483648 x → Lanes 32768 js → Lanes 2147483648 y → m ≡ drop 2 before ++ take 2 sums
    → r ≡ plus_products m (map (to_z w64) (map (of_z w64) ks)) (map (to_z w64) (map (of_z w64) x))
    → q ≡ plus_products (map (to_z w64) (map (of_z w64) r)) (map (to_z w64) (map (of_z w64) js)) (map (to_z w64) (map (of_z w64) y))
    → (map (to_z w64) (map (of_z w64) q) ≡ advanced_by_two before sums ks x js y) × LanesFit64 (map (to_z w64) (map (of_z w64) q))
later_is before sums ks x js y m r q hb hs hk hx hj hy em er eq =
    let four : length (drop 2 before ++ take 2 sums) ≡ 4 = omega (arith, length-append (drop 2 before) (take 2 sums), length-drop 2 before, length-take 2 sums, hb.four, hs.four) in
    let first : r ≡ plus_products (drop 2 before ++ take 2 sums) ks x = er ∙ rw (em, same_lanes (omega arith) hk, same_lanes (omega arith) hx) refl in
    let fits : LanesFit64 r = subst LanesFit64 (sym first) (products_fit_64 (drop 2 before ++ take 2 sums) ks x four hk hx) in
    let second : q ≡ plus_products r js y = eq ∙ rw (same_fit_64 fits, same_lanes (omega arith) hj, same_lanes (omega arith) hy) refl in
    let last : LanesFit64 q = subst LanesFit64 (sym second) (products_fit_64 r js y fits.four hj hy) in
    (same_fit_64 last ∙ second ∙ ap (λ (l : List ℤ). plus_products l js y) first, kept_fit_64 last)

-- ---- coefficients

-- zeros after the coefficients add nothing
pub dot_trailing_zeros : (n : ℕ) (cs xs : List ℤ) → dot (cs ++ replicate n (pos 0)) xs ≡ dot cs xs
dot_trailing_zeros zero [] xs = refl
dot_trailing_zeros (suc n) [] [] = refl
dot_trailing_zeros (suc n) [] (x ∷ xs) = ap (λ (v : ℤ). v +ℤ dot (replicate n (pos 0)) xs) (zero-*ℤ x) ∙ +ℤ_idl (dot (replicate n (pos 0)) xs) ∙ dot_trailing_zeros n [] xs
dot_trailing_zeros n (c ∷ cs) [] = refl
dot_trailing_zeros n (c ∷ cs) (x ∷ xs) = ap (λ (v : ℤ). c *ℤ x +ℤ v) (dot_trailing_zeros n cs xs)
