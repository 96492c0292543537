-- Pending sums, and samples from them.
use Rattle.std.proofs.Common.{◌≡◌, ℕ, zero, suc, Bool, true, false, ltb, ◌+◌, ◌-◌, ◌*◌, ◌/◌, ◌%◌, ◌^◌, ◌<◌, ◌≤◌, inl, inr, List, [], ◌∷◌, ◌++◌, length, take, drop, reverse, replicate, get_or, map, refl, sym, ap, subst, ◌∙◌, arith, ℤ, pos, negsuc, neg_ℤ, ◌+ℤ◌, ◌*ℤ◌, of_z, to_z, w32, w64, FitsSigned, unsigned_abs}
use Rattle.std.specs.Int.{int_wrap}
use Rattle.std.specs.Int.Signed.{shr_z}
use borrow.Rule.Simd.Lanes.{act2}
use borrow.Table.Row.{s_int}
use mir.Syntax.{wrap_add, shl}
use Rattle.std.proofs.Math.IntN.{+ℤ_idl, +ℤ_comm, suc_ℤ-*ℤ, *ℤ_comm, zero-*ℤ, *ℤ-zero, *ℤ-negsuc}
use Rattle.std.proofs.Math.Nat.{div-div-eq-div-mul, mul-div_cancel, suc-mul, pow-le-pow_right}
use Rattle.std.proofs.lemmas.Bool.{cases_lt, lt-ltb, le-ltb}
use Rattle.std.proofs.lemmas.Nat.{pow_pos, pow-add, div-mul-add}
use Rattle.std.proofs.lemmas.Int.{ints, to_z-of_z, int_wrap_fits, int_wrap-add_left, int_wrap-mul_right, SFits-int_wrap}
use Rattle.std.proofs.lemmas.List.{drop_all, drop_more, drop-drop, drop-replicate, get_or-drop, get_or-reverse, get_or_past, length-drop, length-reverse, reverse-append, take-append-drop}
use Rattle.std.proofs.Math.Seq.{drop-append_seam}
use Rattle.claxon_subframe.proofs.PaddedCoefficients.{reverse_zeros}
use Rattle.claxon_format.specs.Predict.{wrap, dot, floor_shift, linear}
use Rattle.claxon_format.proofs.WrappingArithmetic.{Represents, represents_add, represents_mul, represents_fits}
use Rattle.claxon_subframe.specs.Lanes.{AllWithin, Within, Lanes, LanesFit64, wrap_64, advanced_by_two}
use Rattle.claxon_subframe.specs.PendingSums.{but_newest_four, but_newest_five, pending_at, four_pending, four_taps, AreTaps, SmallTaps, SmallLater, AreLaterTaps, FitVectors, scaled_up, IsScaledUp, AddsProduct, plus_five, IsSample, IsButFifth, IsFollowed, five_before, AreNewest}
use Rattle.claxon_subframe.specs.declared.subframe.predictor.lanes.NewestFive.{NewestFive}
use Rattle.claxon_subframe.specs.declared.subframe.predictor.high_order.Taps.{Taps}
use Rattle.claxon_subframe.specs.declared.subframe.predictor.lanes.LaterLanes.{LaterLanes}
use Rattle.claxon_subframe.proofs.Predictors.{floor_is, abs_32, shifted_fits}
use Rattle.claxon_subframe.proofs.Lanes.{shr_more, small_fits, dot_trailing_zeros, same_lanes, same_fit_64}

-- ---- what two more samples add

pub dot_one : (ks : List ℤ) (j : ℕ) (y : ℤ) (past : List ℤ) → dot (drop j ks) (y ∷ past) ≡ get_or ks j (pos 0) *ℤ y +ℤ dot (drop (j + 1) ks) past
dot_one ks j y past =
    elim (cases_lt j (length ks)) [
      | inl there ↦ ap (λ (l : List ℤ). dot l (y ∷ past)) (drop_more ks j (pos 0) there)
      | inr gone ↦
          (let none : drop j ks ≡ [] = drop_all j ks gone in
          let later : drop (j + 1) ks ≡ [] = drop_all (j + 1) ks (omega arith) in
          let zero : get_or ks j (pos 0) ≡ pos 0 = get_or_past ks j (pos 0) gone in
          let nothing : pos 0 *ℤ y +ℤ pos 0 ≡ pos 0 = ap (λ (v : ℤ). v +ℤ pos 0) (zero-*ℤ y) in
          ap (λ (l : List ℤ). dot l (y ∷ past)) none ∙ sym nothing ∙ ap (λ (v : ℤ). v *ℤ y +ℤ pos 0) (sym zero) ∙ ap (λ (l : List ℤ). get_or ks j (pos 0) *ℤ y +ℤ dot l past) (sym later))
    ]

-- from the fifth or the sixth on these are the coefficients
four_beyond : (cs : List ℤ) (i : ℕ) → 4 ≤ i → drop i (but_newest_four cs) ≡ drop i cs
four_beyond cs (suc (suc (suc (suc n)))) le = let there : 4 + n ≡ suc (suc (suc (suc n))) = omega arith in drop-drop n 4 cs ∙ ap (λ (m : ℕ). drop m cs) there
four_beyond cs i le = absurd (omega arith)

five_beyond : (cs : List ℤ) (i : ℕ) → 5 ≤ i → drop i (but_newest_five cs) ≡ drop i cs
five_beyond cs (suc (suc (suc (suc (suc n))))) le = let there : 5 + n ≡ suc (suc (suc (suc (suc n)))) = omega arith in drop-drop n 5 cs ∙ ap (λ (m : ℕ). drop m cs) there
five_beyond cs i le = absurd (omega arith)

pub four_tap : (cs : List ℤ) (i : ℕ) → 4 ≤ i → get_or cs i (pos 0) ≡ get_or (but_newest_four cs) i (pos 0)
four_tap cs (suc (suc (suc (suc n)))) le = sym (get_or-drop 4 cs n (pos 0) ∙ ap (λ (m : ℕ). get_or cs m (pos 0)) (omega arith))
four_tap cs i le = absurd (omega arith)

pub five_tap : (cs : List ℤ) (i : ℕ) → 5 ≤ i → get_or cs i (pos 0) ≡ get_or (but_newest_five cs) i (pos 0)
five_tap cs (suc (suc (suc (suc (suc n))))) le = sym (get_or-drop 5 cs n (pos 0) ∙ ap (λ (m : ℕ). get_or cs m (pos 0)) (omega arith))
five_tap cs i le = absurd (omega arith)

-- the pending sum of a sample, after two more samples
pending_two_more : (ks past : List ℤ) (x y : ℤ) (j k m : ℕ) → k ≡ j + 1 → m ≡ j + 2
    → wrap_64 (wrap_64 (pending_at ks past m +ℤ get_or ks k (pos 0) *ℤ x) +ℤ get_or ks j (pos 0) *ℤ y) ≡ pending_at ks (y ∷ x ∷ past) j
pending_two_more ks past x y j k m ek em =
    let next : k + 1 ≡ m = omega arith in
    let one : dot (drop k ks) (x ∷ past) ≡ get_or ks k (pos 0) *ℤ x +ℤ dot (drop m ks) past
    = subst (λ (n : ℕ). dot (drop k ks) (x ∷ past) ≡ get_or ks k (pos 0) *ℤ x +ℤ dot (drop n ks) past) next (dot_one ks k x past) in
    let two : dot (drop j ks) (y ∷ x ∷ past) ≡ get_or ks j (pos 0) *ℤ y +ℤ dot (drop k ks) (x ∷ past)
    = subst (λ (n : ℕ). dot (drop j ks) (y ∷ x ∷ past) ≡ get_or ks j (pos 0) *ℤ y +ℤ dot (drop n ks) (x ∷ past)) (sym ek) (dot_one ks j y (x ∷ past)) in
    let first : wrap_64 (pending_at ks past m +ℤ get_or ks k (pos 0) *ℤ x) ≡ wrap_64 (dot (drop k ks) (x ∷ past))
    = int_wrap-add_left w64 (dot (drop m ks) past) (get_or ks k (pos 0) *ℤ x) ∙ ap wrap_64 (+ℤ_comm (dot (drop m ks) past) (get_or ks k (pos 0) *ℤ x) ∙ sym one) in
    ap (λ (v : ℤ). wrap_64 (v +ℤ get_or ks j (pos 0) *ℤ y)) first ∙ int_wrap-add_left w64 (dot (drop k ks) (x ∷ past)) (get_or ks j (pos 0) *ℤ y)
    ∙ ap wrap_64 (+ℤ_comm (dot (drop k ks) (x ∷ past)) (get_or ks j (pos 0) *ℤ y) ∙ sym two)

-- the same with products of the coefficients c and d
pending_two : (ks past : List ℤ) (x y c d : ℤ) (j k m : ℕ) → k ≡ j + 1 → m ≡ j + 2 → c ≡ get_or ks k (pos 0) → d ≡ get_or ks j (pos 0)
    → wrap_64 (wrap_64 (pending_at ks past m +ℤ c *ℤ x) +ℤ d *ℤ y) ≡ pending_at ks (y ∷ x ∷ past) j
pending_two ks past x y c d j k m ek em ec ed = rw (ec, ed) (pending_two_more ks past x y j k m ek em)

pub four_same : {a b c d e f g h : ℤ} → a ≡ e → b ≡ f → c ≡ g → d ≡ h → a ∷ b ∷ c ∷ d ∷ [] ≡ e ∷ f ∷ g ∷ h ∷ []
four_same {a} {b} {c} {d} {e} {f} {g} {h} p q r s =
    ap (λ (v : ℤ). v ∷ b ∷ c ∷ d ∷ []) p ∙ ap (λ (v : ℤ). e ∷ v ∷ c ∷ d ∷ []) q ∙ ap (λ (v : ℤ). e ∷ f ∷ v ∷ d ∷ []) r ∙ ap (λ (v : ℤ). e ∷ f ∷ g ∷ v ∷ []) s

advanced_by_two_at : (ks past : List ℤ) (x y : ℤ) (j k m n : ℕ) → 4 ≤ j → m ≡ j + 4 → k ≡ j + 1 → n ≡ j
    → advanced_by_two (four_pending ks past m) (four_pending ks past j) (four_taps ks k) (replicate 4 x) (four_taps ks n) (replicate 4 y) ≡ four_pending ks (y ∷ x ∷ past) j
advanced_by_two_at ks past x y j k m n far em ek en =
    let four = λ (i : ℕ) (le : 4 ≤ i). four_tap ks i le in
    let five = λ (i : ℕ) (le : 5 ≤ i). five_tap ks i le in
    rw (em, ek, en)
    (four_same (pending_two (but_newest_five ks) past x y _ _ (j + 3) (j + 1 + 3) (j + 4 + 1) (omega arith) (omega arith) (five (j + 1 + 3) (omega arith)) (five (j + 3) (omega arith)))
    (pending_two (but_newest_four ks) past x y _ _ (j + 2) (j + 1 + 2) (j + 4) (omega arith) (omega arith) (four (j + 1 + 2) (omega arith)) (four (j + 2) (omega arith)))
    (pending_two (but_newest_five ks) past x y _ _ (j + 1) (j + 1 + 1) (j + 3) (omega arith) (omega arith) (five (j + 1 + 1) (omega arith)) (five (j + 1) (omega arith)))
    (pending_two (but_newest_four ks) past x y _ _ j (j + 1) (j + 2) (omega arith) (omega arith) (four (j + 1) (omega arith)) (four j far)))

-- the same, where both are among the newest five samples before it
skipped : (ks past : List ℤ) (x y : ℤ) (j k m : ℕ) → k ≡ j + 1 → m ≡ j + 2 → get_or ks j (pos 0) ≡ pos 0 → get_or ks k (pos 0) ≡ pos 0 → pending_at ks past m ≡ pending_at ks (y ∷ x ∷ past) j
skipped ks past x y j k m ek em ej none =
    let next : k + 1 ≡ m = omega arith in
    let nothing : (v : ℤ) (d : ℤ) → pos 0 *ℤ v +ℤ d ≡ d = λ v d. ap (λ (z : ℤ). z +ℤ d) (zero-*ℤ v) ∙ +ℤ_idl d in
    let one : dot (drop k ks) (x ∷ past) ≡ dot (drop m ks) past
    = dot_one ks k x past ∙ ap (λ (z : ℤ). z *ℤ x +ℤ dot (drop (k + 1) ks) past) none ∙ nothing x _ ∙ ap (λ (n : ℕ). dot (drop n ks) past) next in
    let two : dot (drop j ks) (y ∷ x ∷ past) ≡ dot (drop k ks) (x ∷ past)
    = dot_one ks j y (x ∷ past) ∙ ap (λ (z : ℤ). z *ℤ y +ℤ dot (drop (j + 1) ks) (x ∷ past)) ej ∙ nothing y _ ∙ ap (λ (n : ℕ). dot (drop n ks) (x ∷ past)) (sym ek) in
    ap wrap_64 (sym (two ∙ one))

moved_0 : (ks past : List ℤ) (x y : ℤ) → drop 2 (four_pending ks past 4) ++ take 2 (four_pending ks past 0) ≡ four_pending ks (y ∷ x ∷ past) 0
moved_0 ks past x y =
    four_same (skipped (but_newest_five ks) past x y 3 4 5 refl refl refl refl) (skipped (but_newest_four ks) past x y 2 3 4 refl refl refl refl)
    (skipped (but_newest_five ks) past x y 1 2 3 refl refl refl refl) (skipped (but_newest_four ks) past x y 0 1 2 refl refl refl refl)

-- ---- sums of zero

zero_64 : wrap_64 (pos 0) ≡ pos 0
zero_64 = int_wrap_fits w64 (pos 0) (record { sfits = omega arith })

pending_none : (ks past : List ℤ) (j : ℕ) → length ks ≤ j → pending_at ks past j ≡ pos 0
pending_none ks past j le = ap (λ (l : List ℤ). wrap_64 (dot l past)) (drop_all j ks le) ∙ zero_64

pub four_pending_none : (ks past : List ℤ) (n : ℕ) → 5 ≤ n → length ks ≡ n → replicate 4 (pos 0) ≡ four_pending ks past n
four_pending_none ks past n some e =
    let four : length (but_newest_four ks) ≡ n = omega (arith, length-drop 4 ks) in
    let five : length (but_newest_five ks) ≡ n = omega (arith, length-drop 5 ks) in
    sym (four_same (pending_none (but_newest_five ks) past (n + 3) (omega arith)) (pending_none (but_newest_four ks) past (n + 2) (omega arith)) (pending_none (but_newest_five ks) past (n + 1) (omega arith)) (pending_none (but_newest_four ks) past n (omega arith)))

dot_nothing : (ks : List ℤ) → dot ks [] ≡ pos 0
dot_nothing [] = refl
dot_nothing (k ∷ ks) = refl

pending_before_all : (ks : List ℤ) (j : ℕ) → pending_at ks [] j ≡ pos 0
pending_before_all ks j = ap wrap_64 (dot_nothing (drop j ks)) ∙ zero_64

-- before the first sample
pub four_pending_before_all : (ks : List ℤ) (j : ℕ) → replicate 4 (pos 0) ≡ four_pending ks [] j
four_pending_before_all ks j =
    sym (four_same (pending_before_all (but_newest_five ks) (j + 3)) (pending_before_all (but_newest_four ks) (j + 2)) (pending_before_all (but_newest_five ks) (j + 1)) (pending_before_all (but_newest_four ks) j))

pending_zeros : (ks past : List ℤ) (n j : ℕ) → drop j ks ≡ replicate n (pos 0) → pending_at ks past j ≡ pos 0
pending_zeros ks past n j e = ap (λ (l : List ℤ). wrap_64 (dot l past)) e ∙ ap wrap_64 (dot_trailing_zeros n [] past) ∙ zero_64

-- the coefficients that no vector reaches
past_vectors : (cs : List ℤ) (v i : ℕ) → 4 * v + 4 ≤ i → FitVectors v cs → drop i cs ≡ replicate (length cs - (4 * v + 4) - (i - (4 * v + 4))) (pos 0)
past_vectors cs v i le fit =
    let d : ℕ = i - (4 * v + 4) in
    let there : 4 * v + 4 + d ≡ i = omega arith in
    sym (drop-drop d (4 * v + 4) cs ∙ ap (λ (n : ℕ). drop n cs) there) ∙ ap (drop d) fit ∙ drop-replicate d (length cs - (4 * v + 4)) (pos 0)

-- the pending sum of a sample that no coefficient reaches
pending_past_vectors : (ks cs past : List ℤ) (v i : ℕ) → drop i ks ≡ drop i cs → 4 * v + 4 ≤ i → FitVectors v cs → pending_at ks past i ≡ pos 0
pending_past_vectors ks cs past v i same le fit = pending_zeros ks past _ i (same ∙ past_vectors cs v i le fit)

pub four_pending_past_vectors : (ks past : List ℤ) (v j : ℕ) → 4 * v + 4 ≤ j → FitVectors v ks → replicate 4 (pos 0) ≡ four_pending ks past j
four_pending_past_vectors ks past v j le fit =
    sym (four_same (pending_past_vectors (but_newest_five ks) ks past v (j + 3) (five_beyond ks (j + 3) (omega arith)) (omega arith) fit) (pending_past_vectors (but_newest_four ks) ks past v (j + 2) (four_beyond ks (j + 2) (omega arith)) (omega arith) fit)
    (pending_past_vectors (but_newest_five ks) ks past v (j + 1) (five_beyond ks (j + 1) (omega arith)) (omega arith) fit) (pending_past_vectors (but_newest_four ks) ks past v j (four_beyond ks j (omega arith)) le fit))

-- ---- the coefficients

pub four_pending_fit_64 : (ks past : List ℤ) (j : ℕ) → LanesFit64 (four_pending ks past j)
four_pending_fit_64 ks past j = record { four = refl; each = (SFits-int_wrap w64 _, (SFits-int_wrap w64 _, (SFits-int_wrap w64 _, (SFits-int_wrap w64 _, tt)))) }

abbrev as_lanes : List ℤ → List ℤ
as_lanes xs = map (to_z w64) (map (of_z w64) xs)

-- older samples than there are coefficients don't count
dot_enough : (l past rest : List ℤ) (n k : ℕ) → drop n l ≡ replicate k (pos 0) → n ≤ length past → dot l (past ++ rest) ≡ dot l past
dot_enough l past rest zero k e le =
    ap (λ (z : List ℤ). dot z (past ++ rest)) e ∙ dot_trailing_zeros k [] (past ++ rest) ∙ sym (ap (λ (z : List ℤ). dot z past) e ∙ dot_trailing_zeros k [] past)
dot_enough [] past rest (suc n) k e le = refl
dot_enough (c ∷ l) [] rest (suc n) k e le = absurd (omega arith)
dot_enough (c ∷ l) (x ∷ past) rest (suc n) k e le = ap (λ (z : ℤ). c *ℤ x +ℤ z) (dot_enough l past rest n k e (omega arith))

pending_enough : (ks cs past rest : List ℤ) (v j : ℕ) → drop (j + (4 * v + 4)) ks ≡ drop (j + (4 * v + 4)) cs → FitVectors v cs → 4 * v + 4 ≤ length past → pending_at ks past j ≡ pending_at ks (past ++ rest) j
pending_enough ks cs past rest v j same fit le =
    let none : drop (4 * v + 4) (drop j ks) ≡ replicate (length cs - (4 * v + 4) - (j + (4 * v + 4) - (4 * v + 4))) (pos 0)
    = drop-drop (4 * v + 4) j ks ∙ same ∙ past_vectors cs v (j + (4 * v + 4)) (omega arith) fit in
    ap wrap_64 (sym (dot_enough (drop j ks) past rest (4 * v + 4) _ none le))

pub four_pending_enough : (ks past rest : List ℤ) (v j : ℕ) → FitVectors v ks → 4 * v + 4 ≤ length past → four_pending ks past j ≡ four_pending ks (past ++ rest) j
four_pending_enough ks past rest v j fit le =
    let four = λ (i : ℕ). pending_enough (but_newest_four ks) ks past rest v i (four_beyond ks (i + (4 * v + 4)) (omega arith)) fit le in
    let five = λ (i : ℕ) (some : 1 ≤ i). pending_enough (but_newest_five ks) ks past rest v i (five_beyond ks (i + (4 * v + 4)) (omega arith)) fit le in
    four_same (five (j + 3) (omega arith)) (four (j + 2)) (five (j + 1) (omega arith)) (four j)

-- a vector of pending sums, as a call computes it
module _ (ks past : List ℤ) (x y : ℤ) (v : ℕ) (fit : FitVectors v ks) {u w : List ℤ} (eu : u ≡ replicate 4 x) (ew : w ≡ replicate 4 y) where
  pub later_lanes_advanced : (j : ℕ) (has : Bool) (b s k t r : List ℤ) → 4 ≤ j → (has ≡ false → 4 * v + 4 ≤ j) → (has ≡ true → r ≡ advanced_by_two b s k u t w) → (has ≡ false → r ≡ replicate 4 (pos 0))
      → b ≡ four_pending ks past (j + 4) → s ≡ four_pending ks past j → k ≡ four_taps ks (j + 1) → t ≡ four_taps ks j → as_lanes r ≡ four_pending ks (y ∷ x ∷ past) j
  later_lanes_advanced j true b s k t r far few e none eb es ek et =
      let value : r ≡ four_pending ks (y ∷ x ∷ past) j = e refl ∙ rw (eb, es, ek, eu, et, ew) (advanced_by_two_at ks past x y j (j + 1) (j + 4) j far refl refl refl) in
      ap as_lanes value ∙ same_fit_64 (four_pending_fit_64 ks (y ∷ x ∷ past) j)
  later_lanes_advanced j false b s k t r far few e none eb es ek et =
      let value : r ≡ four_pending ks (y ∷ x ∷ past) j = none refl ∙ four_pending_past_vectors ks (y ∷ x ∷ past) v j (few refl) fit in
      ap as_lanes value ∙ same_fit_64 (four_pending_fit_64 ks (y ∷ x ∷ past) j)

-- the next four samples' lanes, which are only shifted
pub nearest_lanes_advanced : (ks past : List ℤ) (x y : ℤ) {b s : List ℤ} (r : List ℤ) → r ≡ drop 2 b ++ take 2 s → b ≡ four_pending ks past 4 → s ≡ four_pending ks past 0
    → r ≡ four_pending ks (y ∷ x ∷ past) 0
nearest_lanes_advanced ks past x y r e eb es = e ∙ rw (eb, es) (moved_0 ks past x y)

-- the same numbers, as a vector has them
pub lanes_64_are : {xs ys : List ℤ} → LanesFit64 xs → xs ≡ ys → as_lanes xs ≡ ys
lanes_64_are {xs} {ys} h e = same_fit_64 h ∙ e

pub sample_lanes : (x : ℤ) (xs : List ℤ) → FitsSigned w64 x → Lanes 2147483648 xs → xs ≡ replicate 4 (to_z w64 (of_z w64 x)) → as_lanes xs ≡ replicate 4 x
sample_lanes x xs f h e = same_lanes (omega arith) h ∙ e ∙ ap (replicate 4) (to_z-of_z w64 x f)

pub taps_are : {xs ys : List ℤ} → Lanes 32768 xs → xs ≡ ys → as_lanes xs ≡ ys
taps_are {xs} {ys} h e = same_lanes (omega arith) h ∙ e

-- ---- the high half of a sum of 64 bits

-- a number is its wrapped one plus a multiple of 2 ^ 64
off_64 : (z : ℤ) → (q : ℤ) × (z ≡ q *ℤ pos 18446744073709551616 +ℤ wrap_64 z)
unfolding int_wrap
off_64 (pos a) =
    elim (cases_lt (a % 18446744073709551616) 9223372036854775808) [
      | inl small ↦ (let b : ltb (a % 18446744073709551616) 9223372036854775808 ≡ true = lt-ltb _ _ small in rw b (pos (a / 18446744073709551616), omega (arith, ints)))
      | inr large ↦ (let b : ltb (a % 18446744073709551616) 9223372036854775808 ≡ false = le-ltb _ _ large in rw b (pos (a / 18446744073709551616 + 1), omega (arith, ints)))
    ]
off_64 (negsuc a) =
    elim (cases_lt (18446744073709551615 - a % 18446744073709551616) 9223372036854775808) [
      | inl small ↦ (let b : ltb (18446744073709551615 - a % 18446744073709551616) 9223372036854775808 ≡ true = lt-ltb _ _ small in rw b (negsuc (a / 18446744073709551616), omega (arith, ints)))
      | inr large ↦ (let b : ltb (18446744073709551615 - a % 18446744073709551616) 9223372036854775808 ≡ false = le-ltb _ _ large in rw b (negsuc (a / 18446744073709551616) +ℤ pos 1, omega (arith, ints)))
    ]

zero_32 : wrap (pos 4294967296) ≡ pos 0
unfolding int_wrap
zero_32 = refl

-- a multiple of 2 ^ 32 wraps to 0
wrap_more : (q z : ℤ) → wrap (q *ℤ pos 4294967296 +ℤ z) ≡ wrap z
wrap_more q z =
    let none : wrap (q *ℤ pos 4294967296) ≡ pos 0 = sym (int_wrap-mul_right w32 q (pos 4294967296)) ∙ ap (λ (v : ℤ). wrap (q *ℤ v)) zero_32 ∙ ap wrap (*ℤ-zero q) ∙ int_wrap_fits w32 (pos 0) (record { sfits = omega arith }) in
    sym (int_wrap-add_left w32 (q *ℤ pos 4294967296) z) ∙ ap (λ (v : ℤ). wrap (v +ℤ z)) none ∙ ap wrap (+ℤ_idl z)

high_fits : (z : ℤ) → FitsSigned w64 z → FitsSigned w32 (shr_z z 4294967296)
high_fits (pos n) h = record { sfits = omega (arith, h.sfits) }
high_fits (negsuc n) h = record { sfits = omega (arith, h.sfits) }

pub high_half : (z : ℤ) → shr_z (wrap_64 z) 4294967296 ≡ wrap (shr_z z 4294967296)
high_half z =
    let o = off_64 z in
    let q : ℤ = o.0 in
    let split : z ≡ q *ℤ pos 18446744073709551616 +ℤ wrap_64 z = o.1 in
    let twice : q *ℤ pos 18446744073709551616 +ℤ wrap_64 z ≡ (q *ℤ pos 4294967296) *ℤ pos 4294967296 +ℤ wrap_64 z = omega (arith, ints) in
    let high : shr_z z 4294967296 ≡ q *ℤ pos 4294967296 +ℤ shr_z (wrap_64 z) 4294967296
    = ap (λ (v : ℤ). shr_z v 4294967296) (split ∙ twice) ∙ shr_more (q *ℤ pos 4294967296) (wrap_64 z) 4294967296 (omega arith) in
    sym (ap wrap high ∙ wrap_more q (shr_z (wrap_64 z) 4294967296) ∙ int_wrap_fits w32 (shr_z (wrap_64 z) 4294967296) (high_fits (wrap_64 z) (SFits-int_wrap w64 z)))

-- ---- a shift of a scaled up number

shr_scaled : (z : ℤ) (k m : ℕ) → 0 < k → shr_z (z *ℤ pos k) (k * m) ≡ shr_z z m
shr_scaled (pos n) k m h = ap pos (sym (div-div-eq-div-mul (n * k) k m) ∙ ap (λ (a : ℕ). a / m) (mul-div_cancel n h))
shr_scaled (negsuc n) zero m h = absurd (omega arith)
shr_scaled (negsuc n) (suc k) m h =
    let whole : suc n * suc k ≡ suc (n * suc k + k) = suc-mul n (suc k) ∙ omega arith in
    let up : negsuc n *ℤ pos (suc k) ≡ negsuc (n * suc k + k) = ap (λ (a : ℕ). neg_ℤ (pos a)) whole in
    let one : (n * suc k + k) / suc k ≡ n = div-mul-add n (suc k) k (omega arith) in
    ap (λ (v : ℤ). shr_z v (suc k * m)) up ∙ ap negsuc (sym (div-div-eq-div-mul (n * suc k + k) (suc k) m) ∙ ap (λ (a : ℕ). a / m) one)

-- ---- scaled up products

times_more : (x : ℤ) (n : ℕ) → x *ℤ pos (suc n) ≡ x *ℤ pos n +ℤ x
times_more x n = *ℤ_comm x (pos (suc n)) ∙ suc_ℤ-*ℤ (pos n) x ∙ ap (λ (v : ℤ). v +ℤ x) (*ℤ_comm (pos n) x)

plus_times : (x y : ℤ) (n : ℕ) → (x +ℤ y) *ℤ pos n ≡ x *ℤ pos n +ℤ y *ℤ pos n
plus_times x y zero = *ℤ-zero (x +ℤ y) ∙ sym (ap (λ (v : ℤ). v +ℤ y *ℤ pos 0) (*ℤ-zero x) ∙ ap (λ (v : ℤ). pos 0 +ℤ v) (*ℤ-zero y))
plus_times x y (suc n) =
    let e = plus_times x y n in
    let regroup : (a b c d f : ℤ) → a ≡ b +ℤ c → a +ℤ (d +ℤ f) ≡ (b +ℤ d) +ℤ (c +ℤ f) = λ a b c d f h. omega (arith, ints) in
    times_more (x +ℤ y) n ∙ regroup ((x +ℤ y) *ℤ pos n) (x *ℤ pos n) (y *ℤ pos n) x y e ∙ ap (λ (v : ℤ). v +ℤ (y *ℤ pos n +ℤ y)) (sym (times_more x n)) ∙ ap (λ (v : ℤ). x *ℤ pos (suc n) +ℤ v) (sym (times_more y n))

plus_times_any : (x y s : ℤ) → (x +ℤ y) *ℤ s ≡ x *ℤ s +ℤ y *ℤ s
plus_times_any x y (pos n) = plus_times x y n
plus_times_any x y (negsuc n) =
    let apart : (a b : ℤ) → neg_ℤ (a +ℤ b) ≡ neg_ℤ a +ℤ neg_ℤ b = λ a b. omega (arith, ints) in
    *ℤ-negsuc (x +ℤ y) n ∙ ap neg_ℤ (plus_times x y (suc n)) ∙ apart (x *ℤ pos (suc n)) (y *ℤ pos (suc n)) ∙ ap (λ (v : ℤ). v +ℤ neg_ℤ (y *ℤ pos (suc n))) (sym (*ℤ-negsuc x n)) ∙ ap (λ (v : ℤ). x *ℤ negsuc n +ℤ v) (sym (*ℤ-negsuc y n))

times_scaled_up : (b : ℤ) (k : ℕ) (s : ℤ) → (b *ℤ pos k) *ℤ s ≡ (b *ℤ s) *ℤ pos k
times_scaled_up b zero s = ap (λ (v : ℤ). v *ℤ s) (*ℤ-zero b) ∙ zero-*ℤ s ∙ sym (*ℤ-zero (b *ℤ s))
times_scaled_up b (suc k) s = ap (λ (v : ℤ). v *ℤ s) (times_more b k) ∙ plus_times_any (b *ℤ pos k) b s ∙ ap (λ (v : ℤ). v +ℤ b *ℤ s) (times_scaled_up b k s) ∙ sym (times_more (b *ℤ s) k)

-- one more product
product_scaled_up : (z r b s : ℤ) (k c : ℕ) → (z *ℤ pos k +ℤ r *ℤ pos c) +ℤ (b *ℤ pos k) *ℤ s ≡ (z +ℤ b *ℤ s) *ℤ pos k +ℤ r *ℤ pos c
product_scaled_up z r b s k c =
    let regroup : (x y w : ℤ) → (x +ℤ y) +ℤ w ≡ (x +ℤ w) +ℤ y = λ x y w. omega (arith, ints) in
    ap (λ (v : ℤ). (z *ℤ pos k +ℤ r *ℤ pos c) +ℤ v) (times_scaled_up b k s) ∙ regroup (z *ℤ pos k) (r *ℤ pos c) ((b *ℤ s) *ℤ pos k)
    ∙ ap (λ (v : ℤ). v +ℤ r *ℤ pos c) (sym (plus_times z (b *ℤ s) k))

-- the high half of a scaled up sum is the sample
scaled_up_is : (a r : ℤ) (t : ℕ) → t ≤ 15 → wrap (shr_z (wrap_64 (a *ℤ pos (2 ^ (32 - t)) +ℤ r *ℤ pos 4294967296)) 4294967296) ≡ wrap (floor_shift a t +ℤ r)
scaled_up_is a r t ht =
    let k : ℕ = 2 ^ (32 - t) in
    let back : 32 - t + t ≡ 32 = omega arith in
    let whole : 2 ^ (32 - t) * 2 ^ t ≡ 4294967296 = sym (pow-add 2 (32 - t) t) ∙ ap (λ (e : ℕ). 2 ^ e) back in
    let down : shr_z (a *ℤ pos k) 4294967296 ≡ floor_shift a t
    = ap (λ (m : ℕ). shr_z (a *ℤ pos k) m) (sym whole) ∙ shr_scaled a k (2 ^ t) (pow_pos (32 - t)) ∙ floor_is a t in
    let high : shr_z (a *ℤ pos k +ℤ r *ℤ pos 4294967296) 4294967296 ≡ floor_shift a t +ℤ r
    = ap (λ (v : ℤ). shr_z v 4294967296) (+ℤ_comm (a *ℤ pos k) (r *ℤ pos 4294967296)) ∙ shr_more r (a *ℤ pos k) 4294967296 (omega arith) ∙ ap (λ (v : ℤ). r +ℤ v) down ∙ +ℤ_comm r (floor_shift a t) in
    ap wrap (high_half (a *ℤ pos k +ℤ r *ℤ pos 4294967296)) ∙ int_wrap_fits w32 _ (SFits-int_wrap w32 _) ∙ ap wrap high

-- ---- a sample

pub from_last : (ts : List ℤ) (n i k : ℕ) → length ts ≡ n → i + k + 1 ≡ n → get_or (reverse ts) i (pos 0) ≡ get_or ts k (pos 0)
from_last ts n i k long e = get_or-reverse ts i (pos 0) (omega arith) ∙ ap (λ (m : ℕ). get_or ts m (pos 0)) (omega arith)

-- the newest five coefficients, and the others
pub five_first : (l : List ℤ) → 5 ≤ length l → l ≡ get_or l 0 (pos 0) ∷ get_or l 1 (pos 0) ∷ get_or l 2 (pos 0) ∷ get_or l 3 (pos 0) ∷ get_or l 4 (pos 0) ∷ drop 5 l
five_first (a ∷ b ∷ c ∷ d ∷ e ∷ l) le = refl
five_first l le = absurd (omega arith)

dot_zero_tap : (ds past : List ℤ) (n : ℤ) → dot (pos 0 ∷ ds) (n ∷ past) ≡ dot ds past
dot_zero_tap ds past n = ap (λ (v : ℤ). v +ℤ dot ds past) (zero-*ℤ n) ∙ +ℤ_idl (dot ds past)

dot_four_zero_taps : (ds rest : List ℤ) (n s t f : ℤ) → dot (pos 0 ∷ pos 0 ∷ pos 0 ∷ pos 0 ∷ ds) (n ∷ s ∷ t ∷ f ∷ rest) ≡ dot ds rest
dot_four_zero_taps ds rest n s t f = dot_zero_tap (pos 0 ∷ pos 0 ∷ pos 0 ∷ ds) (s ∷ t ∷ f ∷ rest) n ∙ dot_zero_tap (pos 0 ∷ pos 0 ∷ ds) (t ∷ f ∷ rest) s ∙ dot_zero_tap (pos 0 ∷ ds) (f ∷ rest) t ∙ dot_zero_tap ds rest f

-- the prediction from all samples, by the pending sum and the newest five
five_last : (ds rest : List ℤ) (c s : NewestFive) → plus_five (dot ds rest) c s ≡ dot (five_before c ds) (five_before s rest)
five_last ds rest c s =
    let regroup : (a b d e f g : ℤ) → ((((a +ℤ b) +ℤ d) +ℤ e) +ℤ f) +ℤ g ≡ g +ℤ (f +ℤ (e +ℤ (d +ℤ (b +ℤ a)))) = λ a b d e f g. omega (arith, ints) in
    regroup (dot ds rest) (c.fifth *ℤ s.fifth) (c.fourth *ℤ s.fourth) (c.third *ℤ s.third) (c.second *ℤ s.second) (c.newest *ℤ s.newest)

-- the same, where the product of the fifth is in the pending sum
four_last : (ds rest : List ℤ) (c d s : NewestFive) → IsButFifth c d → plus_five (dot (c.fifth ∷ ds) (s.fifth ∷ rest)) d s ≡ dot (five_before c ds) (five_before s rest)
four_last ds rest c d s h =
    let regroup : (a b d e f g : ℤ) → (((((b +ℤ a) +ℤ pos 0) +ℤ d) +ℤ e) +ℤ f) +ℤ g ≡ g +ℤ (f +ℤ (e +ℤ (d +ℤ (b +ℤ a)))) = λ a b d e f g. omega (arith, ints) in
    rw (h.fifth, h.fourth, h.third, h.second, h.newest, zero-*ℤ s.fifth) (regroup (dot ds rest) (c.fifth *ℤ s.fifth) (c.fourth *ℤ s.fourth) (c.third *ℤ s.third) (c.second *ℤ s.second) (c.newest *ℤ s.newest))

-- one more sample
followed_is : (s b : NewestFive) (m : ℤ) (rest : List ℤ) → IsFollowed s m b → five_before b (s.fifth ∷ rest) ≡ m ∷ five_before s rest
followed_is s b m rest f = rw (f.newest, f.second, f.third, f.fourth, f.fifth) refl

-- two more samples
pub followed_twice : (s b n : NewestFive) (one two : ℤ) (rest : List ℤ) → IsFollowed s one b → IsFollowed b two n → n.newest ∷ n.second ∷ five_before s rest ≡ five_before n (s.fourth ∷ s.fifth ∷ rest)
followed_twice s b n one two rest f g =
    let third : n.third ≡ s.newest = g.third ∙ f.second in
    let fourth : n.fourth ≡ s.second = g.fourth ∙ f.third in
    let fifth : n.fifth ≡ s.third = g.fifth ∙ f.fourth in
    rw (third, fourth, fifth) refl

-- the sample of a pending sum
place_is : (ks ds rest : List ℤ) (r w e x : ℤ) (c s : NewestFive) (t : ℕ) → ks ≡ five_before c ds → w ≡ wrap_64 (dot ds rest) → IsScaledUp w r t e → IsSample e c s t x → x ≡ wrap (linear ks t (five_before s rest) +ℤ r)
place_is ks ds rest r w e x c s t ek ew up is =
    is (dot ds rest) r (up (dot ds rest) ew) ∙ ap (λ (v : ℤ). wrap (floor_shift v t +ℤ r)) (five_last ds rest c s)
    ∙ ap (λ (l : List ℤ). wrap (linear l t (five_before s rest) +ℤ r)) (sym ek)

-- the next sample
pub one_is : (ks rest ws : List ℤ) (r w e x : ℤ) (c d s : NewestFive) (t : ℕ) (new : AreNewest ks c) → IsButFifth c d → ws ≡ four_pending ks (five_before s rest) 0 → w ≡ get_or ws 3 (pos 0)
    → IsScaledUp w r t e → IsSample e d s t x → x ≡ wrap (linear ks t (five_before s rest) +ℤ r)
one_is ks rest ws r w e x c d s t new but es ew up is =
    let there : w ≡ pending_at (but_newest_four ks) (five_before s rest) 0 = ew ∙ ap (λ (l : List ℤ). get_or l 3 (pos 0)) es in
    let others : pending_at (but_newest_four ks) (five_before s rest) 0 ≡ pending_at (but_newest_four (five_before c new.rest)) (five_before s rest) 0 = ap (λ (l : List ℤ). pending_at (but_newest_four l) (five_before s rest) 0) new.is in
    let sum : ℤ = dot (c.fifth ∷ new.rest) (s.fifth ∷ rest) in
    let none : dot (but_newest_four (five_before c new.rest)) (five_before s rest) ≡ sum = dot_four_zero_taps (c.fifth ∷ new.rest) (s.fifth ∷ rest) s.newest s.second s.third s.fourth in
    is sum r (up sum (there ∙ others ∙ ap wrap_64 none)) ∙ ap (λ (v : ℤ). wrap (floor_shift v t +ℤ r)) (four_last new.rest rest c d s but)
    ∙ ap (λ (l : List ℤ). wrap (linear l t (five_before s rest) +ℤ r)) (sym new.is)

-- the sample after it
pub two_is : (ks rest ws : List ℤ) (m r w e x : ℤ) (c s b : NewestFive) (t : ℕ) (new : AreNewest ks c) → IsFollowed s m b → ws ≡ four_pending ks (five_before s rest) 0 → w ≡ get_or ws 2 (pos 0)
    → IsScaledUp w r t e → IsSample e c b t x → x ≡ wrap (linear ks t (m ∷ five_before s rest) +ℤ r)
two_is ks rest ws m r w e x c s b t new f es ew up is =
    let there : w ≡ pending_at (but_newest_five ks) (five_before s rest) 1 = ew ∙ ap (λ (l : List ℤ). get_or l 2 (pos 0)) es in
    let others : pending_at (but_newest_five ks) (five_before s rest) 1 ≡ pending_at (but_newest_five (five_before c new.rest)) (five_before s rest) 1 = ap (λ (l : List ℤ). pending_at (but_newest_five l) (five_before s rest) 1) new.is in
    let none : dot (pos 0 ∷ pos 0 ∷ pos 0 ∷ pos 0 ∷ new.rest) (five_before s rest) ≡ dot new.rest (s.fifth ∷ rest) = dot_four_zero_taps new.rest (s.fifth ∷ rest) s.newest s.second s.third s.fourth in
    place_is ks new.rest (s.fifth ∷ rest) r w e x c b t new.is (there ∙ others ∙ ap wrap_64 none) up is ∙ ap (λ (l : List ℤ). wrap (linear ks t l +ℤ r)) (followed_is s b m rest f)

power_fits : (t : ℕ) → FitsSigned w64 (pos (2 ^ (32 - t)))
power_fits t =
    let below : 32 - t ≤ 32 = omega arith in
    let power : 2 ^ (32 - t) ≤ 2 ^ 32 = pow-le-pow_right (omega arith) below in
    record { sfits = omega arith }

pub product_is : (e b s z r : ℤ) (t : ℕ) → FitsSigned w64 e → FitsSigned w64 b → FitsSigned w64 s → e ≡ scaled_up z r t
    → to_z w64 ((of_z w64 e + ((of_z w64 b * 2 ^ (32 - t)) % 18446744073709551616 * of_z w64 s) % 18446744073709551616) % 18446744073709551616) ≡ scaled_up (z +ℤ b *ℤ s) r t
product_is e b s z r t fe fb fs ee =
    let rep_k = represents_fits (pos (2 ^ (32 - t))) (power_fits t) in
    let rep_e : Represents w64 (of_z w64 e) (z *ℤ pos (2 ^ (32 - t)) +ℤ r *ℤ pos 4294967296) = record { below = (represents_fits e fe).below; value = to_z-of_z w64 e fe ∙ ee } in
    let all = represents_add rep_e (represents_mul (represents_mul (represents_fits b fb) rep_k) (represents_fits s fs)) in
    all.value ∙ ap wrap_64 (product_scaled_up z r b s (2 ^ (32 - t)) 4294967296)

-- a scaled up sum and residual sample
pub record IsScaledSum (e sum residual : ℤ) (t : ℕ) : Type 0 where
  pub is : e ≡ scaled_up sum residual t

-- one more product, as a call adds it
pub scaled_sum_more : {e b s m z r : ℤ} {t : ℕ} → AddsProduct (to_z w64 (of_z w64 e)) b s t m → IsScaledSum e z r t → IsScaledSum m (z +ℤ b *ℤ s) r t
scaled_sum_more {e} {b} {s} {m} {z} {r} {t} h u = record { is = h.adds z r (ap (λ (v : ℤ). to_z w64 (of_z w64 v)) u.is ∙ to_z-of_z w64 _ (SFits-int_wrap w64 _)) }

sample_is : (e z r : ℤ) (t : ℕ) → t ≤ 15 → e ≡ scaled_up z r t → to_z w64 (of_z w64 (shr_z (to_z w64 (of_z w64 e)) 4294967296)) ≡ wrap (floor_shift z t +ℤ r)
sample_is e z r t ht ee =
    let fits : FitsSigned w64 e = subst (FitsSigned w64) (sym ee) (SFits-int_wrap w64 _) in
    let d : ℤ = z *ℤ pos (2 ^ (32 - t)) +ℤ r *ℤ pos 4294967296 in
    let fits_32 : FitsSigned w32 (shr_z (wrap_64 d) 4294967296) = high_fits (wrap_64 d) (SFits-int_wrap w64 d) in
    let fits_64 : FitsSigned w64 (shr_z (wrap_64 d) 4294967296) = shifted_fits (wrap_64 d) 32 (SFits-int_wrap w64 d) in
    ap (λ (v : ℤ). to_z w64 (of_z w64 (shr_z v 4294967296))) (to_z-of_z w64 e fits ∙ ee) ∙ to_z-of_z w64 _ fits_64 ∙ sym (int_wrap_fits w32 _ fits_32) ∙ scaled_up_is z r t ht

pub scaled_sum_sample : {e z r : ℤ} {t : ℕ} (w : ℤ) → t ≤ 15 → IsScaledSum e z r t → z ≡ w → to_z w64 (of_z w64 (shr_z (to_z w64 (of_z w64 e)) 4294967296)) ≡ wrap (floor_shift w t +ℤ r)
scaled_sum_sample {e} {z} {r} {t} w ht u same = sample_is e z r t ht u.is ∙ ap (λ (v : ℤ). wrap (floor_shift v t +ℤ r)) same

pub sample_fits : (e : ℤ) → FitsSigned w64 e → FitsSigned w32 (to_z w64 (of_z w64 (shr_z e 4294967296)))
sample_fits e f = subst (FitsSigned w32) (sym (to_z-of_z w64 (shr_z e 4294967296) (shifted_fits e 32 f))) (high_fits e f)

-- a lane scaled up
lane_scaled_up : (x u y r z : ℤ) (t : ℕ) → FitsSigned w64 x → FitsSigned w32 r → t ≤ 15 → u ≡ pos (32 - t) → x ≡ wrap_64 z → y ≡ r
    → to_z w64 (of_z w64 (to_z w64 (act2 wrap_add (s_int w64) (s_int w64) (s_int w64) (act2 shl (s_int w64) (s_int w64) (s_int w64) (of_z w64 x) (of_z w64 u)) (of_z w64 y * 4294967296 % 18446744073709551616)))) ≡ scaled_up z r t
lane_scaled_up x u y r z t fx fr ht eu ex ey =
    let fc : FitsSigned w64 (pos 4294967296) = record { sfits = omega arith } in
    let fr64 : FitsSigned w64 r = small_fits 2147483648 r (omega arith) (abs_32 r fr) in
    let rep_x : Represents w64 (of_z w64 x) z = record { below = (represents_fits x fx).below; value = to_z-of_z w64 x fx ∙ ex } in
    let all = represents_add (represents_mul rep_x (represents_fits (pos (2 ^ (32 - t))) (power_fits t))) (represents_mul (represents_fits r fr64) (represents_fits (pos 4294967296) fc)) in
    rw (eu, ey) (ap (λ (v : ℤ). to_z w64 (of_z w64 v)) all.value ∙ to_z-of_z w64 (scaled_up z r t) (SFits-int_wrap w64 _))

-- the last two lanes scaled up, each with its residual sample
abbrev lane_with_residual : List ℤ → ℕ → ℤ → ℤ → ℤ
lane_with_residual sums lane u residual =
    to_z w64 (of_z w64 (to_z w64 (act2 wrap_add (s_int w64) (s_int w64) (s_int w64) (act2 shl (s_int w64) (s_int w64) (s_int w64) (get_or (map (of_z w64) sums ++ map (of_z w64) sums) lane 0) (of_z w64 u))
    (of_z w64 (to_z w32 (of_z w32 residual)) * 4294967296 % 18446744073709551616))))

pub nearest_scaled_up : (sums : List ℤ) (u nearest z : ℤ) (t : ℕ) → LanesFit64 sums → FitsSigned w32 nearest → t ≤ 15 → u ≡ pos (32 - t) → get_or sums 3 (pos 0) ≡ wrap_64 z → lane_with_residual sums 3 u nearest ≡ scaled_up z nearest t
nearest_scaled_up (a ∷ b ∷ c ∷ d ∷ []) u nearest z t lanes fits ht eu ex = lane_scaled_up d u (to_z w32 (of_z w32 nearest)) nearest z t lanes.each.1.1.1.0 fits ht eu ex (to_z-of_z w32 nearest fits)
nearest_scaled_up sums u nearest z t lanes fits ht eu ex = absurd (omega (arith, lanes.four))

pub farther_scaled_up : (sums : List ℤ) (u farther z : ℤ) (t : ℕ) → LanesFit64 sums → FitsSigned w32 farther → t ≤ 15 → u ≡ pos (32 - t) → get_or sums 2 (pos 0) ≡ wrap_64 z → lane_with_residual sums 2 u farther ≡ scaled_up z farther t
farther_scaled_up (a ∷ b ∷ c ∷ d ∷ []) u farther z t lanes fits ht eu ex = lane_scaled_up c u (to_z w32 (of_z w32 farther)) farther z t lanes.each.1.1.0 fits ht eu ex (to_z-of_z w32 farther fits)
farther_scaled_up sums u farther z t lanes fits ht eu ex = absurd (omega (arith, lanes.four))

-- ---- the coefficients, as the code makes them of 32 numbers

abbrev pub coefficient_at : List ℤ → ℕ → ℤ
coefficient_at ts j = to_z w64 (of_z w64 (get_or ts j (pos 0)))

abbrev second_taps : List ℤ → LaterLanes (List ℤ)
second_taps ts = record { at_4 = coefficient_at ts 23 ∷ coefficient_at ts 24 ∷ coefficient_at ts 25 ∷ coefficient_at ts 26 ∷ []; at_8 = coefficient_at ts 19 ∷ coefficient_at ts 20 ∷ coefficient_at ts 21 ∷ coefficient_at ts 22 ∷ []; at_12 = coefficient_at ts 15 ∷ coefficient_at ts 16 ∷ coefficient_at ts 17 ∷ coefficient_at ts 18 ∷ []; at_16 = coefficient_at ts 11 ∷ coefficient_at ts 12 ∷ coefficient_at ts 13 ∷ coefficient_at ts 14 ∷ []; at_20 = coefficient_at ts 7 ∷ coefficient_at ts 8 ∷ coefficient_at ts 9 ∷ coefficient_at ts 10 ∷ []; at_24 = coefficient_at ts 3 ∷ coefficient_at ts 4 ∷ coefficient_at ts 5 ∷ coefficient_at ts 6 ∷ []; at_28 = pos 0 ∷ coefficient_at ts 0 ∷ coefficient_at ts 1 ∷ coefficient_at ts 2 ∷ [] }

abbrev newest_taps : List ℤ → LaterLanes (List ℤ)
newest_taps ts = record { at_4 = coefficient_at ts 24 ∷ coefficient_at ts 25 ∷ coefficient_at ts 26 ∷ coefficient_at ts 27 ∷ []; at_8 = coefficient_at ts 20 ∷ coefficient_at ts 21 ∷ coefficient_at ts 22 ∷ coefficient_at ts 23 ∷ []; at_12 = coefficient_at ts 16 ∷ coefficient_at ts 17 ∷ coefficient_at ts 18 ∷ coefficient_at ts 19 ∷ []; at_16 = coefficient_at ts 12 ∷ coefficient_at ts 13 ∷ coefficient_at ts 14 ∷ coefficient_at ts 15 ∷ []; at_20 = coefficient_at ts 8 ∷ coefficient_at ts 9 ∷ coefficient_at ts 10 ∷ coefficient_at ts 11 ∷ []; at_24 = coefficient_at ts 4 ∷ coefficient_at ts 5 ∷ coefficient_at ts 6 ∷ coefficient_at ts 7 ∷ []; at_28 = coefficient_at ts 0 ∷ coefficient_at ts 1 ∷ coefficient_at ts 2 ∷ coefficient_at ts 3 ∷ [] }

abbrev as_taps : List ℤ → Taps
as_taps ts = record { second = second_taps ts; newest = newest_taps ts }

within_at : (m : ℕ) (xs : List ℤ) (i : ℕ) → AllWithin m xs → unsigned_abs (get_or xs i (pos 0)) ≤ m
within_at m [] i h = omega arith
within_at m (x ∷ xs) zero h = h.0
within_at m (x ∷ xs) (suc i) h = within_at m xs i h.1

pub coefficient_at_is : (ts : List ℤ) (j : ℕ) → Within 32768 ts → coefficient_at ts j ≡ get_or ts j (pos 0)
coefficient_at_is ts j h = to_z-of_z w64 (get_or ts j (pos 0)) (small_fits 32768 (get_or ts j (pos 0)) (omega arith) (within_at 32768 ts j h.each))

-- the last five of 32 are the newest
pub are_last : (ts : List ℤ) → length ts ≡ 32 → Within 32768 ts → AreNewest (reverse ts) (record { fifth = coefficient_at ts 27; fourth = coefficient_at ts 28; third = coefficient_at ts 29; second = coefficient_at ts 30; newest = coefficient_at ts 31 })
are_last ts long h = record {
  rest = drop 5 (reverse ts);
  is = five_first (reverse ts) (omega (arith, length-reverse ts))
      ∙ rw (from_last ts 32 0 31 long refl, from_last ts 32 1 30 long refl, from_last ts 32 2 29 long refl, from_last ts 32 3 28 long refl, from_last ts 32 4 27 long refl, coefficient_at_is ts 27 h, coefficient_at_is ts 28 h, coefficient_at_is ts 29 h, coefficient_at_is ts 30 h, coefficient_at_is ts 31 h) refl;
}

pub coefficient_small : (ts : List ℤ) (j : ℕ) → Within 32768 ts → unsigned_abs (coefficient_at ts j) ≤ 32768
coefficient_small ts j h = subst (λ (v : ℤ). unsigned_abs v ≤ 32768) (sym (coefficient_at_is ts j h)) (within_at 32768 ts j h.each)

second_value : (ts : List ℤ) → length ts ≡ 32 → Within 32768 ts → AreLaterTaps (reverse ts) 1 (second_taps ts)
second_value ts long h =
    let z : (i k : ℕ) → i + k + 1 ≡ 32 → coefficient_at ts k ≡ get_or (reverse ts) i (pos 0) = λ i k e. coefficient_at_is ts k h ∙ sym (from_last ts 32 i k long e) in
    let past : pos 0 ≡ get_or (reverse ts) 32 (pos 0) = sym (get_or_past (reverse ts) 32 (pos 0) (omega (arith, length-reverse ts))) in
    record {
      at_4 = four_same (z 8 23 refl) (z 7 24 refl) (z 6 25 refl) (z 5 26 refl);
      at_8 = four_same (z 12 19 refl) (z 11 20 refl) (z 10 21 refl) (z 9 22 refl);
      at_12 = four_same (z 16 15 refl) (z 15 16 refl) (z 14 17 refl) (z 13 18 refl);
      at_16 = four_same (z 20 11 refl) (z 19 12 refl) (z 18 13 refl) (z 17 14 refl);
      at_20 = four_same (z 24 7 refl) (z 23 8 refl) (z 22 9 refl) (z 21 10 refl);
      at_24 = four_same (z 28 3 refl) (z 27 4 refl) (z 26 5 refl) (z 25 6 refl);
      at_28 = four_same past (z 31 0 refl) (z 30 1 refl) (z 29 2 refl);
    }

newest_value : (ts : List ℤ) → length ts ≡ 32 → Within 32768 ts → AreLaterTaps (reverse ts) 0 (newest_taps ts)
newest_value ts long h =
    let z : (i k : ℕ) → i + k + 1 ≡ 32 → coefficient_at ts k ≡ get_or (reverse ts) i (pos 0) = λ i k e. coefficient_at_is ts k h ∙ sym (from_last ts 32 i k long e) in
    record {
      at_4 = four_same (z 7 24 refl) (z 6 25 refl) (z 5 26 refl) (z 4 27 refl);
      at_8 = four_same (z 11 20 refl) (z 10 21 refl) (z 9 22 refl) (z 8 23 refl);
      at_12 = four_same (z 15 16 refl) (z 14 17 refl) (z 13 18 refl) (z 12 19 refl);
      at_16 = four_same (z 19 12 refl) (z 18 13 refl) (z 17 14 refl) (z 16 15 refl);
      at_20 = four_same (z 23 8 refl) (z 22 9 refl) (z 21 10 refl) (z 20 11 refl);
      at_24 = four_same (z 27 4 refl) (z 26 5 refl) (z 25 6 refl) (z 24 7 refl);
      at_28 = four_same (z 31 0 refl) (z 30 1 refl) (z 29 2 refl) (z 28 3 refl);
    }

pub taps_value : (ts : List ℤ) → length ts ≡ 32 → Within 32768 ts → AreTaps (reverse ts) (as_taps ts)
taps_value ts long h = record { long = omega (arith, length-reverse ts); second = second_value ts long h; newest = newest_value ts long h }

pub four_lanes : {a b c d : ℤ} → unsigned_abs a ≤ 32768 → unsigned_abs b ≤ 32768 → unsigned_abs c ≤ 32768 → unsigned_abs d ≤ 32768 → Lanes 32768 (a ∷ b ∷ c ∷ d ∷ [])
four_lanes ha hb hc hd = record { four = refl; each = (ha, (hb, (hc, (hd, tt)))) }

second_small : (ts : List ℤ) → Within 32768 ts → SmallLater (second_taps ts)
second_small ts h =
    let e = λ (j : ℕ). coefficient_small ts j h in
    let none : unsigned_abs (pos 0) ≤ 32768 = omega arith in
    record { at_4 = four_lanes (e 23) (e 24) (e 25) (e 26); at_8 = four_lanes (e 19) (e 20) (e 21) (e 22); at_12 = four_lanes (e 15) (e 16) (e 17) (e 18); at_16 = four_lanes (e 11) (e 12) (e 13) (e 14); at_20 = four_lanes (e 7) (e 8) (e 9) (e 10); at_24 = four_lanes (e 3) (e 4) (e 5) (e 6); at_28 = four_lanes none (e 0) (e 1) (e 2) }

newest_small : (ts : List ℤ) → Within 32768 ts → SmallLater (newest_taps ts)
newest_small ts h =
    let e = λ (j : ℕ). coefficient_small ts j h in
    record { at_4 = four_lanes (e 24) (e 25) (e 26) (e 27); at_8 = four_lanes (e 20) (e 21) (e 22) (e 23); at_12 = four_lanes (e 16) (e 17) (e 18) (e 19); at_16 = four_lanes (e 12) (e 13) (e 14) (e 15); at_20 = four_lanes (e 8) (e 9) (e 10) (e 11); at_24 = four_lanes (e 4) (e 5) (e 6) (e 7); at_28 = four_lanes (e 0) (e 1) (e 2) (e 3) }

pub taps_small : (ts : List ℤ) → Within 32768 ts → SmallTaps (as_taps ts)
taps_small ts h = record { second = second_small ts h; newest = newest_small ts h }

-- with k zeros before the coefficients, these fit v vectors
pub fit_vectors : (ts : List ℤ) (n v k : ℕ) → length ts ≡ n → k + (4 * v + 4) ≡ n → take k ts ≡ replicate k (pos 0) → FitVectors v (reverse ts)
fit_vectors ts n v k long whole zeros =
    let halves : reverse ts ≡ reverse (drop k ts) ++ reverse (take k ts) = ap reverse (sym (take-append-drop k ts)) ∙ reverse-append (take k ts) (drop k ts) in
    let far : length (reverse (drop k ts)) ≡ 4 * v + 4 = omega (arith, length-reverse (drop k ts), length-drop k ts) in
    let after : drop (4 * v + 4) (reverse ts) ≡ reverse (take k ts) = ap (λ (m : ℕ). drop m (reverse ts)) (sym far) ∙ ap (drop (length (reverse (drop k ts)))) halves ∙ drop-append_seam (reverse (drop k ts)) (reverse (take k ts)) in
    let left : k ≡ length (reverse ts) - (4 * v + 4) = omega (arith, length-reverse ts) in
    after ∙ ap reverse zeros ∙ reverse_zeros k ∙ ap (λ (m : ℕ). replicate m (pos 0)) left
