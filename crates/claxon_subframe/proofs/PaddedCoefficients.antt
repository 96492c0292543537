-- Coefficients padded to n numbers with zeros before them, and the first n samples.
use Rattle.std.proofs.Common.{◌≡◌, ℕ, zero, suc, ◌+◌, ◌-◌, ◌^◌, ◌<◌, ◌≤◌, min, inl, inr, List, [], ◌∷◌, ◌++◌, length, take, drop, reverse, replicate, get_or, set, append_assoc, refl, sym, ap, add-zero, subst, ◌∙◌, arith, ℤ, pos, ◌+ℤ◌, of_z, to_z, w16, w64, FitsSigned, unsigned_abs}
use Rattle.std.proofs.lemmas.List.{take_more_set, take_more, take_all, append-nil, take-replicate, length-set, length-take, length-drop, drop_all, take-take, take-append-drop, drop-append-le, reverse-append, length-append, length-replicate, replicate-append-replicate, take-append-le}
use Rattle.std.proofs.Math.Seq.{take-append_seam, drop-append_seam}
use Rattle.std.proofs.lemmas.Bool.{cases_lt}
use Rattle.claxon_format.proofs.PredictorSubframes.{length-restore}
use Rattle.claxon_format.specs.Predict.{wrap, dot, floor_shift, linear}
use Rattle.claxon_format.specs.read.Predict.{restore, restored}
use Rattle.claxon_subframe.proofs.Predictors.{restored_all, abs_16, value_16}
use Rattle.claxon_subframe.specs.Lanes.{AllWithin, Within}
use Rattle.claxon_subframe.proofs.Lanes.{dot_trailing_zeros}

-- ---- zeros and coefficients after them

within_zeros : (m n : ℕ) → AllWithin m (replicate n (pos 0))
within_zeros m zero = tt
within_zeros m (suc n) = (omega arith, within_zeros m n)

within_set : (m : ℕ) (xs : List ℤ) (i : ℕ) (x : ℤ) → unsigned_abs x ≤ m → AllWithin m xs → AllWithin m (set xs i x)
within_set m [] i x h k = tt
within_set m (y ∷ ys) zero x h k = (h, k.1)
within_set m (y ∷ ys) (suc i) x h k = (k.0, within_set m ys i x h k.1)

-- of n numbers, the first are k zeros and i of the coefficients
pub record Filled (n k i : ℕ) (cs xs : List ℤ) : Type 0 where
  pub long : length xs ≡ n
  pub front : take (k + i) xs ≡ replicate k (pos 0) ++ take i cs
  pub small : Within (2 ^ 15) xs

pub filled_none : (n k : ℕ) (cs : List ℤ) → k ≤ n → Filled n k 0 cs (replicate n (pos 0))
filled_none n k cs le = record {
  long = length-replicate n (pos 0);
  front = ap (λ (m : ℕ). take m (replicate n (pos 0))) (add-zero k) ∙ take-replicate k n (pos 0) le ∙ sym (append-nil (replicate k (pos 0)));
  small = record { each = within_zeros (2 ^ 15) n };
}

pub filled_more : {n k i : ℕ} {cs xs : List ℤ} (x : ℤ) → i < length cs → k + i < n → FitsSigned w16 (get_or cs i (pos 0)) → x ≡ to_z w16 (of_z w16 (get_or cs i (pos 0))) → Filled n k i cs xs
    → Filled n k (i + 1) cs (set xs (k + i) (to_z w64 (of_z w64 x)))
filled_more {n} {k} {i} {cs} {xs} x lt capacity f e h =
    let value : to_z w64 (of_z w64 x) ≡ get_or cs i (pos 0) = ap (λ (y : ℤ). to_z w64 (of_z w64 y)) e ∙ value_16 (get_or cs i (pos 0)) f in
    let next : take (k + (i + 1)) (set xs (k + i) (to_z w64 (of_z w64 x))) ≡ take (k + i) xs ++ to_z w64 (of_z w64 x) ∷ []
    = ap (λ (m : ℕ). take m (set xs (k + i) (to_z w64 (of_z w64 x)))) (omega arith) ∙ take_more_set xs (k + i) (to_z w64 (of_z w64 x)) (omega (arith, h.long)) in
    record {
      long = length-set xs (k + i) (to_z w64 (of_z w64 x)) ∙ h.long;
      front = next ∙ ap (λ (t : List ℤ). t ++ to_z w64 (of_z w64 x) ∷ []) h.front ∙ append_assoc (replicate k (pos 0)) (take i cs) (to_z w64 (of_z w64 x) ∷ [])
          ∙ ap (λ (y : ℤ). replicate k (pos 0) ++ (take i cs ++ y ∷ [])) value ∙ ap (λ (t : List ℤ). replicate k (pos 0) ++ t) (sym (take_more cs i (pos 0) lt));
      small = record { each = within_set (2 ^ 15) xs (k + i) (to_z w64 (of_z w64 x)) (subst (λ (y : ℤ). unsigned_abs y ≤ 32768) (sym value) (abs_16 (get_or cs i (pos 0)) f)) h.small.each };
    }

pub filled_all : {n k i : ℕ} {cs xs : List ℤ} → length cs ≤ i → n ≤ k + i → Filled n k i cs xs → xs ≡ replicate k (pos 0) ++ cs
filled_all {n} {k} {i} {cs} {xs} all full h = sym (take_all (k + i) xs (omega (arith, h.long))) ∙ h.front ∙ ap (λ (t : List ℤ). replicate k (pos 0) ++ t) (take_all i cs all)

-- ---- the first samples, then the others

pub restore_same : (p q : List ℤ → ℤ) (past xs : List ℤ) → ((l : List ℤ) → p l ≡ q l) → restore p past xs ≡ restore q past xs
restore_same p q past [] h = refl
restore_same p q past (e ∷ es) h =
    ap (λ (y : ℤ). wrap (y +ℤ e) ∷ restore p (wrap (y +ℤ e) ∷ past) es) (h past) ∙ ap (λ (t : List ℤ). wrap (q past +ℤ e) ∷ t) (restore_same p q (wrap (q past +ℤ e) ∷ past) es h)

restore_append : (p : List ℤ → ℤ) (past xs ys : List ℤ) → restore p past (xs ++ ys) ≡ restore p past xs ++ restore p (reverse (restore p past xs) ++ past) ys
restore_append p past [] ys = refl
restore_append p past (e ∷ es) ys =
    let x : ℤ = wrap (p past +ℤ e) in
    let newest : reverse (restore p (x ∷ past) es) ++ (x ∷ past) ≡ reverse (x ∷ restore p (x ∷ past) es) ++ past
    = sym (ap (λ (t : List ℤ). t ++ past) (reverse-append (x ∷ []) (restore p (x ∷ past) es)) ∙ append_assoc (reverse (restore p (x ∷ past) es)) (x ∷ []) past) in
    ap (λ (t : List ℤ). x ∷ t) (restore_append p (x ∷ past) es ys ∙ ap (λ (t : List ℤ). restore p (x ∷ past) es ++ restore p t ys) newest)

pub length-restored : (p : List ℤ → ℤ) (n : ℕ) (xs : List ℤ) → n ≤ length xs → length (restored p n xs) ≡ length xs
length-restored p n xs le =
    omega (arith, length-append (take n xs) (restore p (reverse (take n xs)) (drop n xs)), length-restore p (reverse (take n xs)) (drop n xs), length-take n xs, length-drop n xs)

-- n of the first k samples are warm-up samples
pub restored_front : (p q : List ℤ → ℤ) (n k : ℕ) (xs : List ℤ) → n ≤ k → k ≤ length xs → ((l : List ℤ) → p l ≡ q l) → restored p k (restored q n (take k xs) ++ drop k xs) ≡ restored q n xs
restored_front p q n k xs le lt h =
    let front : List ℤ = restored q n (take k xs) in
    let long : length front ≡ k = length-restored q n (take k xs) (omega (arith, length-take k xs)) ∙ omega (arith, length-take k xs) in
    let front_is : take k (front ++ drop k xs) ≡ front = ap (λ (j : ℕ). take j (front ++ drop k xs)) (sym long) ∙ take-append_seam front (drop k xs) in
    let rest_is : drop k (front ++ drop k xs) ≡ drop k xs = ap (λ (j : ℕ). drop j (front ++ drop k xs)) (sym long) ∙ drop-append_seam front (drop k xs) in
    let one : restored p k (front ++ drop k xs) ≡ front ++ restore q (reverse front) (drop k xs)
    = ap (λ (t : List ℤ). t ++ restore p (reverse t) (drop k (front ++ drop k xs))) front_is ∙ ap (λ (t : List ℤ). front ++ restore p (reverse front) t) rest_is
    ∙ ap (λ (t : List ℤ). front ++ t) (restore_same p q (reverse front) (drop k xs) h) in
    let warm_up : List ℤ = take n (take k xs) in
    let cold : List ℤ = drop n (take k xs) in
    let back : restore q (reverse warm_up) cold ++ restore q (reverse front) (drop k xs) ≡ restore q (reverse warm_up) (cold ++ drop k xs)
    = ap (λ (t : List ℤ). restore q (reverse warm_up) cold ++ restore q t (drop k xs)) (reverse-append warm_up (restore q (reverse warm_up) cold)) ∙ sym (restore_append q (reverse warm_up) cold (drop k xs)) in
    let same_warm : warm_up ≡ take n xs = take-take n k xs le in
    let same_cold : cold ++ drop k xs ≡ drop n xs = sym (drop-append-le n (take k xs) (drop k xs) (omega (arith, length-take k xs))) ∙ ap (drop n) (take-append-drop k xs) in
    one ∙ append_assoc warm_up (restore q (reverse warm_up) cold) (restore q (reverse front) (drop k xs)) ∙ ap (λ (t : List ℤ). warm_up ++ t) back
    ∙ ap (λ (t : List ℤ). t ++ restore q (reverse t) (cold ++ drop k xs)) same_warm ∙ ap (λ (t : List ℤ). take n xs ++ restore q (reverse (take n xs)) t) same_cold

pub reverse_zeros : (k : ℕ) → reverse (replicate k (pos 0)) ≡ replicate k (pos 0)
reverse_zeros zero = refl
reverse_zeros (suc k) =
    let more : k + 1 ≡ suc k = omega arith in
    reverse-append (pos 0 ∷ []) (replicate k (pos 0)) ∙ ap (λ (t : List ℤ). t ++ pos 0 ∷ []) (reverse_zeros k) ∙ replicate-append-replicate k 1 (pos 0) ∙ ap (λ (n : ℕ). replicate n (pos 0)) more

pub linear_leading_zeros : (k : ℕ) (cs : List ℤ) (t : ℕ) (l : List ℤ) → linear (reverse (replicate k (pos 0) ++ cs)) t l ≡ linear (reverse cs) t l
linear_leading_zeros k cs t l =
    let rotated : reverse (replicate k (pos 0) ++ cs) ≡ reverse cs ++ replicate k (pos 0) = reverse-append (replicate k (pos 0)) cs ∙ ap (λ (z : List ℤ). reverse cs ++ z) (reverse_zeros k) in
    ap (λ (z : List ℤ). floor_shift (dot z l) t) rotated ∙ ap (λ (y : ℤ). floor_shift y t) (dot_trailing_zeros k (reverse cs) l)

pub rest_is : (n k : ℕ) (cs xs padded front all : List ℤ) (t f : ℕ) → length cs ≤ n → length cs ≤ length xs → f ≡ min (length xs) n → padded ≡ replicate k (pos 0) ++ cs
    → front ≡ restored (linear (reverse cs) t) (length cs) (take f xs) → all ≡ restored (linear (reverse padded) t) n (front ++ drop f xs) → all ≡ restored (linear (reverse cs) t) (length cs) xs
rest_is n k cs xs padded front all t f few warm_up ef et er ea =
    let same = λ (l : List ℤ). ap (λ (z : List ℤ). linear (reverse z) t l) et ∙ linear_leading_zeros k cs t l in
    elim (cases_lt (length xs) n) [
      | inl short ↦
          (let whole : front ≡ restored (linear (reverse cs) t) (length cs) xs = er ∙ ap (restored (linear (reverse cs) t) (length cs)) (take_all f xs (omega arith)) in
          let long : length front ≡ length xs = ap length whole ∙ length-restored (linear (reverse cs) t) (length cs) xs warm_up in
          ea ∙ ap (λ (z : List ℤ). restored (linear (reverse padded) t) n (front ++ z)) (drop_all f xs (omega arith))
          ∙ ap (restored (linear (reverse padded) t) n) (append-nil front) ∙ restored_all (linear (reverse padded) t) front n (omega arith) ∙ whole)
      | inr long ↦
          (let all_first : f ≡ n = omega arith in
          ea ∙ ap (λ (z : List ℤ). restored (linear (reverse padded) t) n (z ++ drop f xs)) er
          ∙ ap (λ (m : ℕ). restored (linear (reverse padded) t) n (restored (linear (reverse cs) t) (length cs) (take m xs) ++ drop m xs)) all_first
          ∙ restored_front (linear (reverse padded) t) (linear (reverse cs) t) (length cs) n xs few long same)
    ]

-- padding to n numbers begins with k zeros
pub zeros_before : (n k : ℕ) (cs padded : List ℤ) → length cs + k ≤ n → padded ≡ replicate (n - length cs) (pos 0) ++ cs → take k padded ≡ replicate k (pos 0)
zeros_before n k cs padded few e =
    ap (take k) e ∙ take-append-le k (replicate (n - length cs) (pos 0)) cs (omega (arith, length-replicate (n - length cs) (pos 0))) ∙ take-replicate k (n - length cs) (pos 0) (omega arith)
