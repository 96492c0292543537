-- Predictors: a loop's step in place, and sums of products.
use Rattle.std.proofs.Common.{◌≡◌, ℕ, ◌+◌, ◌-◌, ◌*◌, ◌%◌, ◌^◌, ◌<◌, ◌≤◌, List, [], ◌∷◌, ◌++◌, length, take, drop, reverse, get_or, set, refl, sym, ap, subst, ◌∙◌, append_assoc, arith, ℤ, pos, negsuc, ◌+ℤ◌, ◌-ℤ◌, ◌*ℤ◌, ◌≤ℤ◌, neg_ℤ, to_z, of_z, rules, w16, w32, w64, FitsSigned, bit_and, unsigned_abs}
use Rattle.std.specs.Int.{int_wrap, int_rem_euclid}
use Rattle.std.specs.Int.Signed.{shr_z, mag_shr}
use Rattle.std.proofs.Math.IntN.{+ℤ_assoc, +ℤ_comm}
use Rattle.std.proofs.lemmas.Nat.{and_mask, mul-le}
use Rattle.std.proofs.lemmas.Int.{wraps, unsigned_abs-mul, to_z-of_z, ints, int_wrap-add_left, SFits-int_wrap}
use Rattle.std.proofs.lemmas.List.{drop_more, take_more_set, drop-set-lt, take-append-drop, append-nil, reverse-append, drop_all, take_all, length-reverse, length-drop, length-take, drop-take}
use Rattle.claxon_format.specs.Predict.{linear, floor_shift, dot, wrap}
use Rattle.claxon_format.specs.read.Predict.{restore, restored}

-- ---- the step of a loop in place

reverse_push : (xs : List ℤ) (x : ℤ) → reverse (xs ++ x ∷ []) ≡ x ∷ reverse xs
reverse_push xs x = reverse-append xs (x ∷ [])

-- the residual sample at i is replaced by its sample
pub restored_more : (p : List ℤ → ℤ) (xs : List ℤ) (i : ℕ) (x : ℤ) → i < length xs → x ≡ wrap (p (reverse (take i xs)) +ℤ get_or xs i (pos 0)) → restored p (i + 1) (set xs i x) ≡ restored p i xs
restored_more p xs i x h e =
    let front : take (i + 1) (set xs i x) ≡ take i xs ++ x ∷ [] = take_more_set xs i x h in
    let rest : drop (i + 1) (set xs i x) ≡ drop (i + 1) xs = drop-set-lt (i + 1) xs i x (omega arith) in
    let past : reverse (take (i + 1) (set xs i x)) ≡ x ∷ reverse (take i xs) = ap reverse front ∙ reverse_push (take i xs) x in
    let one : restored p (i + 1) (set xs i x) ≡ (take i xs ++ x ∷ []) ++ restore p (x ∷ reverse (take i xs)) (drop (i + 1) xs)
    = ap (λ (t : List ℤ). t ++ restore p (reverse t) (drop (i + 1) (set xs i x))) front
    ∙ ap (λ (t : List ℤ). (take i xs ++ x ∷ []) ++ restore p t (drop (i + 1) (set xs i x))) (reverse_push (take i xs) x)
    ∙ ap (λ (t : List ℤ). (take i xs ++ x ∷ []) ++ restore p (x ∷ reverse (take i xs)) t) rest in
    let two : restored p i xs ≡ take i xs ++ wrap (p (reverse (take i xs)) +ℤ get_or xs i (pos 0)) ∷ restore p (wrap (p (reverse (take i xs)) +ℤ get_or xs i (pos 0)) ∷ reverse (take i xs)) (drop (i + 1) xs)
    = ap (λ (t : List ℤ). take i xs ++ restore p (reverse (take i xs)) t) (drop_more xs i (pos 0) h) in
    one ∙ append_assoc (take i xs) (x ∷ []) (restore p (x ∷ reverse (take i xs)) (drop (i + 1) xs))
    ∙ ap (λ (y : ℤ). take i xs ++ y ∷ restore p (y ∷ reverse (take i xs)) (drop (i + 1) xs)) e ∙ sym two

pub restored_all : (p : List ℤ → ℤ) (xs : List ℤ) (i : ℕ) → length xs ≤ i → restored p i xs ≡ xs
restored_all p xs i h =
    ap (λ (t : List ℤ). take i xs ++ restore p (reverse (take i xs)) t) (drop_all i xs h) ∙ append-nil (take i xs) ∙ take_all i xs h

pub step_2 : (a b d : ℤ) → FitsSigned w32 a → FitsSigned w32 b → FitsSigned w32 d
    → to_z w32 (((2 * of_z w32 a % 4294967296 + (4294967296 - of_z w32 b)) % 4294967296 + of_z w32 d) % 4294967296) ≡ wrap ((pos 2 *ℤ a -ℤ b) +ℤ d)
step_2 a b d f g h = search (rules, wraps, f, g, h)

-- the low 32 bits of a number of 64 bits
low_of : (z : ℤ) → FitsSigned w64 z → of_z w64 z % 4294967296 ≡ unsigned_abs (int_rem_euclid z (pos 4294967296))
low_of (pos n) h = refl
low_of (negsuc n) h = omega arith

pub low_bits_is : (z : ℤ) (u : ℕ) (r : ℤ) → FitsSigned w64 z → u ≡ of_z w64 (to_z w64 (of_z w64 z)) → r ≡ to_z w32 (bit_and u 4294967295) → to_z w32 (of_z w32 r) ≡ wrap z
unfolding int_wrap
low_bits_is z u r fits e k =
    let m : bit_and u 4294967295 ≡ u % 4294967296 = and_mask u 32 in
    let s : u ≡ of_z w64 z = e ∙ ap (of_z w64) (to_z-of_z w64 z fits) in
    let i : r ≡ wrap z = k ∙ ap (to_z w32) (m ∙ ap (λ (n : ℕ). n % 4294967296) s ∙ low_of z fits) in
    let f : FitsSigned w32 (wrap z) = SFits-int_wrap w32 z in
    ap (λ (y : ℤ). to_z w32 (of_z w32 y)) i ∙ to_z-of_z w32 (wrap z) f ∙ refl

-- ---- a sum of products

pub abs_16 : (c : ℤ) → FitsSigned w16 c → unsigned_abs c ≤ 2 ^ 15
abs_16 (pos n) h = omega arith
abs_16 (negsuc n) h = omega arith

pub abs_32 : (c : ℤ) → FitsSigned w32 c → unsigned_abs c ≤ 2 ^ 31
abs_32 (pos n) h = omega arith
abs_32 (negsuc n) h = omega arith

-- a number of 16 or 32 bits, widened to 64
pub value_16 : (c : ℤ) → FitsSigned w16 c → to_z w64 (of_z w64 (to_z w16 (of_z w16 c))) ≡ c
value_16 c h =
    let f : FitsSigned w64 c = record { sfits = omega arith } in
    ap (λ (y : ℤ). to_z w64 (of_z w64 y)) (to_z-of_z w16 c h) ∙ to_z-of_z w64 c f

pub value_32 : (c : ℤ) → FitsSigned w32 c → to_z w64 (of_z w64 (to_z w32 (of_z w32 c))) ≡ c
value_32 c h =
    let f : FitsSigned w64 c = record { sfits = omega arith } in
    ap (λ (y : ℤ). to_z w64 (of_z w64 y)) (to_z-of_z w32 c h) ∙ to_z-of_z w64 c f

pub product_size : (c x : ℤ) → unsigned_abs c ≤ 2 ^ 15 → unsigned_abs x ≤ 2 ^ 31 → unsigned_abs (c *ℤ x) ≤ 2 ^ 46
product_size c x h k = subst (λ (m : ℕ). m ≤ 2 ^ 46) (sym (unsigned_abs-mul c x)) (mul-le (unsigned_abs c) (unsigned_abs x) (2 ^ 15) (2 ^ 31) h k)

pub between : (p : ℤ) (m : ℕ) → unsigned_abs p ≤ m → (neg_ℤ (pos m) ≤ℤ p) × (p ≤ℤ pos m)
between (pos n) m h = (omega (arith, ints), omega (arith, ints))
between (negsuc n) m h = (omega (arith, ints), omega (arith, ints))

pub record Summed (t sum : ℤ) (i : ℕ) : Type 0 where
  pub is : t ≡ sum
  pub fits : FitsSigned w64 sum
  pub low : neg_ℤ (pos (2 ^ 46 * i)) ≤ℤ sum
  pub high : sum ≤ℤ pos (2 ^ 46 * i)

in_64 : (z : ℤ) (i : ℕ) → i ≤ 32 → neg_ℤ (pos (2 ^ 46 * i)) ≤ℤ z → z ≤ℤ pos (2 ^ 46 * i) → FitsSigned w64 z
in_64 z i le low high = omega (arith, ints)

pub sum_step : (b : ℕ) (sum cr sr c s : ℤ) (i : ℕ) → to_z w64 b ≡ sum → cr ≡ to_z w16 (of_z w16 c) → sr ≡ to_z w32 (of_z w32 s) → FitsSigned w16 c → FitsSigned w32 s → i < 32
    → neg_ℤ (pos (2 ^ 46 * i)) ≤ℤ sum → sum ≤ℤ pos (2 ^ 46 * i)
    → Summed (to_z w64 b +ℤ to_z w64 (of_z w64 (to_z w64 (of_z w64 cr) *ℤ to_z w64 (of_z w64 sr)))) (sum +ℤ c *ℤ s) (i + 1)
sum_step b sum cr sr c s i eb ec es f g lt low high =
    let c-is : to_z w64 (of_z w64 cr) ≡ c = ap (λ (y : ℤ). to_z w64 (of_z w64 y)) ec ∙ value_16 c f in
    let s-is : to_z w64 (of_z w64 sr) ≡ s = ap (λ (y : ℤ). to_z w64 (of_z w64 y)) es ∙ value_32 s g in
    let size = product_size c s (abs_16 c f) (abs_32 s g) in
    let p = between (c *ℤ s) (2 ^ 46) size in
    let p-low = p.0 in
    let p-high = p.1 in
    let new_low : neg_ℤ (pos (2 ^ 46 * (i + 1))) ≤ℤ (sum +ℤ c *ℤ s) = omega (arith, ints) in
    let new_high : (sum +ℤ c *ℤ s) ≤ℤ pos (2 ^ 46 * (i + 1)) = omega (arith, ints) in
    let pf : FitsSigned w64 (c *ℤ s) = omega (arith, ints) in
    record {
      is = ap (λ (y : ℤ). y +ℤ to_z w64 (of_z w64 (to_z w64 (of_z w64 cr) *ℤ to_z w64 (of_z w64 sr)))) eb ∙ ap (λ (y : ℤ). sum +ℤ to_z w64 (of_z w64 (y *ℤ to_z w64 (of_z w64 sr)))) c-is ∙ ap (λ (y : ℤ). sum +ℤ to_z w64 (of_z w64 (c *ℤ y))) s-is ∙ ap (λ (y : ℤ). sum +ℤ y) (to_z-of_z w64 (c *ℤ s) pf);
      fits = in_64 (sum +ℤ c *ℤ s) (i + 1) (omega arith) new_low new_high;
      low = new_low;
      high = new_high;
    }

pub dot_step : (cs xs : List ℤ) (i : ℕ) (sum total : ℤ) → i < length cs → length cs ≡ length xs → sum +ℤ dot (drop i cs) (drop i xs) ≡ total
    → (sum +ℤ get_or cs i (pos 0) *ℤ get_or xs i (pos 0)) +ℤ dot (drop (i + 1) cs) (drop (i + 1) xs) ≡ total
dot_step cs xs i sum total lt same e =
    let d : dot (drop i cs) (drop i xs) ≡ get_or cs i (pos 0) *ℤ get_or xs i (pos 0) +ℤ dot (drop (i + 1) cs) (drop (i + 1) xs)
    = ap (λ (t : List ℤ). dot t (drop i xs)) (drop_more cs i (pos 0) lt) ∙ ap (λ (t : List ℤ). dot (get_or cs i (pos 0) ∷ drop (i + 1) cs) t) (drop_more xs i (pos 0) (omega arith)) in
    +ℤ_assoc sum (get_or cs i (pos 0) *ℤ get_or xs i (pos 0)) (dot (drop (i + 1) cs) (drop (i + 1) xs)) ∙ ap (λ (y : ℤ). sum +ℤ y) (sym d) ∙ e

-- ---- the newest first, and the newest last

dot_push : (cs xs : List ℤ) (c x : ℤ) → length cs ≡ length xs → dot (cs ++ c ∷ []) (xs ++ x ∷ []) ≡ dot cs xs +ℤ c *ℤ x
dot_push [] [] c x e = omega (arith, ints)
dot_push [] (y ∷ ys) c x e = absurd (omega arith)
dot_push (d ∷ cs) [] c x e = absurd (omega arith)
dot_push (d ∷ cs) (y ∷ ys) c x e =
    ap (λ (z : ℤ). d *ℤ y +ℤ z) (dot_push cs ys c x (omega arith)) ∙ sym (+ℤ_assoc (d *ℤ y) (dot cs ys) (c *ℤ x))

pub dot-reverse : (cs xs : List ℤ) → length cs ≡ length xs → dot (reverse cs) (reverse xs) ≡ dot cs xs
dot-reverse [] [] e = refl
dot-reverse [] (y ∷ ys) e = absurd (omega arith)
dot-reverse (d ∷ cs) [] e = absurd (omega arith)
dot-reverse (d ∷ cs) (y ∷ ys) e =
    ap (λ (t : List ℤ). dot t (reverse (y ∷ ys))) (reverse-append (d ∷ []) cs) ∙ ap (λ (t : List ℤ). dot (reverse cs ++ d ∷ []) t) (reverse-append (y ∷ []) ys)
    ∙ dot_push (reverse cs) (reverse ys) d y (omega (arith, length-reverse cs, length-reverse ys)) ∙ ap (λ (z : ℤ). z +ℤ d *ℤ y) (dot-reverse cs ys (omega arith)) ∙ +ℤ_comm (dot cs ys) (d *ℤ y)

-- samples past the last coefficient don't count
pub dot-append : (cs xs ys : List ℤ) → length cs ≤ length xs → dot cs (xs ++ ys) ≡ dot cs xs
dot-append [] xs ys e = refl
dot-append (c ∷ cs) [] ys e = absurd (omega arith)
dot-append (c ∷ cs) (x ∷ xs) ys e = ap (λ (z : ℤ). c *ℤ x +ℤ z) (dot-append cs xs ys (omega arith))

-- the samples right before i, with the newest sample's coefficient last
pub dot_window : (cs xs : List ℤ) (i : ℕ) → length cs ≤ i → i ≤ length xs → dot cs (drop (i - length cs) (take i xs)) ≡ dot (reverse cs) (reverse (take i xs))
dot_window cs xs i le lt =
    let w : List ℤ = drop (i - length cs) (take i xs) in
    let len : length (drop (i - length cs) (take i xs)) ≡ length cs = omega (arith, length-drop (i - length cs) (take i xs), length-take i xs) in
    let split : reverse (take i xs) ≡ reverse (drop (i - length cs) (take i xs)) ++ reverse (take (i - length cs) (take i xs))
    = ap reverse (sym (take-append-drop (i - length cs) (take i xs))) ∙ reverse-append (take (i - length cs) (take i xs)) (drop (i - length cs) (take i xs)) in
    sym (dot-reverse cs (drop (i - length cs) (take i xs)) (sym len))
    ∙ sym (dot-append (reverse cs) (reverse (drop (i - length cs) (take i xs))) (reverse (take (i - length cs) (take i xs))) (omega (arith, length-reverse cs, length-reverse (drop (i - length cs) (take i xs)))))
    ∙ ap (dot (reverse cs)) (sym split)

pub floor_is : (z : ℤ) (s : ℕ) → shr_z z (2 ^ s) ≡ floor_shift z s
floor_is (pos n) s = refl
floor_is (negsuc n) s = refl

pub shifted_fits : (z : ℤ) (s : ℕ) → FitsSigned w64 z → FitsSigned w64 (shr_z z (2 ^ s))
shifted_fits z s h = record { sfits = omega (arith, h.sfits, mag_shr z (2 ^ s)) }

shift_is : (r : ℤ) (s : ℕ) → FitsSigned w64 r → to_z w64 (of_z w64 (shr_z (to_z w64 (of_z w64 r)) (2 ^ s))) ≡ floor_shift r s
shift_is r s fr = ap (λ (y : ℤ). to_z w64 (of_z w64 (shr_z y (2 ^ s)))) (to_z-of_z w64 r fr) ∙ to_z-of_z w64 (shr_z r (2 ^ s)) (shifted_fits r s fr) ∙ floor_is r s

-- the low 32 bits of the prediction
pub linear_value : (cs xs : List ℤ) (i s : ℕ) (l r : ℤ) → length cs ≤ i → i ≤ length xs → FitsSigned w64 r → r ≡ dot cs (take (i - (i - length cs)) (drop (i - length cs) xs)) → l ≡ wrap (to_z w64 (of_z w64 (shr_z (to_z w64 (of_z w64 r)) (2 ^ s))))
    → l ≡ wrap (linear (reverse cs) s (reverse (take i xs)))
linear_value cs xs i s l r le lt fr er el =
    let part : take (i - (i - length cs)) (drop (i - length cs) xs) ≡ drop (i - length cs) (take i xs)
    = sym (drop-take (i - length cs) (i - (i - length cs)) xs) ∙ ap (λ (n : ℕ). drop (i - length cs) (take n xs)) (omega arith) in
    let r-is : r ≡ dot (reverse cs) (reverse (take i xs)) = er ∙ ap (dot cs) part ∙ dot_window cs xs i le lt in
    el ∙ ap wrap (shift_is r s fr ∙ ap (λ (y : ℤ). floor_shift y s) r-is)

-- that plus a residual sample
pub linear_sum : (x l v d : ℤ) → l ≡ wrap v → x ≡ wrap (l +ℤ d) → x ≡ wrap (v +ℤ d)
linear_sum x l v d e h = h ∙ ap (λ (y : ℤ). wrap (y +ℤ d)) e ∙ int_wrap-add_left w32 v d

pub wrap_fits : (l v : ℤ) → l ≡ wrap v → FitsSigned w32 l
wrap_fits l v e = subst (λ (y : ℤ). FitsSigned w32 y) (sym e) (SFits-int_wrap w32 v)
