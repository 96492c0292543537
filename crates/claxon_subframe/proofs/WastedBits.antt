-- Wasted bits appended by a shift.
use Rattle.std.proofs.Common.{◌≡◌, ℕ, ◌+◌, ◌*◌, ◌%◌, ◌^◌, ◌<◌, ◌≤◌, List, [], ◌∷◌, ◌++◌, length, take, drop, map, get_or, set, sym, ap, ◌∙◌, arith, ℤ, pos, negsuc, ◌*ℤ◌, to_z, of_z, w32, FitsSigned}
use Rattle.std.specs.Int.{int_wrap}
use Rattle.std.proofs.lemmas.Int.{to_z-of_z, wrapping_mul-bits, int_wrap-mul_right}
use Rattle.std.proofs.lemmas.List.{take_more, take_more_set, drop_more, drop-set-lt, map-append}
use Rattle.std.proofs.Math.Nat.{pow-le-pow_right}
use Rattle.claxon_format.specs.Subframe.{scaled}
use Rattle.claxon_format.proofs.Numbers.{mod_small}

bits_below : (x : ℤ) → FitsSigned w32 x → of_z w32 x < 2 ^ 32
bits_below (pos n) h = omega (arith, h.sfits)
bits_below (negsuc n) h = omega (arith, h.sfits)

wrap_small : (n : ℕ) → n < 2 ^ 32 → to_z w32 n ≡ int_wrap w32 (pos n)
unfolding int_wrap
wrap_small n lt = ap (to_z w32) (sym (mod_small n 4294967296 lt))

pub scaled_is : (x : ℤ) (wasted : ℕ) → FitsSigned w32 x → wasted ≤ 31 → to_z w32 (of_z w32 x * 2 ^ wasted % 4294967296) ≡ scaled wasted x
scaled_is x wasted fits most =
    let small : 2 ^ wasted < 2 ^ 32 = (let p : 2 ^ wasted ≤ 2 ^ 31 = pow-le-pow_right (omega arith) most in omega arith) in
    wrapping_mul-bits w32 (of_z w32 x) (2 ^ wasted) (bits_below x fits) small
    ∙ ap (λ (y : ℤ). int_wrap w32 (y *ℤ to_z w32 (2 ^ wasted))) (to_z-of_z w32 x fits)
    ∙ ap (λ (y : ℤ). int_wrap w32 (x *ℤ y)) (wrap_small (2 ^ wasted) small)
    ∙ int_wrap-mul_right w32 x (pos (2 ^ wasted))

-- one more element is mapped
pub mapped_more : (f : ℤ → ℤ) (all xs : List ℤ) (i : ℕ) (x : ℤ) → i < length xs → length xs ≡ length all → take i xs ≡ map f (take i all) → drop i xs ≡ drop i all → x ≡ f (get_or xs i (pos 0))
    → (take (i + 1) (set xs i x) ≡ map f (take (i + 1) all)) × (drop (i + 1) (set xs i x) ≡ drop (i + 1) all)
mapped_more f all xs i x lt same front rest e =
    let lt_all : i < length all = omega arith in
    let both : get_or xs i (pos 0) ∷ drop (i + 1) xs ≡ get_or all i (pos 0) ∷ drop (i + 1) all = sym (drop_more xs i (pos 0) lt) ∙ rest ∙ drop_more all i (pos 0) lt_all in
    let here : get_or xs i (pos 0) ≡ get_or all i (pos 0) = cc both in
    let after : drop (i + 1) xs ≡ drop (i + 1) all = cc both in
    let image : map f (take (i + 1) all) ≡ map f (take i all) ++ f (get_or all i (pos 0)) ∷ [] = ap (map f) (take_more all i (pos 0) lt_all) ∙ map-append f (take i all) (get_or all i (pos 0) ∷ []) in
    (take_more_set xs i x lt ∙ ap (λ (t : List ℤ). t ++ x ∷ []) front ∙ ap (λ (y : ℤ). map f (take i all) ++ y ∷ []) (e ∙ ap f here) ∙ sym image, drop-set-lt (i + 1) xs i x (omega arith) ∙ after)
