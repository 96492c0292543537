-- Functions over ranges of numbers.
use Rattle.std.proofs.Common.{◌≡◌, ℕ, zero, suc, ◌+◌, ◌<◌, List, ◌∷◌, ◌++◌}
use Rattle.std.proofs.Common.{refl, sym, ap, ap₂, ◌∙◌, arith, map}
use Rattle.std.specs.List.{range_with_len}

-- functions that agree on two ranges
pub map_along : {X : Type 0} (f g : ℕ → X) (a b n : ℕ) → ((i : ℕ) → i < n → f (a + i) ≡ g (b + i))
    → map f (range_with_len a n) ≡ map g (range_with_len b n)
map_along f g a b zero h = refl
map_along {X} f g a b (suc n) h =
    let x : a + 0 ≡ a = omega arith in
    let y : b + 0 ≡ b = omega arith in
    let first : f a ≡ g b = ap f (sym x) ∙ h 0 (omega arith) ∙ ap g y in
    let rest = map_along f g (a + 1) (b + 1) n (λ i lt.
    let p : a + 1 + i ≡ a + suc i = omega arith in
    let q : b + suc i ≡ b + 1 + i = omega arith in
    ap f p ∙ h (suc i) (omega arith) ∙ ap g q) in
    ap₂ (λ (z : X) (zs : List X). z ∷ zs) first rest

-- a range that goes on
pub map_on : {X : Type 0} (f : ℕ → X) (n from m : ℕ)
    → map f (range_with_len from (n + m))
    ≡ map f (range_with_len from n) ++ map f (range_with_len (from + n) m)
map_on f zero from m =
    let a : 0 + m ≡ m = omega arith in
    let b : from + 0 ≡ from = omega arith in
    rw (a, b) refl
map_on {X} f (suc n) from m =
    let a : suc n + m ≡ suc (n + m) = omega arith in
    let b : from + 1 + n ≡ from + suc n = omega arith in
    rw a (ap (λ (z : List X). f from ∷ z) (map_on f n (from + 1) m
    ∙ ap (λ (k : ℕ). map f (range_with_len (from + 1) n) ++ map f (range_with_len k m)) b))
