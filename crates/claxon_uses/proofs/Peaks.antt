-- The greatest magnitude of samples, one more at a time.
use Rattle.std.proofs.Common.{◌≡◌, ◌∙◌, ℕ, ℤ, ◌+◌, ◌<◌, List, [], ◌∷◌, ◌++◌, ap, arith, get_or, length, max, pos, refl, take}
use Rattle.std.proofs.Common.{nat_cmp}
use Rattle.std.specs.Ordering.{ord_max}
use Rattle.std.specs.Prelude.{Some, slice_get, unsigned_abs}
use Rattle.std.proofs.lemmas.Grind.{common_steps}
use Rattle.std.proofs.lemmas.List.{take_more}
use Rattle.std.proofs.lemmas.Option.{get_or_from_slice_get, slice_get_within}
use Rattle.claxon_uses.specs.Peak.{greatest, peak_of}

max_apart : (a b c d : ℕ) → b ≡ max c d → max a b ≡ max (max a c) d
max_apart a b c d e = omega (arith, e)

greatest_last : (xs : List ℤ) (x : ℤ) → greatest (xs ++ x ∷ []) ≡ max (greatest xs) (unsigned_abs x)
unfolding greatest
greatest_last [] x = omega arith
greatest_last (y ∷ xs) x = max_apart (unsigned_abs y) (greatest (xs ++ x ∷ [])) (greatest xs) (unsigned_abs x) (greatest_last xs x)

peak_last : (cs : List (List ℤ)) (c : List ℤ) → peak_of (cs ++ c ∷ []) ≡ max (peak_of cs) (greatest c)
unfolding peak_of
peak_last [] c = omega arith
peak_last (d ∷ cs) c = max_apart (greatest d) (peak_of (cs ++ c ∷ [])) (peak_of cs) (greatest c) (peak_last cs c)

-- none so far
pub greatest_none : greatest [] ≡ 0
unfolding greatest
greatest_none = refl

pub peak_none : peak_of [] ≡ 0
unfolding peak_of
peak_none = refl

-- a sample more
pub greatest_more : (xs : List ℤ) (i : ℕ) → i < length xs → greatest (take (i + 1) xs) ≡ max (greatest (take i xs)) (unsigned_abs (get_or xs i (pos 0)))
greatest_more xs i lt = ap greatest (take_more xs i (pos 0) lt) ∙ greatest_last (take i xs) (get_or xs i (pos 0))

-- a channel more
pub peak_more : (cs : List (List ℤ)) (i : ℕ) (c : List ℤ) → slice_get cs i ≡ Some c → peak_of (take (i + 1) cs) ≡ max (peak_of (take i cs)) (greatest c)
peak_more cs i c found =
    let is : get_or cs i [] ≡ c = get_or_from_slice_get cs i c [] found in
    ap peak_of (take_more cs i [] (slice_get_within cs i c found)) ∙ ap (λ (z : List ℤ). peak_of (take i cs ++ z ∷ [])) is ∙ peak_last (take i cs) c

-- `a.max(b)`
pub max_is : (a b : ℕ) → ord_max nat_cmp a b ≡ max a b
max_is a b = grind (arith, common_steps)
