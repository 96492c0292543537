-- The last of some bytes.
use Rattle.std.proofs.Common.{◌≡◌, ℕ, suc, ◌-◌, ◌≤◌, List, [], ◌∷◌, ◌++◌, length, get_or, refl, ap, ◌∙◌, arith}
use Rattle.claxon_heads.specs.BytesRead.{last_of}

pub last_at : (other : ℕ) (xs : List ℕ) → 1 ≤ length xs → get_or xs (length xs - 1) 0 ≡ last_of other xs
last_at other [] some = absurd (omega (arith, some))
last_at other (x ∷ []) some = refl
last_at other (x ∷ y ∷ xs) some =
    let e : length (x ∷ y ∷ xs) - 1 ≡ suc (length (y ∷ xs) - 1) = omega arith in
    ap (λ (k : ℕ). get_or (x ∷ y ∷ xs) k 0) e ∙ last_at x (y ∷ xs) (omega arith)

pub last_append : (other : ℕ) (xs more : List ℕ) → last_of other (xs ++ more) ≡ last_of (last_of other xs) more
last_append other [] more = refl
last_append other (x ∷ xs) more = last_append x xs more
