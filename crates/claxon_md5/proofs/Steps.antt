-- The sums of a step.
use Rattle.std.proofs.Common.{◌≡◌, ℕ, ◌+◌, ◌-◌, ◌^◌, ◌<◌, bit_and, refl, sym, ap, ◌∙◌, arith}
use Rattle.std.proofs.lemmas.Nat.{or_disjoint, and_comm, and_assoc}
use Rattle.std.proofs.lemmas.Grind.{and-not_self}
use Rattle.std.specs.Int.{w32, bit_not}
use Rattle.claxon_md5.specs.Md5.{add, auxiliary_g}

-- the two parts of G have no bit in common
apart : (x y z : ℕ) → z < 2 ^ 32 → bit_and (bit_and x z) (bit_and y (bit_not w32 z)) ≡ 0
apart x y z h =
    let q = bit_and y (bit_not w32 z) in
    let none : bit_and q z ≡ 0 = and-not_self y (2 ^ 32 - 1) z z refl (omega arith) refl in
    and_comm (bit_and x z) q ∙ ap (bit_and q) (and_comm x z) ∙ sym (and_assoc x q z)
    ∙ ap (λ n. bit_and n x) none

-- so both may be added, one of them to the sum
pub g_added : (a b c d sum : ℕ) → d < 2 ^ 32
    → add (add a (bit_and b d)) (add sum (bit_and c (bit_not w32 d)))
    ≡ add (add a (auxiliary_g b c d)) sum
g_added a b c d sum h =
    let p = bit_and b d in
    let q = bit_and c (bit_not w32 d) in
    let e : auxiliary_g b c d ≡ p + q = or_disjoint p q (apart b c d h) in
    rw e (omega arith)
