-- Samples of one channel after another.
use Rattle.std.proofs.Common.{◌≡◌, ℕ, suc, ◌*◌, ℤ, List, [], ◌∷◌, length, arith, length-append}
use Rattle.claxon.specs.Block.{AreOfLength, joined}

-- so many are there in all
pub length-joined : (n : ℕ) (channels : List (List ℤ)) → AreOfLength n channels → length (joined channels) ≡ length channels * n
length-joined n [] each = omega arith
length-joined n (c ∷ cs) each =
    let one : length c ≡ n = each 0 [] (omega arith) in
    let others : AreOfLength n cs = λ k d below. each (suc k) d (omega (arith, below)) in
    grind (arith, length-append c (joined cs), one, length-joined n cs others)
