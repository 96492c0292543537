-- Shifts and masks by a partition order.
use Rattle.std.proofs.Common.{◌≡◌, ℕ, zero, suc, ◌+◌, ◌-◌, ◌*◌, ◌/◌, ◌%◌, ◌^◌, ◌<◌, ◌≤◌, refl, ap, ◌∙◌, arith, bit_and, replicate}
use Rattle.std.proofs.lemmas.Nat.{and_mask, one_shl, pow_pos}
use Rattle.claxon_format.specs.Residual.{partition_lengths}
use Rattle.claxon_subframe.specs.Partitions.{lengths, total}
use Rattle.std.proofs.Math.Nat.{suc-mul}

pub mask_is : (n p : ℕ) → p < 16 → bit_and n (1 * 2 ^ p % 4294967296 - 1) ≡ n % 2 ^ p
mask_is n p lt = let e : 1 * 2 ^ p % 4294967296 ≡ 2 ^ p = one_shl p 32 (omega arith) in rw e (and_mask n p)

some_partitions : (p : ℕ) → p < 16 → 1 * 2 ^ p % 4294967296 ≡ suc (2 ^ p - 1)
some_partitions p lt = let k : 0 < 2 ^ p = pow_pos p in one_shl p 32 (omega arith) ∙ omega arith

total-replicate : (n l : ℕ) → total (replicate n l) ≡ n * l
total-replicate zero l = omega arith
total-replicate (suc n) l = let e = suc-mul n l in rw (total-replicate n l) (omega arith)

pub total_is : (n order p : ℕ) → p < 16 → n % 2 ^ p ≡ 0 → order ≤ n / 2 ^ p → total (lengths (1 * 2 ^ p % 4294967296) (n / 2 ^ p - order) (n / 2 ^ p)) ≡ n - order
total_is n order p lt whole capacity =
    let some : 0 < 2 ^ p = pow_pos p in
    let split : 2 ^ p * (n / 2 ^ p) + n % 2 ^ p ≡ n = omega arith in
    let e = suc-mul (2 ^ p - 1) (n / 2 ^ p) in
    let k : suc (2 ^ p - 1) ≡ 2 ^ p = omega arith in
    let f : n / 2 ^ p + (2 ^ p - 1) * (n / 2 ^ p) ≡ n = (let g = ap (λ (z : ℕ). z * (n / 2 ^ p)) k in omega arith) in
    rw (some_partitions p lt, total-replicate (2 ^ p - 1) (n / 2 ^ p)) (omega arith)

-- the lengths of the partitions
pub lengths_are : (n order p : ℕ) → p < 16 → lengths (1 * 2 ^ p % 4294967296) (n / 2 ^ p - order) (n / 2 ^ p) ≡ partition_lengths n order p
lengths_are n order p lt = rw (some_partitions p lt) refl
