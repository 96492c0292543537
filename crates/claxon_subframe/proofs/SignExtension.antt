-- Sign extension by shifts.
use Rattle.std.proofs.Common.{◌≡◌, ℕ, suc, ◌+◌, ◌-◌, ◌*◌, ◌/◌, ◌%◌, ◌^◌, ◌<◌, ◌≤◌, cond, inl, inr, true, false, ltb, refl, sym, ap, subst, ◌∙◌, arith, ℤ, pos, negsuc, to_z, of_z, w16, w32, FitsSigned}
use Rattle.std.specs.Int.Signed.{shr_z, mag_shr}
use Rattle.std.proofs.lemmas.Bool.{cases_lt, lt-ltb, le-ltb}
use Rattle.std.proofs.lemmas.Int.{to_z-of_z}
use Rattle.std.proofs.lemmas.Nat.{pow-add, pow_pos, div-mul-add, mod-mul-add, mod_below}
use Rattle.std.proofs.Math.Nat.{pow-suc, mul_assoc}
use Rattle.claxon_format.specs.Bits.{Bits}
use Rattle.claxon_format.specs.read.Bits.{twos_complement, number_at, signed_at}
use Rattle.claxon_format.specs.read.Reading.{Done, done}
use Rattle.claxon_format.proofs.Numbers.{Reads-number, mod_small}

-- the value of n in two's complement, modulo twice half
abbrev signed_of : ℕ → ℕ → ℤ
signed_of half n = cond (ltb n half) (pos n) (negsuc (2 * half - suc n))

-- p is 2 ^ (bits - 1), k is what the number is shifted by
low : (half v k p : ℕ) → 0 < k → p * k ≡ half → v < p → shr_z (signed_of half (v * k % (2 * half))) k ≡ pos v
low half v k p some e lt =
    let small : v * k < half = grind arith in
    let whole : v * k % (2 * half) ≡ v * k = mod_small (v * k) (2 * half) (omega arith) in
    let here : ltb (v * k) half ≡ true = lt-ltb _ _ small in
    let back : v * k / k ≡ v = ap (λ (n : ℕ). n / k) (omega arith) ∙ div-mul-add v k 0 some in
    rw (whole, here) (ap pos back)

difference_is : (half v k p d : ℕ) → v + (d + 1) ≡ 2 * p → p * k ≡ half → v * k + (d * k + k) ≡ 2 * half
difference_is half v k p d e w =
    let x : (v + (d + 1)) * k ≡ 2 * (p * k) = ap (λ (n : ℕ). n * k) e ∙ mul_assoc 2 p k in omega arith

high : (half v k p : ℕ) → 0 < k → p * k ≡ half → p ≤ v → v < 2 * p → shr_z (signed_of half (v * k % (2 * half))) k ≡ negsuc (2 * p - 1 - v)
high half v k p some e le lt =
    let above : half ≤ v * k = grind arith in
    let difference : v * k + ((2 * p - 1 - v) * k + k) ≡ 2 * half = difference_is half v k p (2 * p - 1 - v) (omega arith) e in
    let whole : v * k % (2 * half) ≡ v * k = mod_small (v * k) (2 * half) (omega arith) in
    let here : ltb (v * k) half ≡ false = le-ltb _ _ above in
    let split : 2 * half - suc (v * k) ≡ (2 * p - 1 - v) * k + (k - 1) = omega arith in
    let back : (2 * half - suc (v * k)) / k ≡ 2 * p - 1 - v = ap (λ (n : ℕ). n / k) split ∙ div-mul-add (2 * p - 1 - v) k (k - 1) (omega arith) in
    rw (whole, here) (ap negsuc back)

shifted : (half total bits v : ℕ) → 0 < bits → bits ≤ total → half ≡ 2 ^ (total - 1) → v < 2 ^ bits → shr_z (signed_of half (v * 2 ^ (total - bits) % (2 * half))) (2 ^ (total - bits)) ≡ twos_complement bits v
unfolding twos_complement
shifted half total bits v some most h lt =
    let k : bits ≡ suc (bits - 1) = omega arith in
    let double : 2 ^ bits ≡ 2 * 2 ^ (bits - 1) = ap (λ (n : ℕ). 2 ^ n) k ∙ pow-suc 2 (bits - 1) ∙ omega arith in
    let whole : 2 ^ (bits - 1) * 2 ^ (total - bits) ≡ half = (let q : bits - 1 + (total - bits) ≡ total - 1 = omega arith in sym (pow-add 2 (bits - 1) (total - bits)) ∙ ap (λ (n : ℕ). 2 ^ n) q ∙ sym h) in
    elim (cases_lt v (2 ^ (bits - 1))) [
      | inl small ↦ (let b : ltb v (2 ^ (bits - 1)) ≡ true = lt-ltb _ _ small in rw b (low half v (2 ^ (total - bits)) (2 ^ (bits - 1)) (pow_pos (total - bits)) whole small))
      | inr large ↦ (let b : ltb v (2 ^ (bits - 1)) ≡ false = le-ltb _ _ large in rw (b, double) (high half v (2 ^ (total - bits)) (2 ^ (bits - 1)) (pow_pos (total - bits)) whole large (omega arith)))
    ]

-- the bits that are shifted out don't count
low_bits_count : (v m k : ℕ) → 0 < m → 0 < k → v * k % (m * k) ≡ (v % m) * k % (m * k)
low_bits_count v m k some some_k =
    let below : v % m < m = mod_below v m some in
    let small : (v % m) * k < m * k = grind arith in
    let split : v ≡ (v / m) * m + v % m = omega arith in
    let distributed : v * k ≡ (v / m) * (m * k) + (v % m) * k = ap (λ (n : ℕ). n * k) split ∙ grind (arith, mul_assoc) in
    ap (λ (n : ℕ). n % (m * k)) distributed ∙ mod-mul-add (v / m) (m * k) ((v % m) * k) small ∙ sym (mod_small ((v % m) * k) (m * k) small)

shift_fits_32 : (z : ℤ) (n : ℕ) → FitsSigned w32 z → FitsSigned w32 (shr_z z (2 ^ n))
shift_fits_32 z n h = record { sfits = omega (arith, h.sfits, mag_shr z (2 ^ n)) }

shift_fits_16 : (z : ℤ) (n : ℕ) → FitsSigned w16 z → FitsSigned w16 (shr_z z (2 ^ n))
shift_fits_16 z n h = record { sfits = omega (arith, h.sfits, mag_shr z (2 ^ n)) }

pub extended_32 : (bits v : ℕ) (z : ℤ) → 0 < bits → bits ≤ 32 → FitsSigned w32 z → z ≡ to_z w32 (v * 2 ^ (32 - bits) % 4294967296)
    → to_z w32 (of_z w32 (shr_z (to_z w32 (of_z w32 z)) (2 ^ (32 - bits)))) ≡ twos_complement bits (v % 2 ^ bits)
extended_32 bits v z some most fits e =
    let k : to_z w32 (of_z w32 z) ≡ z = to_z-of_z w32 z fits in
    let total : 2 ^ bits * 2 ^ (32 - bits) ≡ 4294967296 = (let q : bits + (32 - bits) ≡ 32 = omega arith in sym (pow-add 2 bits (32 - bits)) ∙ ap (λ (n : ℕ). 2 ^ n) q) in
    let kept : v * 2 ^ (32 - bits) % 4294967296 ≡ (v % 2 ^ bits) * 2 ^ (32 - bits) % 4294967296
    = subst (λ (t : ℕ). v * 2 ^ (32 - bits) % t ≡ (v % 2 ^ bits) * 2 ^ (32 - bits) % t) total (low_bits_count v (2 ^ bits) (2 ^ (32 - bits)) (pow_pos bits) (pow_pos (32 - bits))) in
    to_z-of_z w32 (shr_z (to_z w32 (of_z w32 z)) (2 ^ (32 - bits))) (rw k (shift_fits_32 z (32 - bits) fits))
    ∙ ap (λ (y : ℤ). shr_z y (2 ^ (32 - bits))) (k ∙ e ∙ ap (to_z w32) kept)
    ∙ shifted 2147483648 32 bits (v % 2 ^ bits) some most refl (mod_below v (2 ^ bits) (pow_pos bits))

pub extended_16 : (bits v : ℕ) (z : ℤ) → 0 < bits → bits ≤ 16 → v < 2 ^ bits → FitsSigned w16 z → z ≡ to_z w16 (v * 2 ^ (16 - bits) % 65536)
    → to_z w16 (of_z w16 (shr_z (to_z w16 (of_z w16 z)) (2 ^ (16 - bits)))) ≡ twos_complement bits v
extended_16 bits v z some most lt fits e =
    let k : to_z w16 (of_z w16 z) ≡ z = to_z-of_z w16 z fits in
    to_z-of_z w16 (shr_z (to_z w16 (of_z w16 z)) (2 ^ (16 - bits))) (rw k (shift_fits_16 z (16 - bits) fits))
    ∙ ap (λ (y : ℤ). shr_z y (2 ^ (16 - bits))) (k ∙ e)
    ∙ shifted 32768 16 bits v some most refl lt

-- a number of as many bits
pub number_from : {j n : ℕ} (k : ℕ) (s left : Bits) → j ≡ k → number_at j s ≡ Done n left → number_at k s ≡ Done n left
number_from {n = n} k s left e h = subst (λ (i : ℕ). number_at i s ≡ Done n left) e h

-- the sample of a call, and the remaining bits
pub sample_from : (w n : ℕ) (v : ℤ) (s left : Bits) → number_at w s ≡ Done n left → v ≡ twos_complement w (n % 2 ^ w) → signed_at w s ≡ Done v left
unfolding signed_at
sample_from w n v s left e v-is =
    let small : n < 2 ^ w = ((Reads-number w).takes s n left e).1.0 in
    rw e (ap (λ (y : ℤ). done y left) (ap (twos_complement w) (sym (mod_small n (2 ^ w) small)) ∙ sym v-is))
