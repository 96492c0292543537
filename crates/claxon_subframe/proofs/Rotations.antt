-- 64 bits that are rotated.
use Rattle.std.proofs.Common.{bit_or, inl, inr, ◌≡◌, ℕ, zero, suc, ◌+◌, ◌-◌, ◌*◌, ◌/◌, ◌%◌, ◌^◌, ◌<◌, ◌≤◌, ◌++◌, length, take, drop, sym, ap, ap₂, subst, ◌∙◌, append_assoc, arith, take-add}
use Rattle.std.specs.Int.{rotate_left, rotate_right, w64}
use Rattle.std.specs.Int.Bits.{or_self}
use Rattle.std.proofs.lemmas.List.{append-nil, take-append-le, drop-append-le, length-drop, drop-drop}
use Rattle.std.proofs.lemmas.Nat.{pow_pos, shl-shr, shl_below, shr_below, shr_split, or_shifted, or_comm, le_or_l, le_or_r, mod-pow-add, mod-mul-add, mod_below}
use Rattle.std.proofs.Math.Nat.{eq-zero-or-pos, mod-eq_of_lt, mul-pos}
use Rattle.claxon_format.specs.Bits.{Bits, bits}
use Rattle.claxon_format.proofs.Numbers.{length-bits}
use Rattle.claxon_input.proofs.BitLists.{bits-join, bits-low}
use Rattle.claxon_input.proofs.CacheBits.{top_bits, low_bits}

rotated_bits : (x n : ℕ) → 0 < n → n < 64 → x < 18446744073709551616 → bits 64 (rotate_left w64 x n) ≡ drop n (bits 64 x) ++ take n (bits 64 x)
rotated_bits x n some h lt =
    let by : n % 64 ≡ n = omega arith in
    let back : (64 - n) % 64 ≡ 64 - n = omega arith in
    let e : 64 - n + n ≡ 64 = omega arith in
    let f : 64 ≡ n + (64 - n) = omega arith in
    let none : x * 2 ^ n % 2 ^ n ≡ 0 = (let g : x * 2 ^ n ≡ x * 2 ^ n + 0 = omega arith in ap (λ (m : ℕ). m % 2 ^ n) g ∙ mod-mul-add x (2 ^ n) 0 (pow_pos n)) in
    let l : x / 2 ^ (64 - n) < 2 ^ n = shr_below x n (64 - n) (subst (λ (j : ℕ). x < 2 ^ j) f lt) in
    let high : x * 2 ^ n % 18446744073709551616 ≡ x % 2 ^ (64 - n) * 2 ^ n
    = subst (λ (j : ℕ). x * 2 ^ n % 2 ^ j ≡ (x * 2 ^ n / 2 ^ n % 2 ^ (64 - n)) * 2 ^ n + x * 2 ^ n % 2 ^ n) e (mod-pow-add (x * 2 ^ n) (64 - n) n) ∙ rw (shl-shr x n, none) (omega arith) in
    let sum : rotate_left w64 x n ≡ x % 2 ^ (64 - n) * 2 ^ n + x / 2 ^ (64 - n)
    = rw (by, back) (ap (λ (m : ℕ). bit_or m (x / 2 ^ (64 - n))) high ∙ or_shifted (x % 2 ^ (64 - n)) n (x / 2 ^ (64 - n)) l) in
    ap (bits 64) sum
    ∙ subst (λ (w : ℕ). bits w (x % 2 ^ (64 - n) * 2 ^ n + x / 2 ^ (64 - n)) ≡ bits (64 - n) (x % 2 ^ (64 - n)) ++ bits n (x / 2 ^ (64 - n))) e (bits-join (x % 2 ^ (64 - n)) (x / 2 ^ (64 - n)) (64 - n) n l)
    ∙ ap₂ (λ (s t : Bits). s ++ t) (bits-low (64 - n) x ∙ sym (low_bits x n (omega arith))) (sym (top_bits x n (omega arith)))

-- rotating right by 64 - n is rotating left by n
rotated_right : (x n back : ℕ) → 0 < n → n < 64 → back % 64 ≡ 64 - n → rotate_right w64 x back ≡ rotate_left w64 x n
rotated_right x n back some h e =
    let by : n % 64 ≡ n = omega arith in
    let other : (64 - (64 - n)) % 64 ≡ n = omega arith in
    let rest : (64 - n) % 64 ≡ 64 - n = omega arith in
    rw (e, other, by, rest) (or_comm (x / 2 ^ (64 - n)) (x * 2 ^ n % 18446744073709551616))

rotated_by_none : (x : ℕ) → x < 18446744073709551616 → rotate_left w64 x 0 ≡ x
rotated_by_none x lt =
    let low : x * 2 ^ 0 % 18446744073709551616 ≡ x = omega arith in
    let high : x / 2 ^ 0 ≡ x = omega arith in
    ap₂ bit_or low high ∙ or_self x

-- rotated left, where k may be 0
pub rotated_left_bits : (x k : ℕ) → k < 64 → x < 18446744073709551616 → bits 64 (rotate_left w64 x k) ≡ drop k (bits 64 x) ++ take k (bits 64 x)
rotated_left_bits x zero h lt = ap (bits 64) (rotated_by_none x lt) ∙ sym (append-nil (bits 64 x))
rotated_left_bits x (suc k) h lt = rotated_bits x (suc k) (omega arith) h lt

-- rotated left by k, and then right by 64 - n
pub rotated_twice : (x y k n m back : ℕ) → m ≡ k + n → m < 64 → 0 < n → back % 64 ≡ 64 - n → x < 18446744073709551616 → y < 18446744073709551616 → y ≡ rotate_left w64 x k
    → bits 64 (rotate_right w64 y back) ≡ drop m (bits 64 x) ++ take m (bits 64 x)
rotated_twice x y k n m back sum h some e lt y-lt y-is =
    let W : Bits = bits 64 x in
    let len : length (drop k W) ≡ 64 - k = length-drop k W ∙ ap (λ (j : ℕ). j - k) (length-bits 64 x) in
    let le : n ≤ length (drop k W) = omega arith in
    let once : bits 64 y ≡ drop k W ++ take k W = ap (bits 64) y-is ∙ rotated_left_bits x k (omega arith) lt in
    ap (bits 64) (rotated_right y n back some (omega arith) e) ∙ rotated_bits y n some (omega arith) y-lt ∙ ap (λ (t : Bits). drop n t ++ take n t) once
    ∙ ap₂ (λ (s t : Bits). s ++ t) (drop-append-le n (drop k W) (take k W) le ∙ ap (λ (t : Bits). t ++ take k W) (drop-drop n k W)) (take-append-le n (drop k W) (take k W) le)
    ∙ append_assoc (drop (k + n) W) (take k W) (take n (drop k W)) ∙ ap (λ (t : Bits). drop (k + n) W ++ t) (sym (take-add k n W)) ∙ ap (λ (j : ℕ). drop j W ++ take j W) (sym sum)

-- a rotation of a number other than 0 isn't 0
pub rotated_nonzero : (x back : ℕ) → 0 < x → x < 18446744073709551616 → 0 < rotate_right w64 x back
rotated_nonzero x back some lt =
    let j : ℕ = back % 64 in
    let high : ℕ = x / 2 ^ j in
    let low : ℕ = x * 2 ^ ((64 - j) % 64) % 18446744073709551616 in
    elim (eq-zero-or-pos high) [
      | inl none ↦
          (let below : x < 2 ^ j = omega (arith, shr_split x j, mod_below x (2 ^ j) (pow_pos j), ap (λ (m : ℕ). m * 2 ^ j) none) in
          let positive : 0 < j = zero_rotation j below in
          let by : (64 - j) % 64 ≡ 64 - j = omega arith in
          let e : j + (64 - j) ≡ 64 = omega arith in
          let fits : x * 2 ^ (64 - j) < 18446744073709551616 = subst (λ (m : ℕ). x * 2 ^ (64 - j) < 2 ^ m) e (shl_below x j (64 - j) below) in
          let is : low ≡ x * 2 ^ (64 - j) = ap (λ (m : ℕ). x * 2 ^ m % 18446744073709551616) by ∙ mod-eq_of_lt fits in
          let pos : 0 < x * 2 ^ (64 - j) = mul-pos some (pow_pos (64 - j)) in
          omega (arith, is, pos, le_or_r high low))
      | inr pos ↦ omega (arith, pos, le_or_l high low)
    ]
  where
    zero_rotation : (j : ℕ) → x < 2 ^ j → 0 < j
    zero_rotation zero below = absurd (omega arith)
    zero_rotation (suc j) below = omega arith

pub rotated_left_nonzero : (x k : ℕ) → k < 64 → 0 < x → x < 18446744073709551616 → 0 < rotate_left w64 x k
rotated_left_nonzero x zero h some lt = omega (arith, some, rotated_by_none x lt)
rotated_left_nonzero x (suc k) h some lt = rw (sym (rotated_right x (suc k) (63 - k) (omega arith) h (omega arith))) (rotated_nonzero x (63 - k) some lt)
