-- The first Rice code of 64 bits.
use Rattle.std.proofs.Common.{bit_or, bit_xor, ◌≡◌, ℕ, zero, suc, ◌+◌, ◌-◌, ◌*◌, ◌%◌, ◌^◌, ◌<◌, ◌≤◌, true, false, [], ◌∷◌, ◌++◌, length, take, drop, replicate, refl, sym, ap, ◌∙◌, append_assoc, arith, ℤ, take-add, to_z, w32}
use Rattle.std.specs.Int.{leading_zeros, rotate_left, rotate_right, w64}
use Rattle.std.specs.Int.Count.{leading_of_zero}
use Rattle.std.specs.Int.Bits.{xor_add_and}
use Rattle.std.proofs.lemmas.List.{take-take, drop-take, take-append-le, length-drop, take-append-drop}
use Rattle.std.proofs.lemmas.Nat.{pow_pos, and_mask, mod_below}
use Rattle.std.proofs.Math.Seq.{drop-append-add}
use Rattle.claxon_format.specs.Bits.{Bits, bits}
use Rattle.claxon_format.specs.read.Bits.{number_at, unary_at}
use Rattle.claxon_format.specs.read.Reading.{Done}
use Rattle.claxon_format.proofs.Numbers.{Reads-number, length-bits}
use Rattle.claxon_format.proofs.RiceCodes.{Reads-unary}
use Rattle.claxon_input.proofs.BitLists.{bits-low}
use Rattle.claxon_input.proofs.CacheBits.{low_bits, highest}
use Rattle.claxon_subframe.specs.BufferedValues.{IsFirstValue}
use Rattle.claxon_subframe.specs.RiceCodes.{encoded_code_at}
use Rattle.claxon_subframe.proofs.Rotations.{rotated_twice}
use Rattle.claxon_subframe.proofs.RiceCodeShifts.{encoded_code_from}

-- the last k bits of a number whose bits are those of x rotated left by z + 1 + k
last_bits : (x r z k m : ℕ) → m ≡ z + 1 + k → m < 64 → bits 64 r ≡ drop m (bits 64 x) ++ take m (bits 64 x) → bits k (r % 2 ^ k) ≡ take k (drop (z + 1) (bits 64 x))
last_bits x r z k m sum h is =
    let len : length (drop m (bits 64 x)) ≡ 64 - m = length-drop m (bits 64 x) ∙ ap (λ (j : ℕ). j - m) (length-bits 64 x) in
    let e : 64 - (64 - k) ≡ k = omega arith in
    let f : 64 - k ≡ length (drop m (bits 64 x)) + (z + 1) = omega arith in
    bits-low k r
    ∙ sym (low_bits r (64 - k) (omega arith) ∙ ap (λ (j : ℕ). bits j r) e)
    ∙ ap (drop (64 - k)) is
    ∙ ap (λ (j : ℕ). drop j (drop m (bits 64 x) ++ take m (bits 64 x))) f
    ∙ drop-append-add (drop m (bits 64 x)) (take m (bits 64 x)) (z + 1)
    ∙ ap (λ (j : ℕ). drop (z + 1) (take j (bits 64 x))) sum
    ∙ drop-take (z + 1) k (bits 64 x)

pub mirrored : (z : ℕ) → z < 64 → bit_xor z 63 ≡ 63 - z
mirrored z lt = omega (arith, xor_add_and z 63, and_mask z 6)

pub mirrored_twice : (z : ℕ) → z < 64 → bit_xor (bit_xor z 63) 63 ≡ z
mirrored_twice z lt = ap (λ (m : ℕ). bit_xor m 63) (mirrored z lt) ∙ mirrored (63 - z) (omega arith) ∙ omega arith

-- the number of bits that the code rotates by to the right, modulo 2^32
abbrev pub rotation_by : ℕ → ℕ → ℕ
rotation_by z k = (bit_xor z 63 + (4294967296 - k)) % 4294967296

pub rice_code_bits : (z k : ℕ) → z < 64 → k ≤ 30 → (64 + (4294967296 - rotation_by z k)) % 4294967296 ≡ z + 1 + k
rice_code_bits z k lt le = rw (mirrored z lt) (omega arith)

-- the first bits, with fewer than 63 leading zeros
first_one : (x : ℕ) → x < 18446744073709551616 → leading_zeros w64 x < 63 → take (leading_zeros w64 x + 1) (bits 64 x) ≡ replicate (leading_zeros w64 x) false ++ true ∷ []
first_one zero lt h = absurd (omega (arith, leading_of_zero 64))
first_one (suc y) lt h = (highest (suc y) (omega arith) lt).front

-- the first n bits are the zeros, the one, k bits, and the others
split_rice_code : (W P : Bits) (z k n : ℕ) → take (z + 1) W ≡ P → z + 1 + k ≤ n → n ≤ length W → take n W ≡ P ++ (take k (drop (z + 1) W) ++ drop (z + 1 + k) (take n W))
split_rice_code W P z k n first h le =
    let one : take (z + 1 + k) (take n W) ≡ take (z + 1) W ++ take k (drop (z + 1) W) = take-take (z + 1 + k) n W h ∙ take-add (z + 1) k W in
    sym (take-append-drop (z + 1 + k) (take n W)) ∙ ap (λ (t : Bits). t ++ drop (z + 1 + k) (take n W)) (one ∙ ap (λ (t : Bits). t ++ take k (drop (z + 1) W)) first)
    ∙ append_assoc P (take k (drop (z + 1) W)) (drop (z + 1 + k) (take n W))

pub first_is : (k x y back : ℕ) (v : ℤ) → k ≤ 30 → x < 18446744073709551616 → y < 18446744073709551616 → y ≡ rotate_left w64 x k → back ≡ bit_xor (leading_zeros w64 x) 63
    → v ≡ to_z w32 (bit_or (leading_zeros w64 x * 2 ^ k % 4294967296) (rotate_right w64 y back % 2 ^ k))
    → IsFirstValue (encoded_code_at k) x v (leading_zeros w64 x + 1 + k) (rotate_right w64 y back)
first_is k x y back v le lt y-lt y-is back-is v-is = record {
  code = λ n rest small h capacity.
      let z : ℕ = leading_zeros w64 x in
      let rotated : ℕ = rotate_right w64 y back in
      let r : ℕ = rotated % 2 ^ k in
      let P : Bits = replicate z false ++ true ∷ [] in
      let left : Bits = drop (leading_zeros w64 x + 1 + k) (take n (bits 64 x)) in
      let split : take n (bits 64 x) ++ rest ≡ P ++ (bits k r ++ (left ++ rest))
      = ap (λ (t : Bits). t ++ rest) (split_rice_code (bits 64 x) P z k n (first_one x lt (omega arith)) h (rw (length-bits 64 x) capacity) ∙ ap (λ (t : Bits). P ++ (t ++ left)) (sym (last_bits x rotated z k (z + 1 + k) refl small (past small))))
      ∙ append_assoc P (bits k r ++ left) rest ∙ ap (λ (t : Bits). P ++ t) (append_assoc (bits k r) left rest) in
      let first : unary_at (take n (bits 64 x) ++ rest) ≡ Done z (bits k r ++ (left ++ rest)) = ap unary_at split ∙ Reads-unary.again z P (bits k r ++ (left ++ rest)) (omega arith, refl) in
      let second : number_at k (bits k r ++ (left ++ rest)) ≡ Done r (left ++ rest) = (Reads-number k).again r (bits k r) (left ++ rest) (mod_below rotated (2 ^ k) (pow_pos k), refl) in
      encoded_code_from k z r v (take n (bits 64 x) ++ rest) (bits k r ++ (left ++ rest)) (left ++ rest) le first second v-is;
  others = λ n small h capacity.
      let m : ℕ = leading_zeros w64 x + 1 + k in
      let len : length (drop m (bits 64 x)) ≡ 64 - m = length-drop m (bits 64 x) ∙ ap (λ (j : ℕ). j - m) (length-bits 64 x) in
      let f : n ≡ m + (n - m) = omega arith in
      ap (take (n - m)) (past small) ∙ take-append-le (n - m) (drop m (bits 64 x)) (take m (bits 64 x)) (omega arith)
      ∙ sym (ap (λ (j : ℕ). drop m (take j (bits 64 x))) f ∙ drop-take m (n - m) (bits 64 x));
}
  where
    past : leading_zeros w64 x + 1 + k < 64 → bits 64 (rotate_right w64 y back) ≡ drop (leading_zeros w64 x + 1 + k) (bits 64 x) ++ take (leading_zeros w64 x + 1 + k) (bits 64 x)
    past small =
        let z : ℕ = leading_zeros w64 x in
        let e : back % 64 ≡ 64 - (z + 1) = omega (arith, back-is, mirrored z (omega arith)) in
        rotated_twice x y k (z + 1) (z + 1 + k) back (omega arith) small (omega arith) e lt y-lt y-is
