-- The first unencoded sample of 64 bits.
use Rattle.std.proofs.Common.{◌≡◌, ℕ, ◌+◌, ◌-◌, ◌/◌, ◌%◌, ◌^◌, ◌<◌, ◌≤◌, ◌++◌, length, take, drop, refl, sym, ap, subst, ◌∙◌, append_assoc, arith, ℤ}
use Rattle.std.specs.Int.{rotate_left, w64}
use Rattle.std.proofs.lemmas.List.{take-take, take-append-le, take-append-drop, drop-take, length-drop}
use Rattle.std.proofs.lemmas.Nat.{shr_below}
use Rattle.std.proofs.Math.Nat.{pow-le-pow_right}
use Rattle.claxon_format.specs.Bits.{Bits, bits}
use Rattle.claxon_format.specs.read.Bits.{twos_complement, number_at, signed_at}
use Rattle.claxon_format.specs.read.Reading.{Done}
use Rattle.claxon_format.proofs.Numbers.{Reads-number, length-bits}
use Rattle.claxon_input.proofs.CacheBits.{top_bits}
use Rattle.claxon_subframe.specs.BufferedValues.{IsFirstValue}
use Rattle.claxon_subframe.proofs.Rotations.{rotated_left_bits}
use Rattle.claxon_subframe.proofs.SignExtension.{sample_from}

top_fits : (x n : ℕ) → 0 < n → n ≤ 32 → x < 18446744073709551616 → x / 2 ^ (64 - n) < 2 ^ n
top_fits x n some le lt =
    let e : 64 ≡ n + (64 - n) = omega arith in
    shr_below x n (64 - n) (subst (λ (j : ℕ). x < 2 ^ j) e lt)

pub top_fits_32 : (x n : ℕ) → 0 < n → n ≤ 32 → x < 18446744073709551616 → x / 2 ^ (64 - n) < 4294967296
top_fits_32 x n some le lt =
    let most : 2 ^ n ≤ 2 ^ 32 = pow-le-pow_right (omega arith) le in
    omega (arith, top_fits x n some le lt, most)

-- v is the sign-extended number of the first n bits
pub first_sample_is : (n x : ℕ) {m : ℕ} (v : ℤ) → 0 < n → n ≤ 32 → x < 18446744073709551616 → m ≡ n → v ≡ twos_complement n (x / 2 ^ (64 - n) % 2 ^ n) → IsFirstValue (signed_at n) x v n (rotate_left w64 x m)
first_sample_is n x v some le lt same v-is = record {
  code = λ j rest small h capacity.
      let top : ℕ = x / 2 ^ (64 - n) in
      let left : Bits = drop n (take j (bits 64 x)) in
      let split : take j (bits 64 x) ++ rest ≡ bits n top ++ (left ++ rest)
      = ap (λ (t : Bits). t ++ rest) (sym (take-append-drop n (take j (bits 64 x))) ∙ ap (λ (t : Bits). t ++ left) (take-take n j (bits 64 x) h ∙ top_bits x n (omega arith)))
      ∙ append_assoc (bits n top) left rest in
      let first : number_at n (take j (bits 64 x) ++ rest) ≡ Done top (left ++ rest)
      = ap (number_at n) split ∙ (Reads-number n).again top (bits n top) (left ++ rest) (top_fits x n some le lt, refl) in
      sample_from n top v (take j (bits 64 x) ++ rest) (left ++ rest) first v-is;
  others = λ j small h capacity.
      let len : length (drop n (bits 64 x)) ≡ 64 - n = length-drop n (bits 64 x) ∙ ap (λ (i : ℕ). i - n) (length-bits 64 x) in
      let f : j ≡ n + (j - n) = omega arith in
      ap (λ (i : ℕ). take (j - n) (bits 64 (rotate_left w64 x i))) same ∙ ap (take (j - n)) (rotated_left_bits x n small lt) ∙ take-append-le (j - n) (drop n (bits 64 x)) (take n (bits 64 x)) (omega arith)
      ∙ sym (ap (λ (i : ℕ). drop n (take i (bits 64 x))) f ∙ drop-take n (j - n) (bits 64 x));
}
