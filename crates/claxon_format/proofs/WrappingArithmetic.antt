-- Sums, differences and products modulo a power of two.
use Rattle.std.proofs.Common.{◌≡◌, ℕ, ◌+◌, ◌-◌, ◌*◌, ◌%◌, ◌^◌, ◌<◌, true, false, ltb, inl, inr, sym, ap, ◌∙◌, arith, ℤ, pos, ◌+ℤ◌, ◌-ℤ◌, ◌*ℤ◌, neg_ℤ, to_z, of_z, w32, FitsSigned}
use Rattle.std.specs.Int.{int_wrap}
use Rattle.std.proofs.lemmas.Int.{ints, to_z-of_z, wrapping_add-bits, wrapping_sub-bits, wrapping_mul-bits, int_wrap-add_left, int_wrap-add_right, int_wrap-sub_right, int_wrap-mul_left, int_wrap-mul_right, int_wrap_fits}
use Rattle.std.proofs.Math.Facts.{Fits-of_z}
use Rattle.std.proofs.lemmas.Bool.{cases_lt, lt-ltb, le-ltb}
use Rattle.std.proofs.lemmas.Nat.{mod_below, pow_pos}
use Rattle.claxon_format.specs.Predict.{wrap}
use mir.Syntax.{Width}
use mir.Val.{bits}

-- the bits n stand for z modulo 2 ^ (bits w)
pub record Represents (w : Width) (n : ℕ) (z : ℤ) : Type 0 where
  pub below : n < 2 ^ bits w
  pub value : to_z w n ≡ int_wrap w z

pub represents_add : {w : Width} {m n : ℕ} {x y : ℤ} → Represents w m x → Represents w n y → Represents w ((m + n) % 2 ^ bits w) (x +ℤ y)
represents_add {w} {m} {n} {x} {y} p q = record {
  below = mod_below (m + n) (2 ^ bits w) (pow_pos (bits w));
  value = wrapping_add-bits w m n p.below q.below ∙ ap (λ (z : ℤ). int_wrap w (z +ℤ to_z w n)) p.value ∙ ap (λ (z : ℤ). int_wrap w (int_wrap w x +ℤ z)) q.value
      ∙ int_wrap-add_left w x (int_wrap w y) ∙ int_wrap-add_right w x y;
}

pub represents_sub : {w : Width} {m n : ℕ} {x y : ℤ} → Represents w m x → Represents w n y → Represents w ((m + (2 ^ bits w - n)) % 2 ^ bits w) (x -ℤ y)
represents_sub {w} {m} {n} {x} {y} p q = record {
  below = mod_below (m + (2 ^ bits w - n)) (2 ^ bits w) (pow_pos (bits w));
  value = wrapping_sub-bits w m n p.below q.below ∙ ap (λ (z : ℤ). int_wrap w (z -ℤ to_z w n)) p.value ∙ ap (λ (z : ℤ). int_wrap w (int_wrap w x -ℤ z)) q.value
      ∙ int_wrap-sub_right w (int_wrap w x) y ∙ int_wrap-add_left w x (neg_ℤ y);
}

pub represents_mul : {w : Width} {m n : ℕ} {x y : ℤ} → Represents w m x → Represents w n y → Represents w ((m * n) % 2 ^ bits w) (x *ℤ y)
represents_mul {w} {m} {n} {x} {y} p q = record {
  below = mod_below (m * n) (2 ^ bits w) (pow_pos (bits w));
  value = wrapping_mul-bits w m n p.below q.below ∙ ap (λ (z : ℤ). int_wrap w (z *ℤ to_z w n)) p.value ∙ ap (λ (z : ℤ). int_wrap w (int_wrap w x *ℤ z)) q.value
      ∙ int_wrap-mul_left w x (int_wrap w y) ∙ int_wrap-mul_right w x y;
}

pub represents_fits : {w : Width} (x : ℤ) → FitsSigned w x → Represents w (of_z w x) x
represents_fits {w} x h = record { below = (Fits-of_z h).fits; value = to_z-of_z w x h ∙ sym (int_wrap_fits w x h) }

-- ---- 32 bits

signed_fits : (n : ℕ) → n < 2 ^ 32 → FitsSigned w32 (to_z w32 n)
signed_fits n lt =
    elim (cases_lt n 2147483648) [
      | inl small ↦ (let b : ltb n 2147483648 ≡ true = lt-ltb _ _ small in rw b (record { sfits = small }))
      | inr large ↦ (let b : ltb n 2147483648 ≡ false = le-ltb _ _ large in rw b (record { sfits = omega arith }))
    ]

-- a variable and its bits
pub represents_bits : (n : ℕ) (x : ℤ) → n < 2 ^ 32 → to_z w32 n ≡ x → Represents w32 n x
represents_bits n x lt e =
    let f = signed_fits n lt in
    record { below = lt; value = sym (int_wrap_fits w32 (to_z w32 n) f) ∙ ap (int_wrap w32) e }

pub represents_num : (n : ℕ) → n < 2 ^ 31 → Represents w32 n (pos n)
represents_num n lt = let f : FitsSigned w32 (pos n) = record { sfits = lt } in record { below = omega arith; value = omega (arith, ints) ∙ sym (int_wrap_fits w32 (pos n) f) }

-- ---- what the fixed predictors compute: e is the residual sample, a the newest sample, b the one before it, ..

pub step_1 : (i m : ℕ) (e a : ℤ) → Represents w32 i e → Represents w32 m a → to_z w32 ((m + i) % 4294967296) ≡ wrap (a +ℤ e)
step_1 i m e a p q = (represents_add q p).value

pub step_2 : (i m n : ℕ) (e a b : ℤ) → Represents w32 i e → Represents w32 m a → Represents w32 n b
    → to_z w32 (((i + (4294967296 - n)) % 4294967296 + m * 2 % 4294967296) % 4294967296) ≡ wrap ((pos 2 *ℤ a -ℤ b) +ℤ e)
step_2 i m n e a b p q r =
    let same : (e -ℤ b) +ℤ a *ℤ pos 2 ≡ (pos 2 *ℤ a -ℤ b) +ℤ e = omega (arith, ints) in
    (represents_add (represents_sub p r) (represents_mul q (represents_num 2 (omega arith)))).value ∙ ap wrap same

pub step_3 : (i m n o : ℕ) (e a b d : ℤ) → Represents w32 i e → Represents w32 m a → Represents w32 n b → Represents w32 o d
    → to_z w32 ((((i + o) % 4294967296 + (4294967296 - n * 3 % 4294967296)) % 4294967296 + m * 3 % 4294967296) % 4294967296) ≡ wrap ((pos 3 *ℤ a -ℤ pos 3 *ℤ b +ℤ d) +ℤ e)
step_3 i m n o e a b d p q r s =
    let same : ((e +ℤ d) -ℤ b *ℤ pos 3) +ℤ a *ℤ pos 3 ≡ (pos 3 *ℤ a -ℤ pos 3 *ℤ b +ℤ d) +ℤ e = omega (arith, ints) in
    let three = represents_num 3 (omega arith) in
    (represents_add (represents_sub (represents_add p s) (represents_mul r three)) (represents_mul q three)).value ∙ ap wrap same

pub step_4 : (i m n o k : ℕ) (e a b d f : ℤ) → Represents w32 i e → Represents w32 m a → Represents w32 n b → Represents w32 o d → Represents w32 k f
    → to_z w32 (((((i + (4294967296 - k)) % 4294967296 + o * 4 % 4294967296) % 4294967296 + (4294967296 - n * 6 % 4294967296)) % 4294967296 + m * 4 % 4294967296) % 4294967296)
    ≡ wrap ((pos 4 *ℤ a -ℤ pos 6 *ℤ b +ℤ pos 4 *ℤ d -ℤ f) +ℤ e)
step_4 i m n o k e a b d f p q r s t =
    let same : (((e -ℤ f) +ℤ d *ℤ pos 4) -ℤ b *ℤ pos 6) +ℤ a *ℤ pos 4 ≡ (pos 4 *ℤ a -ℤ pos 6 *ℤ b +ℤ pos 4 *ℤ d -ℤ f) +ℤ e = omega (arith, ints) in
    let four = represents_num 4 (omega arith) in
    (represents_add (represents_sub (represents_add (represents_sub p t) (represents_mul s four)) (represents_mul r (represents_num 6 (omega arith)))) (represents_mul q four)).value ∙ ap wrap same
