-- The fields of a predicted subframe: warm-up samples, coefficients and residual; and the samples restored in place.
use Rattle.std.proofs.Common.{◌≡◌, ◌≤◌, ℕ, ◌-◌, ◌+◌, ◌∙◌, sym, ap, Bool, List, ◌++◌, length, take, drop, reverse, replicate, refl, arith, ℤ, pos}
use Rattle.std.proofs.lemmas.Bool.{le-ltb}
use Rattle.std.proofs.lemmas.List.{length-append, length-drop, length-take, length-take-le, take_all, take_at, drop_at}
use Rattle.std.proofs.lemmas.Slice.{take-put_mid}
use borrow.Rule.Slice.PartMut.{mid_of, put_mid, same_len_mid}
use Rattle.claxon_format.specs.Bits.{Bits}
use Rattle.claxon_format.specs.read.Predict.{fixed, restore, restored}
use Rattle.claxon_format.specs.Predict.{linear}
use Rattle.claxon_format.specs.read.Reading.{Reading, Done, and_then, done, times_at}
use Rattle.claxon_format.specs.read.Bits.{signed_at}
use Rattle.claxon_format.specs.read.Residual.{residual_at}
use Rattle.claxon_format.specs.read.Subframe.{fixed_at, linear_at, parameters_at}
use Rattle.claxon_input.specs.State.{State}
use Rattle.claxon_input.specs.Gives.{Consumes, Stops}
use Rattle.claxon_input.specs.declared.error.Error.{Error}
use Rattle.claxon_input.proofs.ConsecutiveCalls.{consumes_none}
use Rattle.claxon_subframe.proofs.ConsecutiveFields.{then_consumes}

-- where there are as many samples as the order
pub linear_begins : (w n order : ℕ) (a : State Bool) → order ≤ n → Consumes a a (λ s m. linear_at w n order s ≡ and_then (times_at order (signed_at w)) (λ warm_up. and_then parameters_at (λ p.
    and_then (times_at order (signed_at p.precision)) (λ cs. and_then (residual_at n order) (λ e. done (warm_up ++ restore (linear cs p.shift) (reverse warm_up) e))))) m)
unfolding linear_at
linear_begins w n order a le = consumes_none a _ (rw (le-ltb n order le) refl)

pub fixed_begins : (w n order : ℕ) (a : State Bool) → order ≤ n → Consumes a a (λ s m. fixed_at w n order s ≡ and_then (times_at order (signed_at w)) (λ warm_up. and_then (residual_at n order) (λ e. done (warm_up ++ restore (fixed order) (reverse warm_up) e))) m)
unfolding fixed_at
fixed_begins w n order a le = consumes_none a _ (rw (le-ltb n order le) refl)

-- j fields, and a residual after j warm-up samples, where j is k
module _ {j k : ℕ} (same : j ≡ k) {a b : State Bool} where
  pub times_consumes : {xs : List ℤ} (read : Bits → Reading Bool ℤ) → Consumes a b (λ s m. times_at j read s ≡ Done xs m) → Consumes a b (λ s m. times_at k read s ≡ Done xs m)
  times_consumes read h = rw same at h

  pub times_stops : {e : Error} (read : Bits → Reading Bool ℤ) → Stops e (times_at j read) a b → Stops e (times_at k read) a b
  times_stops read h = rw same at h

  pub residual_consumes : {xs : List ℤ} (n : ℕ) → Consumes a b (λ s m. residual_at n j s ≡ Done xs m) → Consumes a b (λ s m. residual_at n k s ≡ Done xs m)
  residual_consumes n h = rw same at h

  pub residual_stops : {e : Error} (n : ℕ) → Stops e (residual_at n j) a b → Stops e (residual_at n k) a b
  residual_stops n h = rw same at h

-- the warm-up samples
pub linear_warm_up : (w n order j : ℕ) {warm_up : List ℤ} {a b : State Bool} → order ≤ n → j ≡ order → Consumes a b (λ s m. times_at j (signed_at w) s ≡ Done warm_up m) → Consumes a b (λ s m. linear_at w n order s ≡ and_then parameters_at (λ p.
    and_then (times_at order (signed_at p.precision)) (λ cs. and_then (residual_at n order) (λ e. done (warm_up ++ restore (linear cs p.shift) (reverse warm_up) e)))) m)
linear_warm_up w n order j {a = a} le same h = then_consumes _ (linear_begins w n order a le) (times_consumes same _ h)

pub fixed_warm_up : (w n order j : ℕ) {warm_up : List ℤ} {a b : State Bool} → order ≤ n → j ≡ order → Consumes a b (λ s m. times_at j (signed_at w) s ≡ Done warm_up m) → Consumes a b (λ s m. fixed_at w n order s ≡ and_then (residual_at n order) (λ e. done (warm_up ++ restore (fixed order) (reverse warm_up) e)) m)
fixed_warm_up w n order j {a = a} le same h = then_consumes _ (fixed_begins w n order a le) (times_consumes same _ h)

-- the table of coefficients is as long as the order
pub table_front : (order : ℕ) → order ≤ 32 → length (take order (replicate 32 (pos 0))) ≡ order
table_front order le = length-take-le order (replicate 32 (pos 0)) le

-- each residual sample after the warm-up samples became a sample in place
pub in_place : (predict : List ℤ → ℤ) (order : ℕ) (warm_up old es out : List ℤ) {count : ℕ} → count ≡ order → length warm_up ≡ order → length es ≡ length (mid_of order (length (warm_up ++ old) - order) (warm_up ++ old))
    → out ≡ restored predict count (put_mid order (length (warm_up ++ old) - order) (warm_up ++ old) es) → warm_up ++ restore predict (reverse warm_up) es ≡ out
in_place predict order warm_up old es out c w e is =
    let xs = warm_up ++ old in
    let k = length xs - order in
    let len : length xs ≡ length warm_up + length old = length-append warm_up old in
    let whole : length (put_mid order k xs es) ≡ length xs = same_len_mid order k xs es e in
    let rest : length es ≡ k = omega (arith, e, length-take k (drop order xs), length-drop order xs) in
    let full : put_mid order k xs es ≡ take order xs ++ es = sym (take_all (order + k) (put_mid order k xs es) (omega arith)) ∙ take-put_mid order k xs es (order + k) (omega arith) (omega arith) in
    let all : put_mid order k xs es ≡ warm_up ++ es = full ∙ ap (λ (l : List ℤ). l ++ es) (take_at warm_up old order w) in
    sym (is ∙ ap (λ (z : ℕ). restored predict z (put_mid order k xs es)) c ∙ ap (restored predict order) all ∙ (rw (take_at warm_up es order w, drop_at warm_up es order w) refl))
