-- The subframe types by their numbers.
use Rattle.std.proofs.Common.{◌≡◌, ℕ, replicate, ◌+◌, ◌-◌, ◌≤◌, true, false, eqb, ltb, refl, arith}
use Rattle.std.proofs.lemmas.Bool.{lt-ltb, le-ltb}
use Rattle.std.proofs.lemmas.Bool.Decides.{nat_tests}
use Rattle.claxon_format.specs.Bits.{Bits}
use Rattle.claxon_format.specs.read.Reading.{and_then, done, times_at}
use Rattle.claxon_format.specs.read.Bits.{signed_at}
use Rattle.claxon_format.specs.read.Subframe.{fixed_at, linear_at, subframe_body_at}
use Rattle.claxon_subframe.specs.SubframeFields.{type_number}
use Rattle.claxon_subframe.specs.declared.subframe.SubframeType.{SubframeType}
use Rattle.claxon_subframe.specs.declared.subframe.SubframeType.TheVariants.{Constant, Verbatim, Fixed, Lpc}

pub type_is_fixed : (w n order : ℕ) → order ≤ 4 → subframe_body_at w n (8 + order) ≡ fixed_at w n order
unfolding subframe_body_at
type_is_fixed w n order four =
    let a : eqb (8 + order) 0 ≡ false = grind (arith, nat_tests) in
    let b : eqb (8 + order) 1 ≡ false = grind (arith, nat_tests) in
    let d : ltb (8 + order) 13 ≡ true = lt-ltb _ _ (omega arith) in
    let o : 8 + order - 8 ≡ order = omega arith in
    rw (a, b, d, o) refl

pub type_is_linear : (w n order : ℕ) → subframe_body_at w n (31 + order) ≡ linear_at w n order
unfolding subframe_body_at
type_is_linear w n order =
    let a : eqb (31 + order) 0 ≡ false = grind (arith, nat_tests) in
    let b : eqb (31 + order) 1 ≡ false = grind (arith, nat_tests) in
    let d : ltb (31 + order) 13 ≡ false = le-ltb _ _ (omega arith) in
    let o : 31 + order - 31 ≡ order = omega arith in
    rw (a, b, d, o) refl

-- the samples of a subframe of this type
pub constant_is : (subframe_type : SubframeType) (w n : ℕ) → subframe_type ≡ Constant → (s : Bits) → subframe_body_at w n (type_number subframe_type) s ≡ (and_then (signed_at w) (λ x. done (replicate n x))) s
unfolding subframe_body_at
constant_is subframe_type w n e s = rw e refl

pub verbatim_is : (subframe_type : SubframeType) (w n : ℕ) → subframe_type ≡ Verbatim → (s : Bits) → subframe_body_at w n (type_number subframe_type) s ≡ times_at n (signed_at w) s
unfolding subframe_body_at
verbatim_is subframe_type w n e s = rw e refl

pub fixed_is : (subframe_type : SubframeType) (w n order : ℕ) → order ≤ 4 → subframe_type ≡ Fixed order → (s : Bits) → subframe_body_at w n (type_number subframe_type) s ≡ fixed_at w n order s
fixed_is subframe_type w n order four e s = rw (e, type_is_fixed w n order four) refl

pub lpc_is : (subframe_type : SubframeType) (w n order : ℕ) → subframe_type ≡ Lpc order → (s : Bits) → subframe_body_at w n (type_number subframe_type) s ≡ linear_at w n order s
lpc_is subframe_type w n order e s = rw (e, type_is_linear w n order) refl
