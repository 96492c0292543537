-- The Rice parameter of a partition, and what follows it.
use Rattle.std.proofs.Common.{◌≡◌, ◌≢◌, ℕ, ◌+◌, ◌-◌, ◌*◌, ◌%◌, ◌^◌, ◌<◌, ◌≤◌, true, false, eqb, refl, sym, ap, subst, ◌∙◌, arith}
use Rattle.std.proofs.lemmas.Bool.Decides.{nat_tests}
use Rattle.claxon_format.specs.Bits.{Bits}
use Rattle.claxon_format.specs.read.Reading.{Done, Incomplete, times_at}
use Rattle.claxon_format.specs.Residual.{escape}
use Rattle.claxon_format.specs.read.Bits.{number_at, rice_code_at}
use Rattle.claxon_format.specs.read.Residual.{escaped_partition_at, partition_at}
use Rattle.claxon_subframe.specs.SubframeFields.{method_of}
use Rattle.claxon_subframe.specs.declared.subframe.RicePartitionType.{RicePartitionType}
use Rattle.claxon_subframe.specs.declared.subframe.RicePartitionType.TheVariants.{Rice, Rice2}

pub method_small : (t : RicePartitionType) → method_of t < 2
method_small Rice = omega arith
method_small Rice2 = omega arith

-- ---- the escape code

-- a parameter other than the escape code
pub record IsRiceParameter (t : RicePartitionType) (k : ℕ) : Type 0 where
  pub few : k ≤ 30
  pub not_escape : eqb k (escape (method_of t)) ≡ false

pub rice_parameter_of : (t : RicePartitionType) (n k : ℕ) → n ≡ 4 + method_of t → k < 2 ^ n → k ≢ 1 * 2 ^ n % 4294967296 - 1 → IsRiceParameter t k
rice_parameter_of Rice n k is lt not =
    let p : k < 16 = subst (λ (j : ℕ). k < 2 ^ j) is lt in
    let q : k ≢ 15 = subst (λ (j : ℕ). k ≢ 1 * 2 ^ j % 4294967296 - 1) is not in
    record { few = omega arith; not_escape = grind (arith, nat_tests, q) }
rice_parameter_of Rice2 n k is lt not =
    let p : k < 32 = subst (λ (j : ℕ). k < 2 ^ j) is lt in
    let q : k ≢ 31 = subst (λ (j : ℕ). k ≢ 1 * 2 ^ j % 4294967296 - 1) is not in
    record { few = omega arith; not_escape = grind (arith, nat_tests, q) }

pub escape_of : (t : RicePartitionType) (n k : ℕ) → n ≡ 4 + method_of t → k ≡ 1 * 2 ^ n % 4294967296 - 1 → eqb k (escape (method_of t)) ≡ true
escape_of Rice n k is e = let q : k ≡ 15 = subst (λ (j : ℕ). k ≡ 1 * 2 ^ j % 4294967296 - 1) is e in rw q refl
escape_of Rice2 n k is e = let q : k ≡ 31 = subst (λ (j : ℕ). k ≡ 1 * 2 ^ j % 4294967296 - 1) is e in rw q refl

-- ---- what follows the parameter

module _ (method n l : ℕ) (s : Bits) (is : n ≡ 4 + method) where
  pub partition_incomplete : number_at n s ≡ Incomplete → partition_at method l s ≡ Incomplete
  unfolding partition_at
  partition_incomplete number =
      let first : number_at (4 + method) s ≡ Incomplete = ap (λ (j : ℕ). number_at j s) (sym is) ∙ number in rw first refl

  pub partition_escaped : {k : ℕ} {m : Bits} → eqb k (escape method) ≡ true → number_at n s ≡ Done k m → partition_at method l s ≡ escaped_partition_at l m
  unfolding partition_at
  partition_escaped {k} {m} all number =
      let first : number_at (4 + method) s ≡ Done k m = ap (λ (j : ℕ). number_at j s) (sym is) ∙ number in rw (first, all) refl

  pub partition_rice : {k : ℕ} {m : Bits} → eqb k (escape method) ≡ false → number_at n s ≡ Done k m → partition_at method l s ≡ times_at l (rice_code_at k) m
  unfolding partition_at
  partition_rice {k} {m} not_escape number =
      let first : number_at (4 + method) s ≡ Done k m = ap (λ (j : ℕ). number_at j s) (sym is) ∙ number in rw (first, not_escape) refl
