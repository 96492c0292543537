-- Readers of a residual and of its parts (RFC 9639, section 9.2.7).
use Rattle.std.specs.Prelude.{
  ℕ,
  zero,
  suc,
  ◌+◌,
  ◌/◌,
  ◌%◌,
  ◌^◌,
  Bool,
  if◌then◌else◌,
  ◌==◌,
  nat_lt,
  List,
  ℤ,
  pos,
}
use Rattle.std.specs.List.{flat_map}
use Rattle.claxon_format.specs.Bits.{Bits}
use Rattle.claxon_format.specs.Fault.{MethodReserved, PartitionOrder, PartitionShort}
use Rattle.claxon_format.specs.read.Reading.{
  Reading,
  and_then,
  done,
  each_at,
  times_at,
  test,
  checked_at,
}
use Rattle.claxon_format.specs.Residual.{escape, partition_lengths}
use Rattle.claxon_format.specs.read.Bits.{number_at, signed_at, rice_code_at}

-- a residual sample in b bits; where b is 0 it is 0
unfoldable pub escaped_sample_at : ℕ → Bits → Reading Bool ℤ
escaped_sample_at zero = done (pos 0)
escaped_sample_at (suc b) = signed_at (suc b)

-- after the escape: a number of bits, and l residual samples in that number of bits
unfoldable pub escaped_partition_at : ℕ → Bits → Reading Bool (List ℤ)
escaped_partition_at l = and_then (number_at 5) (λ b. times_at l (escaped_sample_at b))

-- a partition of l residual samples: a Rice parameter and Rice codes, or the escape
unfoldable pub partition_at : ℕ → ℕ → Bits → Reading Bool (List ℤ)
partition_at method l =
    and_then (number_at (4 + method)) (λ k.
    if k == escape method then escaped_partition_at l else times_at l (rice_code_at k))

-- the residual samples of partitions, one after another
abbrev pub joined_at : (ℕ → Bits → Reading Bool (List ℤ)) → List ℕ → Bits → Reading Bool (List ℤ)
joined_at r ls = and_then (each_at r ls) (λ partitions. done (flat_map (λ x. x) partitions))

-- the coding method: how many bits a Rice parameter has
unfoldable pub method_at : Bits → Reading Bool ℕ
method_at = checked_at (nat_lt 1) MethodReserved (number_at 2)

-- the partitions of n samples less the warm-up samples
unfoldable pub partitions_at : ℕ → ℕ → ℕ → Bits → Reading Bool (List ℤ)
partitions_at n order method =
    and_then (number_at 4) (λ p.
    test (nat_lt 0 (n % 2 ^ p)) PartitionOrder (
    test (nat_lt (n / 2 ^ p) order) PartitionShort (
    joined_at (partition_at method) (partition_lengths n order p))))

unfoldable pub residual_at : ℕ → ℕ → Bits → Reading Bool (List ℤ)
residual_at n order = and_then method_at (partitions_at n order)
