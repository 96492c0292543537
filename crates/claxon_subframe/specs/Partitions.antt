-- The partitions of a residual (RFC 9639, section 9.2.7).
use Rattle.std.specs.Prelude.{
  ◌≡◌,
  ℕ,
  zero,
  suc,
  ◌+◌,
  ◌*◌,
  List,
  [],
  ◌∷◌,
  ℤ,
  take,
  replicate,
  Result,
  IfOk,
  OnErr,
}
use Rattle.claxon_format.specs.read.Reading.{Done}
use Rattle.claxon_format.specs.read.Residual.{joined_at, partition_at}
use Rattle.claxon_input.specs.Gives.{Consumes, ReadFailedOrRemaining}
use Rattle.claxon_input.specs.Source.{Source}
use Rattle.claxon_input.specs.State.{bits_in}
use Rattle.claxon_input.specs.declared.bits.Bitstream.{Bitstream}
use Rattle.claxon_input.specs.declared.error.Error.{Error}

-- the lengths of n partitions: that of the first, and that of each after it
abbrev pub lengths : ℕ → ℕ → ℕ → List ℕ
lengths zero first each = []
lengths (suc n) first each = first ∷ replicate n each

-- how many residual samples they have in all
abbrev pub total : List ℕ → ℕ
total [] = 0
total (l ∷ ls) = l + total ls

-- The buffer begins with as many partitions as the Ok says, each of `each` residual samples,
-- whose bits were consumed.
abbrev pub PartitionsAreRead : {R : Type 0} {g : _} → (R → Source ℕ) → ℕ → ℕ → Bitstream R g
    → Result ℕ Error → Bitstream R g → List ℤ → Type 0
PartitionsAreRead source method each old result new buffer =
    IfOk result (λ whole.
    Consumes (bits_in source old) (bits_in source new) (λ s m.
    joined_at (partition_at method) (replicate whole each) s ≡ Done (take (whole * each) buffer) m))

-- An Err says that a read of the source failed.
abbrev pub PartitionsReadFailed : {R : Type 0} {g : _} → (R → Source ℕ) → Bitstream R g
    → Result ℕ Error → Bitstream R g → Type 0
PartitionsReadFailed source old result new =
    OnErr result (ReadFailedOrRemaining (bits_in source old) (bits_in source new) (λ s. ⊥))
