-- The state of a reader: what remains of its source, as bits where X is Bool, or as bytes where
-- it is ℕ.
use Rattle.std.specs.Prelude.{ℕ, Option, None, Some, Bool, List, [], ◌++◌}
use Rattle.claxon_format.specs.Bits.{bits_of}
use Rattle.claxon_input.specs.Source.{Source, IsKnown}
use Rattle.claxon_input.specs.Bitstream.{bit_state}
use Rattle.claxon_input.specs.declared.bits.Bitstream.{Bitstream}

-- the source, and what remains of it, if that is known
pub record State (X : Type 0) : Type 0 where
  pub source : Source ℕ
  pub remaining : List X

-- it is known what remains
abbrev pub RemainingIsKnown : {X : Type 0} → State X → Type 0
RemainingIsKnown s = IsKnown s.source.remaining

-- f of the bytes that remain; nothing where these aren't known
abbrev pub remaining_as : {X : Type 0} → (List ℕ → List X) → Option (List ℕ) → List X
remaining_as f None = []
remaining_as f (Some all) = f all

-- the bytes that are still in the source
abbrev pub source_bytes : {X : Type 0} → State X → List ℕ
source_bytes s = remaining_as (λ all. all) s.source.remaining

-- the kept values after all that remains and more
abbrev pub values_at_eof : Option (List ℕ) → (List ℕ → List ℕ) → List ℕ → List ℕ
values_at_eof None values more = []
values_at_eof (Some all) values more = values (all ++ more)

-- those of a state
abbrev pub final_values : {X : Type 0} → State X → List ℕ → List ℕ
final_values s = values_at_eof s.source.remaining s.source.values

-- the state of a source, where f of its bytes remains
abbrev pub state_of : {X : Type 0} → (List ℕ → List X) → Source ℕ → State X
state_of f s = record { source = s; remaining = remaining_as f s.remaining }

-- the left-over bits, and then those of the remaining bytes
abbrev pub bits_after : List Bool → List ℕ → List Bool
bits_after left all = left ++ bits_of all

-- a `Bitstream` over a reader with this source
unfoldable pub bits_in : {R : Type 0} {g : _} → (R → Source ℕ) → Bitstream R g → State Bool
bits_in source b = state_of (bits_after (bit_state source b).left) (bit_state source b).source

-- a reader of bytes with this source
unfoldable pub bytes_in : {R : Type 0} → (R → Source ℕ) → R → State ℕ
bytes_in source r = state_of (λ all. all) (source r)
