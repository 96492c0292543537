-- The clauses of the calls that read unencoded samples (RFC 9639, section 9.2.4).
use Rattle.std.specs.Prelude.{Bool, ℕ, List, ℤ, length, Result}
use Rattle.claxon_format.specs.Bits.{Bits}
use Rattle.claxon_format.specs.read.Reading.{Reading, times_at}
use Rattle.claxon_format.specs.read.Bits.{signed_at}
use Rattle.claxon_input.specs.Source.{Source}
use Rattle.claxon_input.specs.declared.bits.Bitstream.{Bitstream}
use Rattle.claxon_input.specs.declared.error.Error.{Error}
use Rattle.claxon_subframe.specs.Buffer.{FillsBuffer}

-- The buffer now holds values that this reader reads, as many as it is long, whose bits were
-- consumed.
abbrev pub ValuesAreReadBy : {R A : Type 0} {g : _} → (R → Source ℕ) → (Bits → Reading Bool ℤ)
    → Bitstream R g → Result A Error → Bitstream R g → List ℤ → List ℤ → Type 0
ValuesAreReadBy source read old result new was is =
    FillsBuffer source (times_at (length was) read) old result new is

-- The same for unencoded samples of this bit depth.
abbrev pub SamplesAreRead : {R A : Type 0} {g : _} → (R → Source ℕ) → ℕ → Bitstream R g
    → Result A Error → Bitstream R g → List ℤ → List ℤ → Type 0
SamplesAreRead source bit_depth old result new was is =
    ValuesAreReadBy source (signed_at bit_depth) old result new was is
