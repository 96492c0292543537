-- The clause of the calls that read samples or coefficients into a buffer.
use Rattle.std.specs.Prelude.{ℕ, List, ℤ, Bool, Result}
use Rattle.claxon_format.specs.Bits.{Bits}
use Rattle.claxon_format.specs.read.Reading.{Reading}
use Rattle.claxon_input.specs.Gives.{Gives}
use Rattle.claxon_input.specs.Source.{Source}
use Rattle.claxon_input.specs.State.{bits_in}
use Rattle.claxon_input.specs.declared.bits.Bitstream.{Bitstream}
use Rattle.claxon_input.specs.declared.error.Error.{Error}

-- After an Ok the buffer holds what reading gives, and just its bits were consumed. An Err is the
-- fault of the bits that were consumed, or an `IoError` where the source failed or the input ended.
abbrev pub FillsBuffer : {R A : Type 0} {g : _} → (R → Source ℕ)
    → (Bits → Reading Bool (List ℤ)) → Bitstream R g → Result A Error → Bitstream R g → List ℤ
    → Type 0
FillsBuffer source read old result new buffer =
    Gives (λ x. buffer) result read (bits_in source old) (bits_in source new)
