-- The exit status of the command `wav`.
use Rattle.std.specs.Prelude.{
  ℕ,
  Err,
  None,
  Ok,
  Option,
  Result,
  Some,
}
use Rattle.claxon_wav.specs.Mismatch.{mismatch_of}
use Rattle.claxon_wav.specs.declared.conversion.Conversion.{Conversion}
use Rattle.claxon_wav.specs.declared.conversion.Mismatch.{Mismatch}
use Rattle.claxon_wav.specs.declared.error.Error.{Error}

abbrev pub mismatch_status : Option Mismatch → ℕ
mismatch_status None = 0
mismatch_status (Some mismatch) = 1

-- The exit status: 0 where all was converted, and the streaminfo says nothing else.
abbrev pub status_after : Option ℕ → Result Conversion Error → ℕ
status_after known (Err error) = 1
status_after known (Ok found) = mismatch_status (mismatch_of known found)
