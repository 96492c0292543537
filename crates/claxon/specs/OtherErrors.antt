-- Errors other than `OutOfMemory` and `IoError`.
use Rattle.std.specs.Prelude.{◌≡◌, ◌⊎◌, Result, IfErr}
use Rattle.claxon_input.specs.Error.{IsIo}
use Rattle.claxon_input.specs.declared.error.Error.{Error}
use Rattle.claxon_input.specs.declared.error.Error.TheVariants.{OutOfMemory}

-- An Err is `OutOfMemory`, an `IoError`, or P holds of it.
abbrev pub IfOtherErr : {A : Type 0} → Result A Error → (Error → Type 0) → Type 0
IfOtherErr result P = IfErr result (λ e. (e ≡ OutOfMemory) ⊎ (IsIo e ⊎ P e))
