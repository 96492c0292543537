-- The input of a command.
use Rattle.std.specs.Prelude.{
  ◌≡◌,
  List,
  ℕ,
  Option,
  Result,
  IfOk,
}
use Rattle.std.specs.declared.io.Error.{Error as Failure}
use Rattle.claxon_command_line.specs.declared.input.Input.{Input}
use Rattle.claxon_command_line.specs.declared.input.Input.TheVariants.{File, Standard}
use Rattle.claxon_command_line.specs.declared.input.TheConstants.{STANDARD}

-- the bytes that reads will give from here on, where they are known: those of the file, or of
-- standard input
abbrev pub input_remaining : {F I : Type 0} → (F → Option (List ℕ)) → (I → Option (List ℕ))
    → Input F I → Option (List ℕ)
input_remaining of_file of_standard (File file) = of_file file
input_remaining of_file of_standard (Standard input) = of_standard input

-- `-` opens standard input, and any other name a file.
abbrev pub IsInputOf : {F I : Type 0} → List ℕ → I → Input F I → Type 0
IsInputOf name standard (File file) = name ≡ STANDARD.now → ⊥
IsInputOf name standard (Standard input) = (name ≡ STANDARD.now) × (input ≡ standard)

-- An Ok is that input.
abbrev pub OpensInput : {F I : Type 0} → List ℕ → I → Result (Input F I) Failure → Type 0
OpensInput name standard r = IfOk r (IsInputOf name standard)
