-- What the program and its commands print about themselves, and of errors.
use Rattle.std.specs.Prelude.{
  ◌≡◌,
  ℕ,
  ◌-◌,
  ◌^◌,
  List,
  ◌++◌,
  codes,
  flat_map,
  Option,
  Result,
  IsOkAnd,
  OnOk,
}
use Rattle.std.specs.declared.alloc.AllocError.{AllocError}
use Rattle.std.specs.Borrow.{Bor}
use Rattle.std.specs.Fmt.{format_spec, padded}
use Rattle.std.specs.Io.KnownBytes.{Appends}
use Rattle.std.specs.String.{string_bytes}
use Rattle.std.specs.declared.string.String.{String}
use Rattle.claxon.specs.Errors.{Error}
use Rattle.claxon_write.specs.Written.{IsFlushed, NonePending, Puts}
use Rattle.claxon_write.specs.declared.output.Output.{Output as Sink}
use Rattle.claxon_command_line.specs.Text.{IsText}
use Rattle.claxon_command_line.specs.declared.arguments.Notice.{Notice}
use Rattle.claxon_command_line.specs.declared.arguments.Notice.TheVariants.{
  Help,
  NotUtf8,
  UnknownCommand,
  UnknownOption,
  Usage,
  Version,
}
use Rattle.claxon_program.specs.declared.program.Program.{Program}
use Rattle.claxon_program.specs.declared.program.TheConstants.{VERSION}

-- the name of a command, in a column of eleven characters, and what it does
unfoldable pub command_text : List ℕ → List ℕ → List ℕ
command_text name summary =
    codes "  " ++ padded (format_spec 32 1 0 11 (2 ^ 64 - 1)) name ++ summary ++ codes "\n"

-- a line for each command
abbrev pub commands_text : List (Bor (List ℕ) × Bor (List ℕ)) → List ℕ
commands_text commands = flat_map (λ c. command_text c.0.now c.1.now) commands

-- the usage line, an empty line, the commands, and what the program does
abbrev pub help_text : Program → List ℕ
help_text p =
    codes "usage: " ++ p.name.now ++ codes " " ++ p.arguments.now ++ codes "\n\n"
    ++ commands_text p.commands.now ++ p.help.now

-- the program's name and the version of the product
abbrev pub version_text : Program → List ℕ → List ℕ
version_text p version = p.name.now ++ codes " " ++ version ++ codes "\n"

-- An Ok wrote exactly this text after the pending bytes, and then flushed. Nothing is pending
-- any more.
abbrev pub WritesText : {A W : Type 0} → (W → Option (List ℕ)) → Result (String A) AllocError
    → Result (Unit {0}) Error → Sink W → Sink W → Type 0
WritesText contents text r old new =
    OnOk r (IsOkAnd text (λ t. Puts contents (string_bytes t) old new) × NonePending new
    × IsFlushed old new)

-- The status 0 says that exactly this text was written.
abbrev pub PrintsText : {A W : Type 0} → (W → Option (List ℕ)) → Result (String A) AllocError → ℕ
    → W → W → Type 0
PrintsText contents text status old new =
    status ≡ 0 → IsOkAnd text (λ t. Appends (contents old) (contents new) (string_bytes t))

-- The status 0 says that exactly this text was written.
abbrev pub Prints : {W : Type 0} → (W → Option (List ℕ)) → List ℕ → ℕ → W → W → Type 0
Prints contents text status old new = status ≡ 0 → Appends (contents old) (contents new) text

-- Help or version were printed, or the status is 2 and nothing was.
abbrev pub PrintIsSound : {W : Type 0} → (W → Option (List ℕ)) → Program → Notice → ℕ → W → W
    → Type 0
PrintIsSound contents p Help status old new = Prints contents (help_text p) status old new
PrintIsSound contents p Version status old new =
    Prints contents (version_text p VERSION.now) status old new
PrintIsSound contents p (UnknownOption option) status old new = (status ≡ 2) × (new ≡ old)
PrintIsSound contents p (UnknownCommand name) status old new = (status ≡ 2) × (new ≡ old)
PrintIsSound contents p NotUtf8 status old new = (status ≡ 2) × (new ≡ old)
PrintIsSound contents p Usage status old new = (status ≡ 2) × (new ≡ old)
