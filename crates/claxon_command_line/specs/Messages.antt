-- Lines about what failed.
use Rattle.std.specs.Prelude.{
  ◌≡◌,
  List,
  ◌++◌,
  codes,
  ℕ,
  Result,
  IfSome,
}
use Rattle.std.specs.declared.alloc.AllocError.{AllocError}
use Rattle.std.specs.declared.io.Error.{Error as Failure}
use Rattle.std.specs.declared.io.ErrorKind.TheVariants.{UnexpectedEof}
use Rattle.std.specs.IoError.{error_kind}
use Rattle.std.specs.declared.string.String.{String}
use Rattle.claxon_input.specs.Error.{error_text}
use Rattle.claxon_input.specs.declared.error.Error.{Error}
use Rattle.claxon_input.specs.declared.error.Error.TheVariants.{IoError}
use Rattle.claxon_command_line.specs.Text.{IsText}
use Rattle.claxon_command_line.specs.declared.input.TheConstants.{STANDARD}
use Rattle.claxon_command_line.specs.declared.messages.Part.{Part}
use Rattle.claxon_command_line.specs.declared.messages.Part.TheVariants.{Frame, Head, Output}

-- what `-` stands for
abbrev pub standard_name : Part → List ℕ
standard_name Head = codes "standard input"
standard_name Frame = codes "standard input"
standard_name Output = codes "standard output"

-- `-` is shown as what it stands for, and any other name as it is.
pub record IsShownName (name : List ℕ) (part : Part) (shown : List ℕ) : Type 0 where
  pub standard : name ≡ STANDARD.now → shown ≡ standard_name part
  pub other : (name ≡ STANDARD.now → ⊥) → shown ≡ name

-- where an input ends too early
abbrev pub cut_text : List ℕ → List ℕ
cut_text where_ = codes "truncated: the file ends inside " ++ where_

-- An Ok says that an input that ends inside its metadata or a frame is truncated.
abbrev pub IoTextIsSound : {A : Type 0} → Part → Failure → Result (String A) AllocError → Type 0
IoTextIsSound Head cause r =
    error_kind cause ≡ UnexpectedEof → IsText (cut_text (codes "the metadata")) r
IoTextIsSound Frame cause r =
    error_kind cause ≡ UnexpectedEof → IsText (cut_text (codes "a frame")) r
IoTextIsSound Output cause r = Unit {0}

-- The same, and any other error has its own text.
abbrev pub ErrorTextIsSound : {A : Type 0} → Part → Error → Result (String A) AllocError → Type 0
ErrorTextIsSound part (IoError cause) r = IoTextIsSound part cause r
ErrorTextIsSound part error r = IfSome (error_text error) (λ text. IsText text r)
