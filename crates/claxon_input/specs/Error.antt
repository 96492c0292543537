-- What an `Error` shows, and which errors are equal.
use Rattle.std.specs.Prelude.{
  ◌≡◌,
  ℕ,
  Option,
  Bool,
  false,
  true,
  List,
  ◌++◌,
  None,
  Some,
  codes,
  ◌==◌,
  not,
  ◌&&◌,
}
use Rattle.std.specs.List.{list_any}
use Rattle.claxon_format.specs.Fault.{Fault, fault_text, faults, is_unsupported}
use Rattle.std.specs.Cmp.Lexicographic.{pointwise}
use Rattle.claxon_input.specs.declared.error.Error.{Error}
use Rattle.claxon_input.specs.declared.error.Error.TheVariants.{
  IoError,
  FormatError,
  Unsupported,
  OutOfMemory,
}

-- the text, where it is known: that of an `io::Error` is open
abbrev pub error_text : Error → Option (List ℕ)
error_text (IoError cause) = None
error_text (FormatError reason) = Some (codes "Ill-formed FLAC stream: " ++ reason.now)
error_text (Unsupported feature) =
    Some (codes "A currently unsupported feature of the FLAC format was encountered: "
    ++ feature.now)
error_text OutOfMemory = Some (codes "out of memory")

-- equal variants with equal texts; an `IoError` equals nothing
abbrev pub error_eq : Error → Error → Bool
error_eq (FormatError a) (FormatError b) = pointwise ◌==◌ a.now b.now
error_eq (Unsupported a) (Unsupported b) = pointwise ◌==◌ a.now b.now
error_eq OutOfMemory OutOfMemory = true
error_eq _ _ = false

-- a `FormatError` with this text
abbrev pub IsFormatError : Error → List ℕ → Type 0
IsFormatError (FormatError reason) text = reason.now ≡ text
IsFormatError _ text = ⊥

-- out of memory
abbrev pub is_out_of_memory : Error → Bool
is_out_of_memory OutOfMemory = true
is_out_of_memory _ = false

-- ---- errors that a reader returns

-- an error that names the fault
abbrev pub IsFault : Fault → Error → Type 0
IsFault f (FormatError text) = (text.now ≡ fault_text f) × (is_unsupported f ≡ false)
IsFault f (Unsupported text) = (text.now ≡ fault_text f) × (is_unsupported f ≡ true)
IsFault f _ = ⊥

-- an `IoError`
abbrev pub is_io : Error → Bool
is_io (IoError cause) = true
is_io _ = false

-- an `IoError`, or an error of a fault's kind with its text
abbrev pub is_named : Error → Bool
is_named (IoError cause) = true
is_named (FormatError text) =
    list_any (λ f. not (is_unsupported f) && pointwise ◌==◌ text.now (fault_text f)) faults
is_named (Unsupported text) =
    list_any (λ f. is_unsupported f && pointwise ◌==◌ text.now (fault_text f)) faults
is_named OutOfMemory = false

abbrev pub IsIo : Error → Type 0
IsIo e = is_io e ≡ true
