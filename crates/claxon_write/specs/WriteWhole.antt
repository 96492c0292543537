-- The clauses of `CountingWriter::write_whole`.
use Rattle.std.specs.Prelude.{ℕ, List, Option, Result, OnErr, OnOk}
use Rattle.std.specs.Io.KnownBytes.{Appends}
use Rattle.claxon.specs.Errors.{Error}
use Rattle.claxon_write.specs.CountingWriter.{inner_contents}
use Rattle.claxon_write.specs.Written.{AppendsPrefix}
use Rattle.claxon_write.specs.declared.counting_writer.CountingWriter.{CountingWriter}

-- An Ok wrote all of these bytes.
abbrev pub WritesAll : {W : Type 0} → (W → Option (List ℕ)) → List ℕ → Result (Unit {0}) Error
    → CountingWriter W → CountingWriter W → Type 0
WritesAll contents bytes r old new =
    OnOk r (Appends (inner_contents contents old) (inner_contents contents new) bytes)

-- An Err wrote a prefix of these bytes.
abbrev pub WritesPrefix : {W : Type 0} → (W → Option (List ℕ)) → List ℕ → Result (Unit {0}) Error
    → CountingWriter W → CountingWriter W → Type 0
WritesPrefix contents bytes r old new =
    OnErr r (AppendsPrefix (inner_contents contents old) (inner_contents contents new) bytes)
