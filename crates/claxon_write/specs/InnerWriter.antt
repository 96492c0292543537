-- The writer of an `Output`.
use Rattle.std.specs.Borrow.{GName, MutBor}
use Rattle.claxon_write.specs.CountingWriter.{IsInnerOf, SameInner, inner_name}
use Rattle.claxon_write.specs.declared.output.Output.{Output}

-- the ghost name of the reference to the writer
abbrev pub output_name : {W : Type 0} → Output W → GName
output_name o = inner_name o.writer

-- The output has the same reference to its writer.
abbrev pub SameWriter : {W : Type 0} → Output W → Output W → Type 0
SameWriter old new = SameInner old.writer new.writer

-- This is the output's reference to its writer, and the writer is as the output left it.
abbrev pub IsWriterOf : {W : Type 0} → Output W → MutBor W → Type 0
IsWriterOf o inner = IsInnerOf o.writer inner
