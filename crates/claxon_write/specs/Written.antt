-- The bytes that an `Output` wrote, and those pending in it.
use Rattle.std.specs.Prelude.{◌≡◌, ◌≤◌, ℕ, ◌+◌, List, [], ◌++◌, length, take, Option}
use Rattle.std.specs.Io.KnownBytes.{Appends, append_known}
use Rattle.claxon.specs.Error.{IsIo}
use Rattle.claxon.specs.Errors.{Error}
use Rattle.claxon_write.specs.Capacity.{capacity}
use Rattle.claxon_write.specs.CountingWriter.{
  CountsFailedFlush,
  CountsFailedWrite,
  CountsFlush,
  CountsNoFailure,
  CountsNoFlush,
  KeepsInner,
  inner_contents,
}
use Rattle.claxon_write.specs.declared.output.Gathered.{Gathered}
use Rattle.claxon_write.specs.declared.output.Output.{Output}

-- the bytes that are not written yet
abbrev pub pending_in : Gathered → List ℕ
pending_in g = take g.used g.bytes

abbrev pub pending : {W : Type 0} → Output W → List ℕ
pending o = pending_in o.gathered

-- No bytes are pending.
abbrev pub NonePending : {W : Type 0} → Output W → Type 0
NonePending o = pending o ≡ []

-- No call of the writer failed.
abbrev pub NothingFailed : {W : Type 0} → Output W → Output W → Type 0
NothingFailed old new = CountsNoFailure old.writer new.writer

-- One write failed, and no other call.
abbrev pub OneWriteFailed : {W : Type 0} → Output W → Output W → Type 0
OneWriteFailed old new = CountsFailedWrite old.writer new.writer

-- One flush failed, and no other call.
abbrev pub OneFlushFailed : {W : Type 0} → Output W → Output W → Type 0
OneFlushFailed old new = CountsFailedFlush old.writer new.writer

-- There was no flush.
abbrev pub IsUnflushed : {W : Type 0} → Output W → Output W → Type 0
IsUnflushed old new = CountsNoFlush old.writer new.writer

-- There was one flush, and it was the last call of the writer.
abbrev pub IsFlushed : {W : Type 0} → Output W → Output W → Type 0
IsFlushed old new = CountsFlush old.writer new.writer

-- the contents of the writer, where they are known
abbrev pub writer_contents : {W : Type 0} → (W → Option (List ℕ)) → Output W → Option (List ℕ)
writer_contents contents o = inner_contents contents o.writer

-- The contents of the writer stay the same.
abbrev pub KeepsContents : {W : Type 0} → (W → Option (List ℕ)) → Output W → Output W → Type 0
KeepsContents contents old new = KeepsInner contents old.writer new.writer

-- the contents of the writer, followed by the pending bytes
abbrev pub contents_with_pending : {W : Type 0} → (W → Option (List ℕ)) → Output W → Option (List ℕ)
contents_with_pending contents o = append_known (writer_contents contents o) (pending o)

-- A prefix of these bytes was added.
abbrev pub AppendsPrefix : Option (List ℕ) → Option (List ℕ) → List ℕ → Type 0
AppendsPrefix old new bytes = (k : ℕ) × Appends old new (take k bytes)

-- A prefix of these bytes was added, and at most n of them are missing.
abbrev pub AppendsAllBut : ℕ → Option (List ℕ) → Option (List ℕ) → List ℕ → Type 0
AppendsAllBut n old new bytes = (k : ℕ) × Appends old new (take k bytes) × (length bytes ≤ k + n)

-- These bytes were written after the pending ones, or are pending after them, and nothing failed.
pub record Puts {W : Type 0} (contents : W → Option (List ℕ)) (bytes : List ℕ)
    (old new : Output W) : Type 0 where
  pub prefix : AppendsPrefix (writer_contents contents old) (writer_contents contents new)
      (pending old ++ bytes)
  pub bytes_are : Appends (contents_with_pending contents old) (contents_with_pending contents new)
      bytes
  pub nothing_failed : NothingFailed old new

-- A write failed, which was counted. A prefix of the pending bytes and these was written, and
-- nothing is pending any more. At most the capacity and these are missing.
pub record FailsToPut {W : Type 0} (contents : W → Option (List ℕ)) (bytes : List ℕ) (error : Error)
    (old new : Output W) : Type 0 where
  pub is_io : IsIo error
  pub failed : OneWriteFailed old new
  pub prefix : AppendsAllBut (capacity + length bytes) (writer_contents contents old)
      (writer_contents contents new) (pending old ++ bytes)
  pub none_pending : NonePending new

-- The flush failed, which was counted, after all pending bytes were written.
pub record FailsToFlush {W : Type 0} (contents : W → Option (List ℕ)) (error : Error)
    (old new : Output W) : Type 0 where
  pub is_io : IsIo error
  pub failed : OneFlushFailed old new
  pub flushed : IsFlushed old new
  pub written : Appends (contents_with_pending contents old) (writer_contents contents new) []
  pub none_pending : NonePending new
