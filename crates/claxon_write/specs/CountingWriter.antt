-- A `CountingWriter`: its writer and its counts, and the clauses of its methods.
use Rattle.std.specs.Borrow.{GName, MutBor}
use Rattle.std.specs.Prelude.{
  ◌≡◌,
  ℕ,
  ◌+◌,
  ◌%◌,
  ◌^◌,
  ◌<◌,
  ◌≤◌,
  Bool,
  true,
  false,
  List,
  length,
  take,
  Option,
  Result,
  IfOk,
}
use Rattle.std.specs.Io.KnownBytes.{Appends, Keeps}
use Rattle.std.specs.Io.Seek.{MovesTo}
use Rattle.claxon.specs.Errors.{Error}
use Rattle.claxon_write.specs.declared.counting_writer.CountingWriter.{CountingWriter}

-- the ghost name of the reference to the writer
abbrev pub inner_name : {W : Type 0} → CountingWriter W → GName
inner_name w = w.inner.ghost_name

-- the writer
abbrev pub inner_writer : {W : Type 0} → CountingWriter W → W
inner_writer w = w.inner.now

-- the contents of the writer, where they are known
abbrev pub inner_contents : {W : Type 0} → (W → Option (List ℕ)) → CountingWriter W
    → Option (List ℕ)
inner_contents contents w = contents (inner_writer w)

-- the number of failed writes, modulo 2^64, as the next three
abbrev pub failed_writes_of : {W : Type 0} → CountingWriter W → ℕ
failed_writes_of w = w.failed_writes

-- the number of failed flushes
abbrev pub failed_flushes_of : {W : Type 0} → CountingWriter W → ℕ
failed_flushes_of w = w.failed_flushes

-- the number of failed seeks
abbrev pub failed_seeks_of : {W : Type 0} → CountingWriter W → ℕ
failed_seeks_of w = w.failed_seeks

-- the number of flushes
abbrev pub flushes_of : {W : Type 0} → CountingWriter W → ℕ
flushes_of w = w.flushes

-- whether the last call of the writer was a flush
abbrev pub is_flushed_last : {W : Type 0} → CountingWriter W → Bool
is_flushed_last w = w.is_flushed

-- It borrows this writer, which is as it was. All counts are 0.
pub record IsNewCountingWriter {W : Type 0} (inner : MutBor W) (w : CountingWriter W) : Type 0 where
  pub same_reference : inner_name w ≡ inner.ghost_name
  pub writer : inner_writer w ≡ inner.now
  pub failed_writes : failed_writes_of w ≡ 0
  pub failed_flushes : failed_flushes_of w ≡ 0
  pub failed_seeks : failed_seeks_of w ≡ 0
  pub flushes : flushes_of w ≡ 0
  pub not_flushed : is_flushed_last w ≡ false

-- This is the reference to the writer, which is as it was left.
pub record IsInnerOf {W : Type 0} (w : CountingWriter W) (inner : MutBor W) : Type 0 where
  pub same_reference : inner.ghost_name ≡ inner_name w
  pub writer : inner.now ≡ inner_writer w

-- The reference to the writer stays the same.
abbrev pub SameInner : {W : Type 0} → CountingWriter W → CountingWriter W → Type 0
SameInner old new = inner_name new ≡ inner_name old

-- The contents of the writer stay the same.
abbrev pub KeepsInner : {W : Type 0} → (W → Option (List ℕ)) → CountingWriter W → CountingWriter W
    → Type 0
KeepsInner contents old new = Keeps (inner_contents contents old) (inner_contents contents new)

-- ---- counts

-- No call failed.
pub record CountsNoFailure {W : Type 0} (old new : CountingWriter W) : Type 0 where
  pub writes : failed_writes_of new ≡ failed_writes_of old
  pub flushes : failed_flushes_of new ≡ failed_flushes_of old
  pub seeks : failed_seeks_of new ≡ failed_seeks_of old

-- One write failed, and no other call.
pub record CountsFailedWrite {W : Type 0} (old new : CountingWriter W) : Type 0 where
  pub writes : failed_writes_of new ≡ (failed_writes_of old + 1) % 2 ^ 64
  pub flushes : failed_flushes_of new ≡ failed_flushes_of old
  pub seeks : failed_seeks_of new ≡ failed_seeks_of old

-- One flush failed, and no other call.
pub record CountsFailedFlush {W : Type 0} (old new : CountingWriter W) : Type 0 where
  pub writes : failed_writes_of new ≡ failed_writes_of old
  pub flushes : failed_flushes_of new ≡ (failed_flushes_of old + 1) % 2 ^ 64
  pub seeks : failed_seeks_of new ≡ failed_seeks_of old

-- One seek failed, and no other call.
pub record CountsFailedSeek {W : Type 0} (old new : CountingWriter W) : Type 0 where
  pub writes : failed_writes_of new ≡ failed_writes_of old
  pub flushes : failed_flushes_of new ≡ failed_flushes_of old
  pub seeks : failed_seeks_of new ≡ (failed_seeks_of old + 1) % 2 ^ 64

-- There was no flush.
abbrev pub CountsNoFlush : {W : Type 0} → CountingWriter W → CountingWriter W → Type 0
CountsNoFlush old new = flushes_of new ≡ flushes_of old

-- There was one flush, and it was the last call of the writer.
pub record CountsFlush {W : Type 0} (old new : CountingWriter W) : Type 0 where
  pub once : flushes_of new ≡ (flushes_of old + 1) % 2 ^ 64
  pub last : is_flushed_last new ≡ true

-- There was a call of the writer, and no flush.
pub record CountsOtherCall {W : Type 0} (old new : CountingWriter W) : Type 0 where
  pub none : CountsNoFlush old new
  pub last : is_flushed_last new ≡ false

-- ---- calls

-- An Ok is the number of bytes that were written, at least one.
abbrev pub WritesSome : {W : Type 0} → (W → Option (List ℕ)) → List ℕ → Result ℕ Error
    → CountingWriter W → CountingWriter W → Type 0
WritesSome contents bytes r old new =
    IfOk r (λ n. (0 < n) × (n ≤ length bytes)
    × Appends (inner_contents contents old) (inner_contents contents new) (take n bytes))

-- A known position moved to the start, and stayed after an Err.
abbrev pub RewindMovesToStart : {W : Type 0} → (W → Option ℕ) → Result (Unit {0}) Error
    → CountingWriter W → CountingWriter W → Type 0
RewindMovesToStart position r old new =
    MovesTo (position (inner_writer old)) (position (inner_writer new)) 0 r

-- All the bytes of the writer, where they are known, stay the same.
abbrev pub RewindKeepsBytes : {W : Type 0} → (W → Option (List ℕ)) → CountingWriter W
    → CountingWriter W → Type 0
RewindKeepsBytes bytes old new = Keeps (bytes (inner_writer old)) (bytes (inner_writer new))
