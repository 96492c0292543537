-- The clauses of the methods of `Output`.
use Rattle.std.specs.Borrow.{MutBor}
use Rattle.std.specs.Prelude.{ℕ, ◌⊎◌, List, [], Option, Result, IfErr, OnOk}
use Rattle.claxon.specs.Streams.{interleave}
use Rattle.claxon.specs.Block.{BlockValue}
use Rattle.claxon.specs.Errors.{Error}
use Rattle.claxon_write.specs.SampleBytes.{bytes_of_samples}
use Rattle.claxon_write.specs.CountingWriter.{IsNewCountingWriter}
use Rattle.claxon_write.specs.Written.{
  FailsToFlush,
  FailsToPut,
  IsFlushed,
  IsUnflushed,
  NonePending,
  Puts,
}
use Rattle.claxon_write.specs.declared.output.Output.{Output}

-- The output borrows this writer, which is as it was. No bytes are pending, and all counts are 0.
pub record IsNewOutput {W : Type 0} (inner : MutBor W) (o : Output W) : Type 0 where
  pub writer_is : IsNewCountingWriter inner o.writer
  pub none_pending : NonePending o

-- An Ok put these bytes after all earlier ones.
abbrev pub PutIsSound : {W : Type 0} → (W → Option (List ℕ)) → List ℕ → Result (Unit {0}) Error
    → Output W → Output W → Type 0
PutIsSound contents bytes r old new = OnOk r (Puts contents bytes old new)

-- An Err is the writer's: a prefix of the pending bytes and these bytes was written.
abbrev pub PutFaultIsSound : {W : Type 0} → (W → Option (List ℕ)) → List ℕ → Result (Unit {0}) Error
    → Output W → Output W → Type 0
PutFaultIsSound contents bytes r old new =
    IfErr r (λ error. FailsToPut contents bytes error old new)

-- An Ok wrote all pending bytes, and then flushed.
abbrev pub FlushIsSound : {W : Type 0} → (W → Option (List ℕ)) → Result (Unit {0}) Error → Output W
    → Output W → Type 0
FlushIsSound contents r old new = OnOk r (Puts contents [] old new × IsFlushed old new)

-- An Err is a failed write, without a flush, or a failed flush after all pending bytes were
-- written.
abbrev pub FlushFaultIsSound : {W : Type 0} → (W → Option (List ℕ)) → Result (Unit {0}) Error
    → Output W → Output W → Type 0
FlushFaultIsSound contents r old new =
    IfErr r (λ error. (FailsToPut contents [] error old new × IsUnflushed old new)
    ⊎ FailsToFlush contents error old new)

-- the bytes of a block's interleaved samples
abbrev pub block_bytes : BlockValue → List ℕ
block_bytes block = bytes_of_samples (interleave block.channels)
