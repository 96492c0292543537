-- Streams that are decoded into an `Output`.
use Rattle.std.specs.Prelude.{
  All,
  ◌≡◌,
  ◌≤◌,
  ◌⊎◌,
  ℕ,
  ◌+◌,
  ◌^◌,
  List,
  [],
  ◌∷◌,
  ◌++◌,
  length,
  codes,
  Option,
  None,
  Some,
  IsErrAnd,
  Result,
  Ok,
  Err,
}
use Rattle.std.specs.Io.KnownBytes.{Appends}
use Rattle.claxon.specs.Frame.{StreamFormat, Block}
use Rattle.claxon.specs.Streams.{interleave}
use Rattle.claxon.specs.Error.{IsIo}
use Rattle.claxon.specs.FrameReader.{HeaderOfLargerBlock}
use Rattle.claxon.specs.Promises.{Consumed}
use Rattle.claxon.specs.State.{State}
use Rattle.claxon.specs.Errors.{Error}
use Rattle.claxon.specs.Errors.TheVariants.{Unsupported}
use Rattle.claxon.specs.SampleRuns.{ReadsFrames, ConsumesFrames, samples_of}
use Rattle.claxon_write.specs.SampleBytes.{bytes_of_samples}
use Rattle.claxon_write.specs.Capacity.{capacity}
use Rattle.claxon_write.specs.Written.{
  AppendsAllBut,
  OneFlushFailed,
  IsFlushed,
  IsUnflushed,
  NonePending,
  NothingFailed,
  Puts,
  OneWriteFailed,
  writer_contents,
  contents_with_pending,
  pending,
}
use Rattle.claxon_write.specs.declared.output.Output.{Output}

-- The error says that there are 2^64 samples or more.
abbrev pub IsLimit : Error → Type 0
IsLimit (Unsupported text) =
    text.now ≡ codes "more than 18446744073709551615 samples are not supported"
IsLimit _ = ⊥

-- After the frames of these blocks one more frame was consumed, with which there are 2^64
-- samples or more.
pub record TooManySamples (stream : Option StreamFormat) (blocks : List Block) (error : Error)
    (old new : State ℕ) : Type 0 where
  pub is_limit : IsLimit error
  pub last : Block
  pub frames : ConsumesFrames stream (blocks ++ last ∷ []) old new
  pub many : 2 ^ 64 ≤ length (samples_of (blocks ++ last ∷ []))

-- The block has at most n samples.
abbrev pub HasAtMost : ℕ → Block → Type 0
HasAtMost n b = length (interleave b.channels) ≤ n

-- Exactly the frames of some blocks were consumed, and the header of one more. Each of these has at
-- most `size` samples, and the block of the header has more.
pub record StopsAtLargerBlock (stream : Option StreamFormat) (old new : State ℕ) : Type 0 where
  pub blocks : List Block
  pub size : ℕ
  pub between : State ℕ
  pub frames : ConsumesFrames stream blocks old between
  pub at_most : All (HasAtMost size) blocks
  pub header : Consumed between new (HeaderOfLargerBlock stream size)

-- What ended the blocks: None is the end of the stream.
abbrev pub EndsAfter : Option StreamFormat → List Block → Option Error → State ℕ → State ℕ → Type 0
EndsAfter stream blocks None old new = ReadsFrames stream blocks (Ok None) old new
EndsAfter stream blocks (Some error) old new =
    ReadsFrames stream blocks (Err error) old new ⊎ TooManySamples stream blocks error old new

-- The n samples of these blocks were written after the pending bytes, or are pending after them,
-- and nothing failed.
pub record Gathers {W : Type 0} (contents : W → Option (List ℕ)) (stream : Option StreamFormat)
    (end : Option Error) (n : ℕ) (old new : State ℕ) (before after : Output W) : Type 0 where
  pub blocks : List Block
  pub ends : EndsAfter stream blocks end old new
  pub count : n ≡ length (samples_of blocks)
  pub puts : Puts contents (bytes_of_samples (samples_of blocks)) before after

-- Exactly the n samples of these blocks were written after the pending bytes, and nothing is
-- pending any more.
pub record Decodes {W : Type 0} (contents : W → Option (List ℕ)) (stream : Option StreamFormat)
    (end : Option Error) (n : ℕ) (old new : State ℕ) (before after : Output W) : Type 0 where
  pub blocks : List Block
  pub ends : EndsAfter stream blocks end old new
  pub count : n ≡ length (samples_of blocks)
  pub written : Appends (contents_with_pending contents before) (writer_contents contents after)
      (bytes_of_samples (samples_of blocks))
  pub none_pending : NonePending after

-- Only the frames of these blocks were consumed, or also the end or the fault after them.
abbrev pub ConsumesFramesOrEnd : Option StreamFormat → List Block → State ℕ → State ℕ → Type 0
ConsumesFramesOrEnd stream blocks old new =
    ConsumesFrames stream blocks old new ⊎ ((end : Option Error)
    × EndsAfter stream blocks end old new)

-- the number of bytes of the samples of the last block
abbrev pub last_bytes : List Block → ℕ
last_bytes [] = 0
last_bytes (b ∷ []) = length (bytes_of_samples (interleave b.channels))
last_bytes (b ∷ c ∷ blocks) = last_bytes (c ∷ blocks)

-- A write failed, which was counted, and there was no flush. A prefix of the pending bytes and the
-- samples of these blocks was written, and nothing is pending any more. The frames of the blocks
-- were consumed, and at most the capacity and the bytes of the last block are missing.
pub record FailsToWrite {W : Type 0} (contents : W → Option (List ℕ)) (stream : Option StreamFormat)
    (error : Error) (old new : State ℕ) (before after : Output W) : Type 0 where
  pub is_io : IsIo error
  pub failed : OneWriteFailed before after
  pub unflushed : IsUnflushed before after
  pub blocks : List Block
  pub takes : ConsumesFramesOrEnd stream blocks old new
  pub prefix : AppendsAllBut (capacity + last_bytes blocks) (writer_contents contents before)
      (writer_contents contents after) (pending before ++ bytes_of_samples (samples_of blocks))
  pub none_pending : NonePending after

-- The stream ended and all its samples were written, and then the one flush failed, which was
-- counted.
pub record FailsToFlushAll {W : Type 0} (contents : W → Option (List ℕ))
    (stream : Option StreamFormat) (error : Error) (old new : State ℕ)
    (before after : Output W) : Type 0 where
  pub is_io : IsIo error
  pub failed : OneFlushFailed before after
  pub flushed : IsFlushed before after
  pub count : ℕ
  pub decoded : Decodes contents stream None count old new before after

-- The decoder stopped, and all samples before that were written. No write failed. The last call of
-- the writer was the one flush; if it failed, that was only counted.
pub record StopsDecoding {W : Type 0} (contents : W → Option (List ℕ))
    (stream : Option StreamFormat) (error : Error) (old new : State ℕ)
    (before after : Output W) : Type 0 where
  pub count : ℕ
  pub decoded : Decodes contents stream (Some error) count old new before after
  pub flushed : IsFlushed before after
  pub failed : NothingFailed before after ⊎ OneFlushFailed before after

-- The stream ended, exactly its n samples were written and then flushed, and nothing failed.
abbrev pub DecodesToEof : {W : Type 0} → (W → Option (List ℕ)) → Option StreamFormat → ℕ
    → State ℕ → State ℕ → Output W → Output W → Type 0
DecodesToEof contents stream n old new before after =
    Decodes contents stream None n old new before after × NothingFailed before after
    × IsFlushed before after

-- The decoder stopped, a write failed, or the stream ended and the flush failed.
abbrev pub FailsToDecode : {W : Type 0} → (W → Option (List ℕ)) → Option StreamFormat → Error
    → State ℕ → State ℕ → Output W → Output W → Type 0
FailsToDecode contents stream error old new before after =
    StopsDecoding contents stream error old new before after
    ⊎ (FailsToWrite contents stream error old new before after
    ⊎ FailsToFlushAll contents stream error old new before after)

-- The result is an `IoError`, and a write failed, which was counted.
abbrev pub WriteFailed : {A W : Type 0} → Result A Error → Output W → Output W → Type 0
WriteFailed r before after = IsErrAnd r IsIo × OneWriteFailed before after

-- The result is an `IoError`, and a write or a flush failed, which was counted.
abbrev pub WriteOrFlushFailed : {A W : Type 0} → Result A Error → Output W → Output W → Type 0
WriteOrFlushFailed r before after =
    IsErrAnd r IsIo × (OneWriteFailed before after ⊎ OneFlushFailed before after)
