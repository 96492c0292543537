-- The clauses of `write_samples`, about the remaining input and the contents of the writer
-- before and after.
use Rattle.std.specs.Prelude.{
  ◌≡◌,
  ◌⊎◌,
  ℕ,
  ◌<◌,
  ◌^◌,
  List,
  ◌++◌,
  length,
  Option,
  Some,
  Result,
  Ok,
  IfOk,
  IfErr,
  IsErrAnd,
}
use Rattle.claxon.specs.Fault.{Fault}
use Rattle.claxon.specs.Frame.{Block, FrameBytesFault, Frames, StreamFormat}
use Rattle.claxon.specs.FrameReader.{stream_with}
use Rattle.claxon.specs.Errors.{Error}
use Rattle.claxon.specs.Error.{IsFault}
use Rattle.claxon.specs.Gives.{IsRest}
use Rattle.claxon.specs.Promises.{IsExcused, IsOutOfMemory}
use Rattle.claxon.specs.State.{State, RemainingIsKnown}
use Rattle.claxon.specs.FlacReader.{flac_head, flac_metadata_only, flac_streaminfo}
use Rattle.claxon.specs.Opening.{flac_bytes}
use Rattle.claxon.specs.SampleRuns.{samples_of}
use Rattle.claxon.specs.declared.reader.FlacReader.{FlacReader}
use Rattle.claxon_write.specs.Decoded.{
  DecodesToEof,
  FailsToDecode,
  StopsAtLargerBlock,
  WriteFailed,
  WriteOrFlushFailed,
}
use Rattle.claxon_write.specs.declared.output.Output.{Output}

-- The head stays as it was, and so does whether the reader is for metadata only.
pub record KeepsHead {R A : Type 0} (old new : FlacReader R A) : Type 0 where
  pub metadata_only : flac_metadata_only new ≡ flac_metadata_only old
  pub streaminfo : flac_streaminfo new ≡ flac_streaminfo old
  pub head : flac_head new ≡ flac_head old

-- what frames need to know of the reader's stream
abbrev pub flac_stream : {R A : Type 0} → FlacReader R A → Option StreamFormat
flac_stream flac = Some (stream_with (flac_streaminfo flac))

-- The remaining bytes are a rest of those before, where these are known.
abbrev pub StreamLeavesRest : {R A : Type 0} → (R → Option (List ℕ)) → FlacReader R A
    → FlacReader R A → Type 0
StreamLeavesRest remaining old new =
    RemainingIsKnown (flac_bytes remaining old) → RemainingIsKnown (flac_bytes remaining new)
    × IsRest (flac_bytes remaining old).remaining (flac_bytes remaining new).remaining

-- ---- what remains

-- The remaining bytes are the frames of blocks with n samples in all, fewer than 2^64, and then
-- fewer than two bytes.
pub record EofAfterBlocks (stream : Option StreamFormat) (s : State ℕ) (n : ℕ) : Type 0 where
  pub blocks : List Block
  pub rest : List ℕ
  pub known : RemainingIsKnown s
  pub frames : Frames stream s.remaining blocks rest
  pub eof : length rest < 2
  pub count : n ≡ length (samples_of blocks)
  pub few : length (samples_of blocks) < 2 ^ 64

-- The remaining bytes are the frames of blocks with fewer than 2^64 samples in all, and then
-- this fault of a frame.
pub record FaultAfterBlocks (stream : Option StreamFormat) (s : State ℕ) (f : Fault) : Type 0 where
  pub blocks : List Block
  pub fault : List ℕ
  pub rest : List ℕ
  pub known : RemainingIsKnown s
  pub frames : Frames stream s.remaining blocks (fault ++ rest)
  pub bad : FrameBytesFault stream f fault
  pub few : length (samples_of blocks) < 2 ^ 64

-- ---- soundness

module _ {R A W : Type 0} (contents : W → Option (List ℕ)) (remaining : R → Option (List ℕ))
    (result : Result ℕ Error) (old new : FlacReader R A) (before after : Output W) where
  -- An Ok is the number of samples: the stream ended, exactly its samples were written and
  -- then flushed, and nothing failed.
  abbrev pub StreamIsSound : Type 0
  StreamIsSound =
      IfOk result (λ n. DecodesToEof contents (flac_stream old) n
      (flac_bytes remaining old) (flac_bytes remaining new) before after)

  -- An Err is the decoder's, and all samples before it were written; or it is a failed write, or a
  -- failed flush at the end of the stream.
  abbrev pub StreamFaultIsSound : Type 0
  StreamFaultIsSound =
      IfErr result (λ error. FailsToDecode contents (flac_stream old) error
      (flac_bytes remaining old) (flac_bytes remaining new) before after)

-- ---- memory

-- `OutOfMemory` is returned only after the header of a block that has more samples than each before
-- it in this call: their memory is used again.
abbrev pub StreamOutOfMemoryForLargerBlock : {R A : Type 0} → (R → Option (List ℕ))
    → Result ℕ Error → FlacReader R A → FlacReader R A → Type 0
StreamOutOfMemoryForLargerBlock remaining result old new =
    IsOutOfMemory result → StopsAtLargerBlock (flac_stream old)
    (flac_bytes remaining old) (flac_bytes remaining new)

-- ---- completeness

module _ {R A W : Type 0} (remaining : R → Option (List ℕ)) (result : Result ℕ Error)
    (old new : FlacReader R A) (before after : Output W) where
  -- memory was refused, or the source failed
  abbrev StreamIsExcused : Type 0
  StreamIsExcused = IsExcused result (flac_bytes remaining old) (flac_bytes remaining new)

  -- If a stream of n samples remains, the result is n; or memory was refused, or the source or
  -- the writer failed.
  abbrev pub StreamIsComplete : Type 0
  StreamIsComplete =
      (n : ℕ) → EofAfterBlocks (flac_stream old) (flac_bytes remaining old) n
      → (result ≡ Ok n) ⊎ (StreamIsExcused ⊎ WriteOrFlushFailed result before after)

  -- A fault after the frames of blocks is the result; or memory was refused, or the source or
  -- a write failed.
  abbrev pub StreamFaultIsComplete : Type 0
  StreamFaultIsComplete =
      (f : Fault) → FaultAfterBlocks (flac_stream old) (flac_bytes remaining old) f
      → IsErrAnd result (IsFault f) ⊎ (StreamIsExcused ⊎ WriteFailed result before after)
