-- The clauses of the functions that `write_samples` calls, by the streaminfo or the frame reader.
use Rattle.std.specs.Prelude.{◌≡◌, ℕ, List, Option, Some, Result, IfOk, IfErr}
use Rattle.claxon.specs.FrameReader.{frame_bytes, frame_stream, stream_with}
use Rattle.claxon.specs.FrameReaders.{FrameReader}
use Rattle.claxon.specs.Source.{Source}
use Rattle.claxon.specs.State.{bytes_in}
use Rattle.claxon.specs.Errors.{Error}
use Rattle.claxon.specs.Errors.TheVariants.{OutOfMemory}
use Rattle.claxon.specs.StreamInfos.{StreamInfo}
use Rattle.claxon_write.specs.Decoded.{Decodes, FailsToWrite, Gathers, StopsAtLargerBlock}
use Rattle.claxon_write.specs.Written.{NothingFailed}
use Rattle.claxon_write.specs.declared.output.Output.{Output}
use Rattle.claxon_write.specs.declared.stream.End.{End}

-- An Ok has the number of samples and what ended the blocks: exactly their samples were written,
-- and nothing failed.
abbrev pub WriteBlocksIsSound : {R W : Type 0} → (W → Option (List ℕ)) → (R → Source ℕ) → StreamInfo
    → Result End Error → R → R → Output W → Output W → Type 0
WriteBlocksIsSound contents source info r old new before after =
    IfOk r (λ end. Decodes contents (Some (stream_with info)) end.fault end.count
    (bytes_in source old) (bytes_in source new) before after × NothingFailed before after)

-- An Err is a failed write.
abbrev pub WriteBlocksFaultIsSound : {R W : Type 0} → (W → Option (List ℕ)) → (R → Source ℕ)
    → StreamInfo → Result End Error → R → R → Output W → Output W → Type 0
WriteBlocksFaultIsSound contents source info r old new before after =
    IfErr r (λ error. FailsToWrite contents (Some (stream_with info)) error (bytes_in source old)
    (bytes_in source new) before after)

-- `OutOfMemory` ended the blocks only at one that has more samples than each before it.
abbrev pub WriteOutOfMemoryForLargerBlock : {R : Type 0} → (R → Source ℕ) → StreamInfo
    → Result End Error → R → R → Type 0
WriteOutOfMemoryForLargerBlock source info r old new =
    IfOk r (λ end. end.fault ≡ Some OutOfMemory
    → StopsAtLargerBlock (Some (stream_with info)) (bytes_in source old) (bytes_in source new))

-- An Ok has the number of samples and what ended the blocks: their samples were written or are
-- pending.
abbrev pub GatherBlocksIsSound : {R W : Type 0} → (W → Option (List ℕ)) → (R → Source ℕ)
    → Result End Error → FrameReader R → FrameReader R → Output W → Output W → Type 0
GatherBlocksIsSound contents source r old new before after =
    IfOk r (λ end. Gathers contents (frame_stream old) end.fault end.count (frame_bytes source old)
    (frame_bytes source new) before after)

-- An Err is a failed write.
abbrev pub GatherBlocksFaultIsSound : {R W : Type 0} → (W → Option (List ℕ)) → (R → Source ℕ)
    → Result End Error → FrameReader R → FrameReader R → Output W → Output W → Type 0
GatherBlocksFaultIsSound contents source r old new before after =
    IfErr r (λ error. FailsToWrite contents (frame_stream old) error (frame_bytes source old)
    (frame_bytes source new) before after)

-- `OutOfMemory` ended the blocks only at one that has more samples than each before it.
abbrev pub GatherOutOfMemoryForLargerBlock : {R : Type 0} → (R → Source ℕ) → Result End Error
    → FrameReader R → FrameReader R → Type 0
GatherOutOfMemoryForLargerBlock source r old new =
    IfOk r (λ end. end.fault ≡ Some OutOfMemory
    → StopsAtLargerBlock (frame_stream old) (frame_bytes source old) (frame_bytes source new))
