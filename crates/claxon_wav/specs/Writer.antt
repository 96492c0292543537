-- The clauses of the methods of `WavWriter`.
use Rattle.std.specs.Borrow.{MutBor}
use Rattle.std.specs.Prelude.{
  All,
  ◌≡◌,
  ◌≢◌,
  ◌⊎◌,
  ◌==◌,
  ◌<◌,
  ℕ,
  ◌+◌,
  ◌*◌,
  ◌/◌,
  ◌%◌,
  ◌^◌,
  List,
  [],
  if◌then◌else◌,
  length,
  replicate,
  None,
  Option,
  Some,
  Result,
  IfErr,
  IfSome,
  IsErrAnd,
  OnOk,
  vec_capacity,
}
use Rattle.std.specs.Io.KnownBytes.{Appends, Keeps}
use Rattle.claxon.specs.Bits.{FitsIn}
use Rattle.claxon.specs.Streams.{interleave}
use Rattle.claxon.specs.Block.{BlockValue}
use Rattle.claxon_write.specs.CountingWriter.{
  CountsFailedFlush,
  CountsFailedSeek,
  CountsFailedWrite,
  CountsFlush,
  CountsNoFailure,
  CountsNoFlush,
  IsInnerOf,
  IsNewCountingWriter,
  SameInner,
  failed_flushes_of,
  failed_seeks_of,
  failed_writes_of,
  inner_contents,
  inner_writer,
}
use Rattle.claxon_write.specs.Written.{AppendsPrefix}
use Rattle.claxon_write.specs.declared.counting_writer.CountingWriter.{CountingWriter}
use Rattle.claxon_wav.specs.DataSize.{max_data_size}
use Rattle.claxon_wav.specs.Samples.{HaveCapacity, packed_block, silence}
use Rattle.claxon_wav.specs.WavError.{IsMemory, IsOutput}
use Rattle.claxon_wav.specs.WaveFile.{IsHeader, block_align, pad, sample_size, unknown_header}
use Rattle.claxon_wav.specs.declared.error.Error.{Error}
use Rattle.claxon_wav.specs.declared.error.Error.TheVariants.{
  OtherChannels,
  Output,
  TooLong,
  WideSample,
}
use Rattle.claxon_wav.specs.declared.header.Layout.{Layout}
use Rattle.claxon_wav.specs.declared.writer.WavWriter.{WavWriter}

-- the contents of the output, where they are known
abbrev pub output_contents : {W : Type 0} → (W → Option (List ℕ)) → WavWriter W → Option (List ℕ)
output_contents contents file = inner_contents contents file.output

-- The file has the same reference to its output.
abbrev pub SameOutput : {W : Type 0} → WavWriter W → WavWriter W → Type 0
SameOutput old new = SameInner old.output new.output

-- ---- calls of the output, as it counts them

-- No call failed.
abbrev pub NoneFailed : {W : Type 0} → WavWriter W → WavWriter W → Type 0
NoneFailed old new = CountsNoFailure old.output new.output

-- A write, a flush or a seek failed.
abbrev pub OneCallFailed : {W : Type 0} → WavWriter W → WavWriter W → Type 0
OneCallFailed old new =
    CountsFailedWrite old.output new.output
    ⊎ (CountsFailedFlush old.output new.output ⊎ CountsFailedSeek old.output new.output)

-- The number of failed writes changed.
abbrev pub WritesFailed : {W : Type 0} → WavWriter W → WavWriter W → Type 0
WritesFailed old new = failed_writes_of new.output ≢ failed_writes_of old.output

-- The number of failed writes, flushes or seeks changed.
abbrev pub CallsFailed : {W : Type 0} → WavWriter W → WavWriter W → Type 0
CallsFailed old new =
    WritesFailed old new
    ⊎ ((failed_flushes_of new.output ≢ failed_flushes_of old.output)
    ⊎ (failed_seeks_of new.output ≢ failed_seeks_of old.output))

-- No more than two writes failed.
abbrev pub FewWritesFailed : {W : Type 0} → WavWriter W → WavWriter W → Type 0
FewWritesFailed old new =
    (failed_writes_of new.output ≡ failed_writes_of old.output)
    ⊎ ((failed_writes_of new.output ≡ (failed_writes_of old.output + 1) % 2 ^ 64)
    ⊎ (failed_writes_of new.output ≡ (failed_writes_of old.output + 2) % 2 ^ 64))

-- There was no flush.
abbrev pub Unflushed : {W : Type 0} → WavWriter W → WavWriter W → Type 0
Unflushed old new = CountsNoFlush old.output new.output

-- There was one flush, and it was the last call of the output.
abbrev pub FlushedLast : {W : Type 0} → WavWriter W → WavWriter W → Type 0
FlushedLast old new = CountsFlush old.output new.output

-- ---- the start

-- It borrows this output, for a file of this layout. Nothing was written.
pub record IsNewWriter {W : Type 0} (layout : Layout) (output : MutBor W) (new : WavWriter W) :
    Type 0 where
  pub counts : IsNewCountingWriter output new.output
  pub layout_is : new.layout ≡ layout
  pub none_written : new.written ≡ 0

-- This is the reference to the output, which is as it was left.
abbrev pub IsOutputOf : {W : Type 0} → WavWriter W → MutBor W → Type 0
IsOutputOf file output = IsInnerOf file.output output

-- This header, which announces so many bytes, was written after all earlier bytes, and no samples
-- yet. No call failed.
pub record WritesOnlyHeader {W : Type 0} (contents : W → Option (List ℕ)) (header : List ℕ)
    (announced : ℕ) (old new : WavWriter W) : Type 0 where
  pub written : Appends (output_contents contents old) (output_contents contents new) header
  pub layout_is : new.layout ≡ old.layout
  pub announced_is : new.announced ≡ announced
  pub none_so_far : new.written ≡ 0
  pub none_failed : NoneFailed old new

-- An Ok wrote this header.
abbrev pub BeginIsSound : {W : Type 0} → (W → Option (List ℕ)) → List ℕ → ℕ
    → Result (Unit {0}) Error → WavWriter W → WavWriter W → Type 0
BeginIsSound contents header announced r old new =
    OnOk r (WritesOnlyHeader contents header announced old new)

-- A header that announces this number of bytes was written, and no samples yet.
pub record Begins {W : Type 0} (contents : W → Option (List ℕ)) (announced : ℕ)
    (old new : WavWriter W) : Type 0 where
  pub header : List ℕ
  pub is_header : IsHeader old.layout announced header
  pub writes : WritesOnlyHeader contents header announced old new

-- An Ok wrote such a header.
abbrev pub StartIsSound : {W : Type 0} → (W → Option (List ℕ)) → ℕ → Result (Unit {0}) Error
    → WavWriter W → WavWriter W → Type 0
StartIsSound contents announced r old new = OnOk r (Begins contents announced old new)

-- The header for samples of unknown number was written, and no samples yet.
abbrev pub BeginsUnknown : {W : Type 0} → (W → Option (List ℕ)) → WavWriter W → WavWriter W → Type 0
BeginsUnknown contents old new =
    WritesOnlyHeader contents (unknown_header old.layout) 0 old new

-- An Ok wrote that header.
abbrev pub StartUnknownIsSound : {W : Type 0} → (W → Option (List ℕ)) → Result (Unit {0}) Error
    → WavWriter W → WavWriter W → Type 0
StartUnknownIsSound contents r old new = OnOk r (BeginsUnknown contents old new)

-- A header that announces this number of bytes was written, or that for an unknown number.
abbrev pub BeginsAs : {W : Type 0} → (W → Option (List ℕ)) → Option ℕ → WavWriter W → WavWriter W
    → Type 0
BeginsAs contents None old new = BeginsUnknown contents old new
BeginsAs contents (Some announced) old new = Begins contents announced old new

-- An Err is a failed write, which was counted.
abbrev pub StartFaultIsSound : {W : Type 0} → Result (Unit {0}) Error → WavWriter W → WavWriter W
    → Type 0
StartFaultIsSound r old new =
    IfErr r (λ error. IsOutput error × CountsFailedWrite old.output new.output)

-- ---- blocks

-- the number of samples per channel that were written
abbrev pub samples_written : {W : Type 0} → WavWriter W → ℕ
samples_written file = file.written / block_align file.layout

-- the bytes of the block's samples in this file
abbrev pub wav_bytes : {W : Type 0} → WavWriter W → BlockValue → List ℕ
wav_bytes file block = packed_block file.layout.valid_bits block

-- The samples of the block were written after all earlier bytes, and their bytes were counted.
-- No call failed.
pub record PutsBlock {W : Type 0} (contents : W → Option (List ℕ)) (block : BlockValue)
    (old new : WavWriter W) : Type 0 where
  pub channels : length block.channels ≡ old.layout.channels
  pub bytes_are :
      Appends (output_contents contents old) (output_contents contents new) (wav_bytes old block)
  pub written_is : new.written ≡ old.written + length (wav_bytes old block)
  pub none_failed : NoneFailed old new

-- An Ok wrote the samples of the block.
abbrev pub PutBlockIsSound : {W : Type 0} → (W → Option (List ℕ)) → BlockValue
    → Result (Unit {0}) Error → WavWriter W → WavWriter W → Type 0
PutBlockIsSound contents block r old new = OnOk r (PutsBlock contents block old new)

-- Each sample of the block fits in the valid bits of the layout.
abbrev pub SamplesFit : {W : Type 0} → BlockValue → WavWriter W → Type 0
SamplesFit block file = All (FitsIn file.layout.valid_bits) (interleave block.channels)

-- After an Ok each sample of the block fits.
abbrev pub PutBlockFits : {W : Type 0} → BlockValue → Result (Unit {0}) Error → WavWriter W → Type 0
PutBlockFits block r old = OnOk r (SamplesFit block old)

-- The error says that the block has other channels than the layout, a sample doesn't fit in its
-- valid bits, or the bytes are more than a WAV file holds; or it is `OutOfMemory` or a failed call
-- of the output.
abbrev pub ExplainsBlockError : {W : Type 0} → BlockValue → WavWriter W → Error → Type 0
ExplainsBlockError block old OtherChannels = length block.channels ≡ old.layout.channels → ⊥
ExplainsBlockError block old WideSample = SamplesFit block old → ⊥
ExplainsBlockError block old TooLong = max_data_size < old.written + length (wav_bytes old block)
ExplainsBlockError block old error = IsMemory error ⊎ IsOutput error

-- An Err says why the block was not written.
abbrev pub PutBlockFaultIsSound : {W : Type 0} → BlockValue → Result (Unit {0}) Error → WavWriter W
    → Type 0
PutBlockFaultIsSound block r old = IfErr r (ExplainsBlockError block old)

-- A failed write, which was counted, wrote a prefix of the block's bytes. Before any other error
-- there was no call of the output.
abbrev pub BlockErrorKeeps : {W : Type 0} → (W → Option (List ℕ)) → BlockValue → Error
    → WavWriter W → WavWriter W → Type 0
BlockErrorKeeps contents block (Output cause) old new =
    AppendsPrefix (output_contents contents old) (output_contents contents new) (
    wav_bytes old block)
    × CountsFailedWrite old.output new.output
BlockErrorKeeps contents block error old new = new.output ≡ old.output

-- After an Err no bytes were counted, and of the block a prefix was written or nothing.
abbrev pub PutBlockFaultKeeps : {W : Type 0} → (W → Option (List ℕ)) → BlockValue
    → Result (Unit {0}) Error → WavWriter W → WavWriter W → Type 0
PutBlockFaultKeeps contents block r old new =
    IfErr r (λ error. (new.written ≡ old.written) × BlockErrorKeeps contents block error old new)

-- Blocks of up to n samples in all channels take no more memory.
abbrev pub HasRoomFor : {W : Type 0} → ℕ → WavWriter W → Type 0
HasRoomFor n file =
    HaveCapacity file.layout.valid_bits n (vec_capacity file.interleaved) (vec_capacity file.bytes)

-- Where no more memory is taken, none is refused.
abbrev pub PutBlockHasMemory : {W : Type 0} → BlockValue → Result (Unit {0}) Error → WavWriter W
    → Type 0
PutBlockHasMemory block r old =
    IsErrAnd r IsMemory → HasRoomFor (length (interleave block.channels)) old → ⊥

-- The memory is kept.
abbrev pub KeepsRoom : {W : Type 0} → WavWriter W → WavWriter W → Type 0
KeepsRoom old new = (n : ℕ) → HasRoomFor n old → HasRoomFor n new

-- After an Ok so is that for the block.
abbrev pub PutBlockTakesRoom : {W : Type 0} → BlockValue → Result (Unit {0}) Error → WavWriter W
    → Type 0
PutBlockTakesRoom block r new = OnOk r (HasRoomFor (length (interleave block.channels)) new)

-- ---- silence

-- the bytes of so many samples of silence per channel
abbrev pub silent_bytes : Layout → ℕ → List ℕ
silent_bytes layout count =
    replicate (count * block_align layout) (silence (sample_size layout.valid_bits))

-- This silence was written after all earlier bytes, and its bytes were counted. No call failed.
pub record PutsSilence {W : Type 0} (contents : W → Option (List ℕ)) (count : ℕ)
    (old new : WavWriter W) : Type 0 where
  pub bytes_are : Appends (output_contents contents old) (output_contents contents new)
      (silent_bytes old.layout count)
  pub written_is : new.written ≡ old.written + count * block_align old.layout
  pub none_failed : NoneFailed old new

-- An Ok wrote the silence.
abbrev pub PutSilenceIsSound : {W : Type 0} → (W → Option (List ℕ)) → ℕ → Result (Unit {0}) Error
    → WavWriter W → WavWriter W → Type 0
PutSilenceIsSound contents count r old new = OnOk r (PutsSilence contents count old new)

-- The error says that the bytes are more than a WAV file holds, or it is a failed call of the
-- output.
abbrev pub ExplainsSilenceError : {W : Type 0} → ℕ → WavWriter W → Error → Type 0
ExplainsSilenceError count old TooLong = max_data_size < old.written + count * block_align old.layout
ExplainsSilenceError count old error = IsOutput error

-- An Err says why the silence was not written.
abbrev pub PutSilenceFaultIsSound : {W : Type 0} → ℕ → Result (Unit {0}) Error → WavWriter W → Type 0
PutSilenceFaultIsSound count r old = IfErr r (ExplainsSilenceError count old)

-- A failed write, which was counted, wrote a prefix of the silence. Before any other error there
-- was no call of the output.
abbrev pub SilenceErrorKeeps : {W : Type 0} → (W → Option (List ℕ)) → ℕ → Error → WavWriter W
    → WavWriter W → Type 0
SilenceErrorKeeps contents count (Output cause) old new =
    AppendsPrefix (output_contents contents old) (output_contents contents new)
    (silent_bytes old.layout count)
    × CountsFailedWrite old.output new.output
SilenceErrorKeeps contents count error old new = new.output ≡ old.output

-- After an Err no bytes were counted, and of the silence a prefix was written or nothing.
abbrev pub PutSilenceFaultKeeps : {W : Type 0} → (W → Option (List ℕ)) → ℕ
    → Result (Unit {0}) Error → WavWriter W → WavWriter W → Type 0
PutSilenceFaultKeeps contents count r old new =
    IfErr r (λ error. (new.written ≡ old.written) × SilenceErrorKeeps contents count error old new)

-- The layout and the announced number of bytes stay the same.
pub record SameHeader {W : Type 0} (old new : WavWriter W) : Type 0 where
  pub layout_is : new.layout ≡ old.layout
  pub announced_is : new.announced ≡ old.announced

-- ---- the end

-- The header announces the bytes that were written, and no more were written.
pub record HeaderIsRight {W : Type 0} (old new : WavWriter W) : Type 0 where
  pub announced_is : new.announced ≡ old.written
  pub written_is : new.written ≡ old.written
  pub layout_is : new.layout ≡ old.layout

-- An Ok wrote the pad byte after all earlier bytes, and no call failed.
abbrev pub PadIsSound : {W : Type 0} → (W → Option (List ℕ)) → Result (Unit {0}) Error → WavWriter W
    → WavWriter W → Type 0
PadIsSound contents r old new =
    OnOk r (Appends (output_contents contents old) (output_contents contents new) (pad old.written)
    × NoneFailed old new)

-- The error is that of a failed write, which was counted.
abbrev pub FailsToPad : {W : Type 0} → WavWriter W → WavWriter W → Error → Type 0
FailsToPad old new error = IsOutput error × CountsFailedWrite old.output new.output

-- A header that announces `size` bytes was written after a seek to the start of the output,
-- where the position is known.
pub record WritesHeader {W : Type 0} (contents : W → Option (List ℕ)) (position : W → Option ℕ)
    (layout : Layout) (size : ℕ) (old new : CountingWriter W) : Type 0 where
  pub header : List ℕ
  pub is_header : IsHeader layout size header
  pub start : CountingWriter W
  pub at_start : IfSome (position (inner_writer old)) (λ _. position (inner_writer start) ≡ Some 0)
  pub written : Appends (inner_contents contents start) (inner_contents contents new) header

-- If the header was right, nothing was written, else the right one.
pub record UpdatesHeader {W : Type 0} (contents : W → Option (List ℕ)) (position : W → Option ℕ)
    (old new : WavWriter W) : Type 0 where
  pub right : old.announced ≡ old.written
      → Keeps (output_contents contents old) (output_contents contents new)
  pub wrong : (old.announced ≡ old.written → ⊥)
      → WritesHeader contents position old.layout old.written old.output new.output

-- After an Ok the header is right.
abbrev pub UpdateHeaderIsSound : {W : Type 0} → (W → Option (List ℕ)) → (W → Option ℕ)
    → Result (Unit {0}) Error → WavWriter W → WavWriter W → Type 0
UpdateHeaderIsSound contents position r old new =
    OnOk r (UpdatesHeader contents position old new × HeaderIsRight old new)

-- An Err is a failed write, flush or seek, which was counted.
abbrev pub UpdateFaultIsSound : {W : Type 0} → Result (Unit {0}) Error → WavWriter W → WavWriter W
    → Type 0
UpdateFaultIsSound r old new = IfErr r (λ error. IsOutput error × OneCallFailed old new)

-- The pad byte was written after all earlier bytes. If the header was right, nothing else was
-- written; else the right header was.
pub record Ends {W : Type 0} (contents : W → Option (List ℕ)) (position : W → Option ℕ)
    (old new : WavWriter W) : Type 0 where
  pub right : old.announced ≡ old.written
      → Appends (output_contents contents old) (output_contents contents new) (pad old.written)
  pub wrong : (old.announced ≡ old.written → ⊥) → (padded : CountingWriter W)
      × Appends (output_contents contents old) (inner_contents contents padded) (pad old.written)
      × WritesHeader contents position old.layout old.written padded new.output

-- An Ok wrote the pad byte after the samples, and the header is right.
abbrev pub FinishIsSound : {W : Type 0} → (W → Option (List ℕ)) → (W → Option ℕ)
    → Result (Unit {0}) Error → WavWriter W → WavWriter W → Type 0
FinishIsSound contents position r old new =
    OnOk r (Ends contents position old new × HeaderIsRight old new)

-- After an Ok no call of the output failed, and there was one flush, last.
abbrev pub FinishFlushes : {W : Type 0} → Result (Unit {0}) Error → WavWriter W → WavWriter W
    → Type 0
FinishFlushes r old new = OnOk r (NoneFailed old new × FlushedLast old new)

-- An Err is a failed call of the output, and one was counted.
abbrev pub FinishFaultIsSound : {W : Type 0} → Result (Unit {0}) Error → WavWriter W → WavWriter W
    → Type 0
FinishFaultIsSound r old new = IfErr r (λ error. IsOutput error × CallsFailed old new)

-- The pad byte was written after all earlier bytes, or the write failed. Either was counted.
abbrev pub TriesToPad : {W : Type 0} → (W → Option (List ℕ)) → WavWriter W → CountingWriter W
    → Type 0
TriesToPad contents old padded =
    (Appends (output_contents contents old) (inner_contents contents padded) (pad old.written)
    × CountsNoFailure old.output padded)
    ⊎ CountsFailedWrite old.output padded

-- The header is right after a flush, or a call failed after the pad byte was tried.
pub record TriesToEnd {W : Type 0} (contents : W → Option (List ℕ)) (old new : WavWriter W) : Type 0
  where
    pub padded : CountingWriter W
    pub pads : TriesToPad contents old padded
    pub ends : (HeaderIsRight old new × CountsFlush padded new.output)
        ⊎ (CountsFailedWrite padded new.output
        ⊎ (CountsFailedFlush padded new.output ⊎ CountsFailedSeek padded new.output))

-- the pad byte of a file whose header announced the bytes that were written
abbrev pub stream_pad : {W : Type 0} → WavWriter W → List ℕ
stream_pad file = if file.written == file.announced then pad file.written else []

-- That pad byte was written after all earlier bytes, and then there was one flush, which may have
-- failed. Or it is wanted, and the write failed.
abbrev pub TriesToEndStream : {W : Type 0} → (W → Option (List ℕ)) → WavWriter W → WavWriter W
    → Type 0
TriesToEndStream {W} contents old new =
    ((padded : CountingWriter W)
    × Appends (output_contents contents old) (inner_contents contents padded) (stream_pad old)
    × CountsNoFailure old.output padded × CountsFlush padded new.output)
    ⊎ ((old.written ≡ old.announced) × CountsFailedWrite old.output new.output)

-- An Ok wrote that pad byte after all earlier bytes, and nothing else.
abbrev pub FinishStreamIsSound : {W : Type 0} → (W → Option (List ℕ)) → Result (Unit {0}) Error
    → WavWriter W → WavWriter W → Type 0
FinishStreamIsSound contents r old new =
    OnOk r (Appends (output_contents contents old) (output_contents contents new) (stream_pad old)
    × (new.written ≡ old.written))
