-- The clauses of `put_blocks` and `convert`.
use Rattle.std.specs.Prelude.{
  All,
  ◌≡◌,
  ◌≢◌,
  ◌⊎◌,
  ℕ,
  ◌+◌,
  ◌<◌,
  ◌≤◌,
  List,
  [],
  ◌∷◌,
  ◌++◌,
  length,
  None,
  Ok,
  Err,
  Option,
  Result,
  IfErr,
  IsErrAnd,
  IsOk,
  IsSomeAnd,
  OnOk,
  Some,
}
use Rattle.std.specs.Io.KnownBytes.{Appends}
use Rattle.claxon.specs.Bits.{FitsIn}
use Rattle.claxon.specs.Block.{BlockValue}
use Rattle.claxon.specs.Fault.{Fault}
use Rattle.claxon.specs.Frame.{Block, FrameBytesFault, Frames, StreamFormat}
use Rattle.claxon.specs.FrameReader.{FrameAnswer, block_view}
use Rattle.claxon.specs.Error.{IsFault, IsIo}
use Rattle.claxon.specs.FlacReader.{flac_streaminfo}
use Rattle.claxon.specs.Gives.{ReadFailedIn}
use Rattle.claxon.specs.State.{State, RemainingIsKnown}
use Rattle.claxon.specs.Errors.{Error as Cause}
use Rattle.claxon.specs.Errors.TheVariants.{OutOfMemory}
use Rattle.claxon.specs.Opening.{flac_bytes}
use Rattle.claxon.specs.SampleRuns.{ConsumesFrames, ReadsFrames, samples_of}
use Rattle.claxon.specs.declared.reader.FlacReader.{FlacReader}
use Rattle.claxon_md5.specs.HasherCalls.{HashesSamples}
use Rattle.claxon_md5.specs.declared.Md5.{Md5}
use Rattle.claxon.specs.Streams.{interleave}
use Rattle.claxon_write.specs.Decoded.{StopsAtLargerBlock}
use Rattle.claxon_write.specs.WriteSamples.{flac_stream}
use Rattle.claxon_wav.specs.DataSize.{max_data_size}
use Rattle.claxon_blocks.specs.Frames.{Is32BitFault, Says32Bits}
use Rattle.claxon_wav.specs.Samples.{packed_samples}
use Rattle.claxon_blocks.specs.Frames.{IsNotWhole}
use Rattle.claxon_wav.specs.WavError.{IsInput, IsMemory, IsOutput, NamesFault}
use Rattle.claxon_wav.specs.WaveFile.{IsHeader, unknown_header, wave_file}
use Rattle.claxon_wav.specs.Writer.{
  Begins,
  BeginsUnknown,
  BlockErrorKeeps,
  CallsFailed,
  Ends,
  ExplainsBlockError,
  FlushedLast,
  HeaderIsRight,
  NoneFailed,
  TriesToEnd,
  TriesToEndStream,
  Unflushed,
  WritesFailed,
  output_contents,
}
use Rattle.claxon_wav.specs.declared.error.Error.{Error}
use Rattle.claxon_wav.specs.declared.error.Error.TheVariants.{
  Claxon,
  Exists,
  OtherChannels,
  Output,
  SameFile,
  TooLong,
  Unsupported32Bit,
  WideSample,
}
use Rattle.claxon_wav.specs.declared.header.Layout.{Layout}
use Rattle.claxon_wav.specs.declared.writer.WavWriter.{WavWriter}

-- the bytes of the samples of blocks, one block after another
abbrev pub packed_blocks : ℕ → List Block → List ℕ
packed_blocks valid_bits blocks = packed_samples valid_bits (samples_of blocks)

-- Exactly the samples of these blocks were written after all earlier bytes, and their bytes were
-- counted. Each block has the channels of the layout, and each sample fits in its valid bits. No
-- call of the output failed, and none was a flush.
pub record PutsSamples {W : Type 0} (contents : W → Option (List ℕ)) (blocks : List Block)
    (old new : WavWriter W) : Type 0 where
  pub channels : All (λ b. length b.channels ≡ old.layout.channels) blocks
  pub fit : All (FitsIn old.layout.valid_bits) (samples_of blocks)
  pub bytes_are : Appends (output_contents contents old) (output_contents contents new)
      (packed_blocks old.layout.valid_bits blocks)
  pub written_is : new.written ≡ old.written + length (packed_blocks old.layout.valid_bits blocks)
  pub announced_is : new.announced ≡ old.announced
  pub layout_is : new.layout ≡ old.layout
  pub none_failed : NoneFailed old new
  pub unflushed : Unflushed old new

-- The interleaved samples of these blocks are hashed too, those of one block after those of
-- another, if there is a hasher.
abbrev pub HashesBlocks : ℕ → List Block → Option Md5 → Option Md5 → Type 0
HashesBlocks bit_depth blocks None new = new ≡ None
HashesBlocks bit_depth blocks (Some old) new =
    IsSomeAnd new (HashesSamples bit_depth (samples_of blocks) old)

-- ---- block after block

-- The frames of blocks were read up to this answer without a block, and exactly their samples
-- were written.
pub record PutsBlocks {W : Type 0} (contents : W → Option (List ℕ)) (stream : Option StreamFormat)
    (answer : FrameAnswer) (a b : State ℕ) (old new : WavWriter W) : Type 0 where
  pub blocks : List Block
  pub reads : ReadsFrames stream blocks answer a b
  pub puts : PutsSamples contents blocks old new

-- The frames of blocks were read, and exactly the samples of all but the last one were written. The
-- error says why that one was not.
pub record StopsAtBlock {W : Type 0} (contents : W → Option (List ℕ)) (stream : Option StreamFormat)
    (error : Error) (a b : State ℕ) (old new : WavWriter W) : Type 0 where
  pub blocks : List Block
  pub block : BlockValue
  pub frames : ConsumesFrames stream (blocks ++ block_view block ∷ []) a b
  pub put : WavWriter W
  pub puts : PutsSamples contents blocks old put
  pub explains : ExplainsBlockError block put error
  pub keeps : BlockErrorKeeps contents block error put new

-- The error is the decoder's, or says exactly where it is so that the bytes where the frame begins
-- say 32 bits.
abbrev pub IsErrorAt : State ℕ → Cause → Error → Type 0
IsErrorAt at cause (Claxon error) =
    (error ≡ cause) × (RemainingIsKnown at → Is32BitFault at.remaining cause → ⊥)
IsErrorAt at cause Unsupported32Bit = RemainingIsKnown at → Is32BitFault at.remaining cause
IsErrorAt at cause _ = ⊥

-- The decoder's error came after the samples before it were written.
pub record StopsAtFault {W : Type 0} (contents : W → Option (List ℕ)) (stream : Option StreamFormat)
    (error : Error) (a b : State ℕ) (old new : WavWriter W) : Type 0 where
  pub cause : Cause
  pub put : PutsBlocks contents stream (Err cause) a b old new
  pub is : IsErrorAt put.reads.between cause error

-- The error is that of a frame, or says why a block was not written.
abbrev pub StopsPutting : {W : Type 0} → (W → Option (List ℕ)) → Option StreamFormat → Error
    → State ℕ → State ℕ → WavWriter W → WavWriter W → Type 0
StopsPutting contents stream error a b old new =
    StopsAtFault contents stream error a b old new
    ⊎ StopsAtBlock contents stream error a b old new

-- All blocks were written up to the end of the stream, or to what the error says.
abbrev pub PutsBefore : {W : Type 0} → (W → Option (List ℕ)) → Option StreamFormat → Error
    → State ℕ → State ℕ → WavWriter W → WavWriter W → Type 0
PutsBefore contents stream error a b old new =
    PutsBlocks contents stream (Ok None) a b old new
    ⊎ StopsPutting contents stream error a b old new

-- All blocks up to the end of the stream were written, and the samples of the same blocks were
-- hashed. `hasher` and `hashed` are the hasher before and after.
pub record PutsAndHashes {W : Type 0} (contents : W → Option (List ℕ))
    (stream : Option StreamFormat) (bit_depth : ℕ) (a b : State ℕ) (old new : WavWriter W)
    (hasher hashed : Option Md5) : Type 0 where
  pub put : PutsBlocks contents stream (Ok None) a b old new
  pub hashes : HashesBlocks bit_depth put.blocks hasher hashed

-- `a` and `b` are the input before and after the call.
module _ {W : Type 0} (contents : W → Option (List ℕ)) (stream : Option StreamFormat)
    (result : Result (Unit {0}) Error) (a b : State ℕ) (old new : WavWriter W) where
  -- An Ok wrote and hashed all blocks up to the end of the stream.
  abbrev pub PutBlocksIsSound : ℕ → Option Md5 → Option Md5 → Type 0
  PutBlocksIsSound bit_depth hasher hashed =
      OnOk result (PutsAndHashes contents stream bit_depth a b old new hasher hashed)

  -- An Err says why not all blocks were written.
  abbrev pub PutBlocksFaultIsSound : Type 0
  PutBlocksFaultIsSound = IfErr result (λ error. StopsPutting contents stream error a b old new)

-- ---- a whole stream

-- The remaining input is the frames of these blocks, one after another, and fewer than two bytes.
abbrev pub IsWholeStream : Option StreamFormat → List Block → State ℕ → Type 0
IsWholeStream stream blocks s =
    RemainingIsKnown s → (rest : List ℕ) × Frames stream s.remaining blocks rest × (length rest < 2)

-- The output has, after what it contained before the header, a complete WAV file of these samples,
-- if the header announced the right number of bytes.
abbrev pub HoldsFile : {W : Type 0} → (W → Option (List ℕ)) → List Block → WavWriter W → WavWriter W
    → Type 0
HoldsFile {W} contents blocks old new =
    (fresh : WavWriter W) (announced : ℕ) → Begins contents announced fresh old
    → announced ≡ length (packed_blocks fresh.layout.valid_bits blocks)
    → Appends (output_contents contents fresh) (output_contents contents new)
    (wave_file fresh.layout (packed_blocks fresh.layout.valid_bits blocks))

-- Exactly the samples of all blocks up to the end of the stream were written, and then the file was
-- finished. No call of the output failed, and the last one was the only flush. The samples of the
-- same blocks were hashed, in this bit depth.
pub record Converts {W : Type 0} (contents : W → Option (List ℕ)) (position : W → Option ℕ)
    (stream : Option StreamFormat) (bit_depth : ℕ) (s : State ℕ) (old new : WavWriter W)
    (hasher hashed : Option Md5) : Type 0 where
  pub blocks : List Block
  pub all : IsWholeStream stream blocks s
  pub put : WavWriter W
  pub puts : PutsSamples contents blocks old put
  pub ends : Ends contents position put new
  pub right : HeaderIsRight put new
  pub file : HoldsFile contents blocks old new
  pub none_failed : NoneFailed old new
  pub flushed : FlushedLast old new
  pub hashes : HashesBlocks bit_depth blocks hasher hashed

-- the bit depth that the streaminfo says
abbrev pub flac_bit_depth : {R A : Type 0} → FlacReader R A → ℕ
flac_bit_depth flac = (flac_streaminfo flac).bits_per_sample

-- An Ok converted the whole stream to a file.
abbrev pub IsSound : {R A W : Type 0} → (W → Option (List ℕ)) → (W → Option ℕ)
    → (R → Option (List ℕ)) → FlacReader R A → Result (Unit {0}) Error → WavWriter W → WavWriter W
    → Option Md5 → Option Md5 → Type 0
IsSound contents position remaining flac r old new hasher hashed =
    OnOk r (Converts contents position (flac_stream flac) (flac_bit_depth flac)
    (flac_bytes remaining flac) old new hasher hashed)

-- The output has, after what it contained before the header for samples of unknown number, that
-- header and these samples.
abbrev pub HoldsUnknown : {W : Type 0} → (W → Option (List ℕ)) → List Block → WavWriter W
    → WavWriter W → Type 0
HoldsUnknown {W} contents blocks old new =
    (fresh : WavWriter W) → BeginsUnknown contents fresh old
    → Appends (output_contents contents fresh) (output_contents contents new)
    (unknown_header fresh.layout ++ packed_blocks fresh.layout.valid_bits blocks)

-- The output has, after what it contained before the header, a header that announces another number
-- of bytes, and these samples.
abbrev pub HoldsOther : {W : Type 0} → (W → Option (List ℕ)) → List Block → WavWriter W
    → WavWriter W → Type 0
HoldsOther {W} contents blocks old new =
    (fresh : WavWriter W) (announced : ℕ) → Begins contents announced fresh old
    → announced ≢ length (packed_blocks fresh.layout.valid_bits blocks)
    → (header : List ℕ) × IsHeader fresh.layout announced header
    × Appends (output_contents contents fresh) (output_contents contents new)
    (header ++ packed_blocks fresh.layout.valid_bits blocks)

-- Exactly the samples of all blocks up to the end of the stream were written, after a header that
-- was not corrected. No call of the output failed, and the last one was the only flush. The samples
-- of the same blocks were hashed, in this bit depth.
pub record ConvertsToStream {W : Type 0} (contents : W → Option (List ℕ))
    (stream : Option StreamFormat) (bit_depth : ℕ) (s : State ℕ) (old new : WavWriter W)
    (hasher hashed : Option Md5) : Type 0 where
  pub blocks : List Block
  pub all : IsWholeStream stream blocks s
  pub put : WavWriter W
  pub puts : PutsSamples contents blocks old put
  pub written_is : new.written ≡ put.written
  pub layout_is : new.layout ≡ put.layout
  pub file : HoldsFile contents blocks old new
  pub unknown : HoldsUnknown contents blocks old new
  pub other : HoldsOther contents blocks old new
  pub none_failed : NoneFailed old new
  pub flushed : FlushedLast old new
  pub hashes : HashesBlocks bit_depth blocks hasher hashed

-- An Ok converted the whole stream.
abbrev pub ConvertToStreamIsSound : {R A W : Type 0} → (W → Option (List ℕ))
    → (R → Option (List ℕ)) → FlacReader R A → Result (Unit {0}) Error → WavWriter W → WavWriter W
    → Option Md5 → Option Md5 → Type 0
ConvertToStreamIsSound contents remaining flac r old new hasher hashed =
    OnOk r (ConvertsToStream contents (flac_stream flac) (flac_bit_depth flac)
    (flac_bytes remaining flac) old new hasher hashed)

-- ---- errors

-- s begins with the frames of such blocks.
abbrev pub HasBlocks : Option StreamFormat → List ℕ → (List Block → Type 0) → Type 0
HasBlocks stream s P =
    (blocks : List Block) × (rest : List ℕ) × Frames stream s blocks rest × P blocks

-- s is the frames of blocks, followed by a fault that the error names, and that doesn't come of the
-- bit depth code for 32 bits.
abbrev pub HasFault : Option StreamFormat → List ℕ → Cause → Type 0
HasFault stream s error =
    (f : Fault) × IsFault f error × ((blocks : List Block) × (t : List ℕ) × (rest : List ℕ)
    × Frames stream s blocks (t ++ rest) × FrameBytesFault stream f t
    × (Is32BitFault (t ++ rest) error → ⊥))

-- s is the frames of blocks, followed by bytes that begin a header with that code.
abbrev pub Has32Bits : Option StreamFormat → List ℕ → Type 0
Has32Bits stream s =
    (blocks : List Block) × (rest : List ℕ) × Frames stream s blocks rest × Says32Bits rest

-- s is the frames of blocks, followed by one that isn't whole.
abbrev pub IsCut : Option StreamFormat → List ℕ → Type 0
IsCut stream s =
    (blocks : List Block) × (rest : List ℕ) × Frames stream s blocks rest × IsNotWhole stream rest

-- What an error says of the remaining input, where it is known, for a file of this layout with so
-- many bytes of samples. It is `OutOfMemory`, a fault in the input, an `IoError` where the input is
-- cut or its source failed. Or a frame has the bit depth code for 32 bits. Or the input begins with
-- blocks of which one has other channels than the layout, a sample doesn't fit in its valid bits,
-- or the bytes, with those written before, are more than a WAV file holds. Of a failed call of the
-- output it says nothing.
abbrev pub ExplainsInput : Option StreamFormat → State ℕ → State ℕ → Layout → ℕ → Error → Type 0
ExplainsInput stream a b layout written (Claxon error) =
    (error ≡ OutOfMemory)
    ⊎ ((IsIo error × (RemainingIsKnown a → IsCut stream a.remaining ⊎ ReadFailedIn a b))
    ⊎ (RemainingIsKnown a → HasFault stream a.remaining error))
ExplainsInput stream a b layout written Unsupported32Bit =
    RemainingIsKnown a → Has32Bits stream a.remaining
ExplainsInput stream a b layout written OtherChannels =
    RemainingIsKnown a
    → HasBlocks stream a.remaining (λ blocks.
    All (λ b. length b.channels ≡ layout.channels) blocks → ⊥)
ExplainsInput stream a b layout written WideSample =
    RemainingIsKnown a
    → HasBlocks stream a.remaining (λ blocks.
    All (FitsIn layout.valid_bits) (samples_of blocks) → ⊥)
ExplainsInput stream a b layout written TooLong =
    RemainingIsKnown a → HasBlocks stream a.remaining (λ blocks. max_data_size
    < written + length (packed_blocks layout.valid_bits blocks))
ExplainsInput stream a b layout written (Output cause) = Unit {0}
ExplainsInput stream a b layout written SameFile = ⊥
ExplainsInput stream a b layout written Exists = ⊥

-- What it says of the output too: a failed call of it was counted.
abbrev pub ExplainsError : {W : Type 0} → Option StreamFormat → State ℕ → State ℕ → WavWriter W
    → WavWriter W → Error → Type 0
ExplainsError stream a b old new (Output cause) = CallsFailed old new
ExplainsError stream a b old new error =
    ExplainsInput stream a b old.layout old.written error

-- ---- memory

-- The block has fewer than n samples.
abbrev pub HasFewerThan : ℕ → Block → Type 0
HasFewerThan n b = length (interleave b.channels) < n

-- Exactly the frames of some blocks were consumed. The last one has more samples than each other.
pub record StopsAfterLargerBlock (stream : Option StreamFormat) (old new : State ℕ) : Type 0 where
  pub blocks : List Block
  pub last : Block
  pub frames : ConsumesFrames stream (blocks ++ last ∷ []) old new
  pub fewer : All (HasFewerThan (length (interleave last.channels))) blocks

-- `OutOfMemory` is returned only at a block that has more samples than each before it in this call:
-- their memory is used again. Its frame was consumed, or just the header.
abbrev pub PutOutOfMemoryForLargerBlock : Option StreamFormat → Result (Unit {0}) Error → State ℕ
    → State ℕ → Type 0
PutOutOfMemoryForLargerBlock stream r old new =
    IsErrAnd r IsMemory → StopsAtLargerBlock stream old new ⊎ StopsAfterLargerBlock stream old new

-- ---- completeness

-- Each of these blocks has the channels of the layout, each sample fits in its valid bits, and a
-- WAV file holds the bytes with those written before.
pub record CanBePut {W : Type 0} (blocks : List Block) (file : WavWriter W) : Type 0 where
  pub channels : All (λ b. length b.channels ≡ file.layout.channels) blocks
  pub fit : All (FitsIn file.layout.valid_bits) (samples_of blocks)
  pub size : file.written + length (packed_blocks file.layout.valid_bits blocks) ≤ max_data_size

-- The remaining input is the frames of blocks that can be written to this file, and fewer than
-- two bytes.
pub record CanBeConverted {W : Type 0} (stream : Option StreamFormat) (s : State ℕ)
    (file : WavWriter W) : Type 0 where
  pub blocks : List Block
  pub rest : List ℕ
  pub known : RemainingIsKnown s
  pub frames : Frames stream s.remaining blocks rest
  pub eof : length rest < 2
  pub can : CanBePut blocks file

-- The remaining input begins with the frames of blocks that can be written to this file, and
-- this fault of a frame.
pub record CanBeConvertedTo {W : Type 0} (stream : Option StreamFormat) (s : State ℕ) (f : Fault)
    (file : WavWriter W) : Type 0 where
  pub blocks : List Block
  pub fault : List ℕ
  pub rest : List ℕ
  pub known : RemainingIsKnown s
  pub frames : Frames stream s.remaining blocks (fault ++ rest)
  pub bad : FrameBytesFault stream f fault
  pub can : CanBePut blocks file

-- Memory was refused, or the result is an `IoError` and the source failed in the call.
abbrev pub ConvertIsExcused : Result (Unit {0}) Error → State ℕ → State ℕ → Type 0
ConvertIsExcused r a b = IsErrAnd r IsMemory ⊎ (IsErrAnd r IsInput × ReadFailedIn a b)

-- The result is a failed call of the output, and one was counted.
abbrev pub OutputFailed : {W : Type 0} → Result (Unit {0}) Error → WavWriter W → WavWriter W
    → Type 0
OutputFailed r old new = IsErrAnd r IsOutput × CallsFailed old new

-- The same of a write.
abbrev pub OutputWriteFailed : {W : Type 0} → Result (Unit {0}) Error → WavWriter W → WavWriter W
    → Type 0
OutputWriteFailed r old new = IsErrAnd r IsOutput × WritesFailed old new

module _ {R A W : Type 0} (remaining : R → Option (List ℕ)) (result : Result (Unit {0}) Error)
    (before after : FlacReader R A) (old new : WavWriter W) where
  -- An Err says why the stream was not converted completely.
  abbrev pub ConvertFaultIsSound : Type 0
  ConvertFaultIsSound =
      IfErr result (ExplainsError (flac_stream before) (flac_bytes remaining before)
      (flac_bytes remaining after) old new)

  -- `OutOfMemory` is returned only at a block that has more samples than each before it.
  abbrev pub ConvertOutOfMemoryForLargerBlock : Type 0
  ConvertOutOfMemoryForLargerBlock =
      PutOutOfMemoryForLargerBlock (flac_stream before) result (flac_bytes remaining before)
      (flac_bytes remaining after)

  -- After an Err the samples before it were written, and the file was finished, or a call of the
  -- output failed.
  abbrev pub ConvertFaultFinishes : (W → Option (List ℕ)) → Type 0
  ConvertFaultFinishes contents =
      IfErr result (λ error. (put : WavWriter W) × TriesToEnd contents put new
      × PutsBefore contents (flac_stream before) error (flac_bytes remaining before)
      (flac_bytes remaining after) old put)

  -- The same of an output that can't seek: the end was tried, as `finish_stream` does.
  abbrev pub ConvertFaultEnds : (W → Option (List ℕ)) → Type 0
  ConvertFaultEnds contents =
      IfErr result (λ error. (put : WavWriter W) × TriesToEndStream contents put new
      × PutsBefore contents (flac_stream before) error (flac_bytes remaining before)
      (flac_bytes remaining after) old put)

  -- Where a stream remains that can be converted, the result is an Ok, or memory was refused, or
  -- the source or the output failed.
  abbrev pub ConvertIsComplete : Type 0
  ConvertIsComplete =
      CanBeConverted (flac_stream before) (flac_bytes remaining before) old
      → IsOk result
      ⊎ (ConvertIsExcused result (flac_bytes remaining before) (flac_bytes remaining after)
      ⊎ OutputFailed result old new)

  -- A fault after the frames of blocks that can be written is named, or memory was refused, or
  -- the source or a write failed.
  abbrev pub ConvertFaultIsComplete : Type 0
  ConvertFaultIsComplete =
      (f : Fault) → CanBeConvertedTo (flac_stream before) (flac_bytes remaining before) f old
      → IsErrAnd result (NamesFault f)
      ⊎ (ConvertIsExcused result (flac_bytes remaining before) (flac_bytes remaining after)
      ⊎ OutputWriteFailed result old new)
