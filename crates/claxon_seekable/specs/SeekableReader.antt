-- What the calls of a `SeekableReader` promise.
use Rattle.std.specs.Prelude.{
  ◌≡◌,
  ◌⊎◌,
  ℕ,
  ◌+◌,
  ◌-◌,
  ◌^◌,
  ◌<◌,
  ◌≤◌,
  true,
  List,
  length,
  Option,
  None,
  Some,
  unwrap_or,
  Result,
  Ok,
  Err,
  IfOk,
  IfSome,
  IsOkAnd,
  IsSomeAnd,
}
use Rattle.std.specs.Io.KnownBytes.{IsAtEnd}
use Rattle.claxon.specs.BlockInfos.{BlockInfo}
use Rattle.claxon.specs.Error.{IsFault, IsIo}
use Rattle.claxon.specs.DecodedFrame.{FrameWithHeader}
use Rattle.claxon.specs.Errors.{Error}
use Rattle.claxon.specs.Errors.TheVariants.{OutOfMemory}
use Rattle.claxon.specs.Fault.{Fault}
use Rattle.claxon.specs.Frame.{Block, Frame, FrameBytesFault, StreamFormat}
use Rattle.claxon.specs.FrameReader.{FrameAnswer, block_view, stream_with}
use Rattle.claxon.specs.Heads.{Head, HeadCode}
use Rattle.claxon.specs.OtherErrors.{IfOtherErr}
use Rattle.claxon.specs.Prefix.{BeginsWith}
use Rattle.claxon.specs.Promises.{IsOutOfMemory}
use Rattle.claxon.specs.ShownHead.{head_streaminfo, head_tags, head_vendor, shown_view}
use Rattle.claxon.specs.Source.{IsOneMore}
use Rattle.claxon.specs.StreamInfos.{StreamInfo}
use Rattle.claxon.specs.Streams.{duration_of, with_samples}
use Rattle.claxon_seek.specs.Find.{WantedFrame}
use Rattle.claxon_stream.specs.DecodedAtStart.{BeginsWithLength}
use Rattle.claxon_stream.specs.Event.{IsOpen}
use Rattle.claxon_stream.specs.FrameDecoder.{IsOverBudget}
use Rattle.claxon_stream.specs.declared.event.Event.{Event}
use Rattle.claxon_stream.specs.declared.event.Event.TheVariants.{Cut, Decoded, End, Faulty, ReadOn}
use Rattle.claxon_stream_seek.specs.Clock.{
  NoteKeepsOrder,
  NoteKeepsRight,
  NoteKnowsUnit,
  clock_time,
}
use Rattle.claxon_stream_seek.specs.declared.clock.Clock.{Clock}
use Rattle.claxon_seekable.specs.SourceFrames.{
  IsBlockRefused,
  NextIs,
  frames_fruitless,
  frames_held,
  frames_position,
  frames_source,
  frames_spent,
}
use Rattle.claxon_seekable.specs.Window.{IsFailure, KeepsCounts, ReadsOn, has_end}
use Rattle.claxon_seekable.specs.declared.frames.SourceFrames.{SourceFrames}
use Rattle.claxon_seekable.specs.declared.reader.SeekableReader.{SeekableReader}

-- ---- what is shown

-- the head of the stream, as far as it is shown
abbrev pub shown_head : {R : Type 0} → SeekableReader R → Head
shown_head s = shown_view s.head

-- `flac.streaminfo()`
abbrev pub shown_streaminfo : {R : Type 0} → SeekableReader R → StreamInfo
shown_streaminfo s = head_streaminfo s.head

-- what frames need of it
abbrev pub shown_format : {R : Type 0} → SeekableReader R → Option StreamFormat
shown_format s = Some (stream_with (shown_streaminfo s))

-- the vendor string that is shown
abbrev pub shown_vendor : {R : Type 0} → SeekableReader R → Option (List ℕ)
shown_vendor s = head_vendor s.head

-- the names and values of the tags that are shown
abbrev pub shown_tags : {R : Type 0} → SeekableReader R → List (List ℕ × List ℕ)
shown_tags s = head_tags s.head

-- ---- where it is

-- `flac.position()`
abbrev pub reader_position : {R : Type 0} → SeekableReader R → ℕ
reader_position s = frames_position s.frames

-- the position of the first frame
abbrev pub first_frame : {R : Type 0} → SeekableReader R → ℕ
first_frame s = s.first_frame

-- the bytes that were read and are held, from a position on
abbrev pub bytes_from : {R : Type 0} → SeekableReader R → ℕ → List ℕ
bytes_from s position = frames_held s.frames position

-- those that aren't consumed
abbrev pub bytes_read : {R : Type 0} → SeekableReader R → List ℕ
bytes_read s = bytes_from s (reader_position s)

-- the sample at which the block begins of a frame at the position: by the clock of the reader, or
-- as its header says where the clock doesn't know
abbrev pub block_time : {R : Type 0} → SeekableReader R → BlockInfo → ℕ
block_time s header = unwrap_or (clock_time s.clock (reader_position s) header) header.time

-- the wrapped reader
abbrev pub wrapped : {R : Type 0} → SeekableReader R → R
wrapped s = frames_source s.frames

-- What a reader gives, where that is known, begins with the head that is shown.
abbrev pub HeadIsShown : {R : Type 0} → (R → Option (List ℕ)) → R
    → Result (SeekableReader R) Error → Type 0
HeadIsShown remaining reader result = IfOk result (λ flac.
    IfSome (remaining reader) (λ bytes.
    BeginsWith (HeadCode (with_samples true) (shown_head flac)) bytes))

-- ---- calls, by the reader before and after

-- The head that is shown, and the position of the first frame, stay.
pub record KeepsStream {R : Type 0} (old new : SeekableReader R) : Type 0 where
  pub head : new.head ≡ old.head
  pub first : new.first_frame ≡ old.first_frame

-- ---- which calls failed

module _ {R : Type 0} (old new : SourceFrames R) where
  -- No call of the source failed, no memory for bytes was refused, and no budget was spent.
  abbrev pub NothingFailed : Type 0
  NothingFailed =
      KeepsCounts old.window new.window × (frames_spent new ≡ frames_spent old)

  -- One call of the source failed, at an `IoError`, or memory for bytes was refused once, at
  -- `OutOfMemory`.
  abbrev pub CallFailed : Error → Type 0
  CallFailed e = IsFailure old.window e new.window × (frames_spent new ≡ frames_spent old)

  -- The budget of one seek was spent.
  abbrev pub BudgetSpent : Error → Type 0
  BudgetSpent e =
      IsIo e × KeepsCounts old.window new.window
      × IsOneMore (frames_spent old) (frames_spent new)

-- Memory for a block was refused, of which a header is held.
abbrev pub BlockRefused : {R : Type 0} → StreamInfo → SourceFrames R → Error → Type 0
BlockRefused info new e =
    (position : ℕ) × IsBlockRefused (Some info) (frames_held new position) e

-- ---- the clock

-- A clock was told of a frame from a position on, which ends at another, by what its header says.
abbrev pub IsNoted : ℕ → ℕ → BlockInfo → Clock → Clock → Type 0
IsNoted at end info old new =
    NoteKeepsRight at end info old new
    × (NoteKeepsOrder at end info old new × NoteKnowsUnit at end info old new)

-- The clock is told of each frame that comes next, and of nothing else.
abbrev pub EventIsNoted : {R : Type 0} → SeekableReader R → Result Event Error → SeekableReader R
    → Type 0
EventIsNoted old (Ok (Decoded frame)) new =
    IsNoted (reader_position old) (reader_position new) frame.info old.clock new.clock
EventIsNoted old (Ok End) new = new.clock ≡ old.clock
EventIsNoted old (Ok (Faulty fault)) new = new.clock ≡ old.clock
EventIsNoted old (Ok (Cut at)) new = new.clock ≡ old.clock
EventIsNoted old (Ok (ReadOn needed)) new = new.clock ≡ old.clock
EventIsNoted old (Err e) new = new.clock ≡ old.clock

-- ---- a seek

-- A search found no frame.
abbrev pub IsFruitless : {R : Type 0} → SeekableReader R → SeekableReader R → Type 0
IsFruitless old new = IsOneMore (frames_fruitless old.frames) (frames_fruitless new.frames)

-- The counts of searches stay.
abbrev pub SearchesStay : {R : Type 0} → SeekableReader R → SeekableReader R → Type 0
SearchesStay old new = new.frames.searches ≡ old.frames.searches

-- The bytes that are held begin with a frame of the stream, whose header says this, but for the
-- time at which the block begins, which is the clock's, and the block has the sample.
pub record IsAtSample {R : Type 0} (s : SeekableReader R) (sample : ℕ) (block : BlockInfo) : Type 0
  where
    pub header : BlockInfo
    pub says : block ≡ record header { time = block.time }
    pub frame : WantedFrame (Some (shown_streaminfo s)) None (bytes_read s) header
    pub time : block.time ≡ block_time s header
    pub starts : block.time ≤ sample
    pub ends : sample < block.time + block.duration

-- what `seek` answers
abbrev pub SeekAnswer : Type 0
SeekAnswer = Result (Option BlockInfo) Error

module _ {R : Type 0} (sample : ℕ) (old : SeekableReader R) (result : SeekAnswer)
    (new : SeekableReader R) where
  -- The reader is at a frame of the block that is returned, which has the sample.
  abbrev pub GoesToSample : Type 0
  GoesToSample = IfOk result (λ found. IfSome found (λ block. IsAtSample new sample block))

  -- That frame isn't before the first one.
  abbrev pub GoesToFrames : Type 0
  GoesToFrames =
      IfOk result (λ found. IfSome found (λ block. first_frame old ≤ reader_position new))

-- After None, and after an Err, the reader is where it was.
abbrev pub ElseStays : {R : Type 0} → SeekableReader R → SeekAnswer → SeekableReader R → Type 0
ElseStays old (Ok None) new = reader_position new ≡ reader_position old
ElseStays old (Ok (Some block)) new = Unit {0}
ElseStays old (Err e) new = reader_position new ≡ reader_position old

-- At an Ok no call failed, and at None one search found no frame. At an Err a call failed, or a
-- budget was spent, or memory for a block was refused.
abbrev pub SeekIsCounted : {R : Type 0} → SeekableReader R → SeekAnswer → SeekableReader R
    → Type 0
SeekIsCounted old (Ok None) new = NothingFailed old.frames new.frames × IsFruitless old new
SeekIsCounted old (Ok (Some block)) new = NothingFailed old.frames new.frames
SeekIsCounted old (Err e) new =
    CallFailed old.frames new.frames e
    ⊎ (BudgetSpent old.frames new.frames e
    ⊎ (NothingFailed old.frames new.frames × BlockRefused (shown_streaminfo old) new.frames e))

-- The same of the frames that the clock is told.
abbrev pub NoteIsCounted : {R : Type 0} → SeekableReader R → Result Unit Error → SeekableReader R
    → Type 0
NoteIsCounted old (Ok done) new = NothingFailed old.frames new.frames
NoteIsCounted old (Err e) new =
    CallFailed old.frames new.frames e
    ⊎ (NothingFailed old.frames new.frames × BlockRefused (shown_streaminfo old) new.frames e)

-- ---- the next block

-- what comes next, by the engine
abbrev pub next_event_is : {R : Type 0} → (R → Option (List ℕ)) → SeekableReader R
    → Result Event Error → SeekableReader R → Type 0
next_event_is remaining old result new =
    NextIs (Some (shown_streaminfo old)) remaining old.frames result new.frames

-- The block has the sample, if it begins at this time.
abbrev pub BlockHasSample : ℕ → ℕ → Block → Type 0
BlockHasSample sample time block =
    (time ≤ sample) × (sample < time + duration_of block.channels)

-- The bytes begin with so many of a code, and the position moved after them.
abbrev pub Passes : {R : Type 0} → (List ℕ → Type 0) → SeekableReader R → SeekableReader R
    → Type 0
Passes Code old new =
    (count : ℕ) × BeginsWithLength Code (bytes_from new (reader_position old)) count
    × (reader_position new ≡ reader_position old + count)

module _ {R : Type 0} (old : SeekableReader R) (result : FrameAnswer) (new : SeekableReader R) where
  -- The next block has the sample to which the reader went, or memory was refused, or tries are
  -- over budget.
  abbrev pub NextHasSample : Type 0
  NextHasSample = (sample : ℕ) (info : BlockInfo) → IsAtSample old sample info
      → IsOkAnd result (λ found.
      IsSomeAnd found (λ block. BlockHasSample sample info.time (block_view block)))
      ⊎ (IsOutOfMemory result ⊎ IsOverBudget new.frames.decoder)

  -- If the bytes that are held begin with a frame its block is returned, or memory was refused, or
  -- tries are over budget.
  abbrev pub NextIsComplete : Type 0
  NextIsComplete = (block : Block)
      → BeginsWith (Frame (shown_format old) block) (bytes_read old)
      → IsOkAnd result (λ found. IsSomeAnd found (λ x. block_view x ≡ block))
      ⊎ (IsOutOfMemory result ⊎ IsOverBudget new.frames.decoder)

  -- A block that is returned is that of the frame at the position, which moves after it.
  abbrev pub NextIsSound : Type 0
  NextIsSound = IfOk result (λ found. IfSome found (λ block.
      Passes (Frame (shown_format old) (block_view block)) old new))

  -- An Err other than `OutOfMemory` and `IoError` names the fault at the position, which moves
  -- after it.
  abbrev pub NextFaultIsSound : Type 0
  NextFaultIsSound = IfOtherErr result (λ e.
      (f : Fault) × IsFault f e × Passes (FrameBytesFault (shown_format old) f) old new)

-- The clock is told of the frame of a block that is returned, and of nothing else.
abbrev pub NextIsNoted : {R : Type 0} → SeekableReader R → FrameAnswer → SeekableReader R → Type 0
NextIsNoted old (Ok (Some block)) new =
    (info : BlockInfo)
    × Passes (FrameWithHeader (shown_format old) (record { info = info; block = block_view block }))
    old new
    × IsNoted (reader_position old) (reader_position new) info old.clock new.clock
NextIsNoted old (Ok None) new = new.clock ≡ old.clock
NextIsNoted old (Err e) new = new.clock ≡ old.clock

-- The stream ends within what may be a frame, and all is consumed.
pub record IsCut {R : Type 0} (old new : SeekableReader R) : Type 0 where
  pub some : 2 ≤ length (bytes_from new (reader_position old))
  pub is_open : IsOpen (shown_format old) (bytes_from new (reader_position old))
  pub ends : has_end new.frames.window ≡ true
  pub position :
      reader_position new
      ≡ reader_position old + length (bytes_from new (reader_position old))

-- Nothing that was held from the position on is lost, and more may have been read after it.
abbrev pub NextKeepsBytes : {R : Type 0} → SeekableReader R → SeekableReader R → Type 0
NextKeepsBytes old new = ReadsOn (bytes_read old) (bytes_from new (reader_position old))

-- None is returned only if fewer than two bytes are left: a read of the source gave none after
-- them. Nothing is left in it then, if it is known what is, or positions end.
abbrev pub NextNoneIsEof : {R : Type 0} → (R → Option (List ℕ)) → SeekableReader R → FrameAnswer
    → SeekableReader R → Type 0
NextNoneIsEof remaining old result new = IfOk result (λ found. found ≡ None
    → (length (bytes_from new (reader_position old)) < 2)
    × (has_end new.frames.window ≡ true)
    × (IsAtEnd (remaining (wrapped new)) ⊎ (2 ^ 64 - 2 ≤ reader_position new))
    × (reader_position new
    ≡ reader_position old + length (bytes_from new (reader_position old))))

-- At an Ok no call failed. At an Err one did, and the position stays; or none failed. Then an
-- `IoError` says that the stream ends within a frame, and `OutOfMemory` that memory for a block was
-- refused, and the position stays.
abbrev pub NextIsCounted : {R : Type 0} → SeekableReader R → FrameAnswer → SeekableReader R
    → Type 0
NextIsCounted old (Ok found) new = NothingFailed old.frames new.frames
NextIsCounted old (Err e) new =
    (CallFailed old.frames new.frames e × (reader_position new ≡ reader_position old))
    ⊎ (NothingFailed old.frames new.frames × (IsIo e → IsCut old new)
    × (e ≡ OutOfMemory
    → BlockRefused (shown_streaminfo old) new.frames e
    × (reader_position new ≡ reader_position old)))
