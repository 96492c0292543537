-- What bytes in memory begin with: a frame of the stream, or none.
use Rattle.std.specs.Prelude.{◌⊎◌, ◌<◌, ℕ, List, ◌++◌, length, Some, None, Result, Ok, Err, Option}
use Rattle.std.specs.Global.{Global}
use Rattle.claxon.specs.BlockInfo.{HeaderBytesFault, HeaderOf}
use Rattle.claxon.specs.BlockInfos.{BlockInfo}
use Rattle.claxon.specs.DecodedFrame.{FrameValue, FrameWithHeader, decoded_view}
use Rattle.claxon.specs.DecodedFrames.{DecodedFrame}
use Rattle.claxon.specs.Error.{IsFault}
use Rattle.claxon.specs.Errors.{Error}
use Rattle.claxon.specs.Fault.{Fault}
use Rattle.claxon.specs.Frame.{Frame, FrameBytesFault}
use Rattle.claxon.specs.FrameReader.{block_view}
use Rattle.claxon.specs.Prefix.{BeginsWith}
use Rattle.claxon.specs.Promises.{IsOutOfMemory}
use Rattle.claxon.specs.StreamInfos.{StreamInfo}
use Rattle.claxon_seek.specs.AtStart.{BeginsWithLength, HeaderIsThere, said_by}
use Rattle.claxon_seek.specs.declared.at_start.HeaderInBytes.{HeaderInBytes}
use Rattle.claxon_seek.specs.Find.{
  EndsInFrame,
  EndsInHeader,
  HasFormat,
  WantedFrame,
  WantedHeader,
  known_format,
}
use Rattle.claxon_recovery.specs.declared.at_start.Answer.{Answer}
use Rattle.claxon_recovery.specs.declared.at_start.Answer.TheVariants.{Found, NoFrame, Undecided}
use Rattle.claxon_recovery.specs.declared.at_start.NoHeader.{NoHeader}
use Rattle.claxon_recovery.specs.declared.at_start.NoHeader.TheVariants.{
  CutHeader,
  Faulty,
  Other,
}
use Rattle.claxon_recovery.specs.declared.at_start.RestHere.{RestHere}
use Rattle.claxon_recovery.specs.declared.at_start.RestHere.TheVariants.{Broken, CutFrame, Whole}
use Rattle.claxon_recovery.specs.declared.part.Cause.{Cause}
use Rattle.claxon_recovery.specs.declared.part.Cause.TheVariants.{
  Cut,
  Fault as FaultCause,
  OtherFormat,
  TooLong,
}

module _ (known : Option StreamInfo) where
  -- ---- frames of the stream: with the streaminfo's number of channels and bit depth

  -- The bytes begin with a frame of the stream.
  abbrev pub BeginsWithStreamFrame : List ℕ → Type 0
  BeginsWithStreamFrame s = (block : BlockInfo) × WantedFrame known None s block

  -- The bytes begin with none, whatever follows.
  abbrev pub NoFrameWhateverFollows : List ℕ → Type 0
  NoFrameWhateverFollows s = (more : List ℕ) → BeginsWithStreamFrame (s ++ more) → ⊥

  -- The bytes of a frame of the stream.
  abbrev pub StreamFrameCode : FrameValue → List ℕ → Type 0
  StreamFrameCode value t =
      FrameWithHeader (known_format known) value t × HasFormat known value.info

  abbrev pub StreamFrame : DecodedFrame Global → List ℕ → Type 0
  StreamFrame frame = StreamFrameCode (decoded_view frame)

  -- ---- where none begins

  -- It isn't decided whether a frame begins there: fewer than two bytes are left, or they end
  -- within what may be a header or a frame.
  abbrev pub EndsEarly : List ℕ → Type 0
  EndsEarly s = (length s < 2) ⊎ (EndsInHeader known s ⊎ EndsInFrame known s)

  -- The bytes have the fault that the error names.
  abbrev pub HasFaultOf : Error → List ℕ → Type 0
  HasFaultOf e s =
      (f : Fault) × IsFault f e × BeginsWith (FrameBytesFault (known_format known) f) s

  -- The bytes begin with a header that says this of its block, which has another format.
  abbrev pub HasOtherHeader : BlockInfo → List ℕ → Type 0
  HasOtherHeader block s =
      BeginsWith (HeaderOf (known_format known) block) s
      × (HasFormat known block → ⊥)

  -- The bytes begin with no frame, for such a cause, whatever follows.
  abbrev pub HasCause : Cause → List ℕ → Type 0
  HasCause (FaultCause e) s = HasFaultOf e s
  HasCause (OtherFormat block) s = HasOtherHeader block s
  HasCause Cut s = ⊥
  HasCause TooLong s = ⊥

  -- ---- what calls answer

  -- The bytes begin with what was answered. `OutOfMemory` is the only Err.
  abbrev pub AnswerIsThere : List ℕ → Result Answer Error → Type 0
  AnswerIsThere bytes (Ok (Found len frame)) = BeginsWithLength (StreamFrame frame) bytes len
  AnswerIsThere bytes (Ok (NoFrame cause)) = HasCause cause bytes
  AnswerIsThere bytes (Ok Undecided) = EndsEarly bytes
  AnswerIsThere bytes (Err e) = IsOutOfMemory {A = Answer} (Err e)

  -- The bytes begin with such a header, or with its fault, or they end within it.
  abbrev pub HeaderStands : List ℕ → Result HeaderInBytes NoHeader → Type 0
  HeaderStands bytes (Ok header) =
      WantedHeader known None bytes (said_by header)
      × HeaderIsThere (known_format known) bytes header
  HeaderStands bytes (Err (Other block)) = HasOtherHeader block bytes
  HeaderStands bytes (Err (Faulty e)) =
      (f : Fault) × IsFault f e
      × BeginsWith (HeaderBytesFault (known_format known) f) bytes
  HeaderStands bytes (Err CutHeader) = (length bytes < 2) ⊎ EndsInHeader known bytes

  -- The bytes begin with a frame, or with its fault, of this length, or they end within it.
  -- `OutOfMemory` is the only Err.
  abbrev pub FrameStands : List ℕ → Result RestHere Error → Type 0
  FrameStands bytes (Ok (Whole len block)) =
      BeginsWithLength (Frame (known_format known) (block_view block)) bytes len
  FrameStands bytes (Ok (Broken len e)) =
      (f : Fault) × IsFault f e
      × BeginsWithLength (FrameBytesFault (known_format known) f) bytes len
  FrameStands bytes (Ok CutFrame) = EndsInFrame known bytes
  FrameStands bytes (Err e) = IsOutOfMemory {A = RestHere} (Err e)
