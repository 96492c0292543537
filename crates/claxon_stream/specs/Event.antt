-- What comes next in a stream, by its bytes.
use Rattle.std.specs.Prelude.{
  ◌≡◌,
  ℕ,
  ◌+◌,
  ◌<◌,
  ◌≤◌,
  max,
  Bool,
  true,
  false,
  List,
  length,
  Option,
  None,
  Some,
  Result,
  Ok,
  Err,
}
use Rattle.std.specs.Global.{Global}
use Rattle.claxon.specs.DecodedFrame.{DecodedAnswer, FrameWithHeader, decoded_view}
use Rattle.claxon.specs.DecodedFrames.{DecodedFrame}
use Rattle.claxon.specs.Error.{IsFault}
use Rattle.claxon.specs.Errors.{Error}
use Rattle.claxon.specs.Errors.TheVariants.{FormatError, IoError, OutOfMemory, Unsupported}
use Rattle.claxon.specs.Fault.{Fault}
use Rattle.claxon.specs.Frame.{Frame, FrameBytesFault, StreamFormat}
use Rattle.claxon.specs.FrameReader.{HeaderOfLargerBlock}
use Rattle.claxon.specs.Prefix.{BeginsWith}
use Rattle.claxon.specs.Promises.{HasNeither, IsOutOfMemory}
use Rattle.claxon_stream.specs.DecodedAtStart.{BeginsWithLength}
use Rattle.claxon_stream.specs.declared.event.Event.{Event}
use Rattle.claxon_stream.specs.declared.event.Event.TheVariants.{Cut, Decoded, End, Faulty, ReadOn}
use Rattle.claxon_stream.specs.declared.event.NeededBytes.{NeededBytes}
use Rattle.claxon_stream.specs.declared.event.StreamFault.{StreamFault}

-- ---- what stands at a position

-- The bytes begin with neither a frame nor a fault of one: they end within what may be a frame.
abbrev pub IsOpen : Option StreamFormat → List ℕ → Type 0
IsOpen stream = HasNeither (Frame stream) (FrameBytesFault stream)

-- of the bytes from a position on, and whether the stream ends with them
module _ (stream : Option StreamFormat) (bytes : List ℕ) (ends : Bool) (capacity position : ℕ) where
  -- They begin with a code, and `new` is the position after it.
  abbrev pub Passes : (List ℕ → Type 0) → ℕ → Type 0
  Passes Code new = (taken : ℕ) × BeginsWithLength Code bytes taken × (new ≡ position + taken)

  -- What is answered, and the position after it: a frame that stands there; the end of the stream,
  -- where fewer than two bytes are left; a fault that stands there; neither stands, and the stream
  -- ends; or one byte more is needed, and two at least, and the stream may go on. `OutOfMemory` is
  -- returned only after the header of a block with more samples than the buffer's capacity.
  abbrev pub EventIs : Result Event Error → ℕ → Type 0
  EventIs (Ok (Decoded frame)) new = Passes (FrameWithHeader stream (decoded_view frame)) new
  EventIs (Ok End) new = (ends ≡ true) × (length bytes < 2) × (new ≡ position + length bytes)
  EventIs (Ok (Faulty fault)) new =
      (fault.position ≡ position)
      × ((f : Fault) × IsFault f fault.error × Passes (FrameBytesFault stream f) new)
  EventIs (Ok (Cut at)) new =
      (at ≡ position) × (ends ≡ true) × (2 ≤ length bytes) × IsOpen stream bytes
      × (new ≡ position + length bytes)
  EventIs (Ok (ReadOn needed)) new =
      (needed.position ≡ position) × (needed.count ≡ max (length bytes + 1) 2) × (ends ≡ false)
      × (new ≡ position)
  EventIs (Err e) new =
      IsOutOfMemory {A = Event} (Err e) × BeginsWith (HeaderOfLargerBlock stream capacity) bytes
      × (new ≡ position)

-- ---- which event it is

-- A frame was decoded, and P holds of it.
abbrev pub IsDecodedAnd : Result Event Error → (DecodedFrame Global → Type 0) → Type 0
IsDecodedAnd (Ok (Decoded frame)) P = P frame
IsDecodedAnd _ P = ⊥

-- There was a fault, and P holds of it.
abbrev pub IsFaultyAnd : Result Event Error → (StreamFault → Type 0) → Type 0
IsFaultyAnd (Ok (Faulty fault)) P = P fault
IsFaultyAnd _ P = ⊥

abbrev pub IsCutFrame : Result Event Error → Type 0
IsCutFrame (Ok (Cut at)) = Unit {0}
IsCutFrame _ = ⊥

abbrev pub IsReadOn : Result Event Error → Type 0
IsReadOn (Ok (ReadOn needed)) = Unit {0}
IsReadOn _ = ⊥

-- It is one of the stream, and not `ReadOn` or an Err.
abbrev pub IsAnswer : Result Event Error → Type 0
IsAnswer (Ok (ReadOn needed)) = ⊥
IsAnswer (Ok _) = Unit {0}
IsAnswer (Err e) = ⊥

-- Two events say the same.
abbrev pub SameEvent : Result Event Error → Result Event Error → Type 0
SameEvent (Ok (Decoded a)) (Ok (Decoded b)) = decoded_view a ≡ decoded_view b
SameEvent (Ok End) (Ok End) = Unit {0}
SameEvent (Ok (Faulty a)) (Ok (Faulty b)) =
    (a.position ≡ b.position) × ((f : Fault) × IsFault f a.error × IsFault f b.error)
SameEvent (Ok (Cut a)) (Ok (Cut b)) = a ≡ b
SameEvent _ _ = ⊥

-- ---- parts of the code

-- the bytes that are needed where so many are held
abbrev pub needed_after : ℕ → ℕ → NeededBytes
needed_after position held = record { position = position; count = max (held + 1) 2 }

-- there is no frame at the position
abbrev pub faulty : ℕ → Error → Event
faulty position error = Faulty (record { position = position; error = error })

-- what is answered, by the frame that the bytes begin with
abbrev pub event_of : DecodedAnswer Global → ℕ → ℕ → Bool → Result Event Error
event_of (Ok (Some frame)) position held ends = Ok (Decoded frame)
event_of (Ok None) position held true = Ok End
event_of (Ok None) position held false = Ok (ReadOn (needed_after position held))
event_of (Err (IoError cause)) position held true = Ok (Cut position)
event_of (Err (IoError cause)) position held false = Ok (ReadOn (needed_after position held))
event_of (Err OutOfMemory) position held ends = Err OutOfMemory
event_of (Err (FormatError text)) position held ends =
    Ok (faulty position (FormatError text))
event_of (Err (Unsupported text)) position held ends =
    Ok (faulty position (Unsupported text))

-- by how many bytes the position moves
abbrev pub moved_by : Result Event Error → ℕ → ℕ → ℕ
moved_by (Ok (Decoded frame)) taken held = taken
moved_by (Ok (Faulty fault)) taken held = taken
moved_by (Ok End) taken held = held
moved_by (Ok (Cut at)) taken held = held
moved_by (Ok (ReadOn needed)) taken held = 0
moved_by (Err e) taken held = 0
