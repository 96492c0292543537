-- The laws of what is answered, one statement each.
use Rattle.std.specs.Prelude.{
  ◌≡◌,
  ◌⊎◌,
  ℕ,
  true,
  List,
  [],
  ◌∷◌,
  drop,
  length,
  Option,
  None,
  Result,
  Ok,
  Err,
  IsErrAnd,
  IsOkAnd,
  IsSomeAnd,
}
use Rattle.claxon.specs.Bits.{bits_of}
use Rattle.claxon.specs.Crc.{crc16}
use Rattle.claxon.specs.Error.{IsFault, IsIo}
use Rattle.claxon.specs.Errors.{Error}
use Rattle.claxon.specs.Fault.{Fault}
use Rattle.claxon.specs.Frame.{Block, Frame, IsBitDepth, StreamFormat, known_bit_depth}
use Rattle.claxon.specs.FrameReader.{FrameAnswer, block_view}
use Rattle.claxon.specs.Promises.{IsOutOfMemory}
use Rattle.claxon.specs.FramesInMemory.{
  SliceFrameFaultIsComplete,
  SliceFrameFaultIsSound,
  SliceFrameIsComplete,
  SliceFrameIsSound,
  SliceFrameNoneIffEof,
}
use Rattle.claxon_stream.specs.Event.{EventIs, IsAnswer, SameEvent}
use Rattle.claxon_stream.specs.declared.event.Event.{Event}
use Rattle.claxon_stream.specs.declared.event.Event.TheVariants.{Cut, Decoded, End, Faulty, ReadOn}

-- At a position of a stream, with all its bytes from there on, there is one answer, and one
-- position after it.
abbrev pub OneAnswer : Type 0
OneAnswer =
    (stream : Option StreamFormat) → IsBitDepth (known_bit_depth stream)
    → (bytes : List ℕ) (a b position : ℕ) (x y : Result Event Error) (new other : ℕ)
    → IsAnswer x → IsAnswer y
    → EventIs stream bytes true a position x new → EventIs stream bytes true b position y other
    → SameEvent x y × (new ≡ other)

-- These are answers of a stream with all these bytes, one after another: the first one at the
-- position `at`, each other one at the position after the one before. After the last it is `end`.
abbrev pub AreAnswers : Option StreamFormat → List ℕ → ℕ → List (Result Event Error) → ℕ → Type 0
AreAnswers stream bytes at [] end = at ≡ end
AreAnswers stream bytes at (x ∷ others) end =
    (capacity : ℕ) × (next : ℕ) × IsAnswer x
    × EventIs stream (drop at bytes) true capacity at x next
    × AreAnswers stream bytes next others end

-- They say the same, one by one.
abbrev pub SameEvents : List (Result Event Error) → List (Result Event Error) → Type 0
SameEvents [] [] = Unit {0}
SameEvents (x ∷ xs) (y ∷ ys) = SameEvent x y × SameEvents xs ys
SameEvents _ _ = ⊥

-- As many answers of a stream from a position on say the same, one by one, and end at the same
-- position: so it doesn't matter how the stream was cut into what was handed in for them.
abbrev pub CutsDontMatter : Type 0
CutsDontMatter =
    (stream : Option StreamFormat) → IsBitDepth (known_bit_depth stream)
    → (bytes : List ℕ) (at end other : ℕ) (xs ys : List (Result Event Error))
    → length xs ≡ length ys
    → AreAnswers stream bytes at xs end → AreAnswers stream bytes at ys other
    → SameEvents xs ys × (end ≡ other)

-- `read_next_or_eof` returns the same: the block, None, the error of the fault, or an `IoError`.
abbrev pub IsDecoders : Result Event Error → FrameAnswer → Type 0
IsDecoders (Ok (Decoded frame)) r =
    IsOkAnd r (λ found. IsSomeAnd found (λ block. block_view block ≡ block_view frame.block))
IsDecoders (Ok End) r = r ≡ Ok None
IsDecoders (Ok (Faulty fault)) r = (f : Fault) × IsFault f fault.error × IsErrAnd r (IsFault f)
IsDecoders (Ok (Cut at)) r = IsErrAnd r IsIo
IsDecoders (Ok (ReadOn needed)) r = ⊥
IsDecoders (Err e) r = ⊥

-- an answer of `read_next_or_eof` over these bytes in memory
pub record IsAnswerOf (stream : Option StreamFormat) (bytes : List ℕ) (r : FrameAnswer) : Type 0
  where
    pub sound : SliceFrameIsSound stream bytes r
    pub complete : SliceFrameIsComplete stream bytes r
    pub none : SliceFrameNoneIffEof bytes r
    pub fault : SliceFrameFaultIsSound stream bytes r
    pub named : SliceFrameFaultIsComplete stream bytes r

-- It is what `read_next_or_eof` returns of these bytes, if it is granted memory.
abbrev pub AnswersAreDecoders : Type 0
AnswersAreDecoders =
    (stream : Option StreamFormat) (bytes : List ℕ) (capacity position : ℕ)
    (x : Result Event Error) (new : ℕ) (r : FrameAnswer)
    → IsAnswer x → EventIs stream bytes true capacity position x new
    → IsAnswerOf stream bytes r → IsDecoders x r ⊎ IsOutOfMemory r

-- The CRC-16 of all bytes of a frame, with those that hold its CRC, is 0.
abbrev pub FramesEndAtZero : Type 0
FramesEndAtZero =
    (stream : Option StreamFormat) (block : Block) (t : List ℕ) → Frame stream block t
    → crc16 (bits_of t) ≡ 0
