-- What `Seeker::seek_next` promises.
use Rattle.std.specs.Prelude.{◌≡◌, ◌⊎◌, ℕ, ◌<◌, Bool, List, Option, None, Some, Result, Ok, Err}
use Rattle.std.specs.Global.{Global}
use Rattle.claxon.specs.BlockInfos.{BlockInfo}
use Rattle.claxon.specs.DecodedFrames.{DecodedFrame}
use Rattle.claxon.specs.Errors.{Error}
use Rattle.claxon.specs.StreamInfos.{StreamInfo}
use Rattle.claxon_stream.specs.Held.{StandsIn}
use Rattle.claxon_seek.specs.Find.{HasFormat}
use Rattle.claxon_stream.specs.FrameDecoder.{decoder_position}
use Rattle.claxon_stream.specs.declared.event.Event.{Event}
use Rattle.claxon_stream.specs.declared.event.Event.TheVariants.{
  Cut,
  Decoded,
  End,
  Faulty,
  ReadOn as Event_ReadOn,
}
use Rattle.claxon_stream_seek.specs.Search.{
  ByteNeedsMore,
  FoundIsHeld,
  HasPassed,
  IsPlaced,
  NeedsMore,
  answer_at,
}
use Rattle.claxon_stream_seek.specs.Sought.{HasSample, SeekEventIs, start_of}
use Rattle.claxon_stream_seek.specs.declared.clock.Clock.{Clock}
use Rattle.claxon_stream_seek.specs.declared.event.SeekEvent.{SeekEvent}
use Rattle.claxon_stream_seek.specs.declared.event.SeekEvent.TheVariants.{Found, ReadOn}
use Rattle.claxon_stream_seek.specs.declared.seeker.NextHeader.{NextHeader}
use Rattle.claxon_stream_seek.specs.declared.seeker.NextHeader.TheVariants.{Needs}
use Rattle.claxon_stream_seek.specs.declared.seeker.Seeker.{Seeker}
use Rattle.claxon_stream_seek.specs.declared.sought.Sought.{Sought}

-- what is sought: a sample, from the first frame on, by the clock
abbrev pub sought_by : Seeker → Sought
sought_by s = s.search.sought

abbrev pub sought_with : Clock → ℕ → ℕ → Sought
sought_with clock sample first_frame =
    record { clock = clock; sample = sample; first_frame = first_frame }

-- Of the stream of these bytes it is right what the seeker has passed.
abbrev pub SeekIsRightOf : Option StreamInfo → List ℕ → Seeker → Type 0
SeekIsRightOf known stream s = HasPassed known stream s.search

-- What a new seeker knows is right of every stream.
abbrev pub SeekStartsRight : Seeker → Type 0
SeekStartsRight s = (known : Option StreamInfo) (stream : List ℕ) → SeekIsRightOf known stream s

-- The clauses. `old` and `new` are the seeker before and after the call.
module _ (known : Option StreamInfo) (at : ℕ) (bytes : List ℕ) (is_end : Bool) (old : Seeker)
    (result : Result SeekEvent Error) (new : Seeker) where
  -- Of each stream in which the bytes stand, and of which the seeker was right, it stays so, and
  -- what is answered is so of all its bytes.
  abbrev pub SeekIsOfStream : Type 0
  SeekIsOfStream = (stream : List ℕ) → StandsIn stream at bytes is_end
      → SeekIsRightOf known stream old
      → SeekIsRightOf known stream new × SeekEventIs known (sought_by new) stream result

-- Where the search of all bytes is isn't before the first frame.
abbrev pub SeekIsPlaced : Seeker → Type 0
SeekIsPlaced s = IsPlaced s.search

-- A frame that is found stands in the bytes that are held, not before the first frame, and has the
-- sample. `OutOfMemory` is returned only after a header that stands there.
abbrev pub SeekFindsHeld : Option StreamInfo → ℕ → List ℕ → Seeker → Result SeekEvent Error
    → Seeker → Type 0
SeekFindsHeld known at bytes old result new =
    SeekIsPlaced old
    → SeekIsPlaced new × FoundIsHeld at bytes known (sought_by old) result

-- What is sought stays.
abbrev pub SeekKeepsSought : Seeker → Seeker → Type 0
SeekKeepsSought old new = sought_by new ≡ sought_by old

-- the search byte by byte stays
abbrev pub KeepsSearch : Seeker → Seeker → Type 0
KeepsSearch old new = new.search ≡ old.search

-- ---- the frame to which headers led

-- It has the format of the stream, and the sample.
abbrev pub IsLikelySought : Option StreamInfo → Seeker → ℕ → BlockInfo → Type 0
IsLikelySought known s at info = HasFormat known info × HasSample s.search.sought at info

abbrev pub likely_found : Seeker → ℕ → DecodedFrame Global → SeekEvent
likely_found s at frame = Found (record {
  position = at;
  end = decoder_position s.likely;
  time = start_of s.search.sought at frame.info;
  frame = frame;
})

-- what is answered where it was tried
abbrev pub LikelyIsAnswered : Option StreamInfo → ℕ → Result Event Error → Seeker
    → Result (Option SeekEvent) Error → Type 0
LikelyIsAnswered known at (Ok (Decoded frame)) old result =
    ((result ≡ Ok (Some (likely_found old at frame))) × IsLikelySought known old at frame.info)
    ⊎ (result ≡ Ok None)
LikelyIsAnswered known at (Ok (Event_ReadOn needed)) old result =
    result ≡ Ok (Some (ReadOn needed))
LikelyIsAnswered known at (Ok (Faulty fault)) old result = result ≡ Ok None
LikelyIsAnswered known at (Ok (Cut p)) old result = result ≡ Ok None
LikelyIsAnswered known at (Ok End) old result = result ≡ Ok None
LikelyIsAnswered known at (Err e) old result = result ≡ Err e

-- what is answered of it; as if more were needed where it isn't sought
module _ (at : ℕ) (bytes : List ℕ) (is_end : Bool) where
  abbrev pub LikelyIsOfStream : Option StreamInfo → Seeker → Result (Option SeekEvent) Error
      → Type 0
  LikelyIsOfStream known old result = (stream : List ℕ) → StandsIn stream at bytes is_end
      → SeekEventIs known (sought_by old) stream (answer_at at bytes is_end result)

  -- A frame that is found there is held.
  abbrev pub LikelyIsHeld : Option StreamInfo → Seeker → Result (Option SeekEvent) Error → Type 0
  LikelyIsHeld known old result =
      FoundIsHeld at bytes known (sought_by old) (answer_at at bytes is_end result)

  abbrev pub LikelyNeedsMore : Result (Option SeekEvent) Error → Type 0
  LikelyNeedsMore result = ByteNeedsMore at bytes is_end result

  abbrev pub NextNeedsMore : NextHeader → Type 0
  NextNeedsMore (Needs needed) = NeedsMore at bytes is_end needed
  NextNeedsMore _ = Unit {0}

-- More bytes are asked for than are held.
abbrev pub NextNeeds : ℕ → ℕ → NextHeader → Type 0
NextNeeds position held (Needs needed) = (needed.position ≡ position) × (held < needed.count)
NextNeeds position held _ = ⊥
