-- The search for a frame with a sample, byte by byte.
use Rattle.std.specs.Prelude.{
  ◌≡◌,
  ℕ,
  ◌+◌,
  ◌-◌,
  ◌<◌,
  ◌≤◌,
  Bool,
  true,
  false,
  if◌then◌else◌,
  List,
  drop,
  length,
  max,
  Option,
  None,
  Some,
  Result,
  Ok,
  Err,
}
use Rattle.std.specs.Global.{Global}
use Rattle.claxon.specs.BlockInfos.{BlockInfo}
use Rattle.claxon.specs.DecodedFrames.{DecodedFrame}
use Rattle.claxon.specs.Errors.{Error}
use Rattle.claxon.specs.FrameReader.{HeaderOfLargerBlock}
use Rattle.claxon.specs.Prefix.{BeginsWith}
use Rattle.claxon.specs.Promises.{IsOutOfMemory}
use Rattle.claxon.specs.StreamInfos.{StreamInfo}
use Rattle.claxon_seek.specs.Find.{WantedHeader, known_format}
use Rattle.claxon_stream.specs.Budget.{charged, counted_position, made_good, wasted_work, work_left}
use Rattle.claxon_stream.specs.Event.{needed_after}
use Rattle.claxon_stream.specs.FrameDecoder.{decoder_position}
use Rattle.claxon_stream.specs.Held.{StandsIn, ends_there, held_from}
use Rattle.claxon_stream.specs.Search.{Cost}
use Rattle.claxon_stream.specs.declared.event.Event.{Event}
use Rattle.claxon_stream.specs.declared.event.Event.TheVariants.{
  Cut,
  Decoded,
  End,
  Faulty,
  ReadOn as Event_ReadOn,
}
use Rattle.claxon_stream.specs.declared.event.NeededBytes.{NeededBytes}
use Rattle.claxon_stream_seek.specs.Sought.{
  HasSample,
  IsSoughtIn,
  Passes,
  SeekEventIs,
  SoughtHeader,
  start_of,
}
use Rattle.claxon_stream_seek.specs.declared.event.SeekEvent.{SeekEvent}
use Rattle.claxon_stream_seek.specs.declared.event.SeekEvent.TheVariants.{
  Found,
  NotFound,
  OverBudget,
  ReadOn,
}
use Rattle.claxon_stream_seek.specs.declared.search.ByteSearch.{ByteSearch}
use Rattle.claxon_stream_seek.specs.declared.search.SoughtThere.{SoughtThere}
use Rattle.claxon_stream_seek.specs.declared.search.SoughtThere.TheVariants.{
  CutHeader,
  Header,
  NoHeader,
}
use Rattle.claxon_stream_seek.specs.declared.sought.Sought.{Sought}

-- the first position that isn't passed
abbrev pub search_position : ByteSearch → ℕ
search_position s = s.position

-- what the search has cost up to its position
abbrev pub search_cost : ByteSearch → Cost
search_cost s = record {
  wasted = made_good (wasted_work s.budget) (s.position - counted_position s.budget);
  passes_over = s.has_passed_over;
}

-- All positions of the stream from the first frame on are passed, up to that of the search, at its
-- cost.
pub record HasPassed (known : Option StreamInfo) (stream : List ℕ) (s : ByteSearch) : Type 0 where
  pub start : s.sought.first_frame ≤ s.position
  pub counted : counted_position s.budget ≤ s.position
  pub inside : s.position - s.sought.first_frame ≤ length (drop s.sought.first_frame stream)
  pub passes :
      Passes known s.sought stream (s.position - s.sought.first_frame) (search_cost s)

-- Its position isn't before the first frame.
abbrev pub IsPlaced : ByteSearch → Type 0
IsPlaced s = s.sought.first_frame ≤ s.position

-- What is sought stays.
abbrev pub KeepsSought : ByteSearch → ByteSearch → Type 0
KeepsSought old new = new.sought ≡ old.sought

-- Nothing is passed.
pub record SearchBegins (sought : Sought) (s : ByteSearch) : Type 0 where
  pub is : s.sought ≡ sought
  pub position : s.position ≡ sought.first_frame
  pub counted : counted_position s.budget ≡ sought.first_frame
  pub nothing : search_cost s ≡ record { wasted = 0; passes_over = false }

-- of the bytes that are held
module _ (at : ℕ) (bytes : List ℕ) (known : Option StreamInfo) where
  -- A frame that is found stands in them, not before the first one, and has the sample.
  -- `OutOfMemory` is returned only after a header that stands in them.
  abbrev pub FoundIsHeld : Sought → Result SeekEvent Error → Type 0
  FoundIsHeld s (Ok (Found found)) =
      (s.first_frame ≤ found.position)
      × IsSoughtIn known s (held_from at found.position bytes) found
  FoundIsHeld s (Ok NotFound) = Unit {0}
  FoundIsHeld s (Ok OverBudget) = Unit {0}
  FoundIsHeld s (Ok (ReadOn needed)) = Unit {0}
  FoundIsHeld s (Err e) =
      IsOutOfMemory {A = SeekEvent} (Err e)
      × ((position : ℕ) × (capacity : ℕ)
      × BeginsWith (HeaderOfLargerBlock (known_format known) capacity)
      (held_from at position bytes))

  -- So it is of a search that is not before the first frame, and neither is it after the call.
  abbrev pub SearchFindsHeld : ByteSearch → Result SeekEvent Error → ByteSearch → Type 0
  SearchFindsHeld old result new =
      IsPlaced old → IsPlaced new × FoundIsHeld old.sought result

module _ (at : ℕ) (bytes : List ℕ) (is_end : Bool) where
  -- More bytes are asked for than are held from the position on, and the stream may go on.
  abbrev pub NeedsMore : NeededBytes → Type 0
  NeedsMore needed =
      (length (held_from at needed.position bytes) < needed.count)
      × (ends_there at needed.position is_end ≡ false)

  -- `ReadOn` does.
  abbrev pub SearchNeedsMore : Result SeekEvent Error → Type 0
  SearchNeedsMore (Ok (ReadOn needed)) = NeedsMore needed
  SearchNeedsMore _ = Unit {0}

  -- Of each stream in which the bytes stand the answer is right, and what is passed.
  abbrev pub SearchIsOfStream : Option StreamInfo → ByteSearch → Result SeekEvent Error
      → ByteSearch → Type 0
  SearchIsOfStream known old result new = (stream : List ℕ) → StandsIn stream at bytes is_end
      → HasPassed known stream old
      → HasPassed known stream new × SeekEventIs known new.sought stream result

  -- ---- parts of the code

  -- A header with the sample begins at the position; or none does, of each stream in which the
  -- bytes stand; or they end within what may be one.
  abbrev pub SoughtIsThere : Option StreamInfo → ByteSearch → SoughtThere → Type 0
  SoughtIsThere known s (Header info) =
      WantedHeader known None (held_from at s.position bytes) info
      × HasSample s.sought s.position info
  SoughtIsThere known s NoHeader = (stream : List ℕ) → StandsIn stream at bytes is_end
      → (info : BlockInfo) → SoughtHeader known s.sought stream s.position info → ⊥
  SoughtIsThere known s CutHeader = ends_there at s.position is_end ≡ false

  -- The position moves by a byte that is passed.
  abbrev pub MovesByte : ByteSearch → Result (Option SeekEvent) Error → ByteSearch → Type 0
  MovesByte old (Ok None) new = new.position ≡ old.position + 1
  MovesByte old (Ok (Some answer)) new = new.position ≡ old.position
  MovesByte old (Err e) new = new.position ≡ old.position

  -- what is said of the position, as an answer; as if more were needed where it is passed
  abbrev pub answer_at : Result (Option SeekEvent) Error → Result SeekEvent Error
  answer_at (Ok None) = Ok (ReadOn (record { position = 0; count = 0 }))
  answer_at (Ok (Some answer)) = Ok answer
  answer_at (Err e) = Err e

  -- `ReadOn` asks for more bytes than are held.
  abbrev pub ByteNeedsMore : Result (Option SeekEvent) Error → Type 0
  ByteNeedsMore (Ok None) = Unit {0}
  ByteNeedsMore (Ok (Some answer)) = SearchNeedsMore (Ok answer)
  ByteNeedsMore (Err e) = Unit {0}

  -- The byte is passed, or it is answered what begins there.
  pub record IsAtByte (known : Option StreamInfo) (old : ByteSearch)
      (result : Result (Option SeekEvent) Error) (new : ByteSearch) : Type 0 where
    pub moves : MovesByte old result new
    pub needs : ByteNeedsMore result
    pub finds_held : SearchFindsHeld at bytes known old (answer_at result) new
    pub of_stream : (stream : List ℕ) → StandsIn stream at bytes is_end
        → HasPassed known stream old
        → HasPassed known stream new × SeekEventIs known new.sought stream (answer_at result)

-- The position moves by one byte.
abbrev pub SkipsByte : ByteSearch → ByteSearch → Type 0
SkipsByte old new = new ≡ record old { position = old.position + 1 }

-- The frame is tried if the block has no more samples than are left of the budget; else its header
-- is passed over.
pub record IsTriedAt (samples : ℕ) (old : ByteSearch) (result : Bool) (new : ByteSearch) : Type 0
  where
    pub sought : new.sought ≡ old.sought
    pub counted : counted_position new.budget ≡ max (counted_position old.budget) old.position
    pub wasted : wasted_work new.budget ≡ (search_cost old).wasted
    pub tried : result ≡ true → (samples ≤ work_left (wasted_work new.budget))
        × (new.position ≡ old.position) × (new.has_passed_over ≡ old.has_passed_over)
        × (decoder_position new.decoder ≡ old.position)
    pub passed_over : result ≡ false → (work_left (wasted_work new.budget) < samples)
        × (new.position ≡ old.position + 1) × (new.has_passed_over ≡ true)

-- These samples and the bytes up to the decoder's position are charged, and the byte is passed.
pub record IsVainAt (samples : ℕ) (old : ByteSearch) (result : Option SeekEvent)
    (new : ByteSearch) : Type 0 where
  pub none : result ≡ None
  pub sought : new.sought ≡ old.sought
  pub position : new.position ≡ old.position + 1
  pub passes_over : new.has_passed_over ≡ old.has_passed_over
  pub counted : counted_position new.budget ≡ counted_position old.budget
  pub wasted : wasted_work new.budget
      ≡ charged (wasted_work old.budget) ((decoder_position old.decoder - old.position) + samples)

-- the frame that was decoded at the position
abbrev pub found_at : ByteSearch → DecodedFrame Global → SeekEvent
found_at s frame = Found (record {
  position = s.position;
  end = decoder_position s.decoder;
  time = start_of s.sought s.position frame.info;
  frame = frame;
})

-- what is answered where the frame at the position was tried
abbrev pub IsAnswered : ℕ → Result Event Error → ByteSearch → Result (Option SeekEvent) Error
    → ByteSearch → Type 0
IsAnswered samples (Ok (Decoded frame)) old result new =
    (result ≡ Ok (Some (found_at old frame))) × (new ≡ old)
IsAnswered samples (Ok (Event_ReadOn needed)) old result new =
    (result ≡ Ok (Some (ReadOn needed))) × (new ≡ old)
IsAnswered samples (Ok (Faulty fault)) old result new =
    (result ≡ Ok None) × IsVainAt samples old None new
IsAnswered samples (Ok (Cut at)) old result new =
    (result ≡ Ok None) × IsVainAt samples old None new
IsAnswered samples (Ok End) old result new =
    (result ≡ Ok None) × IsVainAt samples old None new
IsAnswered samples (Err e) old result new = (result ≡ Err e) × (new ≡ old)

-- the answer that bytes are needed where so many are held from the position on
abbrev pub read_on : ℕ → ℕ → SeekEvent
read_on position held = ReadOn (needed_after position held)

-- what is answered at the end of the bytes that are held
abbrev pub end_answer : ℕ → Bool → ByteSearch → SeekEvent
end_answer at is_end s =
    if ends_there at s.position is_end then (if s.has_passed_over then OverBudget else NotFound)
    else read_on s.position 0
