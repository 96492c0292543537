-- What `FrameDecoder::decode_next` promises.
use Rattle.std.specs.Prelude.{
  ◌≡◌,
  ◌⊎◌,
  ◌↔◌,
  ℕ,
  ◌+◌,
  ◌-◌,
  ◌*◌,
  ◌<◌,
  ◌≤◌,
  Bool,
  true,
  false,
  List,
  ◌++◌,
  drop,
  length,
  max,
  Option,
  None,
  Some,
  Result,
  Ok,
}
use Rattle.std.specs.Option.{option_map}
use Rattle.claxon.specs.Error.{IsFault}
use Rattle.claxon.specs.Errors.{Error}
use Rattle.claxon.specs.Fault.{Fault}
use Rattle.claxon.specs.Frame.{Block, Frame, FrameBytesFault, NoFrameLeft, StreamFormat}
use Rattle.claxon.specs.FrameReader.{block_view, stream_with}
use Rattle.claxon.specs.Prefix.{BeginsWith}
use Rattle.claxon.specs.Promises.{IsOutOfMemory}
use Rattle.claxon.specs.StreamInfos.{StreamInfo}
use Rattle.claxon_stream.specs.Event.{
  EventIs,
  IsAnswer,
  IsCutFrame,
  IsDecodedAnd,
  IsFaultyAnd,
  IsOpen,
  IsReadOn,
  needed_after,
}
use Rattle.claxon_stream.specs.Budget.{IsSpent, charged, cost_of_try, wasted_work}
use Rattle.claxon_stream.specs.DecodedAtStart.{SamplesAreSaid}
use Rattle.claxon_stream.specs.FrameEnd.{
  IsZeroWithin,
  Knows,
  StartKnows,
  StartsWith,
  summed_bytes,
  tried_bytes,
}
use Rattle.claxon_stream.specs.Held.{StandsIn, ends_there, held_from}
use Rattle.claxon_stream.specs.declared.event.Event.{Event}
use Rattle.claxon_stream.specs.declared.event.Event.TheVariants.{Cut, End, Faulty, ReadOn}
use Rattle.claxon_stream.specs.declared.event.NeededBytes.{NeededBytes}
use Rattle.claxon_stream.specs.declared.frames.FrameDecoder.{FrameDecoder}

-- `frames.position()`
abbrev pub decoder_position : FrameDecoder → ℕ
decoder_position s = s.position

-- how much work of tries in vain wasn't made good
abbrev pub tries_wasted : FrameDecoder → ℕ
tries_wasted s = wasted_work s.budget

-- what faults cost that no search was charged yet
abbrev pub cost_of_faults : FrameDecoder → ℕ
cost_of_faults s = s.faults

-- the same decoder after a search was charged
abbrev pub without_faults : FrameDecoder → FrameDecoder
without_faults s =
    record { position = s.position; end = s.end; budget = s.budget; faults = 0 }

-- `frames.is_over_budget()`
abbrev pub IsOverBudget : FrameDecoder → Type 0
IsOverBudget s = IsSpent s.budget

-- What a new decoder notes is so of every stream.
abbrev pub StartsRight : FrameDecoder → Type 0
StartsRight s = StartKnows s.end

-- It begins at the position, and nothing is noted that isn't so of every stream. The budget is that
-- of another one.
pub record IsFromPosition (old : FrameDecoder) (at : ℕ) (new : FrameDecoder) : Type 0 where
  pub position : decoder_position new ≡ at
  pub budget : new.budget ≡ old.budget
  pub faults : new.faults ≡ old.faults
  pub starts : StartsRight new
  pub summed : summed_bytes new.end ≡ 0

-- What the decoder noted is so of the stream of these bytes.
abbrev pub IsRightOf : Option StreamInfo → List ℕ → FrameDecoder → Type 0
IsRightOf known stream s =
    Knows (option_map stream_with known) (drop (decoder_position s) stream) s.end

-- The clauses. `old` and `new` are the decoder before and after the call.
module _ (known : Option StreamInfo) (capacity at : ℕ) (bytes : List ℕ) (is_end : Bool)
    (old : FrameDecoder) (result : Result Event Error) (new : FrameDecoder) where
  -- What is answered stands at the position, and the position moves after it.
  abbrev pub EventIsSound : Type 0
  EventIsSound =
      EventIs (option_map stream_with known) (held_from at (decoder_position old) bytes)
      (ends_there at (decoder_position old) is_end) capacity
      (decoder_position old) result (decoder_position new)

  -- Of each stream in which the bytes stand, an answer other than `ReadOn` is what stands there in
  -- all its bytes. So it doesn't matter where the stream is cut.
  abbrev pub EventIsOfStream : Type 0
  EventIsOfStream = (stream : List ℕ) → StandsIn stream at bytes is_end → IsAnswer result
      → EventIs (option_map stream_with known) (drop (decoder_position old) stream) true capacity
      (decoder_position old) result (decoder_position new)

module _ (known : Option StreamInfo) (at : ℕ) (bytes : List ℕ) (old : FrameDecoder)
    (result : Result Event Error) where
  -- A frame that stands there in the bytes is answered, or memory was refused, or `ReadOn` is
  -- answered (`FrameIsTimely`).
  abbrev pub FrameIsComplete : Type 0
  FrameIsComplete = (block : Block)
      → BeginsWith (Frame (option_map stream_with known) block)
      (held_from at (decoder_position old) bytes)
      → IsDecodedAnd result (λ frame. block_view frame.block ≡ block)
      ⊎ (IsOutOfMemory result ⊎ IsReadOn result)

  -- A fault that stands there in the bytes is answered, or memory was refused, or `ReadOn` is
  -- answered (`FaultIsTimely`).
  abbrev pub FaultIsComplete : Type 0
  FaultIsComplete = (f : Fault)
      → BeginsWith (FrameBytesFault (option_map stream_with known) f)
      (held_from at (decoder_position old) bytes)
      → IsFaultyAnd result (λ fault. IsFault f fault.error)
      ⊎ (IsOutOfMemory result ⊎ IsReadOn result)

-- Where the stream ends and fewer than two bytes are left, that is answered.
abbrev pub EndIsComplete : ℕ → List ℕ → Bool → FrameDecoder → Result Event Error → Type 0
EndIsComplete at bytes is_end old result =
    length (held_from at (decoder_position old) bytes) < 2
    → ends_there at (decoder_position old) is_end ≡ true → result ≡ Ok End

module _ (known : Option StreamInfo) (at : ℕ) (bytes : List ℕ) (is_end : Bool)
    (old : FrameDecoder) (result : Result Event Error) where
  -- Where the stream ends within a frame, that is answered, or memory was refused.
  abbrev pub CutIsComplete : Type 0
  CutIsComplete =
      2 ≤ length (held_from at (decoder_position old) bytes)
      → IsOpen (option_map stream_with known) (held_from at (decoder_position old) bytes)
      → ends_there at (decoder_position old) is_end ≡ true
      → IsCutFrame result ⊎ IsOutOfMemory result

  -- Where neither a frame nor a fault stands in the bytes and the stream goes on, `ReadOn` is
  -- answered, or memory was refused.
  abbrev pub ReadOnIsComplete : Type 0
  ReadOnIsComplete =
      IsOpen (option_map stream_with known) (held_from at (decoder_position old) bytes)
      → ends_there at (decoder_position old) is_end ≡ false
      → IsReadOn result ⊎ IsOutOfMemory result

-- ---- what was noted, of each stream in which the bytes stand

module _ (known : Option StreamInfo) (at : ℕ) (bytes : List ℕ) (is_end : Bool)
    (old : FrameDecoder) where
  -- It stays right.
  abbrev pub KeepsNotes : FrameDecoder → Type 0
  KeepsNotes new = (stream : List ℕ) → StandsIn stream at bytes is_end
      → IsRightOf known stream old → IsRightOf known stream new

  -- `ReadOn` is answered only where no whole frame stands in the bytes, or over the budget.
  abbrev pub FrameIsTimely : Result Event Error → FrameDecoder → Type 0
  FrameIsTimely result new = (stream : List ℕ) → StandsIn stream at bytes is_end
      → IsRightOf known stream old → IsReadOn result
      → NoFrameLeft (option_map stream_with known) (held_from at (decoder_position old) bytes)
      ⊎ IsOverBudget new

  -- `ReadOn` is answered only where no fault stands in the first half of the bytes.
  abbrev pub FaultIsTimely : Result Event Error → Type 0
  FaultIsTimely result = (stream : List ℕ) → StandsIn stream at bytes is_end
      → IsRightOf known stream old → IsReadOn result
      → (f : Fault) (t rest : List ℕ) → FrameBytesFault (option_map stream_with known) f t
      → held_from at (decoder_position old) bytes ≡ t ++ rest
      → length (held_from at (decoder_position old) bytes) < 2 * length t

  -- Work is wasted only by a try in vain after bytes whose CRC-16 is 0, and no more than the try is
  -- charged.
  abbrev pub WasteIsInVain : Result Event Error → FrameDecoder → Type 0
  WasteIsInVain result new = (stream : List ℕ) → StandsIn stream at bytes is_end
      → IsRightOf known stream old → (tries_wasted new ≤ tries_wasted old)
      ⊎ (IsReadOn result
      × IsOpen (option_map stream_with known) (held_from at (decoder_position old) bytes)
      × IsZeroWithin (drop (decoder_position old) stream)
      (max (length (held_from at (decoder_position old) bytes)) (summed_bytes old.end))
      × (tries_wasted new ≤ tries_wasted old
      + cost_of_try (length (held_from at (decoder_position old) bytes))))

-- ---- what faults cost

-- There was a fault, or the stream ends within a frame.
abbrev pub IsFaultyOrCut : Result Event Error → Type 0
IsFaultyOrCut (Ok (Faulty fault)) = Unit {0}
IsFaultyOrCut (Ok (Cut at)) = Unit {0}
IsFaultyOrCut _ = ⊥

module _ (known : Option StreamInfo) (at : ℕ) (bytes : List ℕ) (is_end : Bool)
    (old : FrameDecoder) (result : Result Event Error) (new : FrameDecoder) where
  -- What a fault or a cut frame cost is noted: the bytes that are passed, and the samples that its
  -- header says. Of a stream that is the same, wherever it is cut.
  abbrev pub FaultIsCharged : Type 0
  FaultIsCharged = (stream : List ℕ) → StandsIn stream at bytes is_end
      → (IsFaultyOrCut result → (samples : ℕ)
      × SamplesAreSaid (option_map stream_with known) (drop (decoder_position old) stream) samples
      × (cost_of_faults new ≡ charged (cost_of_faults old)
      ((decoder_position new - decoder_position old) + samples)))
      × ((IsFaultyOrCut result → ⊥) → cost_of_faults new ≡ cost_of_faults old)

-- ---- where nothing is tried

-- What `waits` says, whatever is known of the stream: which bytes `decode_next` asks for, or None
-- where it tries to decode those that are there.
pub record IsWaiting (at : ℕ) (bytes : List ℕ) (is_end : Bool) (old : FrameDecoder)
    (result : Option NeededBytes) (new : FrameDecoder) : Type 0 where
  pub position : decoder_position new ≡ decoder_position old
  pub wastes_nothing : tries_wasted new ≤ tries_wasted old
  pub charges_nothing : cost_of_faults new ≡ cost_of_faults old
  pub tried : tried_bytes new.end ≡ tried_bytes old.end
  pub summed : summed_bytes new.end
      ≤ max (length (held_from at (decoder_position old) bytes)) (summed_bytes old.end)
  pub keeps_notes : (known : Option StreamInfo) → KeepsNotes known at bytes is_end old new
  -- `ReadOn` is right, and timely.
  pub needs : (needed : NeededBytes) → result ≡ Some needed
      → (needed ≡ needed_after (decoder_position old)
      (length (held_from at (decoder_position old) bytes)))
      × (ends_there at (decoder_position old) is_end ≡ false)
      × ((known : Option StreamInfo)
      → FrameIsTimely known at bytes is_end old (Ok (ReadOn needed)) new
      × FaultIsTimely known at bytes is_end old (Ok (ReadOn needed)))
  -- The bytes are due to be tried, or the CRC-16 was 0 after some of them.
  pub tries : result ≡ None → ends_there at (decoder_position old) is_end ≡ false
      → length (held_from at (decoder_position old) bytes) < 2 * tried_bytes old.end
      → (known : Option StreamInfo) (stream : List ℕ) → StandsIn stream at bytes is_end
      → IsRightOf known stream old
      → IsZeroWithin (drop (decoder_position old) stream) (summed_bytes new.end)

-- ---- parts of the code

-- The bytes are due to be tried where the stream ends with them, or they are twice as many as were
-- tried last.
abbrev pub IsDue : List ℕ → Bool → FrameDecoder → Bool → Type 0
IsDue rest ends s due =
    (due ≡ true) ↔ ((ends ≡ true) ⊎ (2 * tried_bytes s.end ≤ length rest))

-- The bytes are tried if they are due; else if a frame may end in them, within the budget.
pub record IsWorthATry (rest : List ℕ) (is_due : Bool) (old : FrameDecoder) (result : Bool)
    (new : FrameDecoder) : Type 0 where
  pub position : new.position ≡ old.position
  pub budget : new.budget ≡ old.budget
  pub faults : new.faults ≡ old.faults
  pub tried : tried_bytes new.end ≡ tried_bytes old.end
  pub summed : summed_bytes new.end ≤ max (length rest) (summed_bytes old.end)
  pub waits : result ≡ false → is_due ≡ false
  pub knows : (stream : Option StreamFormat) (bytes : List ℕ) → StartsWith bytes rest
      → Knows stream bytes old.end → Knows stream bytes new.end
      × (result ≡ false → NoFrameLeft stream rest ⊎ IsSpent old.budget)
      × (is_due ≡ false → result ≡ true → IsZeroWithin bytes (summed_bytes new.end))
