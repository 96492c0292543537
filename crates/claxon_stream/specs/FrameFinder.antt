-- What `FrameFinder::find_next` promises.
use Rattle.std.specs.Prelude.{
  ◌≡◌,
  ◌≢◌,
  ◌⊎◌,
  ℕ,
  ◌+◌,
  ◌-◌,
  ◌*◌,
  ◌<◌,
  ◌≤◌,
  Bool,
  true,
  false,
  List,
  ◌++◌,
  drop,
  length,
  max,
  Option,
  None,
  Result,
  Ok,
}
use Rattle.claxon.specs.BlockInfos.{BlockInfo}
use Rattle.claxon.specs.Errors.{Error}
use Rattle.claxon.specs.Fault.{Fault}
use Rattle.claxon.specs.Frame.{FrameBytesFault, NoFrameLeft}
use Rattle.claxon.specs.StreamInfos.{StreamInfo}
use Rattle.claxon_seek.specs.Find.{EndsInHeader, WantedHeader, known_format}
use Rattle.claxon_stream.specs.Budget.{
  charged,
  cost_of_try,
  counted_position,
  made_good,
  wasted_work,
  work_left,
}
use Rattle.claxon_stream.specs.Event.{IsOpen, needed_after}
use Rattle.claxon_stream.specs.FrameDecoder.{
  IsFromPosition,
  IsOverBudget,
  IsRightOf,
  StartsRight,
  cost_of_faults,
  decoder_position,
  tries_wasted,
}
use Rattle.claxon_stream.specs.FrameEnd.{IsZeroWithin, summed_bytes}
use Rattle.claxon_stream.specs.Held.{StandsIn, ends_there, held_from}
use Rattle.claxon_stream.specs.Search.{Cost, FindEventIs, FitsBudget, after_bytes, after_work}
use Rattle.claxon_stream.specs.declared.event.FindEvent.{FindEvent}
use Rattle.claxon_stream.specs.declared.event.FindEvent.TheVariants.{ReadOn}
use Rattle.claxon_stream.specs.declared.finder.FrameFinder.{FrameFinder}
use Rattle.claxon_stream.specs.declared.frames.FrameDecoder.{FrameDecoder}

-- `finder.position()`
abbrev pub finder_position : FrameFinder → ℕ
finder_position s = decoder_position s.decoder

-- `finder.has_passed_over()`
abbrev pub HasPassedOver : FrameFinder → Type 0
HasPassedOver s = s.has_passed_over ≡ true

-- `finder.is_over_budget()`
abbrev pub FinderIsOverBudget : FrameFinder → Type 0
FinderIsOverBudget s = IsOverBudget s.decoder

-- what the search has cost up to its position
abbrev pub finder_cost : FrameFinder → Cost
finder_cost s = record { wasted = wasted_work s.budget; passes_over = s.has_passed_over }

-- A new search has cost nothing, and what it notes is so of every stream.
pub record FindStartsRight (s : FrameFinder) : Type 0 where
  pub notes : StartsRight s.decoder
  pub tries : tries_wasted s.decoder ≡ 0
  pub nothing : finder_cost s ≡ record { wasted = 0; passes_over = false }

-- The search answers that bytes are needed.
abbrev pub IsFindReadOn : Result FindEvent Error → Type 0
IsFindReadOn (Ok (ReadOn needed)) = Unit {0}
IsFindReadOn _ = ⊥

-- the answer that bytes are needed where so many are held from the position on
abbrev pub read_on : ℕ → ℕ → FindEvent
read_on position held = ReadOn (needed_after position held)

-- ---- the clauses. `old` and `new` are the search before and after the call.

-- What is answered is that of each stream in which the bytes stand.
abbrev pub FindIsOfStream : Option StreamInfo → ℕ → List ℕ → Bool → FrameFinder
    → Result FindEvent Error → FrameFinder → Type 0
FindIsOfStream known at bytes is_end old result new =
    (stream : List ℕ) → StandsIn stream at bytes is_end
    → FindEventIs known (drop (finder_position old) stream) (finder_position old)
    (finder_cost old) result (finder_position new) (finder_cost new)

module _ (at : ℕ) (bytes : List ℕ) (is_end : Bool) (result : Result FindEvent Error)
    (new : FrameFinder) where
  -- `ReadOn` says that one byte more than are held from the position on is needed, and two at
  -- least. It is answered only where the stream may go on.
  abbrev pub FindNeedsMore : Type 0
  FindNeedsMore =
      IsFindReadOn result
      → (result ≡ Ok (read_on (finder_position new)
      (length (held_from at (finder_position new) bytes))))
      × (ends_there at (finder_position new) is_end ≡ false)

-- The bytes that are held end within what may be a header of the stream. Or they begin with one
-- whose frame is tried, no whole frame stands there unless tries are over budget, and no fault
-- stands in the first half.
abbrev pub IsUndecided : Option StreamInfo → List ℕ → FrameFinder → Type 0
IsUndecided known held new =
    (length held < 2)
    ⊎ (EndsInHeader known held
    ⊎ ((info : BlockInfo) × WantedHeader known None held info × FitsBudget (finder_cost new) info
    × (NoFrameLeft (known_format known) held ⊎ FinderIsOverBudget new)
    × ((f : Fault) (t rest : List ℕ) → FrameBytesFault (known_format known) f t
    → held ≡ t ++ rest → length held < 2 * length t)))

module _ (known : Option StreamInfo) (at : ℕ) (bytes : List ℕ) (is_end : Bool) where
  -- What the search noted of the frame at its position stays right.
  abbrev pub FindKeepsNotes : FrameFinder → FrameFinder → Type 0
  FindKeepsNotes old new = (stream : List ℕ) → StandsIn stream at bytes is_end
      → IsRightOf known stream old.decoder → IsRightOf known stream new.decoder

  -- `ReadOn` is answered only where it isn't decided what begins at the position.
  abbrev pub FindIsTimely : FrameFinder → Result FindEvent Error → FrameFinder → Type 0
  FindIsTimely old result new = (stream : List ℕ) → StandsIn stream at bytes is_end
      → IsRightOf known stream old.decoder → IsFindReadOn result
      → IsUndecided known (held_from at (finder_position new) bytes) new

  -- Of the budget of tries, work is wasted only by a try in vain after bytes whose CRC-16 is 0, and
  -- no more than the try is charged.
  abbrev pub FindWasteIsInVain : FrameFinder → Result FindEvent Error → FrameFinder → Type 0
  FindWasteIsInVain old result new = (stream : List ℕ) → StandsIn stream at bytes is_end
      → IsRightOf known stream old.decoder
      → (tries_wasted new.decoder ≤ tries_wasted old.decoder)
      ⊎ (IsFindReadOn result
      × IsOpen (known_format known) (held_from at (finder_position new) bytes)
      × IsZeroWithin (drop (finder_position new) stream)
      (max (length (held_from at (finder_position new) bytes)) (summed_bytes old.decoder.end))
      × (tries_wasted new.decoder ≤ tries_wasted old.decoder
      + cost_of_try (length (held_from at (finder_position new) bytes))))

-- ---- parts of the code

-- what the search has cost up to a position, where it is counted up to one before it
abbrev pub cost_at : FrameFinder → ℕ → Cost
cost_at s position = record {
  wasted = made_good (wasted_work s.budget) (position - counted_position s.budget);
  passes_over = s.has_passed_over;
}

-- Nothing is left of the budget at the position, and it is noted that a header was passed over.
abbrev pub PassesUnread : ℕ → FrameFinder → Type 0
PassesUnread position s =
    (s.has_passed_over ≡ true) × (work_left ((cost_at s position).wasted) < 1)

-- The decoder is at the position: it is as before if it was there, else it begins there.
abbrev pub GoesTo : ℕ → FrameFinder → FrameFinder → Type 0
GoesTo position old new =
    (finder_position new ≡ position)
    × (((finder_position old ≡ position) × (new.decoder ≡ old.decoder))
    ⊎ ((finder_position old ≢ position) × IsFromPosition old.decoder position new.decoder))

-- The position moves there, and the cost is counted up to it.
pub record MovesTo (position : ℕ) (old new : FrameFinder) : Type 0 where
  pub goes : GoesTo position old new
  pub cost : finder_cost new ≡ cost_at old position
  pub counted : counted_position new.budget ≡ max (counted_position old.budget) position

-- The search goes on from the position. What it cost stays, but for what the bytes up to there make
-- good, and what the faults of the decoder cost is added.
pub record GoesOn (position : ℕ) (decoder : FrameDecoder) (old new : FrameFinder) : Type 0 where
  pub goes : GoesTo position old new
  pub cost :
      finder_cost new ≡ after_work (cost_of_faults decoder)
      (after_bytes (position - finder_position old) (finder_cost old))

-- The position moves there if the block has no more samples than are left of the budget; else it is
-- noted that the header is passed over.
pub record IsTriedOrPassedOver (position samples : ℕ) (old : FrameFinder) (result : Bool)
    (new : FrameFinder) : Type 0 where
  pub counted : counted_position new.budget ≡ max (counted_position old.budget) position
  pub wasted : wasted_work new.budget ≡ (cost_at old position).wasted
  pub tried : result ≡ true → (samples ≤ work_left (wasted_work new.budget))
      × (new.has_passed_over ≡ old.has_passed_over) × GoesTo position old new
  pub passed_over : result ≡ false → (work_left (wasted_work new.budget) < samples)
      × (new.has_passed_over ≡ true) × (new.decoder ≡ old.decoder)

-- These samples and the bytes up to the decoder's position are charged, and it begins after the
-- position.
pub record IsNotedInVain (position samples : ℕ) (old new : FrameFinder) : Type 0 where
  pub decoder : IsFromPosition old.decoder (position + 1) new.decoder
  pub cost : finder_cost new ≡ record {
    wasted = charged (wasted_work old.budget) ((finder_position old - position) + samples);
    passes_over = old.has_passed_over;
  }
  pub counted : counted_position new.budget ≡ counted_position old.budget
