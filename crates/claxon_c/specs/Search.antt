-- What the calls answer that find the next frame of a stream in bytes that are handed in: the
-- events of `FrameFinder::find_next`.
use Rattle.std.specs.Prelude.{
  ◌≡◌,
  ℕ,
  ◌+◌,
  Bool,
  true,
  false,
  List,
  length,
  Option,
  Result,
  Ok,
  Err,
}
use Rattle.claxon.specs.Errors.{Error}
use Rattle.claxon.specs.StreamInfos.{StreamInfo}
use Rattle.claxon_stream.specs.Event.{needed_after}
use Rattle.claxon_stream.specs.FrameDecoder.{cost_of_faults, without_faults}
use Rattle.claxon_stream.specs.FrameFinder.{
  FindIsOfStream,
  FindIsTimely,
  FindKeepsNotes,
  FindNeedsMore,
  FindStartsRight,
  FindWasteIsInVain,
  GoesOn,
  finder_position,
}
use Rattle.claxon_stream.specs.HeadDecoder.{PositionFits}
use Rattle.claxon_stream.specs.Held.{held_from}
use Rattle.claxon_stream.specs.declared.event.FindEvent.{FindEvent}
use Rattle.claxon_stream.specs.declared.event.FindEvent.TheVariants.{Found, NotFound, ReadOn}
use Rattle.claxon_stream.specs.declared.finder.FrameFinder.{FrameFinder}
use Rattle.claxon_stream.specs.declared.frames.FrameDecoder.{FrameDecoder}
use Rattle.claxon_c.specs.declared.frames.ClaxonFrames.{ClaxonFrames}
use Rattle.claxon_c.specs.declared.heads.ClaxonInfo.{ClaxonInfo}
use Rattle.claxon_c.specs.declared.next_block.ClaxonBlock.{ClaxonBlock}
use Rattle.claxon_c.specs.declared.search.ClaxonSearch.{ClaxonSearch}
use Rattle.claxon_c.specs.declared.search.TheConstants.{HALF_OF_A_FRAME}
use Rattle.claxon_c.specs.HeldBytes.{is_full, says_yes}
use Rattle.claxon_c.specs.Info.{known_info}
use Rattle.claxon_c.specs.NextBlock.{ShowsInfo}
use Rattle.claxon_c.specs.Status.{need_more, no_more, ok, out_of_memory, unsupported}

abbrev pub needed_search : FrameFinder → ℕ → ClaxonSearch
needed_search finder needed = record { finder = finder; needed = needed }

-- the frames after a search was charged what their faults cost
abbrev pub charged_frames : ClaxonFrames → ClaxonFrames
charged_frames frames =
    record { decoder = without_faults frames.decoder; needed = frames.needed; last = frames.last }

-- It begins at the position, as with `FrameFinder::new`.
pub record SearchBegins (position : ℕ) (new : ClaxonSearch) : Type 0 where
  pub position_is : finder_position new.finder ≡ position
  pub starts_right : FindStartsRight new.finder
  pub needed : new.needed ≡ 0

-- The event and the search after it have the clauses of `FrameFinder::find_next`: by the bytes that
-- stand at the position `at`, and end the stream if `is_end` isn't 0.
pub record IsNextFind (known : Option StreamInfo) (at : ℕ) (bytes : List ℕ) (is_end : ℕ)
    (old : FrameFinder) (event : Result FindEvent Error) (new : FrameFinder) : Type 0 where
  pub is_of_stream : FindIsOfStream known at bytes (says_yes is_end) old event new
  pub needs_more : FindNeedsMore at bytes (says_yes is_end) event new
  pub keeps_notes : FindKeepsNotes known at bytes (says_yes is_end) old new
  pub is_timely : FindIsTimely known at bytes (says_yes is_end) old event new
  pub waste_is_in_vain : FindWasteIsInVain known at bytes (says_yes is_end) old event new

-- whether bytes are needed, though as many are held as a frame may have
abbrev pub lacks_end : Result FindEvent Error → Bool → Bool
lacks_end (Ok (ReadOn needed)) full = full
lacks_end (Ok (Found position frame)) full = false
lacks_end (Ok NotFound) full = false
lacks_end (Err e) full = false

-- whether there is no frame
abbrev pub finds_none : Result FindEvent Error → Bool
finds_none (Ok NotFound) = true
finds_none (Ok (Found position frame)) = false
finds_none (Ok (ReadOn needed)) = false
finds_none (Err e) = false

-- The search goes on from the position, and more bytes are needed than are held from there on.
pub record GoesOnAt (at : ℕ) (bytes : List ℕ) (position : ℕ) (old : FrameFinder)
    (event : Result FindEvent Error) (new : FrameFinder) : Type 0 where
  pub decoder : FrameDecoder
  pub no_faults : cost_of_faults decoder ≡ 0
  pub goes_on : GoesOn position decoder old new
  pub needed : event ≡ Ok (ReadOn (needed_after position (length (held_from at position bytes))))

-- The event is the next one of a stream that ends with the bytes. If they have no whole frame, the
-- search goes on in the second half of as many bytes as a frame may have.
pub record IsFindWithin (known : Option StreamInfo) (at : ℕ) (bytes : List ℕ) (old : FrameFinder)
    (event : Result FindEvent Error) (new : FrameFinder) : Type 0 where
  pub found : Result FindEvent Error
  pub next : FrameFinder
  pub is_next : IsNextFind known at bytes 1 old found next
  pub some : finds_none found ≡ false → (event ≡ found) × (new ≡ next)
  pub none : finds_none found ≡ true
      → GoesOnAt at bytes (finder_position old + HALF_OF_A_FRAME) next event new

-- The event is the next one, unless a frame doesn't end in as many bytes as it may have.
pub record IsFindOfHeld (known : Option StreamInfo) (at : ℕ) (bytes : List ℕ) (is_end : ℕ)
    (old : FrameFinder) (event : Result FindEvent Error) (new : FrameFinder) : Type 0 where
  pub found : Result FindEvent Error
  pub next : FrameFinder
  pub is_next : IsNextFind known at bytes is_end old found next
  pub timely : lacks_end found (is_full at (finder_position next) bytes) ≡ false
      → (event ≡ found) × (new ≡ next)
  pub too_long : lacks_end found (is_full at (finder_position next) bytes) ≡ true
      → IsFindWithin known at bytes next event new

module _ (info : ClaxonInfo) (at : ℕ) (bytes : List ℕ) (is_end : ℕ) where
  -- `from` and `to` are the position that is shown before and after the call, `block` and `shown`
  -- the block.
  module _ (old : ClaxonSearch) (status : ℕ) (new : ClaxonSearch) (from to : ℕ)
      (block shown : ClaxonBlock) where
    -- what is shown of an event
    abbrev pub ShowsFind : Result FindEvent Error → FrameFinder → Type 0
    ShowsFind (Ok (Found position frame)) next =
        (status ≡ ok) × (new ≡ needed_search next 0) × (to ≡ position)
        × ShowsInfo frame.info shown
    ShowsFind (Ok NotFound) next =
        (status ≡ no_more) × (new ≡ needed_search next 0) × (to ≡ from) × (shown ≡ block)
    ShowsFind (Ok (ReadOn needed)) next =
        (status ≡ need_more) × (new ≡ needed_search next needed.count) × (to ≡ from)
        × (shown ≡ block)
    ShowsFind (Err e) next =
        (status ≡ out_of_memory) × (new ≡ needed_search next 0) × (to ≡ from) × (shown ≡ block)

    -- The next event is shown.
    abbrev pub CFindIsAnswered : Type 0
    CFindIsAnswered =
        PositionFits (at + length bytes)
        → (event : Result FindEvent Error) × (next : FrameFinder)
        × IsFindOfHeld (known_info info) at bytes is_end old.finder event next
        × ShowsFind event next

-- Bytes up to the position 2^63 or after it are unsupported, and nothing is changed.
abbrev pub CFindTooFarIsUnsupported : ℕ → List ℕ → ClaxonSearch → ℕ → ClaxonSearch → ℕ → ℕ
    → ClaxonBlock → ClaxonBlock → Type 0
CFindTooFarIsUnsupported at bytes old status new from to block shown =
    (PositionFits (at + length bytes) → ⊥)
    → (status ≡ unsupported) × (new ≡ old) × (to ≡ from) × (shown ≡ block)
