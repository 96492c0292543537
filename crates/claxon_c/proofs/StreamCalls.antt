-- What the calls answer for streams in pieces.
use Rattle.std.proofs.Common.{◌≡◌, ℕ, List, Option, subst}
use Rattle.std.specs.Prelude.{Result}
use Rattle.claxon.specs.Errors.{Error}
use Rattle.claxon.specs.StreamInfos.{StreamInfo}
use Rattle.claxon_stream.specs.FrameDecoder.{CutIsComplete, EndIsComplete, EventIsOfStream, EventIsSound, FaultIsCharged, FaultIsComplete, FaultIsTimely, FrameIsComplete, FrameIsTimely, KeepsNotes, ReadOnIsComplete, WasteIsInVain}
use Rattle.claxon_stream.specs.declared.event.Event.{Event}
use Rattle.claxon_stream.specs.declared.event.FindEvent.{FindEvent}
use Rattle.claxon_stream.specs.declared.finder.FrameFinder.{FrameFinder}
use Rattle.claxon_stream.specs.declared.frames.FrameDecoder.{FrameDecoder}
use Rattle.claxon_stream_seek.specs.Search.{SearchNeedsMore}
use Rattle.claxon_stream_seek.specs.Seeker.{SeekIsOfStream, SeekKeepsSought}
use Rattle.claxon_stream_seek.specs.declared.event.SeekEvent.{SeekEvent}
use Rattle.claxon_stream_seek.specs.declared.seeker.Seeker.{Seeker}
use Rattle.claxon_c.specs.declared.heads.ClaxonInfo.{ClaxonInfo}
use Rattle.claxon_c.specs.Frames.{IsNextEvent}
use Rattle.claxon_c.specs.HeldBytes.{says_yes}
use Rattle.claxon_c.specs.Info.{known_info}
use Rattle.claxon_c.specs.Search.{IsFindOfHeld}
use Rattle.claxon_c.specs.Seeker.{IsNextSeek}

module _ (info : ClaxonInfo) (known : Option StreamInfo) (same : known ≡ known_info info) (at : ℕ) (bytes : List ℕ) (is_end : ℕ) where
  -- an event that has these clauses is the next one
  pub next_event : (capacity : ℕ) (old : FrameDecoder) (event : Result Event Error) (new : FrameDecoder)
      → EventIsSound known capacity at bytes (says_yes is_end) old event new
      → EventIsOfStream known capacity at bytes (says_yes is_end) old event new
      → FrameIsComplete known at bytes old event
      → FaultIsComplete known at bytes old event
      → EndIsComplete at bytes (says_yes is_end) old event
      → CutIsComplete known at bytes (says_yes is_end) old event
      → ReadOnIsComplete known at bytes (says_yes is_end) old event
      → KeepsNotes known at bytes (says_yes is_end) old new
      → FrameIsTimely known at bytes (says_yes is_end) old event new
      → FaultIsTimely known at bytes (says_yes is_end) old event
      → WasteIsInVain known at bytes (says_yes is_end) old event new
      → FaultIsCharged known at bytes (says_yes is_end) old event new
      → IsNextEvent (known_info info) at bytes is_end old event new
  next_event capacity old event new sound stream frame fault end cut more notes timely fault_timely waste charged =
      subst (λ (k : Option StreamInfo). IsNextEvent k at bytes is_end old event new) same (record {
        capacity = capacity;
        is_sound = sound;
        is_of_stream = stream;
        frame_is_complete = frame;
        fault_is_complete = fault;
        end_is_complete = end;
        cut_is_complete = cut;
        read_on_is_complete = more;
        keeps_notes = notes;
        frame_is_timely = timely;
        fault_is_timely = fault_timely;
        waste_is_in_vain = waste;
        fault_is_charged = charged;
      })

  -- so is one of a search
  pub find_of_held : (old : FrameFinder) (event : Result FindEvent Error) (new : FrameFinder)
      → IsFindOfHeld known at bytes is_end old event new
      → IsFindOfHeld (known_info info) at bytes is_end old event new
  find_of_held old event new is =
      subst (λ (k : Option StreamInfo). IsFindOfHeld k at bytes is_end old event new) same is

  -- so is one of a seek
  pub next_seek : (old : Seeker) (event : Result SeekEvent Error) (new : Seeker)
      → SeekKeepsSought old new
      → SeekIsOfStream known at bytes (says_yes is_end) old event new
      → SearchNeedsMore at bytes (says_yes is_end) event
      → IsNextSeek (known_info info) at bytes is_end old event new
  next_seek old event new keeps stream more =
      subst (λ (k : Option StreamInfo). IsNextSeek k at bytes is_end old event new) same (record {
        keeps_sought = keeps;
        is_of_stream = stream;
        needs_more = more;
      })
