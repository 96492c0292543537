-- What the calls answer that seek in a stream in bytes that are handed in: the events of
-- `Seeker::seek_next`.
use Rattle.std.specs.Prelude.{
  ◌≡◌,
  ◌⊎◌,
  ℕ,
  ℤ,
  ◌+◌,
  ◌*◌,
  ◌<◌,
  ◌≤◌,
  List,
  length,
  Option,
  Result,
  Ok,
  Err,
}
use Rattle.claxon.specs.Block.{BlockValue}
use Rattle.claxon.specs.BlockInfos.{BlockInfo}
use Rattle.claxon.specs.Errors.{Error}
use Rattle.claxon.specs.StreamInfos.{StreamInfo}
use Rattle.claxon.specs.Streams.{duration_of}
use Rattle.claxon_stream.specs.HeadDecoder.{PositionFits}
use Rattle.claxon_stream_seek.specs.Kept.{kept_seeker}
use Rattle.claxon_stream_seek.specs.Search.{SearchNeedsMore}
use Rattle.claxon_stream_seek.specs.Seeker.{
  SeekIsOfStream,
  SeekKeepsSought,
  SeekStartsRight,
  sought_by,
  sought_with,
}
use Rattle.claxon_stream_seek.specs.declared.clock.Clock.{Clock}
use Rattle.claxon_stream_seek.specs.declared.event.SeekEvent.{SeekEvent}
use Rattle.claxon_stream_seek.specs.declared.event.SeekEvent.TheVariants.{
  Found,
  NotFound,
  OverBudget,
  ReadOn,
}
use Rattle.claxon_stream_seek.specs.declared.event.SoughtFrame.{SoughtFrame}
use Rattle.claxon_stream_seek.specs.declared.seeker.Seeker.{Seeker}
use Rattle.claxon_c.specs.declared.frame.ClaxonFrame.{ClaxonFrame}
use Rattle.claxon_c.specs.declared.heads.ClaxonInfo.{ClaxonInfo}
use Rattle.claxon_c.specs.declared.next_block.ClaxonBlock.{ClaxonBlock}
use Rattle.claxon_c.specs.declared.seeker.ClaxonSeeker.{ClaxonSeeker}
use Rattle.claxon_c.specs.HeldBytes.{says_yes}
use Rattle.claxon_c.specs.declared.held.TheConstants.{MAX_FRAME_BYTES}
use Rattle.claxon_c.specs.Info.{known_info}
use Rattle.claxon_c.specs.NextBlock.{SampleOrder, ShowsInfo}
use Rattle.claxon_c.specs.ShownFrame.{no_frame, shown_frame}
use Rattle.claxon_c.specs.Status.{
  buffer_too_small,
  need_more,
  no_more,
  ok,
  out_of_memory,
  over_budget,
  unsupported,
}

-- This seeker is kept, with which bytes are needed, and the frame that was found.
pub record KeepsSeeker (next : Seeker) (position needed : ℕ) (found : ClaxonFrame)
    (new : ClaxonSeeker) : Type 0 where
  pub seeker_is : kept_seeker new.kept ≡ next
  pub position_is : new.position ≡ position
  pub needed_is : new.needed ≡ needed
  pub found_is : new.found ≡ found

-- what a header says, with this time in place of its own
abbrev pub info_at : ℕ → BlockInfo → BlockInfo
info_at time info = record info { time = time }

-- The sample is sought by the clock, from the first frame on, as with `Seeker::new`.
pub record SeekBegins (info : ClaxonInfo) (sample : ℕ) (clock : Clock) (new : ClaxonSeeker) : Type 0
  where
    pub sought : sought_by (kept_seeker new.kept) ≡ sought_with clock sample info.first_frame
    pub starts_right : SeekStartsRight (kept_seeker new.kept)
    pub needed : new.needed ≡ 0
    pub found : new.found ≡ no_frame

-- The event and the seeker after it have the clauses of `Seeker::seek_next`: by the bytes that
-- stand at the position `at`, and end the stream if `is_end` isn't 0.
pub record IsNextSeek (known : Option StreamInfo) (at : ℕ) (bytes : List ℕ) (is_end : ℕ)
    (old : Seeker) (event : Result SeekEvent Error) (new : Seeker) : Type 0 where
  pub keeps_sought : SeekKeepsSought old new
  pub is_of_stream : SeekIsOfStream known at bytes (says_yes is_end) old event new
  pub needs_more : SearchNeedsMore at bytes (says_yes is_end) event

module _ (info : ClaxonInfo) (at : ℕ) (bytes : List ℕ) (is_end : ℕ) where
  -- A frame is found whose block has the sample, with no more samples than the capacity. It is
  -- shown, and its block with the time at which it begins.
  pub record FindsSought (capacity : ℕ) (old : ClaxonSeeker) (found : SoughtFrame)
      (new : ClaxonSeeker) (shown : ClaxonBlock) : Type 0 where
    pub next : Seeker
    pub is_next :
        IsNextSeek (known_info info) at bytes is_end (kept_seeker old.kept) (Ok (Found found)) next
    pub keeps : KeepsSeeker next found.position 0
        (shown_frame found.position found.end found.frame.info) new
    pub fits :
        length found.frame.block.channels * duration_of found.frame.block.channels ≤ capacity
    pub shows : ShowsInfo (info_at found.time found.frame.info) shown

  -- What is shown of another event: a frame whose samples don't fit, and which is to be sought
  -- again; that there is none, or none within the budget; which bytes are needed, if they are no
  -- more than a frame may have; or that memory was refused.
  module _ (capacity : ℕ) (old : ClaxonSeeker) (status : ℕ) (new : ClaxonSeeker)
      (block shown : ClaxonBlock) where
    abbrev pub ShowsSeek : Result SeekEvent Error → Seeker → Type 0
    ShowsSeek (Ok (Found found)) next =
        (status ≡ buffer_too_small)
        × (capacity < length found.frame.block.channels * duration_of found.frame.block.channels)
        × (new ≡ old) × ShowsInfo (info_at found.time found.frame.info) shown
    ShowsSeek (Ok NotFound) next =
        (status ≡ no_more) × KeepsSeeker next old.position 0 old.found new × (shown ≡ block)
    ShowsSeek (Ok OverBudget) next =
        (status ≡ over_budget) × KeepsSeeker next old.position 0 old.found new
        × (shown ≡ block)
    ShowsSeek (Ok (ReadOn needed)) next =
        (((needed.count ≤ MAX_FRAME_BYTES) × (status ≡ need_more)
        × KeepsSeeker next needed.position needed.count old.found new)
        ⊎ ((MAX_FRAME_BYTES < needed.count) × (status ≡ over_budget)
        × KeepsSeeker next old.position 0 old.found new))
        × (shown ≡ block)
    ShowsSeek (Err e) next =
        (status ≡ out_of_memory) × KeepsSeeker next old.position 0 old.found new
        × (shown ≡ block)

    -- So it is shown of the next event.
    abbrev pub ShowsNextSeek : Type 0
    ShowsNextSeek =
        (event : Result SeekEvent Error) × (next : Seeker)
        × IsNextSeek (known_info info) at bytes is_end (kept_seeker old.kept) event next
        × ShowsSeek event next

  -- The block that has the sample is returned; or the status that is shown of another event.
  abbrev pub NextSought : ℕ → ClaxonSeeker → Result BlockValue ℕ → ClaxonSeeker → ClaxonBlock
      → ClaxonBlock → Type 0
  NextSought capacity old (Ok block_found) new block shown =
      (found : SoughtFrame) × (found.frame.block ≡ block_found)
      × FindsSought capacity old found new shown
  NextSought capacity old (Err status) new block shown =
      ShowsNextSeek capacity old status new block shown

  -- With `ok` a frame is found, and its samples are stored. With another status they stay as they
  -- are, and another event is shown.
  abbrev pub CSeekIsAnswered : SampleOrder → ClaxonSeeker → ℕ → ClaxonSeeker → List ℤ → List ℤ
      → ClaxonBlock → ClaxonBlock → Type 0
  CSeekIsAnswered Put old status new samples stored block shown =
      PositionFits (at + length bytes)
      → ((status ≡ ok)
      × ((found : SoughtFrame) × FindsSought (length samples) old found new shown
      × Put found.frame.block.channels samples stored))
      ⊎ (ShowsNextSeek (length samples) old status new block shown × (stored ≡ samples))

-- Bytes up to the position 2^63 or after it are unsupported, and nothing is changed.
abbrev pub CSeekTooFarIsUnsupported : ℕ → List ℕ → ClaxonSeeker → ℕ → ClaxonSeeker
    → List ℤ → List ℤ → ClaxonBlock → ClaxonBlock → Type 0
CSeekTooFarIsUnsupported at bytes old status new samples stored block shown =
    (PositionFits (at + length bytes) → ⊥)
    → (status ≡ unsupported) × (new ≡ old) × (stored ≡ samples) × (shown ≡ block)
