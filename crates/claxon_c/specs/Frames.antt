-- What the calls answer that decode the frames of a stream in bytes that are handed in: the events
-- of `FrameDecoder::decode_next`.
use Rattle.std.specs.Prelude.{
  ◌≡◌,
  ◌⊎◌,
  ℕ,
  ℤ,
  ◌+◌,
  ◌*◌,
  ◌<◌,
  ◌≤◌,
  Bool,
  true,
  false,
  List,
  codes,
  length,
  Option,
  None,
  Some,
  Result,
  Ok,
  Err,
}
use Rattle.claxon.specs.Block.{BlockValue}
use Rattle.claxon.specs.BlockInfo.{HeaderOf}
use Rattle.claxon.specs.BlockInfos.{BlockInfo}
use Rattle.claxon.specs.Errors.{Error}
use Rattle.claxon.specs.Frame.{StreamFormat}
use Rattle.claxon.specs.FrameReader.{HeaderOfLargerBlock}
use Rattle.claxon.specs.Prefix.{BeginsWith}
use Rattle.claxon.specs.StreamInfos.{StreamInfo}
use Rattle.claxon.specs.Streams.{duration_of}
use Rattle.claxon_stream.specs.FrameDecoder.{
  CutIsComplete,
  EndIsComplete,
  EventIsOfStream,
  EventIsSound,
  FaultIsCharged,
  FaultIsComplete,
  FaultIsTimely,
  FrameIsComplete,
  FrameIsTimely,
  IsWaiting,
  KeepsNotes,
  ReadOnIsComplete,
  StartsRight,
  WasteIsInVain,
  cost_of_faults,
  decoder_position,
  tries_wasted,
}
use Rattle.claxon_stream.specs.HeadDecoder.{PositionFits}
use Rattle.claxon_stream.specs.Held.{held_from}
use Rattle.claxon_stream.specs.declared.event.Event.{Event}
use Rattle.claxon_stream.specs.declared.event.Event.TheVariants.{Cut, Decoded, End, Faulty, ReadOn}
use Rattle.claxon_stream.specs.declared.event.NeededBytes.{NeededBytes}
use Rattle.claxon_stream.specs.declared.frames.FrameDecoder.{FrameDecoder}
use Rattle.claxon_c.specs.declared.frame.ClaxonFrame.{ClaxonFrame}
use Rattle.claxon_c.specs.declared.frames.ClaxonFrames.{ClaxonFrames}
use Rattle.claxon_c.specs.declared.heads.ClaxonInfo.{ClaxonInfo}
use Rattle.claxon_c.specs.declared.next_block.ClaxonBlock.{ClaxonBlock}
use Rattle.claxon_c.specs.HeldBytes.{
  PositionIsReported,
  frame_bytes,
  frame_end,
  is_full,
  says_yes,
}
use Rattle.claxon_c.specs.Info.{known_info, known_stream}
use Rattle.claxon_c.specs.NextBlock.{SampleOrder, ShowsInfo}
use Rattle.claxon_c.specs.ShownFrame.{no_frame, shown_frame}
use Rattle.claxon_c.specs.Status.{
  ErrorIsReported,
  TextIsPut,
  buffer_too_small,
  format_error,
  input_ends,
  need_more,
  no_more,
  ok,
}

abbrev pub needed_frames : FrameDecoder → ℕ → ClaxonFrame → ClaxonFrames
needed_frames decoder needed last = record { decoder = decoder; needed = needed; last = last }

-- They begin at the position, as with `FrameDecoder::new`.
pub record FramesBegin (position : ℕ) (new : ClaxonFrames) : Type 0 where
  pub position_is : decoder_position new.decoder ≡ position
  pub starts_right : StartsRight new.decoder
  pub wastes_nothing : tries_wasted new.decoder ≡ 0
  pub no_faults : cost_of_faults new.decoder ≡ 0
  pub needed : new.needed ≡ 0
  pub last : new.last ≡ no_frame

-- The event and the decoder after it have the clauses of `FrameDecoder::decode_next`, with an empty
-- buffer: by the bytes that stand at the position `at`, and end the stream if `is_end` isn't 0.
pub record IsNextEvent (known : Option StreamInfo) (at : ℕ) (bytes : List ℕ) (is_end : ℕ)
    (old : FrameDecoder) (event : Result Event Error) (new : FrameDecoder) : Type 0 where
  pub capacity : ℕ
  pub is_sound : EventIsSound known capacity at bytes (says_yes is_end) old event new
  pub is_of_stream : EventIsOfStream known capacity at bytes (says_yes is_end) old event new
  pub frame_is_complete : FrameIsComplete known at bytes old event
  pub fault_is_complete : FaultIsComplete known at bytes old event
  pub end_is_complete : EndIsComplete at bytes (says_yes is_end) old event
  pub cut_is_complete : CutIsComplete known at bytes (says_yes is_end) old event
  pub read_on_is_complete : ReadOnIsComplete known at bytes (says_yes is_end) old event
  pub keeps_notes : KeepsNotes known at bytes (says_yes is_end) old new
  pub frame_is_timely : FrameIsTimely known at bytes (says_yes is_end) old event new
  pub fault_is_timely : FaultIsTimely known at bytes (says_yes is_end) old event
  pub waste_is_in_vain : WasteIsInVain known at bytes (says_yes is_end) old event new
  pub fault_is_charged : FaultIsCharged known at bytes (says_yes is_end) old event new

-- Bytes are needed before anything can be decoded, and it is noted how many. Or nothing is changed.
abbrev pub FramesWait : ℕ → List ℕ → ℕ → ClaxonFrames → Bool → ClaxonFrames → Type 0
FramesWait at bytes is_end old true new =
    (needed : NeededBytes) × (next : FrameDecoder)
    × IsWaiting at (frame_bytes at (decoder_position old.decoder) bytes)
    (says_yes (frame_end at (decoder_position old.decoder) bytes is_end)) old.decoder (Some needed)
    next
    × (new ≡ needed_frames next needed.count old.last)
FramesWait at bytes is_end old false new = new ≡ old

-- how many bytes are needed after an event
abbrev pub needed_by : Result Event Error → ℕ
needed_by (Ok (ReadOn needed)) = needed.count
needed_by _ = 0

-- the frame that an event has decoded, between these positions, else the one before
abbrev pub last_frame : Result Event Error → ℕ → ℕ → ClaxonFrame → ClaxonFrame
last_frame (Ok (Decoded frame)) position end last = shown_frame position end frame.info
last_frame _ position end last = last

-- the frames after an event
abbrev pub next_frames : ClaxonFrames → Result Event Error → FrameDecoder → ClaxonFrames
next_frames old event next =
    needed_frames next (needed_by event)
    (last_frame event (decoder_position old.decoder) (decoder_position next) old.last)

-- The header says this that the bytes begin with, and its block has more samples than the capacity.
-- Or they begin with none of such a block.
abbrev pub IsLargerHeader : Option StreamFormat → List ℕ → ℕ → Option BlockInfo → Type 0
IsLargerHeader stream bytes capacity (Some said) =
    BeginsWith (HeaderOf stream said) bytes × (capacity < said.channels * said.duration)
IsLargerHeader stream bytes capacity None =
    BeginsWith (HeaderOfLargerBlock stream capacity) bytes → ⊥

-- `full` says that as many bytes are held as a frame may have. `block` and `shown` are what is shown
-- of a block before and after the call, `before` and `after` the text.
module _ (full : Bool) (block shown : ClaxonBlock) (before after : List ℕ) where
  -- A frame isn't whole: it is too long, or the stream ends within it.
  abbrev pub CutIsShown : ℕ → Type 0
  CutIsShown status =
      ((full ≡ true) × (status ≡ format_error)
      × TextIsPut (codes "frame longer than 16777215 bytes") before after)
      ⊎ ((full ≡ false) × (status ≡ input_ends)
      × TextIsPut (codes "the bytes end") before after)

  -- The status of an event without a block, and what is shown of it: the end of the stream; a
  -- fault; a frame that isn't whole; that bytes are needed; or that memory was refused.
  abbrev pub ShowsStatus : Result Event Error → ℕ → Type 0
  ShowsStatus (Ok (Decoded frame)) status = ⊥
  ShowsStatus (Ok End) status = (status ≡ no_more) × (shown ≡ block) × (after ≡ before)
  ShowsStatus (Ok (Faulty fault)) status =
      ErrorIsReported fault.error status before after × (shown ≡ block)
  ShowsStatus (Ok (Cut position)) status = CutIsShown status × (shown ≡ block)
  ShowsStatus (Ok (ReadOn needed)) status =
      (status ≡ need_more) × (shown ≡ block) × (after ≡ before)
  ShowsStatus (Err e) status = ErrorIsReported e status before after × (shown ≡ block)

  -- The block of a frame, of which is shown what its header says; or the status.
  abbrev pub IsBlockOrStatus : Result Event Error → Result BlockValue ℕ → Type 0
  IsBlockOrStatus event (Ok found) =
      (said : BlockInfo) × (event ≡ Ok (Decoded (record { info = said; block = found })))
      × ShowsInfo said shown × (after ≡ before)
  IsBlockOrStatus event (Err status) = ShowsStatus event status

module _ (info : ClaxonInfo) (at : ℕ) (bytes : List ℕ) (is_end : ℕ) where
  -- The next frame has this block, with no more samples than the capacity, and what its header
  -- says is shown.
  pub record FindsFrame (capacity : ℕ) (old : ClaxonFrames) (found : BlockValue)
      (new : ClaxonFrames) (shown : ClaxonBlock) : Type 0 where
    pub said : BlockInfo
    pub is_next : IsNextEvent (known_info info) at
        (frame_bytes at (decoder_position old.decoder) bytes)
        (frame_end at (decoder_position old.decoder) bytes is_end) old.decoder
        (Ok (Decoded (record { info = said; block = found }))) new.decoder
    pub needed : new.needed ≡ 0
    pub last :
        new.last ≡ shown_frame (decoder_position old.decoder) (decoder_position new.decoder) said
    pub fits : length found.channels * duration_of found.channels ≤ capacity
    pub shows : ShowsInfo said shown

  -- A header stands at the position whose block has more samples than the capacity. That is shown,
  -- and nothing else is changed.
  pub record ShowsLarger (capacity : ℕ) (old : ClaxonFrames) (status : ℕ) (new : ClaxonFrames)
      (shown : ClaxonBlock) : Type 0 where
    pub status_is : status ≡ buffer_too_small
    pub said : BlockInfo
    pub header : BeginsWith (HeaderOf (known_stream info) said)
        (held_from at (decoder_position old.decoder) bytes)
    pub larger : capacity < said.channels * said.duration
    pub shows : ShowsInfo said shown
    pub frames : new ≡ old

  -- The next event is shown, which has no block. It is that of as many bytes as a frame may have.
  abbrev pub ShowsNext : ClaxonFrames → ℕ → ClaxonFrames → ClaxonBlock → ClaxonBlock
      → List ℕ → List ℕ → Type 0
  ShowsNext old status new block shown before after =
      (event : Result Event Error) × (next : FrameDecoder)
      × IsNextEvent (known_info info) at (frame_bytes at (decoder_position old.decoder) bytes)
      (frame_end at (decoder_position old.decoder) bytes is_end) old.decoder event next
      × ShowsStatus (is_full at (decoder_position old.decoder) bytes) block shown before after
      event status
      × (new ≡ next_frames old event next)

  -- The block of the next frame is returned; or the status, of a header whose samples don't fit or
  -- of another event.
  abbrev pub NextFrame : ℕ → ClaxonFrames → Result BlockValue ℕ → ClaxonFrames
      → ClaxonBlock → ClaxonBlock → List ℕ → List ℕ → Type 0
  NextFrame capacity old (Ok found) new block shown before after =
      FindsFrame capacity old found new shown × (after ≡ before)
  NextFrame capacity old (Err status) new block shown before after =
      (ShowsLarger capacity old status new shown × (after ≡ before))
      ⊎ ShowsNext old status new block shown before after

  -- With `ok` the samples of the next frame are stored, and it is shown. With another status they
  -- stay as they are.
  abbrev pub CFrameIsAnswered : SampleOrder → ClaxonFrames → ℕ → ClaxonFrames → List ℤ → List ℤ
      → ClaxonBlock → ClaxonBlock → List ℕ → List ℕ → Type 0
  CFrameIsAnswered Put old status new samples stored block shown before after =
      PositionFits (at + length bytes)
      → ((status ≡ ok) × (after ≡ before)
      × ((found : BlockValue) × FindsFrame (length samples) old found new shown
      × Put found.channels samples stored))
      ⊎ (((ShowsLarger (length samples) old status new shown × (after ≡ before))
      ⊎ ShowsNext old status new block shown before after)
      × (stored ≡ samples))

module _ (info : ClaxonInfo) (at : ℕ) (bytes : List ℕ) where
  -- A header whose samples don't fit is told, unless more bytes are needed before it is looked at.
  abbrev pub LargerIsTold : ℕ → ClaxonFrames → ℕ → Type 0
  LargerIsTold capacity old status =
      BeginsWith (HeaderOfLargerBlock (known_stream info) capacity)
      (held_from at (decoder_position old.decoder) bytes)
      → (status ≡ buffer_too_small) ⊎ (status ≡ need_more)

  abbrev pub NextLargerIsTold : ℕ → ClaxonFrames → Result BlockValue ℕ → Type 0
  NextLargerIsTold capacity old (Ok found) =
      BeginsWith (HeaderOfLargerBlock (known_stream info) capacity)
      (held_from at (decoder_position old.decoder) bytes) → ⊥
  NextLargerIsTold capacity old (Err status) = LargerIsTold capacity old status

  abbrev pub CFrameLargerIsTold : ClaxonFrames → ℕ → List ℤ → Type 0
  CFrameLargerIsTold old status samples =
      PositionFits (at + length bytes) → LargerIsTold (length samples) old status

-- Bytes up to the position 2^63 or after it are unsupported, and nothing but the text is changed.
abbrev pub CFrameTooFarIsUnsupported : ℕ → List ℕ → ClaxonFrames → ℕ → ClaxonFrames
    → List ℤ → List ℤ → ClaxonBlock → ClaxonBlock → List ℕ → List ℕ → Type 0
CFrameTooFarIsUnsupported at bytes old status new samples stored block shown before after =
    (PositionFits (at + length bytes) → ⊥)
    → PositionIsReported status before after × (new ≡ old) × (stored ≡ samples) × (shown ≡ block)
