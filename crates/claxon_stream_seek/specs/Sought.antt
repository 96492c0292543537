-- The frames whose blocks have a sample that is sought.
use Rattle.std.specs.Prelude.{
  ◌≡◌,
  ◌⊎◌,
  ℕ,
  zero,
  suc,
  ◌+◌,
  ◌<◌,
  ◌≤◌,
  Bool,
  true,
  false,
  List,
  drop,
  length,
  Option,
  None,
  unwrap_or,
  Result,
  Ok,
  Err,
}
use Rattle.claxon.specs.BlockInfos.{BlockInfo}
use Rattle.claxon.specs.DecodedFrame.{FrameWithHeader, decoded_view}
use Rattle.claxon.specs.Errors.{Error}
use Rattle.claxon.specs.FrameReader.{HeaderOfLargerBlock}
use Rattle.claxon.specs.Prefix.{BeginsWith}
use Rattle.claxon.specs.Promises.{IsOutOfMemory}
use Rattle.claxon.specs.StreamInfos.{StreamInfo}
use Rattle.claxon_seek.specs.Find.{WantedFrame, WantedHeader, known_format}
use Rattle.claxon_stream.specs.DecodedAtStart.{BeginsWithLength}
use Rattle.claxon_stream.specs.Search.{
  Cost,
  FitsBudget,
  IsReadInVain,
  after_bytes,
  after_passing_over,
  after_work,
  samples_of,
}
use Rattle.claxon_stream_seek.specs.Clock.{clock_time}
use Rattle.claxon_stream_seek.specs.declared.event.SeekEvent.{SeekEvent}
use Rattle.claxon_stream_seek.specs.declared.event.SeekEvent.TheVariants.{
  Found,
  NotFound,
  OverBudget,
  ReadOn,
}
use Rattle.claxon_stream_seek.specs.declared.event.SoughtFrame.{SoughtFrame}
use Rattle.claxon_stream_seek.specs.declared.sought.Sought.{Sought}

-- ---- the frames

-- the sample at which the block begins of a frame at this position: by the clock, or as the header
-- says where the clock doesn't know
abbrev pub start_of : Sought → ℕ → BlockInfo → ℕ
start_of s at info = unwrap_or (clock_time s.clock at info) info.time

-- The block of a frame at this position has the sample.
abbrev pub HasSample : Sought → ℕ → BlockInfo → Type 0
HasSample s at info =
    (start_of s at info ≤ s.sample) × (s.sample < start_of s at info + info.duration)

-- The bytes begin with a frame that has the sample, at the position that is answered, and of so
-- many bytes.
pub record IsSoughtIn (known : Option StreamInfo) (s : Sought) (bytes : List ℕ)
    (found : SoughtFrame) : Type 0 where
  pub there : WantedFrame known None bytes found.frame.info
  pub has : HasSample s found.position found.frame.info
  pub code : (taken : ℕ)
      × BeginsWithLength (FrameWithHeader (known_format known) (decoded_view found.frame)) bytes
      taken
      × (found.end ≡ found.position + taken)
  pub time : found.time ≡ start_of s found.position found.frame.info

-- of a stream with all these bytes, whose frames have the number of channels and the bit depth of
-- the streaminfo, if that is known
module _ (known : Option StreamInfo) (s : Sought) (stream : List ℕ) where
  -- At the position begins the header of a frame whose block has the sample.
  abbrev pub SoughtHeader : ℕ → BlockInfo → Type 0
  SoughtHeader at info = WantedHeader known None (drop at stream) info × HasSample s at info

  -- At the position begins such a frame.
  abbrev pub SoughtFrame_at : ℕ → BlockInfo → Type 0
  SoughtFrame_at at info = WantedFrame known None (drop at stream) info × HasSample s at info

  -- No such frame begins from the first one on.
  abbrev pub NoneIsThere : Type 0
  NoneIsThere =
      (at : ℕ) (info : BlockInfo) → s.first_frame ≤ at → SoughtFrame_at at info → ⊥

  -- ---- what a search passes, and what it costs

  -- The byte at the position is passed. No such header begins with it. Or the frame of one is
  -- passed over, as its block has more samples than are left of the budget; or tried in vain, and
  -- these samples are charged, and the bytes that are read.
  abbrev pub PassesByte : ℕ → Cost → Cost → Type 0
  PassesByte at old new =
      (((info : BlockInfo) → SoughtHeader at info → ⊥) × (new ≡ after_bytes 1 old))
      ⊎ ((info : BlockInfo) × SoughtHeader at info
      × (((FitsBudget old info → ⊥) × (new ≡ after_bytes 1 (after_passing_over old)))
      ⊎ (FitsBudget old info
      × ((n : ℕ) × IsReadInVain known (drop at stream) n
      × (new ≡ after_bytes 1 (after_work (n + samples_of info) old))))))

  -- So many bytes are passed from the first frame on, one after another.
  abbrev pub Passes : ℕ → Cost → Type 0
  Passes zero new = new ≡ record { wasted = 0; passes_over = false }
  Passes (suc count) new =
      (between : Cost) × Passes count between × PassesByte (s.first_frame + count) between new

  -- ---- what is answered

  -- The frame begins there, has the sample, and ends where it says.
  pub record IsSought (found : SoughtFrame) : Type 0 where
    pub after_first : s.first_frame ≤ found.position
    pub there : SoughtFrame_at found.position found.frame.info
    pub code : (taken : ℕ)
        × BeginsWithLength (FrameWithHeader (known_format known) (decoded_view found.frame))
        (drop found.position stream) taken
        × (found.end ≡ found.position + taken)
    pub time : found.time ≡ start_of s found.position found.frame.info

  -- All bytes are passed, and headers are passed over or not.
  abbrev pub PassesAll : Bool → Type 0
  PassesAll passes_over =
      (cost : Cost) × Passes (length (drop s.first_frame stream)) cost
      × (cost.passes_over ≡ passes_over)

  -- A frame that has the sample; none from the first one on; or none, and headers were passed over.
  -- `OutOfMemory` is returned only after a header.
  abbrev pub SeekEventIs : Result SeekEvent Error → Type 0
  SeekEventIs (Ok (Found found)) = IsSought found
  SeekEventIs (Ok NotFound) = PassesAll false
  SeekEventIs (Ok OverBudget) = PassesAll true
  SeekEventIs (Ok (ReadOn needed)) = Unit {0}
  SeekEventIs (Err e) =
      IsOutOfMemory {A = SeekEvent} (Err e)
      × ((at : ℕ) × (capacity : ℕ) × (s.first_frame ≤ at)
      × BeginsWith (HeaderOfLargerBlock (known_format known) capacity) (drop at stream))
