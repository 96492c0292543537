-- What a call returns for the frame at a position in bytes.
use Rattle.std.specs.Prelude.{
  ◌≡◌,
  ◌≢◌,
  ◌⊎◌,
  ◌↔◌,
  ℕ,
  ℤ,
  ◌+◌,
  ◌*◌,
  ◌<◌,
  ◌≤◌,
  List,
  ◌++◌,
  length,
  drop,
  Option,
  Result,
  Ok,
  Err,
  None,
  Some,
  IsSomeAnd,
}
use Rattle.claxon.specs.Fault.{Fault}
use Rattle.claxon.specs.Frame.{Block, Frame, FrameBytesFault, StreamFormat}
use Rattle.claxon.specs.Streams.{duration_of, interleave}
use Rattle.claxon.specs.Promises.{HasNeither}
use Rattle.claxon.specs.Errors.{Error}
use Rattle.claxon.specs.Block.{BlockValue, joined}
use Rattle.claxon.specs.BlockInfo.{HeaderBytesFault, HeaderOf}
use Rattle.claxon.specs.BlockInfos.{BlockInfo}
use Rattle.claxon.specs.FrameReader.{HeaderOfLargerBlock}
use Rattle.claxon.specs.MetadataBlock.{or_zero}
use Rattle.claxon.specs.Prefix.{BeginsWith}
use Rattle.claxon_seek.specs.AtStart.{FrameAtStart}
use Rattle.claxon_seek.specs.BlockMemory.{CountsRefusal}
use Rattle.claxon_seek.specs.declared.memory.BlockMemory.{BlockMemory}
use Rattle.claxon_c.specs.declared.heads.ClaxonInfo.{ClaxonInfo}
use Rattle.claxon_c.specs.declared.next_block.ClaxonBlock.{ClaxonBlock}
use Rattle.claxon_c.specs.Info.{known_stream}
use Rattle.claxon_c.specs.Status.{
  ErrorIsReported,
  FaultIsReported,
  IsFaultStatus,
  buffer_too_small,
  input_ends,
  no_more,
  ok,
  out_of_memory,
}

-- how the samples of channels are put into a buffer: its contents before and after
abbrev pub SampleOrder : Type 1
SampleOrder = List (List ℤ) → List ℤ → List ℤ → Type 0

-- The buffer begins with the interleaved samples, and its rest is unchanged.
abbrev pub InterleavedArePut : SampleOrder
InterleavedArePut channels old new =
    new ≡ interleave channels ++ drop (length channels * duration_of channels) old

-- The buffer begins with the samples of one channel after another, and its rest is unchanged.
abbrev pub PlanarArePut : SampleOrder
PlanarArePut channels old new =
    new ≡ joined channels ++ drop (length channels * duration_of channels) old

-- It shows this block.
pub record ShowsBlock (b : Block) (shown : ClaxonBlock) : Type 0 where
  pub time : shown.time ≡ b.time
  pub channels : shown.channels ≡ length b.channels
  pub duration_is : shown.duration ≡ duration_of b.channels

-- It shows what a header says: a sample rate and a bit depth of 0 where it leaves them to the
-- streaminfo.
pub record ShowsInfo (info : BlockInfo) (shown : ClaxonBlock) : Type 0 where
  pub time : shown.time ≡ info.time
  pub channels : shown.channels ≡ info.channels
  pub duration_is : shown.duration ≡ info.duration
  pub sample_rate : shown.sample_rate ≡ or_zero info.sample_rate
  pub bits_per_sample : shown.bits_per_sample ≡ or_zero info.header_bit_depth

-- The samples of the block are written where they fit, else the status is `buffer_too_small`.
abbrev pub GivesSamples : SampleOrder → Block → ℕ → List ℤ → List ℤ → Type 0
GivesSamples Put b status old new =
    ((status ≡ ok) × (length b.channels * duration_of b.channels ≤ length old)
    × Put b.channels old new)
    ⊎ ((status ≡ buffer_too_small) × (length old < length b.channels * duration_of b.channels))

-- the status says that there is a frame, or its header
abbrev pub IsBlockStatus : ℕ → Type 0
IsBlockStatus status = (status ≡ ok) ⊎ (status ≡ buffer_too_small)

-- The position and the samples are changed by `ok` alone.
abbrev pub PositionIsKept : ℕ → ℕ → ℕ → List ℤ → List ℤ → Type 0
PositionIsKept status from to old new = status ≢ ok → (to ≡ from) × (new ≡ old)

-- The block is changed by `ok` and `buffer_too_small` alone.
abbrev pub BlockIsKept : ℕ → ClaxonBlock → ClaxonBlock → Type 0
BlockIsKept status old new = (IsBlockStatus status → ⊥) → new ≡ old

-- The buffer of the text isn't changed by `ok`, `buffer_too_small` and `no_more`.
abbrev pub TextIsKept : ℕ → List ℕ → List ℕ → Type 0
TextIsKept status old new = IsBlockStatus status ⊎ (status ≡ no_more) → new ≡ old

-- A header stands at the position whose block has more samples than the capacity.
abbrev pub IsLarger : ClaxonInfo → List ℕ → ℕ → ℕ → Type 0
IsLarger info bytes from capacity =
    BeginsWith (HeaderOfLargerBlock (known_stream info) capacity) (drop from bytes)

-- `from` is the position before the call, and `capacity` the number of samples that the buffer
-- holds.
module _ (info : ClaxonInfo) (bytes : List ℕ) (from status : ℕ) where
  -- With `ok` a frame begins at the position, which is after it now.
  abbrev pub CBlockIsSound : ℕ → Type 0
  CBlockIsSound to =
      status ≡ ok
      → (b : Block) × (front : List ℕ) × (rest : List ℕ) × Frame (known_stream info) b front
      × (drop from bytes ≡ front ++ rest) × (to ≡ from + length front)

  -- The block of the frame that begins there is shown.
  abbrev pub CBlockIsShown : ClaxonBlock → Type 0
  CBlockIsShown shown =
      IsBlockStatus status → (b : Block)
      → BeginsWith (Frame (known_stream info) b) (drop from bytes) → ShowsBlock b shown

  -- What the header says is shown, whether the rest of its frame stands there or not.
  abbrev pub CHeaderIsShown : ClaxonBlock → Type 0
  CHeaderIsShown shown =
      IsBlockStatus status → (said : BlockInfo)
      → BeginsWith (HeaderOf (known_stream info) said) (drop from bytes)
      → ShowsInfo said shown

  -- The samples are written where they fit, else the status is `buffer_too_small`.
  abbrev pub CSamplesAreGiven : SampleOrder → List ℤ → List ℤ → Type 0
  CSamplesAreGiven Put old new =
      IsBlockStatus status → (b : Block)
      → BeginsWith (Frame (known_stream info) b) (drop from bytes)
      → GivesSamples Put b status old new

  -- So it is of interleaved samples.
  abbrev pub CSamplesAreInterleaved : List ℤ → List ℤ → Type 0
  CSamplesAreInterleaved = CSamplesAreGiven InterleavedArePut

  -- So it is of the samples of one channel after another.
  abbrev pub CSamplesArePlanar : List ℤ → List ℤ → Type 0
  CSamplesArePlanar = CSamplesAreGiven PlanarArePut

  -- Where a frame begins there the status is `ok` or `buffer_too_small`, or it is `out_of_memory`.
  abbrev pub CBlockIsComplete : Type 0
  CBlockIsComplete =
      (b : Block) → BeginsWith (Frame (known_stream info) b) (drop from bytes)
      → IsBlockStatus status ⊎ (status ≡ out_of_memory)

  -- The status is `buffer_too_small` exactly where a header stands whose block has more samples,
  -- whatever follows the header.
  abbrev pub CTooSmallIffLarger : ℕ → Type 0
  CTooSmallIffLarger capacity = (status ≡ buffer_too_small) ↔ IsLarger info bytes from capacity

  -- The status of a fault reports one that stands at the position; its text is written to `new`.
  abbrev pub CBlockFaultIsSound : List ℕ → List ℕ → Type 0
  CBlockFaultIsSound old new =
      IsFaultStatus status
      → (f : Fault) × BeginsWith (FrameBytesFault (known_stream info) f) (drop from bytes)
      × FaultIsReported f status old new

  -- Unless the samples don't fit, a fault that stands at the position is reported, or the
  -- status is `out_of_memory`.
  abbrev pub CBlockFaultIsComplete : ℕ → List ℕ → List ℕ → Type 0
  CBlockFaultIsComplete capacity old new =
      (IsLarger info bytes from capacity → ⊥)
      → (f : Fault) → BeginsWith (FrameBytesFault (known_stream info) f) (drop from bytes)
      → FaultIsReported f status old new ⊎ (status ≡ out_of_memory)

  -- The fault of a header is reported, whatever the capacity.
  abbrev pub CFrameHeaderFaultIsComplete : List ℕ → List ℕ → Type 0
  CFrameHeaderFaultIsComplete old new =
      (f : Fault) → BeginsWith (HeaderBytesFault (known_stream info) f) (drop from bytes)
      → FaultIsReported f status old new

  -- Unless the samples don't fit, the status is `input_ends` or `out_of_memory` where two bytes or
  -- more are left, and neither stands there.
  abbrev pub CBlockElseIoError : ℕ → Type 0
  CBlockElseIoError capacity =
      (IsLarger info bytes from capacity → ⊥)
      → 2 ≤ length (drop from bytes)
      → HasNeither (Frame (known_stream info)) (FrameBytesFault (known_stream info))
      (drop from bytes)
      → (status ≡ input_ends) ⊎ (status ≡ out_of_memory)

  -- `out_of_memory` only where the header of a frame that has samples stands at the position.
  abbrev pub CBlockOutOfMemoryAfterHeader : Type 0
  CBlockOutOfMemoryAfterHeader =
      status ≡ out_of_memory
      → BeginsWith (HeaderOfLargerBlock (known_stream info) 0) (drop from bytes)

-- `no_more` is returned exactly where fewer than two bytes are left.
abbrev pub CBlockNoMoreIffEof : List ℕ → ℕ → ℕ → Type 0
CBlockNoMoreIffEof bytes from status = (status ≡ no_more) ↔ (length (drop from bytes) < 2)

-- ---- the call that both share

-- The bytes begin with a header, which says what is returned. Or they don't.
abbrev pub HeaderOrNone : Option StreamFormat → List ℕ → Option BlockInfo → Type 0
HeaderOrNone stream bytes None = (info : BlockInfo) → BeginsWith (HeaderOf stream info) bytes → ⊥
HeaderOrNone stream bytes (Some info) = BeginsWith (HeaderOf stream info) bytes

-- The block of a header has more samples than the capacity.
abbrev pub HasLarger : ℕ → Option BlockInfo → Type 0
HasLarger capacity header = IsSomeAnd header (λ info. capacity < info.channels * info.duration)

module _ (info : ClaxonInfo) (bytes : List ℕ) (from capacity : ℕ) where
  -- A frame was decoded whose samples fit, and the position is after it.
  pub record IsDecoded (found : BlockValue) (to : ℕ) (shown : ClaxonBlock) : Type 0 where
    pub not_larger : IsLarger info bytes from capacity → ⊥
    pub fits : length found.channels * duration_of found.channels ≤ capacity
    pub count : ℕ
    pub frame : FrameAtStart (known_stream info) (drop from bytes) (Ok (Some found)) count
    pub after : to ≡ from + count
    pub said : BlockInfo
    pub header : BeginsWith (HeaderOf (known_stream info) said) (drop from bytes)
    pub shows : ShowsInfo said shown

  -- A header stands at the position whose block has more samples than the capacity.
  pub record IsTooSmall (status : ℕ) (shown : ClaxonBlock) : Type 0 where
    pub status_is : status ≡ buffer_too_small
    pub said : BlockInfo
    pub header : BeginsWith (HeaderOf (known_stream info) said) (drop from bytes)
    pub larger : capacity < said.channels * said.duration
    pub shows : ShowsInfo said shown

  -- Too few bytes are left for a frame.
  pub record IsAtEnd (status : ℕ) : Type 0 where
    pub not_larger : IsLarger info bytes from capacity → ⊥
    pub status_is : status ≡ no_more
    pub count : ℕ
    pub none : FrameAtStart (known_stream info) (drop from bytes) (Ok None) count

  -- No frame was decoded, and the status and the text say why.
  pub record IsRefused (status : ℕ) (before after : List ℕ) : Type 0 where
    pub not_larger : IsLarger info bytes from capacity → ⊥
    pub error : Error
    pub count : ℕ
    pub refused : FrameAtStart (known_stream info) (drop from bytes) (Err error) count
    pub reported : ErrorIsReported error status before after

  -- The block of the frame at the position, or the status. `old` and `shown` are what is shown of a
  -- block before and after the call, `before` and `after` the text.
  abbrev pub NextBlock : Result BlockValue ℕ → ℕ → ClaxonBlock → ClaxonBlock → List ℕ → List ℕ
      → Type 0
  NextBlock (Ok found) to old shown before after = IsDecoded found to shown × (after ≡ before)
  NextBlock (Err status) to old shown before after =
      (to ≡ from) × ((IsTooSmall status shown × (after ≡ before))
      ⊎ ((IsAtEnd status × (shown ≡ old) × (after ≡ before))
      ⊎ (IsRefused status before after × (shown ≡ old))))

-- `out_of_memory` is returned exactly where a request for the memory of a block was refused.
pub record BlockMemoryIsCounted {A : Type 0} (r : Result A ℕ) (old new : BlockMemory) : Type 0 where
  pub refused : r ≡ Err out_of_memory → CountsRefusal old new
  pub granted : (r ≡ Err out_of_memory → ⊥) → new ≡ old
