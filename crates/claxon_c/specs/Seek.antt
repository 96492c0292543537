-- What the calls return that find a frame in bytes, or seek to a sample.
use Rattle.std.specs.Prelude.{
  ◌≡◌,
  ◌≢◌,
  ◌⊎◌,
  ℕ,
  ℤ,
  ◌+◌,
  ◌-◌,
  ◌*◌,
  ◌<◌,
  ◌≤◌,
  List,
  drop,
  length,
  Option,
  None,
  Some,
}
use Rattle.claxon.specs.BlockInfos.{BlockInfo}
use Rattle.claxon.specs.Frame.{Block, Frame}
use Rattle.claxon.specs.Streams.{duration_of}
use Rattle.claxon_seek.specs.AtStart.{BeginsWithLength}
use Rattle.claxon_seek.specs.Find.{
  IsSpent,
  IsUndecided,
  NoFrameBetween,
  NoFrameFrom,
  NoneWhateverFollows,
  PassesBudget,
  WantedFrame,
  WantedHeader,
}
use Rattle.claxon_seek.specs.Seek.{FitsBudget, PassesInVain}
use Rattle.claxon_seek.specs.declared.search.FoundBlock.{FoundBlock}
use Rattle.claxon_c.specs.declared.heads.ClaxonInfo.{ClaxonInfo}
use Rattle.claxon_c.specs.declared.next_block.ClaxonBlock.{ClaxonBlock}
use Rattle.claxon_c.specs.Info.{known_info, known_stream}
use Rattle.claxon_c.specs.NextBlock.{InterleavedArePut, IsBlockStatus, ShowsInfo}
use Rattle.claxon_c.specs.Status.{buffer_too_small, no_more, ok, out_of_memory, over_budget}

-- The bytes begin with a frame of the stream, which is shown. Its block has this sample, if one is
-- asked for.
pub record ShowsFrame (info : ClaxonInfo) (sample : Option ℕ) (bytes : List ℕ) (shown : ClaxonBlock)
    : Type 0 where
  pub said : BlockInfo
  pub frame : WantedFrame (known_info info) sample bytes said
  pub shows : ShowsInfo said shown

-- the status says that a search didn't come to its end
abbrev pub IsGivenUp : ℕ → Type 0
IsGivenUp status = (status ≡ over_budget) ⊎ (status ≡ out_of_memory)

-- the status is one that a search returns
abbrev pub IsSearchStatus : ℕ → Type 0
IsSearchStatus status = (status ≡ ok) ⊎ ((status ≡ no_more) ⊎ IsGivenUp status)

-- The block is changed by `ok` alone.
abbrev pub FoundBlockIsKept : ℕ → ClaxonBlock → ClaxonBlock → Type 0
FoundBlockIsKept status old new = status ≢ ok → new ≡ old

-- The position and the budget aren't changed by `out_of_memory`.
abbrev pub SearchIsKept : ℕ → ℕ → ℕ → ℕ → ℕ → Type 0
SearchIsKept status from to budget left = status ≡ out_of_memory → (to ≡ from) × (left ≡ budget)

-- The position and the block are changed by `ok` alone.
abbrev pub SeekIsKept : ℕ → ℕ → ℕ → ClaxonBlock → ClaxonBlock → Type 0
SeekIsKept status from to old new = status ≢ ok → (to ≡ from) × (new ≡ old)

-- ---- the first frame of the stream

-- `from` is the position before the call.
module _ (info : ClaxonInfo) (bytes : List ℕ) (from status : ℕ) where
  -- With `ok` a frame begins at the position, which is moved to the first one.
  abbrev pub CFoundIsFirst : ℕ → ClaxonBlock → Type 0
  CFoundIsFirst to shown =
      status ≡ ok
      → (from ≤ to) × ShowsFrame info None (drop to bytes) shown
      × NoFrameBetween (known_info info) None bytes from to

  -- The first one is found, or the status is `over_budget` or `out_of_memory`.
  abbrev pub CFirstIsFound : ℕ → ClaxonBlock → Type 0
  CFirstIsFound to shown =
      (at : ℕ) (said : BlockInfo) → from ≤ at
      → WantedFrame (known_info info) None (drop at bytes) said
      → NoFrameBetween (known_info info) None bytes from at
      → ((status ≡ ok) × (to ≡ at) × ShowsInfo said shown)
      ⊎ IsGivenUp status

  -- `no_more` says that there is none.
  abbrev pub CNoMoreIsNone : Type 0
  CNoMoreIsNone = status ≡ no_more → NoFrameFrom (known_info info) None bytes from

  -- If there is none the status is `no_more`, or `over_budget` or `out_of_memory`.
  abbrev pub CNoneIsNoMore : Type 0
  CNoneIsNoMore =
      NoFrameFrom (known_info info) None bytes from → (status ≡ no_more) ⊎ IsGivenUp status

  -- Then the position is moved to the end, or to where the bytes end within a header or a frame.
  -- Before it none begins, whatever follows.
  abbrev pub CUndecidedIsFirst : ℕ → Type 0
  CUndecidedIsFirst to =
      status ≡ no_more
      → (from ≤ to) × NoneWhateverFollows (known_info info) None bytes from to
      × ((length bytes ≤ to) ⊎ IsUndecided (known_info info) bytes to)

  -- With `over_budget` the headers up to the new position pass the budget, and no frame begins
  -- before it.
  abbrev pub CStopsOverBudget : ℕ → ℕ → Type 0
  CStopsOverBudget to budget =
      status ≡ over_budget
      → NoFrameBetween (known_info info) None bytes from to
      × PassesBudget (known_info info) None bytes from budget to

  -- What is taken from the budget are the samples of the blocks of the headers up to the frame that
  -- is found, or before the position that is over budget, or of all.
  pub record CBudgetIsSpent (to budget left : ℕ) : Type 0 where
    pub found : status ≡ ok → IsSpent (known_info info) None bytes from (to + 1 - from) budget left
    pub stopped :
        status ≡ over_budget
        → IsSpent (known_info info) None bytes from (to - from) budget left
    pub none :
        status ≡ no_more
        → IsSpent (known_info info) None bytes from (length bytes - from) budget left

  -- `out_of_memory` only for a frame whose header is there, and no frame begins before it.
  abbrev pub CFindOutOfMemoryAfterHeader : Type 0
  CFindOutOfMemoryAfterHeader =
      status ≡ out_of_memory
      → (at : ℕ) × (said : BlockInfo) × (from ≤ at)
      × WantedHeader (known_info info) None (drop at bytes) said
      × NoFrameBetween (known_info info) None bytes from at

-- ---- a frame whose block has the sample, from the first frame on

module _ (info : ClaxonInfo) (bytes : List ℕ) (sample status : ℕ) where
  -- With `ok` such a frame begins at the position, and it is shown.
  abbrev pub CSeekIsSound : ℕ → ClaxonBlock → Type 0
  CSeekIsSound to shown =
      status ≡ ok
      → (info.first_frame ≤ to) × ShowsFrame info (Some sample) (drop to bytes) shown

  -- If there is one the status is `ok`, or `over_budget` or `out_of_memory`.
  abbrev pub CSeekIsComplete : Type 0
  CSeekIsComplete =
      (at : ℕ) (said : BlockInfo) → info.first_frame ≤ at
      → WantedFrame (known_info info) (Some sample) (drop at bytes) said
      → (status ≡ ok) ⊎ IsGivenUp status

  -- `no_more` says that there is none.
  abbrev pub CSeekNoMoreIsNone : Type 0
  CSeekNoMoreIsNone =
      status ≡ no_more → NoFrameFrom (known_info info) (Some sample) bytes info.first_frame

  -- If there is none the status is `no_more`, or `over_budget` or `out_of_memory`.
  abbrev pub CSeekNoneIsNoMore : Type 0
  CSeekNoneIsNoMore =
      NoFrameFrom (known_info info) (Some sample) bytes info.first_frame
      → (status ≡ no_more) ⊎ IsGivenUp status

  -- `over_budget` only where the headers of such frames pass the budget at a position, and no such
  -- frame begins up to it, or at it.
  abbrev pub CSeekStopsOverBudget : ℕ → Type 0
  CSeekStopsOverBudget budget =
      status ≡ over_budget
      → (at : ℕ) × PassesInVain (known_info info) bytes info.first_frame sample budget at

  -- `no_more` only where the headers of such frames don't pass it.
  abbrev pub CSeekNoMoreFitsBudget : ℕ → Type 0
  CSeekNoMoreFitsBudget budget =
      status ≡ no_more → FitsBudget (known_info info) bytes info.first_frame sample budget

  -- `out_of_memory` only for such a frame whose header is there.
  abbrev pub CSeekOutOfMemoryAfterHeader : Type 0
  CSeekOutOfMemoryAfterHeader =
      status ≡ out_of_memory
      → (at : ℕ) × (said : BlockInfo) × (info.first_frame ≤ at)
      × WantedHeader (known_info info) (Some sample) (drop at bytes) said

-- ---- such a frame, and its samples

-- the status is one that a search returns whose samples are stored
abbrev pub IsSeekBlockStatus : ℕ → Type 0
IsSeekBlockStatus status = IsSearchStatus status ⊎ (status ≡ buffer_too_small)

-- The position and the block are changed by `ok` and `buffer_too_small` alone, the samples by `ok`
-- alone.
pub record SeekBlockIsKept (status from to : ℕ) (old new : ClaxonBlock) (before after : List ℤ)
    : Type 0 where
  pub frame : (IsBlockStatus status → ⊥) → (to ≡ from) × (new ≡ old)
  pub samples : status ≢ ok → after ≡ before

module _ (info : ClaxonInfo) (bytes : List ℕ) (sample : ℕ) where
  -- A frame with the sample is shown, the position is after it, and its samples are stored.
  pub record GivesBlock (to : ℕ) (shown : ClaxonBlock) (old new : List ℤ) : Type 0 where
    pub at : ℕ
    pub after_first : info.first_frame ≤ at
    pub shows : ShowsFrame info (Some sample) (drop at bytes) shown
    pub block : Block
    pub count : ℕ
    pub frame : BeginsWithLength (Frame (known_stream info) block) (drop at bytes) count
    pub after : to ≡ at + count
    pub fits : length block.channels * duration_of block.channels ≤ length old
    pub samples : InterleavedArePut block.channels old new

  module _ (status : ℕ) where
    -- So it is with `ok`.
    abbrev pub CSeekBlockIsSound : ℕ → ClaxonBlock → List ℤ → List ℤ → Type 0
    CSeekBlockIsSound to shown old new = status ≡ ok → GivesBlock to shown old new

    -- With `buffer_too_small` such a frame begins at the position, and is shown. It has more
    -- samples than the capacity.
    abbrev pub CSeekBlockIsTooLarge : ℕ → ClaxonBlock → ℕ → Type 0
    CSeekBlockIsTooLarge to shown capacity =
        status ≡ buffer_too_small
        → (info.first_frame ≤ to) × ShowsFrame info (Some sample) (drop to bytes) shown
        × (capacity < shown.channels * shown.duration)

    -- If there is one the status is `ok` or `buffer_too_small`, or `over_budget` or
    -- `out_of_memory`.
    abbrev pub CSeekBlockIsComplete : Type 0
    CSeekBlockIsComplete =
        (at : ℕ) (said : BlockInfo) → info.first_frame ≤ at
        → WantedFrame (known_info info) (Some sample) (drop at bytes) said
        → IsBlockStatus status ⊎ IsGivenUp status

-- ---- parts of it

-- The block that was found is shown. Its samples are stored and the position is after its frame, or
-- they don't fit and it is at the frame.
pub record IsGiven (found : FoundBlock) (status to : ℕ) (shown : ClaxonBlock)
    (old new : List ℤ) : Type 0 where
  pub shows : ShowsInfo found.frame.block shown
  pub fits_or_not :
      ((status ≡ ok) × (to ≡ found.frame.position + found.len)
      × (length found.block.channels * duration_of found.block.channels ≤ length old)
      × InterleavedArePut found.block.channels old new)
      ⊎ ((status ≡ buffer_too_small) × (to ≡ found.frame.position)
      × (length old < found.frame.block.channels * found.frame.block.duration) × (new ≡ old))
