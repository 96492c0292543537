-- What a call answers that seeks to a sample.
use Rattle.std.specs.Prelude.{
  ◌≡◌,
  ◌⊎◌,
  ℕ,
  ◌+◌,
  ◌-◌,
  ◌<◌,
  ◌≤◌,
  List,
  drop,
  length,
  Option,
  Some,
  Result,
  Ok,
  Err,
  IfErr,
}
use Rattle.claxon.specs.BlockInfos.{BlockInfo}
use Rattle.claxon.specs.Errors.{Error}
use Rattle.claxon.specs.Errors.TheVariants.{OutOfMemory}
use Rattle.claxon.specs.Promises.{IsOutOfMemory}
use Rattle.claxon.specs.StreamInfos.{StreamInfo}
use Rattle.claxon_seek.specs.Find.{
  IfFound,
  IfNotFound,
  IsFoundAnd,
  IsNotFound,
  IsSpent,
  IsUndecided,
  NoFrameBetween,
  NoFrameFrom,
  NoneWhateverFollows,
  PassesBudget,
  WantedFrame,
  WantedHeader,
}
use Rattle.claxon_seek.specs.declared.search.FoundFrame.{FoundFrame}
use Rattle.claxon_seek.specs.declared.search.Search.{Search}
use Rattle.claxon_seek.specs.declared.search.Search.TheVariants.{Found, NotFound, OverBudget}

-- ---- the answers, by name

abbrev pub found_at : FoundFrame → Search
found_at at = Found at

abbrev pub not_found : ℕ → Search
not_found undecided = NotFound undecided

abbrev pub stopped_at : ℕ → Search
stopped_at to = OverBudget to

-- ---- what is answered

-- of the frames from this position on whose block has the sample
module _ (known : Option StreamInfo) (bytes : List ℕ) (first sample budget : ℕ) where
  -- The blocks of the headers of all such frames have no more samples than the budget.
  abbrev pub FitsBudget : Type 0
  FitsBudget =
      (left : ℕ) × IsSpent known (Some sample) bytes first (length bytes - first) budget left

  -- The headers up to a position pass the budget, and no such frame begins up to it, or at it.
  abbrev pub PassesInVain : ℕ → Type 0
  PassesInVain to =
      NoFrameBetween known (Some sample) bytes first (to + 1)
      × PassesBudget known (Some sample) bytes first budget to

  -- The position is the end, or the bytes end within a header or a frame that begins there. Before
  -- it no such frame begins, whatever follows.
  abbrev pub SeekGoesOnAt : ℕ → Type 0
  SeekGoesOnAt undecided =
      (first ≤ undecided) × NoneWhateverFollows known (Some sample) bytes first undecided
      × ((length bytes ≤ undecided) ⊎ IsUndecided known bytes undecided)

  -- all that it answers
  abbrev pub SeekGives : Result Search Error → Type 0
  SeekGives (Ok (Found at)) =
      (first ≤ at.position) × WantedFrame known (Some sample) (drop at.position bytes) at.block
  SeekGives (Ok (NotFound undecided)) =
      NoFrameFrom known (Some sample) bytes first × FitsBudget × SeekGoesOnAt undecided
  SeekGives (Ok (OverBudget to)) = PassesInVain to
  SeekGives (Err e) =
      IsOutOfMemory {A = Search} (Err e) × ((at : ℕ) × (info : BlockInfo) × (first ≤ at)
      × WantedHeader known (Some sample) (drop at bytes) info)

  module _ (result : Result Search Error) where
    -- A frame of which the position is returned begins there, and its block has the sample.
    abbrev pub SeekIsSound : Type 0
    SeekIsSound = IfFound result (λ at.
        (first ≤ at.position)
        × WantedFrame known (Some sample) (drop at.position bytes) at.block)

    -- If there is such a frame one is found, or headers before it pass the budget, or memory was
    -- refused.
    abbrev pub SeekIsComplete : Type 0
    SeekIsComplete = (at : ℕ) (info : BlockInfo) → first ≤ at
        → WantedFrame known (Some sample) (drop at bytes) info → IsFoundAnd result (λ x. Unit {0})
        ⊎ (((to : ℕ) × (to < at) × PassesInVain to) ⊎ IsOutOfMemory result)

    -- `NotFound` says that there is none.
    abbrev pub SeekNotFoundIsNone : Type 0
    SeekNotFoundIsNone =
        IfNotFound result (λ undecided. NoFrameFrom known (Some sample) bytes first)

    -- Its position is where a search goes on when there are more bytes.
    abbrev pub SeekUndecidedIsFirst : Type 0
    SeekUndecidedIsFirst = IfNotFound result (λ undecided. SeekGoesOnAt undecided)

    -- `NotFound` is returned only within the budget.
    abbrev pub SeekNotFoundFitsBudget : Type 0
    SeekNotFoundFitsBudget = IfNotFound result (λ undecided. FitsBudget)

    -- If there is none, that is said, or headers pass the budget, or memory was refused.
    abbrev pub SeekNoneIsNotFound : Type 0
    SeekNoneIsNotFound = NoFrameFrom known (Some sample) bytes first → IsNotFound result
        ⊎ (((to : ℕ) × PassesInVain to) ⊎ IsOutOfMemory result)

    -- At a position that is over budget the headers pass it, and no such frame begins up to it, or
    -- at it.
    abbrev pub SeekStopsOverBudget : Type 0
    SeekStopsOverBudget = (to : ℕ) → result ≡ Ok (OverBudget to) → PassesInVain to

    -- An Err is `OutOfMemory`, for a frame whose header is there.
    abbrev pub SeekOutOfMemoryAfterHeader : Type 0
    SeekOutOfMemoryAfterHeader = IfErr result (λ e. (e ≡ OutOfMemory)
        × ((at : ℕ) × (info : BlockInfo) × (first ≤ at)
        × WantedHeader known (Some sample) (drop at bytes) info))
