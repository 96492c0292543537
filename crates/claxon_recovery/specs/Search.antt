-- What a search for the next frame in bytes answers.
use Rattle.std.specs.Prelude.{◌-◌, ◌<◌, ◌≤◌, ℕ, List, length, drop, Some, None, Result, Ok, Err, Option}
use Rattle.claxon.specs.BlockInfos.{BlockInfo}
use Rattle.claxon.specs.Errors.{Error}
use Rattle.claxon.specs.Promises.{IsOutOfMemory}
use Rattle.claxon.specs.StreamInfos.{StreamInfo}
use Rattle.claxon_seek.specs.Find.{WantedHeader}
use Rattle.claxon_recovery.specs.AtStart.{
  BeginsWithStreamFrame,
  EndsEarly,
  NoFrameWhateverFollows,
}
use Rattle.claxon_recovery.specs.Budget.{block_samples}
use Rattle.claxon_recovery.specs.declared.budget.TheConstants.{MAX_WASTED}
use Rattle.claxon_recovery.specs.declared.search.Next.{Next}
use Rattle.claxon_recovery.specs.declared.search.Next.TheVariants.{Frame, OverBudget, Undecided}
use Rattle.claxon_recovery.specs.declared.search.Tried.{Tried}
use Rattle.claxon_recovery.specs.declared.search.Tried.TheVariants.{Cut, NoFrame, Unpaid, Whole}

module _ (known : Option StreamInfo) where
  -- The bytes begin with the header of a frame of the stream.
  abbrev pub BeginsWithStreamHeader : List ℕ → Type 0
  BeginsWithStreamHeader s = (block : BlockInfo) × WantedHeader known None s block

  -- No frame begins before the position, whatever follows.
  abbrev pub NoneBefore : List ℕ → ℕ → Type 0
  NoneBefore bytes to = (at : ℕ) → at < to → NoFrameWhateverFollows known (drop at bytes)

  -- No frame begins before the position that is answered, and what stands there.
  abbrev pub NextIsThere : List ℕ → Result Next Error → Type 0
  NextIsThere bytes (Ok (Frame to)) =
      NoneBefore bytes to × (to < length bytes) × BeginsWithStreamFrame known (drop to bytes)
  NextIsThere bytes (Ok (Undecided to)) =
      NoneBefore bytes to × (to ≤ length bytes) × EndsEarly known (drop to bytes)
  NextIsThere bytes (Ok (OverBudget to)) =
      NoneBefore bytes to × (to < length bytes) × BeginsWithStreamHeader (drop to bytes)
  NextIsThere bytes (Err e) = IsOutOfMemory {A = Next} (Err e)

  -- What the bytes begin with.
  abbrev pub TriedIsThere : List ℕ → ℕ → Result Tried Error → Type 0
  TriedIsThere bytes wasted (Ok Whole) = BeginsWithStreamFrame known bytes
  TriedIsThere bytes wasted (Ok NoFrame) = NoFrameWhateverFollows known bytes
  TriedIsThere bytes wasted (Ok Cut) = EndsEarly known bytes
  TriedIsThere bytes wasted (Ok Unpaid) =
      (block : BlockInfo) × WantedHeader known None bytes block
      × (MAX_WASTED - wasted < block_samples block)
  TriedIsThere bytes wasted (Err e) = IsOutOfMemory {A = Tried} (Err e)
