-- What tries that lead to no frame are charged.
use Rattle.std.specs.Prelude.{◌≡◌, ℕ}
use Rattle.claxon_recovery.specs.Budget.{
  CountsUnsearched,
  charged_for,
  unsearched_positions,
  wasted_work,
}
use Rattle.claxon_recovery.specs.declared.at_start.RestHere.{RestHere}
use Rattle.claxon_recovery.specs.declared.at_start.RestHere.TheVariants.{Broken, CutFrame, Whole}
use Rattle.claxon_recovery.specs.declared.budget.Budget.{Budget}
use Rattle.claxon_recovery.specs.declared.search.Next.{Next}
use Rattle.claxon_recovery.specs.declared.search.Next.TheVariants.{Frame, OverBudget, Undecided}
use Rattle.claxon_recovery.specs.declared.search.Tried.{Tried}
use Rattle.claxon_recovery.specs.declared.search.Tried.TheVariants.{Cut, NoFrame, Unpaid, Whole as WholeFrame}

-- So many samples and bytes are charged, and no position is passed unsearched.
pub record Charges (samples len : ℕ) (old new : Budget) : Type 0 where
  pub wasted : wasted_work new ≡ charged_for samples len (wasted_work old)
  pub unsearched : unsearched_positions new ≡ unsearched_positions old

-- A try among so many bytes that leads to no frame is charged: the samples, and the bytes of its fault,
-- or all where they end within it.
abbrev pub RestIsCharged : ℕ → ℕ → RestHere → Budget → Budget → Type 0
RestIsCharged samples size (Whole len decoded) old new = new ≡ old
RestIsCharged samples size (Broken len e) old new = Charges samples len old new
RestIsCharged samples size CutFrame old new = Charges samples size old new

-- what is known of a position with this rest of a frame
abbrev pub tried_of : RestHere → Tried
tried_of (Whole len decoded) = WholeFrame
tried_of (Broken len e) = NoFrame
tried_of CutFrame = Cut

-- A position that is over budget is counted as unsearched.
abbrev pub TriedIsCounted : Tried → Budget → Budget → Type 0
TriedIsCounted Unpaid = CountsUnsearched 1
TriedIsCounted WholeFrame = CountsUnsearched 0
TriedIsCounted NoFrame = CountsUnsearched 0
TriedIsCounted Cut = CountsUnsearched 0

abbrev pub NextIsCounted : Next → Budget → Budget → Type 0
NextIsCounted (OverBudget to) = CountsUnsearched 1
NextIsCounted (Frame to) = CountsUnsearched 0
NextIsCounted (Undecided to) = CountsUnsearched 0
