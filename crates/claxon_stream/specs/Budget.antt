-- How much work led to no frame.
use Rattle.std.specs.Prelude.{◌+◌, ◌-◌, ◌*◌, ◌^◌, ◌<◌, ℕ, max, min}
use Rattle.claxon_stream.specs.declared.budget.Budget.{Budget}
use Rattle.claxon_stream.specs.declared.budget.TheConstants.{
  COST_OF_A_TRY,
  MADE_GOOD_BY_A_BYTE,
  MAX_WASTED,
  TRIES_MADE_GOOD_BY_A_BYTE,
}

-- what wasn't made good, in bytes and samples
abbrev pub wasted_work : Budget → ℕ
wasted_work b = b.wasted

-- the position after the last byte that was counted
abbrev pub counted_position : Budget → ℕ
counted_position b = b.seen

-- It is more than is allowed.
abbrev pub IsSpent : Budget → Type 0
IsSpent b = MAX_WASTED < b.wasted

-- how much more is allowed after so much work
abbrev pub work_left : ℕ → ℕ
work_left wasted = MAX_WASTED - wasted

-- what so many bytes that are passed don't make good of it
abbrev pub made_good : ℕ → ℕ → ℕ
made_good wasted count = wasted - MADE_GOOD_BY_A_BYTE * count

-- what so many bytes that are handed in don't make good of tries
abbrev pub tries_made_good : ℕ → ℕ → ℕ
tries_made_good wasted count = wasted - TRIES_MADE_GOOD_BY_A_BYTE * count

-- what a try in vain of so many bytes is charged
abbrev pub cost_of_try : ℕ → ℕ
cost_of_try count = max COST_OF_A_TRY (count - COST_OF_A_TRY)

-- that work and more, as far as 64 bits say it
abbrev pub charged : ℕ → ℕ → ℕ
charged wasted work = min (wasted + work) (2 ^ 64 - 1)
