-- How much work led to no frame, and how many positions weren't searched.
use Rattle.std.specs.Prelude.{
  ◌≡◌,
  ◌+◌,
  ◌-◌,
  ◌*◌,
  ◌%◌,
  ◌^◌,
  ◌<◌,
  ◌≤◌,
  ℕ,
  Bool,
  false,
  true,
  min,
}
use Rattle.claxon.specs.BlockInfos.{BlockInfo}
use Rattle.claxon_recovery.specs.declared.budget.Budget.{Budget}
use Rattle.claxon_recovery.specs.declared.budget.TheConstants.{MADE_GOOD_BY_A_BYTE, MAX_WASTED}

-- what wasn't made good, in samples and bytes
abbrev pub wasted_work : Budget → ℕ
wasted_work b = b.wasted

-- at how many positions it wasn't searched whether a frame begins, modulo 2 ^ 64
abbrev pub unsearched_positions : Budget → ℕ
unsearched_positions b = b.unsearched

-- the samples of all channels of a block
abbrev pub block_samples : BlockInfo → ℕ
block_samples block = block.channels * block.duration

-- that work and more, as far as 64 bits say it
abbrev pub charged : ℕ → ℕ → ℕ
charged work wasted = min (wasted + work) (2 ^ 64 - 1)

-- that work and so many samples and bytes
abbrev pub charged_for : ℕ → ℕ → ℕ → ℕ
charged_for samples len wasted = charged len (charged samples wasted)

-- what so many bytes don't make good of it
abbrev pub made_good : ℕ → ℕ → ℕ
made_good count wasted = wasted - min (count * MADE_GOOD_BY_A_BYTE) (2 ^ 64 - 1)

-- So many more positions are counted that weren't searched.
abbrev pub CountsUnsearched : ℕ → Budget → Budget → Type 0
CountsUnsearched n old new =
    unsearched_positions new % 2 ^ 64 ≡ (unsearched_positions old + n) % 2 ^ 64

-- The samples are no more than the budget, or it is counted that they are.
abbrev pub RequestIsAnswered : ℕ → Bool → Budget → Budget → Type 0
RequestIsAnswered samples true old new =
    (samples ≤ MAX_WASTED - wasted_work old) × (new ≡ old)
RequestIsAnswered samples false old new =
    (MAX_WASTED - wasted_work old < samples) × (wasted_work new ≡ wasted_work old)
    × CountsUnsearched 1 old new
