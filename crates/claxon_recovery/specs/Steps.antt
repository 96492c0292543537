-- Positions that are passed at once.
use Rattle.std.specs.Prelude.{◌+◌, ℕ, false, true, if◌then◌else◌}
use Rattle.claxon_recovery.specs.declared.part.Cause.{Cause}
use Rattle.claxon_recovery.specs.declared.part.Cause.TheVariants.{TooLong}
use Rattle.claxon_recovery.specs.declared.parts.Step.{Step}

-- how many they are
abbrev pub step_count : Step → ℕ
step_count step = if step.passes_next then step.searched + 1 else step.searched

-- how many weren't searched, after others
abbrev pub step_unsearched : Step → ℕ → ℕ
step_unsearched step others = if step.passes_next then others + 1 else others

-- the first one, at which no frame begins for this cause
abbrev pub first_step : Cause → Step
first_step TooLong = record { searched = 0; passes_next = true; is_last = false }
first_step _ = record { searched = 1; passes_next = false; is_last = false }
