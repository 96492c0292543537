-- What a step of a search by headers answers.
use Rattle.std.specs.Prelude.{◌≤◌, ◌<◌, ℕ}
use Rattle.claxon_seek.specs.declared.likely.Step.{Step}
use Rattle.claxon_seek.specs.declared.likely.Step.TheVariants.{There, Between, Nowhere}

-- It stays between two positions, and a header is no earlier than the one that was read from.
abbrev pub StepsWithin : ℕ → ℕ → ℕ → Step → Type 0
StepsWithin start end from (There at) = (from ≤ at) × (at < end)
StepsWithin start end from (Between span) = (start ≤ span.start) × (span.end ≤ end)
StepsWithin start end from Nowhere = Unit {0}
