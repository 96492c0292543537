use Rattle.std.proofs.Common.{length, drop, ◌-◌, ◌≡◌, ℕ, ◌≤◌}
use Rattle.claxon_c.specs.TagReader.{first_entry_at}
use Rattle.claxon_c.proofs.tags.first_tag.Given as goal

abbrev pub invariant-loop-at : goal.invariant-loop-at
invariant-loop-at l =
    (l.at ≤ length l.content) × ((most : ℕ) × (length l.content - l.at ≤ most)
    × (first_entry_at (length l.content) (drop l.start l.content) ≡ first_entry_at most (drop l.at l.content)))

abbrev pub decreases-loop-at : goal.decreases-loop-at
decreases-loop-at l = length l.content - l.at
