-- Progress that is shown only where there are a label and a total.
use Rattle.std.specs.Borrow.{Bor}
use Rattle.std.specs.Prelude.{option_and_then}
use Rattle.std.proofs.Common.{◌≡◌, ◌⊎◌, ℕ, List, None, Some, Option, ap, inl, inr, refl, ◌∙◌}
use Rattle.claxon_command_line.specs.Progress.{ShowsPercentage, StaysQuiet, TotalIsSet, WritesOnlyChanges, percent_at, shown_total}
use Rattle.claxon_command_line.specs.declared.progress.Progress.{Progress}

-- where there is no label, or no total
no_total : (label : Option (Bor (List ℕ))) (total : Option ℕ) → (label ≡ None) ⊎ (total ≡ None) → option_and_then (λ l. total) label ≡ None
no_total None total none = refl
no_total (Some l) total (inl none) = absurd cc
no_total (Some l) total (inr none) = none

-- one percentage more
pub shown_total_same : {E : Type 0} (mid new : Progress E) (done : ℕ) → ShowsPercentage done mid new → shown_total new ≡ shown_total mid
shown_total_same mid new done shows = ap (λ (t : Option ℕ). option_and_then (λ l. t) new.label) shows.total_is ∙ ap (option_and_then (λ l. mid.total)) shows.label_is

pub shown_quietly : {E : Type 0} (old mid new : Progress E) (done : ℕ) → StaysQuiet old mid → shown_total mid ≡ shown_total old → ShowsPercentage done mid new → WritesOnlyChanges mid new → StaysQuiet old new
shown_quietly old mid new done h total shows writes none =
    let q = h none in
    let same : new.percent ≡ mid.percent = shows.percent_is ∙ ap (λ (z : Option ℕ). percent_at z mid.percent done) (total ∙ none) in
    (same ∙ q.0, writes same ∙ q.1)

-- from before the total was set
pub started_quietly : {E : Type 0} (total : Option ℕ) (old mid new : Progress E) → TotalIsSet total old mid → StaysQuiet mid new → (old.label ≡ None) ⊎ (total ≡ None) → new.errors.now ≡ old.errors.now
started_quietly total old mid new set quiet none =
    let at : shown_total mid ≡ None = ap (λ (t : Option ℕ). option_and_then (λ l. t) mid.label) set.total_is ∙ ap (option_and_then (λ l. total)) set.label_is ∙ no_total old.label total none in
    (quiet at).1 ∙ set.errors_are
